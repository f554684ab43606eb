use Rattle.codec.specs.Meanings.{meaning}
use Rattle.std.proofs.Common.{◌+◌}
use Rattle.format.specs.Reading.{content}
use Rattle.block.specs.Positions.{position_of}
use Rattle.block.proofs.BlockReads.{placed_ok, first_entry}
use Rattle.block.proofs.position.Position.open_block.Goals as goal

pub returns-clause-answer : goal.returns-clause-answer
returns-clause-answer g c =
    let m = meaning g.C.Codec in
    let r = c.self.inside in
    let area = c.args.area.now in
    let b = c.in-Some.block in
    let v = c.in_ok-values.values in
    let n = c.in_ok-values.consumed in
    let h = rw (← c.self.view_is) at c.requires in
    let o = placed_ok (b.start + 5) (g.C.Codec.opens (content area b.start b.end)) (v, n) c.in_ok-values.ensures.answer in
    let e = rw c.in-Some.is at c.in_ok-block.ensures.answer in
    let w = rw c.in-Some.is at c.in_ok-block.ensures.within in
    rw (← c.self.view_is) (first_entry m area (position_of r) b v n r.finish h w.start e o c.if-next-block.false)
