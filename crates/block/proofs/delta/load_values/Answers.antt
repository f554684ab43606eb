use Rattle.std.proofs.Common.{◌+◌}
use Rattle.format.specs.Reading.{content}
use Rattle.block.proofs.BlockReads.{placed_ok, content_within}
use Rattle.block.proofs.delta.load_values.Goals as goal

pub returns-clause-within : goal.returns-clause-within
returns-clause-within g c =
    let b = c.args.block in
    let part = content c.args.area.now b.start b.end in
    let v = c.in_ok-load.field-0 in
    let e = rw (c.content.ensures.bytes, c.content.ensures.place) at c.in_ok-load.ensures in
    let w = g.met.C.Codec.within part v.0 v.1 (placed_ok (b.start + 5) (g.C.Codec.opens part) v e) in
    content_within c.args.area.now b.start b.end v.1 w c.requires.head
