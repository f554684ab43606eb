use Rattle.std.proofs.Common.{◌+◌, ◌-◌, length, ◌∙◌, arith}
use borrow.Rule.Slice.PartMut.{put_mid}
use Rattle.format.proofs.BufferLaws.{written_then}
use Rattle.format.specs.Tables.{word}
use Rattle.writer.specs.States.{rest}
use Rattle.writer.proofs.BlockParts.{ending_length, written_from}
use Rattle.writer.proofs.open_table.OpenTable.close.Goals as goal

pub returns-clause-writes : goal.returns-clause-writes
returns-clause-writes g c =
    let t = c.self.inside in
    let out = c.args.output.now in
    let room = rw (← c.self.view_is) at c.requires in
    let left = rest g.C.Codec.bytes t.block in
    let e = ending_length g.C.Codec.bytes t.block.vals t.block.delta in
    let a = written_from out c.write_rest.new.output left t.end c.write_rest.ensures.after (omega (arith, room)) in
    rw (← c.self.view_is)
    (written_from (put_mid t.end (length out - t.end) out c.write_rest.new.output) c.put_word.new.output (word 0) (t.end + c.write_rest.result) c.put_word.ensures (omega (arith, room))
    ∙ written_then out _ t.end (t.end + c.write_rest.result) left (word 0) a (omega (arith, c.write_rest.ensures.value)) (omega (arith, room)))
