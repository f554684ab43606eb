use Rattle.std.proofs.Common.{vec_items, ◌∙◌, arith}
use Rattle.writer.proofs.BlockParts.{block_length, block_written}
use Rattle.writer.proofs.open_block.OpenBlock.write.Goals as goal

pub returns-clause-after : goal.returns-clause-after
returns-clause-after g c =
    let b = c.self.inside in
    let vs = g.C.Codec.bytes (g.C.Codec.list b.codec) in
    let room = rw (← c.self.view_is) at c.requires in
    rw (← c.self.view_is)
    (block_written c.args.output.now vs c.serialize_block.new.output _ (vec_items b.delta) _ _ _ _ _ c.unwrap-values_end.ensures c.serialize_block.ensures.answer c.serialize_block.ensures.after
    (c.copy_from_slice.ensures.after ∙ c.as_slice.ensures.value) (omega (arith, c.len.ensures, b.delta.ok.0)) (omega arith) c.put_word.ensures (omega (arith, block_length vs (vec_items b.delta), room)))
