use Rattle.std.proofs.Common.{vec_items, refl, arith, false-eqb}
use Rattle.writer.proofs.BlockParts.{rest_by}
use Rattle.writer.proofs.open_block.OpenBlock.rest_len.Goals as goal

pub returns-else-is_empty-clause-value : goal.returns-else-is_empty-clause-value
returns-else-is_empty-clause-value g c =
    let b = c.self.inside in
    let n = rw (← c.self.view_is) at c.len.ensures.value in
    rw (← c.self.view_is)
    (omega (arith, n, rest_by g.C.Codec.bytes (g.C.Codec.list b.codec) (vec_items b.delta) _ _ refl b.delta.ok.0 (omega (arith, false-eqb _ 0 c.if-is_empty.ensures))))
