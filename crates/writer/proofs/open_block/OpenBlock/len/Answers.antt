use Rattle.std.proofs.Common.{arith, false-eqb, ◌∙◌}
use Rattle.writer.proofs.BlockParts.{rest_by}
use Rattle.writer.proofs.open_block.OpenBlock.len.Goals as goal

pub returns-else-is_empty-clause-value : goal.returns-else-is_empty-clause-value
returns-else-is_empty-clause-value g c =
    let b = c.self.inside in
    rw (← c.self.view_is)
    (omega (arith, rest_by g.C.Codec.bytes _ _ _ _ c.size.ensures (c.len.ensures ∙ b.delta.ok.0) (omega (arith, false-eqb _ 0 c.if-is_empty.ensures, c.len.ensures))))
