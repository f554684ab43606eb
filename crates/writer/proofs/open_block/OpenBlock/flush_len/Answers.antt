use Rattle.codec.specs.Meanings.{meaning}
use Rattle.std.proofs.Common.{◌≡◌, ◌+◌, ◌++◌, length, vec_items, length-append, ap, ◌∙◌, arith}
use Rattle.format.specs.Codecs.{takes}
use Rattle.writer.specs.Parts.{entry}
use Rattle.writer.proofs.BlockParts.{over_length, pushed_few}
use Rattle.writer.proofs.open_block.OpenBlock.flush_len.Goals as goal

pub overflow_add-result : goal.overflow_add-result
overflow_add-result g c =
    omega (arith, c.size_with.ensures, pushed_few (meaning g.C.Codec) g.met.C.Codec.short _ c.args.value (g.met.C.Codec.held c.self.inside.codec) (ap (λ b. takes g.C.Codec.rule b.vals c.args.value) c.self.view_is ∙ c.requires))

pub overflow_add-result-then-delta_len-gt-BLOCK_LEN : goal.overflow_add-result-then-delta_len-gt-BLOCK_LEN
overflow_add-result-then-delta_len-gt-BLOCK_LEN g c =
    omega (arith, c.size_with.ensures, pushed_few (meaning g.C.Codec) g.met.C.Codec.short _ c.args.value (g.met.C.Codec.held c.self.inside.codec) (ap (λ b. takes g.C.Codec.rule b.vals c.args.value) c.self.view_is ∙ c.requires))

pub returns-then-delta_len-gt-BLOCK_LEN : goal.returns-then-delta_len-gt-BLOCK_LEN
returns-then-delta_len-gt-BLOCK_LEN g c =
    let ds = vec_items c.self.inside.delta in
    let d : c.len.result + c.len-2.result ≡ length (ds ++ entry c.args.key.now) =
    omega (arith, c.len.ensures, c.self.inside.delta.ok.0, c.len-2.ensures.value, length-append ds (entry c.args.key.now)) in
    rw (← c.self.view_is) (over_length _ _ _ _ c.size_with.ensures d (omega arith))
