use Rattle.std.proofs.Common.{ℕ, ◌+◌, ◌-◌, length, ap, ◌∙◌, arith}
use Rattle.format.specs.Numbers.{leb}
use Rattle.format.proofs.SumLaws.{counted_push}
use Rattle.codec.proofs.rises.Rises.size_with.Goals as goal

pub returns : goal.returns
returns c =
    let w = c.self.inside in
    let n = ap (λ (k : ℕ). length (leb (k + 1))) (c.len.ensures ∙ w.vals.ok.0) in
    let r = ap (λ (k : ℕ). length (leb k)) (c.saturating_sub-rise.ensures ∙ ap (λ (k : ℕ). c.args.v - k) (rw (← c.self.view_is) at c.base.ensures)) in
    rw (← c.self.view_is) (omega (arith, n, r, counted_push w.vals.items c.args.v, c.self.invariant.sized))
