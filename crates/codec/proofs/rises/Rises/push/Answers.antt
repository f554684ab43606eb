use Rattle.std.proofs.Common.{◌≡◌, ℕ, ◌+◌, ◌-◌, List, [], ◌∷◌, ◌++◌, length, ap, ◌∙◌, arith, length-append}
use Rattle.std.proofs.lemmas.Bool.{and_from, le-leb, lt-ltb}
use Rattle.format.specs.Monotonic.{last_or, u64_rule}
use Rattle.format.specs.Numbers.{leb}
use Rattle.format.specs.Sums.{rises}
use Rattle.format.proofs.CodecLaws.{allowed_push}
use Rattle.format.proofs.SumLaws.{rises_push}
use Rattle.codec.proofs.rises.Rises.push.Goals as goal

pub invariant_of-self : goal.invariant_of-self
invariant_of-self c =
    let w = c.self.inside in
    let i = c.self.invariant in
    let vs = w.vals.items in
    let v = c.args.v in
    let e = c.push_reserved.ensures.items in
    let q = rw (← c.self.view_is) at c.requires in
    let b : c.base.result ≡ last_or 0 vs = rw (← c.self.view_is) at c.base.ensures in
    let r = ap (λ (k : ℕ). length (leb (v - k))) b in
    let s : length (rises 0 (vs ++ v ∷ [])) ≡ length (rises 0 vs) + length (leb (v - last_or 0 vs)) = ap length (rises_push 0 vs v) ∙ length-append (rises 0 vs) (leb (v - last_or 0 vs)) in
    let s' = ap (λ (z : List ℕ). length (rises 0 z)) e in
    record {
      room = omega (arith, i.room);
      few = omega (arith, w.vals.ok.0, q.few);
      rising = rw e (allowed_push u64_rule vs v i.rising (and_from _ _ (le-leb _ _ q.rising) (lt-ltb _ _ (omega arith))));
      sized = omega (arith, r, s, s', i.sized, c.serialized_len.ensures.value);
      short = omega (arith, i.short, c.serialized_len.ensures.ten);
    }
