use Rattle.std.proofs.Common.{◌≡◌, List, ℕ, Some, None, Ok, Err, Result, Bor, sym, ap, ◌∙◌, subst}
use Rattle.std.specs.Result.{MatchResult, result_ok}
use Rattle.std.specs.Str.{IsUtf8}
use Rattle.std.specs.Str.Parse.{ParsesUnsigned}
use Rattle.building.proofs.Digits.{value_is, no_text, with_no_sign}
use Rattle.building.proofs.line.parse_value.Goals as goal

-- what a text is, by its bytes
no_utf8 : {E : Type 0} (P : E → Type 0) (bs : List ℕ) (r : Result (Bor (List ℕ)) E) → MatchResult r (λ s. (s.now ≡ bs) × IsUtf8 bs) (λ e. ¬ IsUtf8 bs × P e) → result_ok r ≡ None → ¬ IsUtf8 bs
no_utf8 P bs (Ok s) h n = cc
no_utf8 P bs (Err e) h n = h.0

same_bytes : {E : Type 0} (P : E → Type 0) (bs : List ℕ) (r : Result (Bor (List ℕ)) E) (t : Bor (List ℕ)) → MatchResult r (λ s. (s.now ≡ bs) × IsUtf8 bs) (λ e. ¬ IsUtf8 bs × P e) → result_ok r ≡ Some t → t.now ≡ bs
same_bytes P bs (Ok s) t h n = let e : s ≡ t = cc in ap (λ (z : Bor (List ℕ)). z.now) (sym e) ∙ h.0
same_bytes P bs (Err e) t h n = cc

pub returns-in_err-ok : goal.returns-in_err-ok
returns-in_err-ok c =
    let bs = c.args.digits.now in
    c.from_residual.ensures ∙ no_text bs (no_utf8 _ bs c.from_utf8.result c.from_utf8.ensures.cases (sym c.ok.ensures.value ∙ c.in_err-ok.was))

pub returns : goal.returns
returns c =
    let bs = c.args.digits.now in
    let same = same_bytes _ bs c.from_utf8.result c.in_ok-ok.field-0 c.from_utf8.ensures.cases (sym c.ok.ensures.value ∙ c.in_ok-ok.was) in
    c.ok-2.ensures.value
    ∙ value_is bs c.parse.result (subst (λ (z : List ℕ). ParsesUnsigned 64 10 z c.parse.result) same c.parse.ensures.value.0) (with_no_sign bs (sym c.starts_with.ensures.value ∙ c.if-starts_with.false))
