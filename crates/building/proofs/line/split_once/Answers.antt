use Rattle.std.proofs.Common.{ℕ, ◌+◌, eqb, List, take, Some, sym, ap, ◌∙◌, rules}
use Rattle.std.proofs.lemmas.List.{take_rest}
use Rattle.std.proofs.lemmas.Iterator.{YieldsList-from_slice}
use Rattle.std.proofs.lemmas.Iterator.Search.{position_from_yields_List}
use borrow.Author.Tests.{tests}
use Rattle.building.proofs.Halves.{halves_at, halves_are}
use Rattle.building.proofs.line.split_once.Goals as goal

pub returns-in_err-at : goal.returns-in_err-at
returns-in_err-at c =
    let xs = c.args.bytes.now in
    let p = position_from_yields_List (λ x. eqb x c.args.wanted) _ _ c.position.result c.position.ensures.ran (YieldsList-from_slice xs cc) (λ x b q k. search (rules, tests)) in
    let e = ap (halves_at xs) (sym c.in_err-at.was ∙ p) ∙ halves_are c.args.wanted xs in
    cc

pub returns : goal.returns
returns c =
    let xs = c.args.bytes.now in
    let at = c.in_ok-at.at in
    let p = position_from_yields_List (λ x. eqb x c.args.wanted) _ _ c.position.result c.position.ensures.ran (YieldsList-from_slice xs cc) (λ x b q k. search (rules, tests)) in
    ap (λ (z : List ℕ). Some (take at xs, z)) (take_rest xs (at + 1)) ∙ ap (halves_at xs) (sym c.in_ok-at.was ∙ p) ∙ halves_are c.args.wanted xs
