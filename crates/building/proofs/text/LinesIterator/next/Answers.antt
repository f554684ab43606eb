use Rattle.std.proofs.Common.{◌≡◌, ◌∷◌, length, sym, ap, ◌∙◌, refl, subst, List, ℕ, arith}
use Rattle.std.proofs.lemmas.Bool.{eqb-false}
use Rattle.building.specs.Lines.{lines_of}
use Rattle.building.specs.Parts.{parts_of}
use Rattle.building.proofs.Halves.{parted, first_line, parts_or}
use Rattle.building.proofs.text.LinesIterator.next.Goals as goal

pub returns-clause-steps : goal.returns-clause-steps
returns-clause-steps c =
    let text = c.args.self.now.0.now in
    let some = eqb-false (length text) 0 (sym c.is_empty.ensures ∙ c.if-is_empty.false) in
    let parts = ap parts_of c.unwrap_or.ensures ∙ parts_or text c.split_once.result _ refl ∙ ap (parted text) c.split_once.ensures in
    subst (λ (p : List ℕ × List ℕ). lines_of text ≡ p.0 ∷ lines_of p.1) (sym parts) (first_line text (omega arith))
