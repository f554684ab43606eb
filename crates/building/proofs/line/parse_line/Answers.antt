use Rattle.std.proofs.Common.{sym, ap, ◌∙◌}
use Rattle.building.specs.Lines.{key_of, entry_in, entry_of_halves}
use Rattle.building.proofs.Digits.{none_without}
use Rattle.building.proofs.line.parse_line.Goals as goal

pub returns-in_default-parse_value : goal.returns-in_default-parse_value
returns-in_default-parse_value c =
    let key = key_of c.in-Some.key.now in
    let none = sym c.parse_value.ensures ∙ c.in_default-parse_value.is in
    sym (none_without key) ∙ ap (entry_in key) (sym none) ∙ ap entry_of_halves c.in-Some.ensures
