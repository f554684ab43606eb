-- What the code holds, as the definitions have it.
use Rattle.std.specs.Prelude.{ℕ, List, vec_items}
use Rattle.std.specs.Borrow.{Bor}
use Rattle.format.specs.Tables.{Entry}
use Rattle.building.specs.declared.line.Line.{Line}

abbrev pub entry_of : Line → Entry ℕ
entry_of l = record { key = vec_items l.key; value = l.value }

abbrev pub parts_of : Bor (List ℕ) × Bor (List ℕ) → List ℕ × List ℕ
parts_of p = (p.0.now, p.1.now)
