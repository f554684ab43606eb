-- The codec of values without content: no bytes, and a value at every place.
use Rattle.std.specs.Prelude.{ℕ, Bool, true, List, [], Some, Ok}
use Rattle.format.specs.declared.Cursor.{Cursor}
use Rattle.format.specs.Codecs.{Meaning, meant, Opened, Stepped}

abbrev pub void_rule : List (Unit {0}) → Unit {0} → Bool
void_rule vs v = true

abbrev pub void_bytes : List (Unit {0}) → List ℕ
void_bytes vs = []

abbrev pub void_opens : List ℕ → Opened
void_opens part = Ok (record { next = 0; last = 0; left = 0 }, 0)

abbrev pub void_steps : Cursor → List ℕ → Stepped (Unit {0})
void_steps c part = Ok (Some (tt, c))

abbrev pub void_meaning : Meaning (Unit {0})
void_meaning = meant void_rule void_bytes void_opens void_steps
