-- The shortest form of any 64-bit number, followed by anything, gives it back and consumes exactly it.
use Rattle.std.specs.Prelude.{◌≡◌, ℕ, ◌^◌, ◌<◌, List, ◌++◌, length, Ok, Result}
use Rattle.codec.specs.declared.fault.NumberFault.{NumberFault}
use Rattle.format.specs.Numbers.{leb}

abbrev pub NumberBack : List ℕ → Result (ℕ × ℕ) NumberFault → Type 0
NumberBack buf r = (v : ℕ) (rest : List ℕ) → v < 2 ^ 64 → buf ≡ leb v ++ rest → r ≡ Ok (length (leb v), v)
