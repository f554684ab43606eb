-- Headers as the code reads and puts them.
use Rattle.std.specs.Prelude.{ℕ, ◌+◌, List, ◌++◌, drop, Result, is_ok, if◌then◌else◌}
use Rattle.format.specs.declared.fault.Fault.{Fault}
use Rattle.format.specs.Faults.{or_fault, bad_number}
use Rattle.format.specs.Headers.{read_header, pair_of, length_of}

-- keep and add of the header at a place: 6 where there is none
abbrev pub keep_add_at : List ℕ → ℕ → Result (ℕ × ℕ) Fault
keep_add_at block at = or_fault (pair_of (read_header (drop at block))) (bad_number at)

-- the place behind the header at a place; that place where there is none
abbrev pub behind_header : List ℕ → ℕ → ℕ
behind_header block at = at + length_of (read_header (drop at block))

-- bytes with more bytes behind them, where an answer is that they were put there
abbrev pub appended : {A E : Type 0} → Result A E → List ℕ → List ℕ → List ℕ
appended r old bytes = if is_ok r then old ++ bytes else old
