-- Bytes put into a buffer.
use Rattle.std.specs.Prelude.{ℕ, ◌+◌, Bool, leb as at_most, List, ◌++◌, length, take, drop, Some, None, Option, if◌then◌else◌}

-- a buffer after bytes were written from a place on; those before and behind them stay
abbrev pub written : List ℕ → ℕ → List ℕ → List ℕ
written out at bytes = take at out ++ (bytes ++ drop (at + length bytes) out)

-- a buffer has room for bytes from a place on
abbrev pub has_room : List ℕ → ℕ → List ℕ → Bool
has_room out at bytes = at_most (at + length bytes) (length out)

-- where bytes end that are put into a buffer from a place on; nothing where it has no room for them
abbrev pub put_end : List ℕ → ℕ → List ℕ → Option ℕ
put_end out at bytes = if has_room out at bytes then Some (at + length bytes) else None

-- the buffer after that; it stays as it was where it has no room for them
abbrev pub put : List ℕ → ℕ → List ℕ → List ℕ
put out at bytes = if has_room out at bytes then written out at bytes else out
