-- The codec of 64-bit numbers that never fall within a block: their count, then each one's rise, the first over 0.
use Rattle.std.specs.Prelude.{ℕ, ◌^◌, Bool, ◌&&◌, leb as at_most, List, [], ◌∷◌, Some, None, Option, nat_lt}
use Rattle.format.specs.declared.Cursor.{Cursor}
use Rattle.format.specs.Numbers.{Number, read_leb}
use Rattle.format.specs.Codecs.{Meaning, meant, Opened, Stepped}
use Rattle.format.specs.Sums.{counted, on_number, rise, whole, valued}

-- the last of some numbers that come after another
abbrev pub last_or : ℕ → List ℕ → ℕ
last_or v [] = v
last_or v (w ∷ ws) = last_or w ws

-- the last of some numbers, if there are any
abbrev pub last_of : List ℕ → Option ℕ
last_of [] = None
last_of (v ∷ vs) = Some (last_or v vs)

abbrev pub u64_rule : List ℕ → ℕ → Bool
u64_rule vs v = at_most (last_or 0 vs) v && nat_lt v (2 ^ 64)

abbrev pub u64_bytes : List ℕ → List ℕ
u64_bytes vs = counted vs

abbrev pub u64_counted : List ℕ → Number → Opened
u64_counted part r = on_number (λ n count. whole (record { next = n; last = 0; left = count }) part) r

abbrev pub u64_opens : List ℕ → Opened
u64_opens part = u64_counted part (read_leb part)

-- each value is the sum of the rises up to it
abbrev pub u64_steps : Cursor → List ℕ → Stepped ℕ
u64_steps c part = valued (λ d. d.last) (rise c part)

abbrev pub u64_meaning : Meaning ℕ
u64_meaning = meant u64_rule u64_bytes u64_opens u64_steps
