-- Lines of text, each with a key in hexadecimal, a tab, and a value in decimal.
use Rattle.std.specs.Prelude.{ℕ, ◌+◌, ◌-◌, ◌*◌, ◌^◌, cond, List, [], ◌∷◌, length, take, drop, Some, None, Option, ◌==◌, nat_lt}
use Rattle.format.specs.Tables.{Entry}

-- where a byte stands first, or the length
abbrev pub first_at : ℕ → List ℕ → ℕ
first_at b [] = 0
first_at b (c ∷ cs) = cond (c == b) 0 (first_at b cs + 1)

-- a number where a character stands between two others
abbrev pub between : ℕ → ℕ → ℕ → ℕ → Option ℕ → Option ℕ
between low high c n other = cond (nat_lt c low) other (cond (nat_lt high c) other (Some n))

-- 0 to 9, a to f, A to F
abbrev pub hex_value : ℕ → Option ℕ
hex_value c = between 48 57 c (c - 48) (between 97 102 c (c - 87) (between 65 70 c (c - 55) None))

abbrev pub byte_of : Option ℕ → Option ℕ → Option ℕ
byte_of (Some high) (Some low) = Some (high * 16 + low)
byte_of (Some high) None = None
byte_of None low = None

abbrev pub hex_byte : ℕ → ℕ → Option ℕ
hex_byte high low = byte_of (hex_value high) (hex_value low)

abbrev pub behind_byte : Option ℕ → Option (List ℕ) → Option (List ℕ)
behind_byte (Some b) (Some bs) = Some (b ∷ bs)
behind_byte (Some b) None = None
behind_byte None bs = None

-- two digits to a byte
abbrev pub key_of : List ℕ → Option (List ℕ)
key_of [] = Some []
key_of (c ∷ []) = None
key_of (c ∷ d ∷ ds) = behind_byte (hex_byte c d) (key_of ds)

-- a number with one digit more, if it is below 2^64
abbrev pub with_digit : ℕ → ℕ → Option ℕ
with_digit n c = cond (nat_lt c 48) None (cond (nat_lt 57 c) None (cond (nat_lt (n * 10 + (c - 48)) (2 ^ 64)) (Some (n * 10 + (c - 48))) None))

abbrev pub value_from : ℕ → List ℕ → Option ℕ
value_from n [] = Some n
value_from n (c ∷ cs) = elim (with_digit n c) [ None ↦ None | Some m ↦ value_from m cs ]

-- at least one digit
abbrev pub value_of : List ℕ → Option ℕ
value_of [] = None
value_of (c ∷ cs) = value_from 0 (c ∷ cs)

abbrev pub entry_in : Option (List ℕ) → Option ℕ → Option (Entry ℕ)
entry_in (Some key) (Some value) = Some (record { key = key; value = value })
entry_in (Some key) None = None
entry_in None value = None

-- what stands before and behind the first such byte, if there is one
abbrev pub halves : ℕ → List ℕ → Option (List ℕ × List ℕ)
halves b xs = cond (nat_lt (first_at b xs) (length xs)) (Some (take (first_at b xs) xs, drop (first_at b xs + 1) xs)) None

abbrev pub entry_of_halves : Option (List ℕ × List ℕ) → Option (Entry ℕ)
entry_of_halves (Some h) = entry_in (key_of h.0) (value_of h.1)
entry_of_halves None = None

-- what a line has before and behind its first tab
abbrev pub parsed : List ℕ → Option (Entry ℕ)
parsed line = entry_of_halves (halves 9 line)

abbrev pub longer : ℕ → List (List ℕ) → List (List ℕ)
longer c [] = (c ∷ []) ∷ []
longer c (l ∷ ls) = (c ∷ l) ∷ ls

-- each line ends before a newline, and the last one there or at the end of the text
abbrev pub lines_of : List ℕ → List (List ℕ)
lines_of [] = []
lines_of (c ∷ cs) = cond (c == 10) ([] ∷ lines_of cs) (longer c (lines_of cs))
