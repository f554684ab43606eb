-- The listing of an area: a line for each entry, then a line for the end or the fault behind them.
use Rattle.std.specs.Prelude.{ℕ, ◌+◌, ◌/◌, ◌%◌, cond, List, [], ◌∷◌, ◌++◌, length, codes, decimal, nat_lt, Ok, Err, Result}
use Rattle.format.specs.declared.fault.Fault.{Fault}
use Rattle.format.specs.Monotonic.{u64_meaning}
use Rattle.format.specs.Reading.{Reading, Ending, end, fails, read_area}
use Rattle.format.specs.Tables.{Entry}

-- an area with more bytes is not read
abbrev pub most : ℕ
most = 65536

-- 0 to 9, a to f
abbrev pub hex_digit : ℕ → ℕ
hex_digit n = cond (nat_lt n 10) (48 + n) (87 + n)

-- two digits to a byte
abbrev pub hex : List ℕ → List ℕ
hex [] = []
hex (b ∷ bs) = hex_digit (b / 16) ∷ hex_digit (b % 16) ∷ hex bs

-- ordinal, key and value, parted by tabs
abbrev pub line : ℕ → Entry ℕ → List ℕ
line ordinal e = decimal ordinal ++ 9 ∷ hex e.key ++ 9 ∷ decimal e.value ++ 10 ∷ []

-- `fault`, its number and its place
abbrev pub fault_line : Fault → List ℕ
fault_line f = codes "fault\t" ++ decimal f.number ++ 9 ∷ decimal f.place ++ 10 ∷ []

-- `end` and the count, or the fault
abbrev pub last_line : ℕ → Ending → List ℕ
last_line count end = codes "end\t" ++ decimal count ++ 10 ∷ []
last_line count (fails f) = fault_line f

-- the last line behind so many entries, or behind a fault
abbrev pub closing : Result ℕ Fault → List ℕ
closing (Ok count) = last_line count end
closing (Err f) = fault_line f

-- the lines of entries from an ordinal on, and the last line
abbrev pub lines : ℕ → List (Entry ℕ) → Ending → List ℕ
lines count [] ending = last_line count ending
lines count (e ∷ es) ending = line count e ++ lines (count + 1) es ending

abbrev pub listed : ℕ → Reading ℕ → List ℕ
listed count r = lines count r.entries r.ending

-- the whole text
abbrev pub listing : List ℕ → List ℕ
listing area = cond (nat_lt most (length area)) (codes "long\n") (listed 0 (read_area u64_meaning area))
