-- A header says how many bytes an entry's key keeps of the key before it, and how many it adds.
use Rattle.std.specs.Prelude.{ℕ, suc, ◌+◌, ◌*◌, ◌/◌, ◌%◌, cond, ◌&&◌, List, [], ◌∷◌, ◌++◌, drop, Some, None, Option, ◌==◌, nat_lt}
use Rattle.format.specs.Numbers.{leb, Number, read_leb}

-- one byte where both are below 16, else 01 and the two numbers
abbrev pub header : ℕ → ℕ → List ℕ
header keep add = cond (nat_lt keep 16 && nat_lt add 16) ((keep + 16 * add) ∷ []) (1 ∷ leb keep ++ leb add)

-- how many bytes a header takes, with keep and add; nothing where the bytes are none
abbrev pub Header : Type 0
Header = Option (ℕ × (ℕ × ℕ))

-- keep is read, in n bytes
abbrev pub add_of : ℕ → ℕ → Number → Header
add_of n keep (Some p) = Some (suc (n + p.0), (keep, p.1))
add_of n keep None = None

abbrev pub keep_of : List ℕ → Number → Header
keep_of bs (Some p) = add_of p.0 p.1 (read_leb (drop p.0 bs))
keep_of bs None = None

-- the header at the front of any bytes: 01 is always followed by two numbers
abbrev pub read_header : List ℕ → Header
read_header [] = None
read_header (b ∷ bs) = cond (b == 1) (keep_of bs (read_leb bs)) (Some (1, (b % 16, b / 16)))

-- keep and add together
abbrev pub pair_of : Header → Option (ℕ × ℕ)
pair_of (Some h) = Some h.1
pair_of None = None

-- how far a header goes; nowhere where there is none
abbrev pub length_of : Header → ℕ
length_of (Some h) = h.0
length_of None = 0
