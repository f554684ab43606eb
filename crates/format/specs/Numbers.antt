-- Unsigned LEB128, as DWARF has it: seven bits to a byte, the low ones first; a byte of 128 and more says that another follows.
use Rattle.std.specs.Prelude.{ℕ, zero, suc, ◌+◌, ◌*◌, ◌/◌, ◌%◌, ◌^◌, cond, List, [], ◌∷◌, Some, None, Option, nat_lt}

-- the shortest bytes of v, in at most `more` bytes after the first
abbrev pub leb_in : ℕ → ℕ → List ℕ
leb_in zero v = v ∷ []
leb_in (suc more) v = let tail = leb_in more (v / 128) in cond (nat_lt v 128) (v ∷ []) ((v % 128 + 128) ∷ tail)

-- the shortest bytes of v: v more bytes are always enough
unfoldable pub leb : ℕ → List ℕ
leb v = leb_in v v

-- how many bytes a number takes, and its value; nothing where the bytes are no number
abbrev pub Number : Type 0
Number = Option (ℕ × ℕ)

-- a byte that says that another follows, in front of a number
abbrev pub under : ℕ → Number → Number
under b (Some p) = Some (suc p.0, b % 128 + p.1 * 128)
under b None = None

-- the number at the front of some bytes, in at most `most` bytes, of any size
abbrev pub number_in : ℕ → List ℕ → Number
number_in zero bs = None
number_in (suc most) [] = None
number_in (suc most) (b ∷ bs) = let rest = number_in most bs in cond (nat_lt b 128) (Some (1, b)) (under b rest)

-- a number has 64 bits
abbrev pub fits : Number → Number
fits (Some p) = cond (nat_lt p.1 (2 ^ 64)) (Some p) None
fits None = None

-- the number at the front of any bytes: longer forms than the shortest too, up to ten bytes
abbrev pub read_leb : List ℕ → Number
read_leb bs = fits (number_in 10 bs)
