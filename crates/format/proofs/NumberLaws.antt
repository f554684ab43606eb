-- Laws of numbers: the shortest form byte by byte, its length, that it is read back, and a reading that goes on after some bytes.
use Rattle.std.proofs.Common.{◌≡◌, ℕ, zero, suc, ◌+◌, ◌-◌, ◌*◌, ◌/◌, ◌%◌, ◌^◌, ◌<◌, ◌≤◌, cond, ltb, List, [], ◌∷◌, ◌++◌, length, get_or, drop, IfSome, Some, None, sym, refl, ap, ◌∙◌, inl, inr, mod-eq_of_lt, mul_assoc, mul_comm, add-mul, pow-suc, arith, pow_mono}
use lib.Bits.{bit_and, bit_or}
use Rattle.std.proofs.lemmas.Bool.{cases_lt, cond-true, cond-false, cond_both, lt-ltb, le-ltb, ltb-true}
use Rattle.std.proofs.lemmas.Nat.{mul-le, and_mask, or_comm, or_shifted, pow-add}
use Rattle.std.proofs.lemmas.Nat.{pow_pos}
use Rattle.std.proofs.lemmas.List.{drop_more, drop_all}
use Rattle.std.proofs.lemmas.Option.{MatchOption-at_some}
use Rattle.format.specs.Numbers.{leb_in, leb, Number, under, number_in, fits, read_leb}

-- more than enough bytes change nothing
enough : (j k v : ℕ) → v ≤ j → v ≤ k → leb_in j v ≡ leb_in k v
enough zero zero v p q = refl
enough zero (suc k) v p q = sym (cond-true (ltb v 128) _ _ (lt-ltb v 128 (omega arith)))
enough (suc j) zero v p q = cond-true (ltb v 128) _ _ (lt-ltb v 128 (omega arith))
enough (suc j) (suc k) v p q =
    ap (λ (r : List ℕ). cond (ltb v 128) (v ∷ []) ((v % 128 + 128) ∷ r)) (enough j k (v / 128) (omega arith) (omega arith))

pub leb_last : (v : ℕ) → v < 128 → leb v ≡ v ∷ []
unfolding leb
leb_last v h = enough v (suc v) v (omega arith) (omega arith) ∙ cond-true (ltb v 128) _ _ (lt-ltb v 128 h)

pub leb_more : (v : ℕ) → 128 ≤ v → leb v ≡ (v % 128 + 128) ∷ leb (v / 128)
unfolding leb
leb_more v h =
    enough v (suc v) v (omega arith) (omega arith) ∙ cond-false (ltb v 128) _ _ (le-ltb v 128 h)
    ∙ ap (λ (r : List ℕ). (v % 128 + 128) ∷ r) (enough v (v / 128) (v / 128) (omega arith) (omega arith))

-- one byte less, 128 times less
down : (k v : ℕ) → v < 128 ^ suc (suc k) → v / 128 < 128 ^ suc k
down k v h = omega (arith, pow-suc 128 (suc k))

leb_length : (k v : ℕ) → v < 128 ^ suc k → length (leb v) ≤ suc k
leb_length zero v h = rw (leb_last v h) (omega arith)
leb_length (suc k) v h =
    elim (cases_lt v 128) [
      | inl p ↦ rw (leb_last v p) (omega arith)
      | inr p ↦ rw (leb_more v p) (omega (arith, leb_length k (v / 128) (down k v h)))
    ]

-- a 64-bit number takes at most ten bytes
pub leb_ten : (v : ℕ) → v < 2 ^ 64 → length (leb v) ≤ 10
leb_ten v h = leb_length 9 v (omega arith)

seven_more : (k : ℕ) → 2 ^ (7 * suc k) ≡ 2 ^ (7 * k) * 128
seven_more k = let e : 7 * suc k ≡ 7 * k + 7 = omega arith in rw e (pow-add 2 (7 * k) 7)

-- k + 1 bytes where it has more than 7 * k bits, and at most seven more
pub leb_bits : (k v : ℕ) → v < 2 ^ (7 * suc k) → (0 < k → 2 ^ (7 * k) ≤ v) → length (leb v) ≡ k + 1
leb_bits zero v h l = rw (leb_last v h) (omega arith)
leb_bits (suc k) v h l =
    let m : 2 ^ (7 * k) * 128 ≤ v = omega (arith, l (omega arith), seven_more k) in
    rw (leb_more v (omega (arith, pow_pos (7 * k)))) (omega (arith, leb_bits k (v / 128) (omega (arith, h, seven_more (suc k))) (λ z. omega arith)))

-- and at least one
pub leb_some : (v : ℕ) → 0 < length (leb v)
leb_some v = elim (cases_lt v 128) [ inl p ↦ rw (leb_last v p) (omega arith) | inr p ↦ rw (leb_more v p) (omega arith) ]

round : (k v : ℕ) (rest : List ℕ) → v < 128 ^ suc k → number_in (suc k) (leb v ++ rest) ≡ Some (length (leb v), v)
round zero v rest h = rw (leb_last v h) (rw (lt-ltb v 128 h))
round (suc k) v rest h =
    elim (cases_lt v 128) [
      | inl p ↦ rw (leb_last v p) (rw (lt-ltb v 128 p))
      | inr p ↦ rw (leb_more v p)
          (rw (le-ltb (v % 128 + 128) 128 (omega arith), round k (v / 128) rest (down k v h))
          (ap (λ (n : ℕ). Some (suc (length (leb (v / 128))), n)) (omega arith)))
    ]

-- the shortest form of any 64-bit number, followed by anything, gives it back and consumes exactly it
pub leb_reads : (v : ℕ) (rest : List ℕ) → v < 2 ^ 64 → read_leb (leb v ++ rest) ≡ Some (length (leb v), v)
leb_reads v rest h = rw (round 9 v rest (omega arith)) (rw (lt-ltb v (2 ^ 64) h))

-- What is read is at least one byte, at most ten, within the part, and below 2^64.
pub record Sized (bs : List ℕ) (n v : ℕ) : Type 0 where
  pub some : 0 < n
  pub ten : n ≤ 10
  pub within : n ≤ length bs
  pub small : v < 2 ^ 64

abbrev In : ℕ → List ℕ → Number → Type 0
In k bs r = IfSome r (λ p. (0 < p.0) × (p.0 ≤ k) × (p.0 ≤ length bs))

under_in : (k b : ℕ) (bs : List ℕ) (r : Number) → In k bs r → In (suc k) (b ∷ bs) (under b r)
under_in k b bs (Some p) h = omega arith
under_in k b bs None h = tt

number_in_lem : (k : ℕ) (bs : List ℕ) → In k bs (number_in k bs)
number_in_lem zero bs = tt
number_in_lem (suc k) [] = tt
number_in_lem (suc k) (b ∷ bs) =
    cond_both (ltb b 128) (Some (1, b)) (under b (number_in k bs)) (In (suc k) (b ∷ bs)) (λ _. omega arith)
    (λ _. under_in k b bs (number_in k bs) (number_in_lem k bs))

abbrev Is : List ℕ → Number → Type 0
Is bs r = IfSome r (λ p. Sized bs p.0 p.1)

fits_is : (bs : List ℕ) (r : Number) → In 10 bs r → Is bs (fits r)
fits_is bs (Some p) h =
    cond_both (ltb p.1 (2 ^ 64)) (Some p) None (Is bs) (λ e. record { some = h.0; ten = h.1; within = h.2; small = ltb-true p.1 (2 ^ 64) e }) (λ _. tt)
fits_is bs None h = tt

pub read_sized : (bs : List ℕ) (n v : ℕ) → read_leb bs ≡ Some (n, v) → Sized bs n v
read_sized bs n v e = MatchOption-at_some (Unit {0}) (λ p. Sized bs p.0 p.1) (n, v) e (fits_is bs (number_in 10 bs) (number_in_lem 10 bs))

-- The reading after i bytes, which gave value at the scale of the next byte.
abbrev pub onto : ℕ → ℕ → ℕ → Number → Number
onto value scale i (Some p) = Some (i + p.0, value + p.1 * scale)
onto value scale i None = None

abbrev pub goes_on : List ℕ → ℕ → ℕ → ℕ → Number
goes_on bs value scale i = fits (onto value scale i (number_in (10 - i) (drop i bs)))

pair : {a b c d : ℕ} → a ≡ b → c ≡ d → ◌≡◌ {A = ℕ × ℕ} (a, c) (b, d)
pair p q = cc

onto_under : (value scale i b : ℕ) (r : Number) → onto value scale i (under b r) ≡ onto (value + b % 128 * scale) (scale * 128) (i + 1) r
onto_under value scale i b None = refl
onto_under value scale i b (Some p) =
    let e : value + (b % 128 + p.1 * 128) * scale ≡ value + b % 128 * scale + p.1 * (scale * 128) =
    rw (add-mul (b % 128) (p.1 * 128) scale, mul_assoc p.1 128 scale, mul_comm 128 scale) (omega arith) in
    let l : i + suc p.0 ≡ i + 1 + p.0 = omega arith in
    ap (λ (q : ℕ × ℕ). Some q) (pair l e)

fuel : (i : ℕ) → i < 10 → 10 - i ≡ suc (10 - (i + 1))
fuel i h = omega arith

pub goes_unended : (bs : List ℕ) (value scale i : ℕ) → i < 10 → length bs ≤ i → goes_on bs value scale i ≡ None
goes_unended bs value scale i h l = rw (fuel i h, drop_all i bs l)

goes_last : (bs : List ℕ) (value scale i : ℕ) → i < 10 → i < length bs → get_or bs i 0 < 128 → goes_on bs value scale i ≡ fits (Some (i + 1, value + get_or bs i 0 % 128 * scale))
goes_last bs value scale i h l b =
    let e : get_or bs i 0 % 128 ≡ get_or bs i 0 = omega arith in
    rw (fuel i h, drop_more bs i 0 l, lt-ltb (get_or bs i 0) 128 b, e)

pub goes_fits : (bs : List ℕ) (value scale i : ℕ) → i < 10 → i < length bs → get_or bs i 0 < 128 → value + get_or bs i 0 % 128 * scale < 2 ^ 64 → goes_on bs value scale i ≡ Some (i + 1, value + get_or bs i 0 % 128 * scale)
goes_fits bs value scale i h l b w = goes_last bs value scale i h l b ∙ cond-true _ _ _ (lt-ltb _ (2 ^ 64) w)

goes_big : (bs : List ℕ) (value scale i : ℕ) → i < 10 → i < length bs → get_or bs i 0 < 128 → 2 ^ 64 ≤ value + get_or bs i 0 % 128 * scale → goes_on bs value scale i ≡ None
goes_big bs value scale i h l b w = goes_last bs value scale i h l b ∙ cond-false _ _ _ (le-ltb _ (2 ^ 64) w)

pub goes_over : (bs : List ℕ) (value scale i : ℕ) → 10 ≤ i → goes_on bs value scale i ≡ None
goes_over bs value scale i h = let e : 10 - i ≡ 0 = omega arith in rw e

pub goes_more : (bs : List ℕ) (value scale i : ℕ) → i < 10 → i < length bs → 128 ≤ get_or bs i 0 → goes_on bs value scale i ≡ goes_on bs (value + (get_or bs i 0 % 128) * scale) (scale * 128) (i + 1)
goes_more bs value scale i h l b =
    rw (fuel i h, drop_more bs i 0 l, le-ltb (get_or bs i 0) 128 b)
    (ap fits (onto_under value scale i (get_or bs i 0) (number_in (10 - (i + 1)) (drop (i + 1) bs))))

tenth_big : (value b i : ℕ) → i ≡ 9 → 1 < b → b < 128 → 2 ^ 64 ≤ value + b % 128 * 2 ^ (7 * i)
tenth_big value b i e l h = rw e (omega arith)

-- a tenth byte above 1 is no number: it is too large, or says that an eleventh follows
pub goes_tenth : (bs : List ℕ) (value i : ℕ) → i ≡ 9 → i < length bs → 1 < get_or bs i 0 → goes_on bs value (2 ^ (7 * i)) i ≡ None
goes_tenth bs value i e l b =
    elim (cases_lt (get_or bs i 0) 128) [
      | inl p ↦ goes_big bs value (2 ^ (7 * i)) i (omega arith) l p (tenth_big value (get_or bs i 0) i e b p)
      | inr p ↦ goes_more bs value (2 ^ (7 * i)) i (omega arith) l p ∙ goes_over bs _ _ (i + 1) (omega arith)
    ]

grows : (value scale b : ℕ) → value < scale → value + b % 128 * scale < scale * 128
grows value scale b h = omega (arith, mul-le (b % 128) scale 127 scale (omega arith) (omega arith))

-- by shifts
pub next_scale : (i : ℕ) → 2 ^ (7 * (i + 1)) ≡ 2 ^ (7 * i) * 128
next_scale i = let e : 7 * (i + 1) ≡ 7 * i + 7 = omega arith in rw e (pow-add 2 (7 * i) 7)

pub grows_shifted : (value b i : ℕ) → value < 2 ^ (7 * i) → value + b % 128 * 2 ^ (7 * i) < 2 ^ (7 * (i + 1))
grows_shifted value b i h = rw (next_scale i) (grows value (2 ^ (7 * i)) b h)

pub sum_fits : (value b i : ℕ) → i < 10 → value < 2 ^ (7 * i) → (i ≡ 9 → b ≤ 1) → value + b % 128 * 2 ^ (7 * i) < 2 ^ 64
sum_fits value b i h v last =
    elim (cases_lt i 9) [
      | inl p ↦ let q : 7 * (i + 1) ≤ 63 = omega arith in omega (arith, grows value (2 ^ (7 * i)) b v, next_scale i, pow_mono q)
      | inr p ↦ let e : i ≡ 9 = omega arith in
          let w : value < 2 ^ 63 = rw e at v in
          rw e (omega (arith, last e))
    ]

pub shifted : (value b k : ℕ) → value < 2 ^ k → value + b % 128 * 2 ^ k < 2 ^ 64 → bit_or value (bit_and b 127 * 2 ^ k % 2 ^ 64) ≡ value + b % 128 * 2 ^ k
shifted value b k h w =
    let s : b % 128 * 2 ^ k < 2 ^ 64 = omega arith in
    rw (and_mask b 7, mod-eq_of_lt s, or_comm value (b % 128 * 2 ^ k), or_shifted (b % 128) k value h) (omega arith)
