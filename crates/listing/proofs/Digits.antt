-- The digits that the library writes are those of a listing.
use Rattle.std.proofs.Common.{◌≡◌, ℕ, zero, suc, ◌/◌, ◌%◌, ◌<◌, eqb, Bool, true, ◌&&◌, List, [], ◌∷◌, slice_index, refl, inl, inr, arith}
use Rattle.std.proofs.lemmas.Bool.{and_parts, cases_lt, eqb-true}
use Rattle.hex.specs.Hex.{IsBytes, lower_digits, encode_with, encode_lower}
use Rattle.listing.specs.Listing.{hex_digit, hex}

-- the digits below a number agree
abbrev agree : ℕ → Bool
agree zero = true
agree (suc n) = eqb (slice_index lower_digits n) (hex_digit n) && agree n

agree_at : (n k : ℕ) → agree n ≡ true → k < n → slice_index lower_digits k ≡ hex_digit k
agree_at zero k h lt = absurd (omega arith)
agree_at (suc n) k h lt =
    let parts = and_parts (eqb (slice_index lower_digits n) (hex_digit n)) (agree n) h in
    elim (cases_lt k n) [
      | inl below ↦ agree_at n k parts.1 below
      | inr top ↦ let e : k ≡ n = omega arith in rw e (eqb-true _ _ parts.0)
    ]

pub hex_text : (bs : List ℕ) → IsBytes bs → encode_lower bs ≡ hex bs
unfolding encode_with
hex_text [] h = refl
hex_text (b ∷ bs) h =
    let fits : b < 256 = h 0 in
    let high = agree_at 16 (b / 16) refl (omega arith) in
    let low = agree_at 16 (b % 16) refl (omega arith) in
    let rest = hex_text bs (λ k. h (suc k)) in
    rw (high, low, rest) refl
