-- Laws of bytes put into a buffer.
use Rattle.std.proofs.Common.{◌≡◌, ℕ, suc, ◌+◌, ◌-◌, ◌<◌, ◌≤◌, List, [], ◌∷◌, ◌++◌, length, take, drop, set, sym, refl, ap, ◌∙◌, arith, length-append, length-drop}
use borrow.Rule.Slice.PartMut.{put_mid}
use lib.Seq.{paste}
use Rattle.std.proofs.lemmas.List.Edits.{paste_all, paste-paste}
use Rattle.std.proofs.lemmas.List.{length-take-le, set_split, take-append-drop}
use Rattle.std.proofs.lemmas.Slice.{put_mid-paste}
use Rattle.format.specs.Buffers.{written}

-- nothing put leaves the buffer as it was
pub written_none : (out : List ℕ) (at : ℕ) → written out at [] ≡ out
written_none out at = let e : at + 0 ≡ at = omega arith in rw e (take-append-drop at out)

-- and what is put leaves its length
pub written_length : (out : List ℕ) (at : ℕ) (bs : List ℕ) → at + length bs ≤ length out → length (written out at bs) ≡ length out
written_length out at bs h =
    let l : length (take at out) ≡ at = length-take-le at out (omega arith) in
    simp (length-append, length-drop) (rw l (omega arith))

-- two pieces, one behind the other
pub written_both : (out : List ℕ) (at : ℕ) (s t : List ℕ) → at ≤ length out → written (written out at s) (at + length s) t ≡ written out at (s ++ t)
written_both out at s t h =
    let n = length s in
    let m = length t in
    let e : paste (paste out at s n) (at + n) t m ≡ paste out at (s ++ t) (n + m) = paste-paste out at s t n m refl refl h in
    let a : paste out at s n ≡ written out at s = paste_all out at s n refl in
    let b : paste (written out at s) (at + n) t m ≡ written (written out at s) (at + n) t = paste_all (written out at s) (at + n) t m refl in
    let l : n + m ≡ length (s ++ t) = sym (length-append s t) in
    let f : paste out at (s ++ t) (n + m) ≡ take at out ++ ((s ++ t) ++ drop (at + (n + m)) out) = paste_all out at (s ++ t) (n + m) l in
    sym b ∙ ap (λ (z : List ℕ). paste z (at + n) t m) (sym a) ∙ e ∙ f ∙ ap (λ (k : ℕ). take at out ++ ((s ++ t) ++ drop (at + k) out)) l

-- one byte is a piece
pub written_one : (out : List ℕ) (at b : ℕ) → at < length out → set out at b ≡ written out at (b ∷ [])
written_one out at b h = let e : at + 1 ≡ suc at = omega arith in set_split out at b h ∙ rw e refl

-- a byte, and then a piece
pub written_next : (out : List ℕ) (at b : ℕ) (t : List ℕ) → at < length out → written (set out at b) (at + 1) t ≡ written out at (b ∷ t)
written_next out at b t h =
    ap (λ (z : List ℕ). written z (at + 1) t) (written_one out at b h) ∙ written_both out at (b ∷ []) t (omega arith)

-- what a write to `out[at..at + n]` leaves
pub written_part : (out : List ℕ) (at n : ℕ) (ys zs : List ℕ) → ys ≡ zs → n ≡ length zs → put_mid at (at + n - at) out ys ≡ written out at zs
written_part out at n ys zs e h = put_mid-paste at (at + n - at) out ys zs (length zs) e (omega arith) refl ∙ paste_all out at zs (length zs) refl

-- a piece put behind another, by the places that the code has
pub written_then : (o p : List ℕ) (at next : ℕ) (s t : List ℕ) → p ≡ written o at s → next ≡ at + length s → at ≤ length o → written p next t ≡ written o at (s ++ t)
written_then o p at next s t e n h = rw (e, n) (written_both o at s t h)
