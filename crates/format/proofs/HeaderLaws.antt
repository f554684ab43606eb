-- Laws of headers: how the long form is read, and that what is written is read back.
use Rattle.std.proofs.Common.{◌≡◌, ℕ, suc, ◌+◌, ◌*◌, ◌^◌, ◌<◌, ◌≤◌, false, ◌&&◌, eqb, ltb, List, [], ◌∷◌, ◌++◌, length, get_or, drop, Some, refl, ap, ◌∙◌, inl, inr, append_assoc, arith, length-append}
use Rattle.std.proofs.lemmas.List.{drop_at, drop_more, drop-drop}
use Rattle.std.proofs.lemmas.Bool.{cases_lt, lt-ltb, le-ltb, ne_eqb, eq-eqb, and_left, and_right, cond-true, cond_both}
use Rattle.format.specs.Numbers.{leb, read_leb}
use Rattle.format.specs.Headers.{header, read_header, keep_of, add_of}
use Rattle.format.proofs.NumberLaws.{leb_reads, leb_ten}

head_one : (bs : List ℕ) (at : ℕ) → at < length bs → get_or bs at 0 ≡ 1 → read_header (drop at bs) ≡ keep_of (drop (at + 1) bs) (read_leb (drop (at + 1) bs))
head_one bs at h e = ap read_header (drop_more bs at 0 h) ∙ cond-true (eqb (get_or bs at 0) 1) _ _ (eq-eqb (get_or bs at 0) 1 e)

head_keep : (bs : List ℕ) (at n keep : ℕ) → at < length bs → get_or bs at 0 ≡ 1 → read_leb (drop (at + 1) bs) ≡ Some (n, keep)
    → read_header (drop at bs) ≡ add_of n keep (read_leb (drop (at + 1 + n) bs))
head_keep bs at n keep h e k = head_one bs at h e ∙ ap (keep_of (drop (at + 1) bs)) k ∙ ap (λ (t : List ℕ). add_of n keep (read_leb t)) (drop-drop n (at + 1) bs)

-- 01, keep and add
pub head_long : (bs : List ℕ) (at n keep m add : ℕ) → at < length bs → get_or bs at 0 ≡ 1 → read_leb (drop (at + 1) bs) ≡ Some (n, keep) → read_leb (drop (at + 1 + n) bs) ≡ Some (m, add)
    → read_header (drop at bs) ≡ Some (suc (n + m), (keep, add))
head_long bs at n keep m add h e k a = head_keep bs at n keep h e k ∙ ap (add_of n keep) a

triple : {a b c d e f : ℕ} → a ≡ b → c ≡ d → e ≡ f → ◌≡◌ {A = ℕ × (ℕ × ℕ)} (a, (c, e)) (b, (d, f))
triple p q r = λ i. (p i, (q i, r i))

long : (keep add : ℕ) (rest : List ℕ) → keep < 2 ^ 64 → add < 2 ^ 64 → (ltb keep 16 && ltb add 16) ≡ false
    → read_header (header keep add ++ rest) ≡ Some (length (header keep add), (keep, add))
long keep add rest k a t =
    rw (t, append_assoc (leb keep) (leb add) rest, leb_reads keep (leb add ++ rest) k, drop_at (leb keep) (leb add ++ rest) (length (leb keep)) refl, leb_reads add rest a)
    (ap (λ (q : ℕ × (ℕ × ℕ)). Some q) (triple (simp length-append (omega arith)) refl refl))

-- what is written is read back, whatever follows it, but for one kept and none added, whose one byte is 01
pub header_back : (keep add : ℕ) (rest : List ℕ) → keep < 2 ^ 64 → add < 2 ^ 64 → ((keep ≡ 1) × (add ≡ 0) → ⊥)
    → read_header (header keep add ++ rest) ≡ Some (length (header keep add), (keep, add))
header_back keep add rest k a not-one =
    elim (cases_lt keep 16) [
      | inr p ↦ long keep add rest k a (and_left _ _ (le-ltb keep 16 p))
      | inl p ↦ elim (cases_lt add 16) [
        | inr q ↦ long keep add rest k a (and_right _ _ (le-ltb add 16 q))
        | inl q ↦ rw (lt-ltb keep 16 p, lt-ltb add 16 q, ne_eqb (keep + 16 * add) 1 (λ e. not-one (omega arith, omega arith)))
            (ap (λ (q : ℕ × (ℕ × ℕ)). Some q) (triple refl (omega arith) (omega arith)))
      ]
    ]

-- a header takes at least a byte
pub header_some : (keep add : ℕ) → 0 < length (header keep add)
header_some keep add = cond_both (ltb keep 16 && ltb add 16) ((keep + 16 * add) ∷ []) (1 ∷ leb keep ++ leb add) (λ (l : List ℕ). 0 < length l) (λ _. omega arith) (λ _. omega arith)

-- and at most 21
pub header_short : (keep add : ℕ) → keep < 2 ^ 64 → add < 2 ^ 64 → length (header keep add) ≤ 21
header_short keep add k a =
    cond_both (ltb keep 16 && ltb add 16) ((keep + 16 * add) ∷ []) (1 ∷ leb keep ++ leb add) (λ (l : List ℕ). length l ≤ 21) (λ _. omega arith)
    (λ _. omega (arith, length-append (leb keep) (leb add), leb_ten keep k, leb_ten add a))
