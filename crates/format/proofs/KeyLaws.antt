-- Laws of the order of keys, by the front that they share.
use Rattle.std.proofs.Common.{◌≡◌, ℕ, zero, suc, ◌≤◌, Bool, true, false, cond, eqb, ltb, ◌&&◌, ◌||◌, List, [], ◌∷◌, ◌++◌, length, get_or, take, drop, sym, refl, ◌∙◌, inl, inr, arith}
use Rattle.std.proofs.lemmas.Bool.{le-ltb, lt-ltb, eq-eqb, ne_eqb, cases_eq, cases_lt}
use Rattle.std.proofs.Math.Dec.{eqb-suc-suc, eqb-zero-suc}
use Rattle.format.specs.Keys.{below, shared}

below_head : (x y : ℕ) (xs ys : List ℕ) → x ≡ y → below (x ∷ xs) (y ∷ ys) ≡ below xs ys
below_head x y xs ys e = rw (le-ltb x y (omega arith), eq-eqb x y e)

cond_same : (t : Bool) → cond t true false ≡ t
cond_same true = refl
cond_same false = refl

ltb_suc : (m n : ℕ) → ltb (suc m) (suc n) ≡ ltb m n
ltb_suc m n =
    elim (cases_lt m n) [
      | inl p ↦ lt-ltb (suc m) (suc n) (omega (arith, p)) ∙ sym (lt-ltb m n p)
      | inr p ↦ le-ltb (suc m) (suc n) (omega (arith, p)) ∙ sym (le-ltb m n p)
    ]

-- at the end of the front that two keys share, the one below has the smaller byte, or none
pub below_front : (a b : List ℕ) → below a b ≡ (ltb (shared a b) (length b) && (eqb (shared a b) (length a) || ltb (get_or a (shared a b) 0) (get_or b (shared a b) 0)))
below_front [] [] = refl
below_front [] (y ∷ b) = rw (lt-ltb 0 (suc (length b)) (omega arith)) refl
below_front (x ∷ a) [] = refl
below_front (x ∷ a) (y ∷ b) =
    elim (cases_eq x y) [
      | inl e ↦ rw (eq-eqb x y e, le-ltb x y (omega arith), ltb_suc (shared a b) (length b), eqb-suc-suc (shared a b) (length a)) (below_front a b)
      | inr n ↦ rw (ne_eqb x y n, lt-ltb 0 (suc (length b)) (omega arith), eqb-zero-suc (length a)) (cond_same (ltb x y))
    ]

-- a key above another that keeps bytes of it: only what follows them matters
pub below_kept : (key suffix : List ℕ) (keep : ℕ) → keep ≤ length key → below key (take keep key ++ suffix) ≡ below (drop keep key) suffix
below_kept key suffix zero h = refl
below_kept [] suffix (suc keep) h = absurd (omega arith)
below_kept (b ∷ key) suffix (suc keep) h = below_head b b key (take keep key ++ suffix) refl ∙ below_kept key suffix keep (omega arith)
