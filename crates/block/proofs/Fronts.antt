-- The front that two keys share, as the code finds it.
use Rattle.std.proofs.Common.{◌≡◌, ℕ, zero, suc, ◌+◌, ◌<◌, ◌≤◌, cond, eqb, List, [], ◌∷◌, length, take, refl, ap, ◌∙◌, arith}
use Rattle.std.proofs.lemmas.List.Folds.{length-prefix_len}
use Rattle.std.specs.List.{prefix_len, zip}
use Rattle.format.specs.Keys.{shared}

shared_zip : (a b : List ℕ) → prefix_len (λ p. eqb p.0 p.1) (zip a b) ≡ shared a b
shared_zip [] b = refl
shared_zip (x ∷ a) [] = refl
shared_zip (x ∷ a) (y ∷ b) =
    let n : 1 + prefix_len (λ p. eqb p.0 p.1) (zip a b) ≡ suc (shared a b) = omega (arith, shared_zip a b) in
    ap (λ (n : ℕ). cond (eqb x y) n 0) n

-- the bytes that two keys share, as the code takes them
pub prefix_shared : (a b : List ℕ) → length (take (prefix_len (λ p. eqb p.0 p.1) (zip a b)) (zip a b)) ≡ shared a b
prefix_shared a b = length-prefix_len (λ p. eqb p.0 p.1) (zip a b) ∙ shared_zip a b

-- keys that are cut share what the keys share, where one of them is kept whole
pub shared_cut : (n : ℕ) (a b : List ℕ) → (n < length a → length b ≤ n) → shared (take n a) (take n b) ≡ shared a b
shared_cut zero [] b h = refl
shared_cut (suc n) [] b h = refl
shared_cut zero (x ∷ a) [] h = refl
shared_cut (suc n) (x ∷ a) [] h = refl
shared_cut zero (x ∷ a) (y ∷ b) h = let e = h (omega arith) in absurd (omega arith)
shared_cut (suc n) (x ∷ a) (y ∷ b) h =
    let e : shared (take n a) (take n b) ≡ shared a b = shared_cut n a b (λ l. let k = h (omega arith) in omega arith) in
    ap (λ (m : ℕ). cond (eqb x y) (suc m) 0) e
