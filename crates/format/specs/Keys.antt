-- Keys are byte strings, compared byte by byte; a shorter key is below its extensions.
use Rattle.std.specs.Prelude.{ℕ, suc, Bool, true, false, cond, not, ◌&&◌, List, [], ◌∷◌, Some, None, Option, ◌==◌, nat_lt}

-- the most bytes that a key has
abbrev pub longest : ℕ
longest = 512

-- the first key is below the second
abbrev pub below : List ℕ → List ℕ → Bool
below [] [] = false
below [] (b ∷ ys) = true
below (a ∷ xs) [] = false
below (a ∷ xs) (b ∷ ys) = cond (nat_lt a b) true (cond (a == b) (below xs ys) false)

-- two keys are the same: neither is below the other
abbrev pub same : List ℕ → List ℕ → Bool
same xs ys = not (below xs ys) && not (below ys xs)

-- how many bytes two keys share at their front
abbrev pub shared : List ℕ → List ℕ → ℕ
shared [] ys = 0
shared (a ∷ xs) [] = 0
shared (a ∷ xs) (b ∷ ys) = cond (a == b) (suc (shared xs ys)) 0

-- a key may follow the key before it; any key may come first
abbrev pub follows : Option (List ℕ) → List ℕ → Bool
follows None k = true
follows (Some before) k = below before k
