-- The bounds of a stream: a key that is included or excluded, or none.
use Rattle.std.specs.Prelude.{ℕ, Bool, true, not, List, []}
use Rattle.format.specs.Keys.{below}

pub data Bound : Type 0 where
  unbounded : Bound
  included : List ℕ → Bound
  excluded : List ℕ → Bound

-- the key of a bound; none is as short as the empty one
abbrev pub bound_key : Bound → List ℕ
bound_key unbounded = []
bound_key (included k) = k
bound_key (excluded k) = k

-- a key is not below the lower bound
abbrev pub above_lower : Bound → List ℕ → Bool
above_lower unbounded key = true
above_lower (included k) key = not (below key k)
above_lower (excluded k) key = below k key

-- a key is not beyond the upper bound
abbrev pub within_upper : Bound → List ℕ → Bool
within_upper unbounded key = true
within_upper (included k) key = not (below k key)
within_upper (excluded k) key = below key k
