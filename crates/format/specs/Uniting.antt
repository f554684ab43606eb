-- The united keys of some runs are those that any run has; each has the joined value of the runs that have it.
use Rattle.std.specs.Prelude.{ℕ, suc, cond, List, [], ◌∷◌, Some, None, Option}
use Rattle.format.specs.Keys.{below, same}
use Rattle.format.specs.Tables.{Entry, keys}
use Rattle.format.specs.Joins.{join_all}

-- a key put into its place among rising ones, unless it is there
abbrev pub with_key : List ℕ → List (List ℕ) → List (List ℕ)
with_key k [] = k ∷ []
with_key k (l ∷ ls) = let later = with_key k ls in cond (below k l) (k ∷ l ∷ ls) (cond (below l k) (l ∷ later) (l ∷ ls))

abbrev pub with_keys : List (List ℕ) → List (List ℕ) → List (List ℕ)
with_keys [] ls = ls
with_keys (k ∷ ks) ls = with_key k (with_keys ks ls)

module _ {V : Type 0} where
  -- the united keys, in rising order
  abbrev pub united_keys : List (List (Entry V)) → List (List ℕ)
  united_keys [] = []
  united_keys (es ∷ rest) = with_keys (keys es) (united_keys rest)

  -- the value of a key among entries
  abbrev pub value_in : List ℕ → List (Entry V) → Option V
  value_in k [] = None
  value_in k (e ∷ es) = let later = value_in k es in cond (same e.key k) (Some e.value) later

  -- the values of a key, in run order
  abbrev pub values_of : List ℕ → List (List (Entry V)) → List V
  values_of k [] = []
  values_of k (es ∷ rest) = elim (value_in k es) [ Some v ↦ v ∷ values_of k rest | None ↦ values_of k rest ]

  -- the lowest run with a key, where the first run has a number
  abbrev pub lowest_from : ℕ → List ℕ → List (List (Entry V)) → ℕ
  lowest_from i k [] = i
  lowest_from i k (es ∷ rest) = elim (value_in k es) [ Some v ↦ i | None ↦ lowest_from (suc i) k rest ]

  abbrev pub lowest_run : List ℕ → List (List (Entry V)) → ℕ
  lowest_run k runs = lowest_from 0 k runs

module _ {V : Type 0} (join : V → V → Option V) where
  -- the joined value of a key; nothing where a join is refused
  abbrev pub joined_value : List ℕ → List (List (Entry V)) → Option V
  joined_value k runs = join_all join (values_of k runs)

  -- the entries of some united keys, up to the first whose join is refused
  abbrev pub joined_entries : List (List (Entry V)) → List (List ℕ) → List (Entry V)
  joined_entries runs [] = []
  joined_entries runs (k ∷ ks) =
      elim (joined_value k runs) [ Some v ↦ record { key = k; value = v } ∷ joined_entries runs ks | None ↦ [] ]

  -- the united keys with their joined values, up to the first refused join
  abbrev pub united : List (List (Entry V)) → List (Entry V)
  united runs = joined_entries runs (united_keys runs)
