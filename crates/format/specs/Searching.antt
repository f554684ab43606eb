-- A search looks for a key in one block, and counts the smaller keys.
use Rattle.std.specs.Prelude.{ℕ, zero, suc, ◌+◌, Bool, false, cond, ◌||◌, List, [], ◌∷◌, length, Ok, Err, Result, ◌==◌, nat_lt}
use Rattle.format.specs.Keys.{below, same}
use Rattle.format.specs.declared.fault.Fault.{Fault}
use Rattle.format.specs.Faults.{fault, call}
use Rattle.format.specs.Codecs.{Meaning}
use Rattle.format.specs.Tables.{Entry}
use Rattle.format.specs.Reading.{
  Step,
  entry,
  ended,
  faulted,
  from,
  key_of,
  border,
  entry_at,
  Reading,
  Ending,
  end,
  fails,
  nothing,
  behind,
}

-- The answer of a search, with the count of smaller keys.
pub data Hit : Type 0 where
  -- the key is there
  exact : ℕ → Hit
  -- the key is not there: the next greater one would be at that place
  next : ℕ → Hit

-- no entry was equal or greater
abbrev pub unmet : ℕ → Ending → Result Hit Fault
unmet count end = Ok (next count)
unmet count (fails f) = Err f

module _ {V : Type 0} where
  -- some entry has the key
  abbrev pub has : List ℕ → List (Entry V) → Bool
  has key [] = false
  has key (e ∷ es) = same e.key key || has key es

  -- how many entries have a smaller key
  abbrev pub smaller : List ℕ → List (Entry V) → ℕ
  smaller key [] = 0
  smaller key (e ∷ es) = cond (below e.key key) 1 0 + smaller key es

  -- where a key is in a block of entries
  abbrev pub hit_in : List ℕ → List (Entry V) → Hit
  hit_in key es = cond (has key es) (exact (smaller key es)) (next (smaller key es))

  -- the first entry that is equal or greater decides, and nothing behind it is looked at; a fault before it is the answer
  abbrev pub seek_from : ℕ → List ℕ → List (Entry V) → Ending → Result Hit Fault
  seek_from count key [] ending = unmet count ending
  seek_from count key (e ∷ es) ending =
      let later = seek_from (suc count) key es ending in
      cond (below e.key key) later (cond (below key e.key) (Ok (next count)) (Ok (exact count)))

  abbrev pub seek : List ℕ → Reading V → Result Hit Fault
  seek key r = seek_from 0 key r.entries r.ending

module _ {V : Type 0} (means : Meaning V) where
  -- the entries of one block from a step in it on, in at most so many: where the block is used up is the end
  abbrev pub block_in : ℕ → List ℕ → Step V → Reading V
  block_in zero area s = nothing end
  block_in (suc most) area (entry d p) =
      let later = block_in most area (entry_at means area p (key_of p.last)) in
      behind (record { key = key_of p.last; value = d.value }) (cond (p.next == p.finish) (nothing end) later)
  block_in (suc most) area ended = nothing end
  block_in (suc most) area (faulted f) = nothing (fails f)

  -- the reading of the one block at a place
  abbrev pub read_block : List ℕ → ℕ → Reading V
  read_block area place = block_in (length area + 1) area (border means area place (from place))

  -- the search for a key in the block at a place; 14 where the place is beyond the area
  abbrev pub search_at : List ℕ → ℕ → List ℕ → Result Hit Fault
  search_at area place key = cond (nat_lt (length area) place) (Err (fault call 14 place)) (seek key (read_block area place))
