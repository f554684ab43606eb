-- What an sstable of entries is, byte by byte.
use Rattle.std.specs.Prelude.{ℕ, ◌+◌, ◌-◌, ◌/◌, ◌%◌, Bool, cond, List, [], ◌∷◌, ◌++◌, length, drop, nat_lt}
use Rattle.format.specs.Keys.{shared}
use Rattle.format.specs.Headers.{header}

-- a key with its value
pub record Entry (V : Type 0) : Type 0 where
  pub key : List ℕ
  pub value : V

-- a block stays open while its delta part has at most so many bytes
abbrev pub block_len : ℕ
block_len = 4000

-- four bytes, the lowest first
abbrev pub word : ℕ → List ℕ
word n = (n % 256) ∷ (n / 256 % 256) ∷ (n / 65536 % 256) ∷ (n / 16777216 % 256) ∷ []

-- a key in the delta part: what it keeps of the key before it, and the suffix that it adds
abbrev pub delta : List ℕ → List ℕ → List ℕ
delta before key = header (shared before key) (length key - shared before key) ++ drop (shared before key) key

module _ {V : Type 0} where
  abbrev pub values : List (Entry V) → List V
  values [] = []
  values (e ∷ es) = e.value ∷ values es

  abbrev pub keys : List (Entry V) → List (List ℕ)
  keys [] = []
  keys (e ∷ es) = e.key ∷ keys es

  -- the last key of some entries behind a key
  abbrev pub last_after : List ℕ → List (Entry V) → List ℕ
  last_after k [] = k
  last_after k (e ∷ es) = last_after e.key es

  -- the delta part of entries behind a key
  abbrev pub deltas_after : List ℕ → List (Entry V) → List ℕ
  deltas_after before [] = []
  deltas_after before (e ∷ es) = delta before e.key ++ deltas_after e.key es

  -- the delta part of a block: its first entry keeps nothing
  abbrev pub deltas : List (Entry V) → List ℕ
  deltas es = deltas_after [] es

  -- an entry closes the block in which some entries stand: it takes the delta part past 4,000 bytes
  abbrev pub closes : List (Entry V) → Entry V → Bool
  closes os e = nat_lt block_len (length (deltas (os ++ e ∷ [])))

  -- the entries of each block, where some stand in the open one
  abbrev pub cut_from : List (Entry V) → List (Entry V) → List (List (Entry V))
  cut_from [] [] = []
  cut_from (o ∷ os) [] = (o ∷ os) ∷ []
  cut_from os (e ∷ es) =
      let closed = cut_from [] es in
      let open' = cut_from (os ++ e ∷ []) es in
      cond (closes os e) ((os ++ e ∷ []) ∷ closed) open'

  abbrev pub cut : List (Entry V) → List (List (Entry V))
  cut es = cut_from [] es

module _ {V : Type 0} (bytes : List V → List ℕ) where
  -- the length word, the flag of a plain block, the value part, the delta part
  abbrev pub block : List (Entry V) → List ℕ
  block es = word (1 + length (bytes (values es)) + length (deltas es)) ++ 0 ∷ bytes (values es) ++ deltas es

  abbrev pub blocks : List (List (Entry V)) → List ℕ
  blocks [] = []
  blocks (b ∷ bs) = block b ++ blocks bs

  -- the blocks, then the end marker
  abbrev pub sstable : List (Entry V) → List ℕ
  sstable es = blocks (cut es) ++ word 0
