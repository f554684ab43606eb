-- The parts that a writer puts together.
use Rattle.std.specs.Prelude.{ℕ, ◌+◌, ◌-◌, List, [], ◌∷◌, ◌++◌, length, drop}
use Rattle.format.specs.Headers.{header}
use Rattle.format.specs.Keys.{shared}
use Rattle.format.specs.Tables.{word}

-- A key, and how many bytes it keeps of the key before it.
pub record Kept : Type 0 where
  pub keep : ℕ
  pub key : List ℕ

abbrev pub behind : List ℕ → List ℕ → Kept
behind prev key = record { keep = shared prev key; key = key }

-- a key in the delta part
unfoldable pub entry : Kept → List ℕ
entry k = header k.keep (length k.key - k.keep) ++ drop k.keep k.key

-- the key before, where so much stands in the delta part: none at a block's first entry
abbrev pub before : List ℕ → List ℕ → List ℕ
before [] last = []
before (d ∷ ds) last = last

-- a block of the bytes of its values and its delta part
unfoldable pub block : List ℕ → List ℕ → List ℕ
block vs ds = word (1 + length vs + length ds) ++ (0 ∷ (vs ++ ds))
