-- Entries that can stand in an sstable: rising keys of at most 512 bytes, and values allowed block by block.
use Rattle.std.specs.Prelude.{◌≡◌, ℕ, Bool, true, ◌&&◌, leb as at_most, List, [], ◌∷◌, ◌++◌, length, Some, None, Option}
use Rattle.format.specs.Codecs.{Meaning, allowed_after}
use Rattle.format.specs.Keys.{longest, follows}
use Rattle.format.specs.Reading.{read_area, end}
use Rattle.format.specs.Tables.{Entry, values, cut, sstable}

module _ {V : Type 0} where
  -- each key is above the one before
  abbrev pub rising : Option (List ℕ) → List (Entry V) → Bool
  rising last [] = true
  rising last (e ∷ es) = follows last e.key && rising (Some e.key) es

  abbrev pub short_keys : List (Entry V) → Bool
  short_keys [] = true
  short_keys (e ∷ es) = at_most (length e.key) longest && short_keys es

  abbrev pub allowed_in : (List V → V → Bool) → List (List (Entry V)) → Bool
  allowed_in rule [] = true
  allowed_in rule (b ∷ bs) = allowed_after rule [] (values b) && allowed_in rule bs

  pub record Sound (rule : List V → V → Bool) (es : List (Entry V)) : Type 0 where
    pub rises : rising None es ≡ true
    pub short : short_keys es ≡ true
    pub allowed : allowed_in rule (cut es) ≡ true

-- the reading of the sstable of sound entries, with any bytes behind it, is exactly these entries and then the end
abbrev pub TableReadsBack : {V : Type 0} → Meaning V → Type 0
TableReadsBack {V} means =
    (es : List (Entry V)) (rest : List ℕ) → Sound means.rule es → read_area means (sstable means.bytes es ++ rest) ≡ record { entries = es; ending = end }
