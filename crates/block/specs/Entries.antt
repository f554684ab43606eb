-- Entries as the code answers them.
use Rattle.std.specs.Prelude.{ℕ, ◌<◌, ◌≤◌, List, length, take, Some, None, Ok, Err, Option, Result}
use Rattle.format.specs.Codecs.{Meaning}
use Rattle.format.specs.declared.fault.Fault.{Fault}
use Rattle.format.specs.Reading as reading
use Rattle.format.specs.Reading.{Position, Step, entry, ended, faulted, key_of, key_with, entry_at, border}
use Rattle.block.specs.declared.fault.BlockFault.{BlockFault}
use Rattle.block.specs.declared.fault.ReadFault.{ReadFault}
use Rattle.block.specs.declared.found.Suffix.{Suffix}
use Rattle.block.specs.declared.found.Delta.{Delta}
use Rattle.block.specs.Told.{of_block, of_read}

abbrev pub suffixed : Suffix → reading.Suffix
suffixed s = record { keep = s.keep; place = s.place; bytes = s.bytes.now }

abbrev pub told_suffix : Result Suffix BlockFault → Result reading.Suffix Fault
told_suffix (Ok s) = Ok (suffixed s)
told_suffix (Err e) = Err (of_block e)

-- whether there is an answer
abbrev pub accepts : {A : Type 0} → Result A Fault → Result (Unit {0}) Fault
accepts (Ok x) = Ok tt
accepts (Err f) = Err f

-- the bytes of the key before that an entry may keep: so many
abbrev pub base_of : ℕ → Position → List ℕ
base_of keep_max p = take keep_max (key_of p.last)

-- the key that a suffix makes of them
abbrev pub key_after : ℕ → Position → reading.Suffix → Result (List ℕ) Fault
key_after keep_max p s = key_with p.next p.last (base_of keep_max p) s

-- A reading stands at an entry of a block within an area, which may keep so many bytes of the key before.
pub record IsAtEntry (area : List ℕ) (p : Position) (keep_max : ℕ) : Type 0 where
  pub within : p.finish ≤ length area
  pub behind : p.next < p.finish
  pub kept : keep_max ≤ length (key_of p.last)

module _ {V : Type 0} where
  abbrev pub delta_of : Delta V → reading.Delta V
  delta_of d = record { keep = d.keep; suffix = d.suffix.now; place = d.place; ordinal = d.ordinal; value = d.value }

  -- an entry that was read, or a fault, and where a reading then stands
  abbrev pub entry_of : Result (Delta V) BlockFault → Position → Step V
  entry_of (Ok d) p = entry (delta_of d) p
  entry_of (Err e) p = faulted (of_block e)

  -- likewise, where there may be no entry
  abbrev pub step_of : Result (Option (Delta V)) ReadFault → Position → Step V
  step_of (Ok (Some d)) p = entry (delta_of d) p
  step_of (Ok None) p = ended
  step_of (Err e) p = faulted (of_read e)

module _ {V : Type 0} (means : Meaning V) (area : List ℕ) where
  -- the entry at the next header, which may keep so many bytes of the key before
  abbrev pub entry_in : Position → ℕ → Step V
  entry_in p keep_max = entry_at means area p (base_of keep_max p)

  -- one step from where a reading was brought to stand at an entry, if there is one
  abbrev pub step_from : Result (Option ℕ) ReadFault → Position → Step V
  step_from (Ok (Some keep_max)) p = entry_in p keep_max
  step_from (Ok None) p = ended
  step_from (Err e) p = faulted (of_read e)

  -- the first entry of the block at the border where the block of a position ends
  abbrev pub border_of : Position → Step V
  border_of p = border means area p.finish p
