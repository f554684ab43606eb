-- A reader as its calls leave it.
use Rattle.std.specs.Prelude.{◌≡◌, ℕ, List, Some, None, Ok, Err, Option, Result}
use Rattle.format.specs.Codecs.{Meaning}
use Rattle.format.specs.declared.fault.Fault.{Fault}
use Rattle.format.specs.Reading as reading
use Rattle.format.specs.Reading.{Position, Standing, reading as stands, at_end, stopped, step, answer, after}
use Rattle.block.specs.declared.fault.ReadFault.{ReadFault}
use Rattle.block.specs.declared.found.Delta.{Delta}
use Rattle.block.specs.declared.reader.Phase.{Phase}
use Rattle.block.specs.declared.reader.Phase.TheVariants.{Reading, Ended, Faulted}
use Rattle.block.specs.Entries.{delta_of}
use Rattle.block.specs.Positions.{IsPlace}
use Rattle.block.specs.Told.{of_read}

abbrev pub standing_in : Phase → Position → Standing
standing_in Reading p = stands p
standing_in Ended p = at_end
standing_in (Faulted f) p = stopped (of_read f)

module _ {V : Type 0} where
  -- what an advance answers
  abbrev pub told_delta : Result (Option (Delta V)) ReadFault → Result (Option (reading.Delta V)) Fault
  told_delta (Ok (Some d)) = Ok (Some (delta_of d))
  told_delta (Ok None) = Ok None
  told_delta (Err e) = Err (of_read e)

-- what holds of a reader at all times: of where it stands, while it reads
abbrev pub Sound : Standing → Type 0
Sound (stands p) = IsPlace p
Sound at_end = Unit {0}
Sound (stopped f) = Unit {0}

-- An advance answers and leaves what one step of the reading says.
pub record Advances {V : Type 0} (means : Meaning V) (area : List ℕ) (old : Standing) (got : Result (Option (Delta V)) ReadFault) (new : Standing) : Type 0 where
  pub answers : told_delta got ≡ answer (step means area old)
  pub leaves : new ≡ after (step means area old)
