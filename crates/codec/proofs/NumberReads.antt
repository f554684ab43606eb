-- A reading that is the number's gives back what was written.
use Rattle.std.proofs.Common.{◌≡◌, ℕ, List, Result, ap, ◌∙◌}
use Rattle.codec.specs.declared.fault.NumberFault.{NumberFault}
use Rattle.codec.specs.NumberBack.{NumberBack}
use Rattle.codec.specs.Told.{of_number}
use Rattle.format.specs.Faults.{told, or_fault, bad_number}
use Rattle.format.specs.Numbers.{read_leb}
use Rattle.format.proofs.FaultLaws.{told_some}
use Rattle.format.proofs.NumberLaws.{leb_reads}

pub number_back : (buf : List ℕ) (place : ℕ) (r : Result (ℕ × ℕ) NumberFault) → told of_number r ≡ or_fault (read_leb buf) (bad_number place) → NumberBack buf r
number_back buf place r e v rest h b = told_some of_number r (read_leb buf) (bad_number place) _ e (ap read_leb b ∙ leb_reads v rest h)
