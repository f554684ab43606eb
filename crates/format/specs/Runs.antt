-- The runs of a merge: sstables that lie in one buffer.
use Rattle.std.specs.Prelude.{ℕ, suc, ◌-◌, Bool, cond, ◌||◌, List, [], ◌∷◌, length, take, drop, Some, None, Option, nat_lt}
use Rattle.format.specs.declared.Run.{Run}
use Rattle.format.specs.declared.fault.Fault.{Fault}
use Rattle.format.specs.Faults.{fault, call}
use Rattle.format.specs.Writing.{first}

-- a merge has at most so many runs
abbrev pub most_runs : ℕ
most_runs = 16

-- the bytes of a run
abbrev pub area_of : List ℕ → Run → List ℕ
area_of buffer r = take r.len (drop r.start buffer)

-- a run that is not all in the buffer
abbrev pub outside : List ℕ → Run → Bool
outside buffer r = nat_lt (length buffer) r.start || nat_lt (length buffer - r.start) r.len

-- 14 at the lowest run outside the buffer, where the first run has a number
abbrev pub outside_from : ℕ → List ℕ → List Run → Option Fault
outside_from i buffer [] = None
outside_from i buffer (r ∷ rs) = let later = outside_from (suc i) buffer rs in cond (outside buffer r) (Some (fault call 14 i)) later

-- 15 where there are more than sixteen runs
abbrev pub too_many : List Run → Option Fault
too_many rs = cond (nat_lt most_runs (length rs)) (Some (fault call 15 0)) None

-- the refusal of the runs, before anything is read or written
abbrev pub runs_refusal : List ℕ → List Run → Option Fault
runs_refusal buffer rs = first (too_many rs) (outside_from 0 buffer rs)
