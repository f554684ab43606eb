-- A reader that answers an entry moves on within its area.
use Rattle.std.proofs.Common.{◌≡◌, ℕ, ◌<◌, ◌≤◌, List, length, Some, Ok, sym, refl, ap, subst}
use Rattle.format.specs.Monotonic.{u64_meaning}
use Rattle.format.specs.Reading.{Position, Delta, Step, entry, ended, faulted, Standing, reading, at_end, stopped, from, after, answer, step}
use Rattle.format.proofs.ReadingLaws.{Moves, step_moves}

-- where a reader stands; at the front where it reads no more
abbrev pub position_at : Standing → Position
position_at (reading p) = p
position_at at_end = from 0
position_at (stopped f) = from 0

-- A reader that reads on stands in its area.
pub record Inside (area : List ℕ) (s : Standing) : Type 0 where
  pub stands : s ≡ reading (position_at s)
  pub within : (position_at s).next ≤ length area

pub advanced : (area : List ℕ) (s s' : Standing) (d : Delta ℕ) → Inside area s → Ok (Some d) ≡ answer (step u64_meaning area s) → s' ≡ after (step u64_meaning area s)
    → Inside area s' × ((position_at s).next < (position_at s').next)
advanced area s s' d inside a l =
    let p = position_at s in
    by_step (step u64_meaning area s) (subst (Moves area p.next p.ordinal) (sym (ap (step u64_meaning area) inside.stands)) (step_moves u64_meaning area p)) a l
  where
    by_step : (t : Step ℕ) → Moves area (position_at s).next (position_at s).ordinal t → Ok (Some d) ≡ answer t → s' ≡ after t → Inside area s' × ((position_at s).next < (position_at s').next)
    by_step (entry e q) m a l = rw l (record { stands = refl; within = m.0.inside }, m.0.further)
    by_step ended m a l = cc
    by_step (faulted f) m a l = cc
