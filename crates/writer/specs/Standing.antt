-- A writer stands for entries: all that it holds follows from those that it has taken and from what it waits for.
use Rattle.std.specs.Prelude.{◌≡◌, ℕ, true, List, [], length, drop, None, Result}
use Rattle.format.specs.Buffers.{written}
use Rattle.format.specs.Codecs.{Meaning}
use Rattle.format.specs.Faults.{told}
use Rattle.format.specs.Keys.{follows}
use Rattle.format.specs.Sound.{rising}
use Rattle.format.specs.Tables.{Entry, values, deltas}
use Rattle.format.specs.Writing.{Written, Waiting, for_key, for_value, finished, Call, last_key, open_block, output, output_in, answered, refusal, called}
use Rattle.writer.specs.declared.fault.WriterFault.{WriterFault}
use Rattle.writer.specs.declared.phase.Phase.{Phase}
use Rattle.writer.specs.declared.phase.Phase.TheVariants.{WaitsForKey, WaitsForValue, Finished}
use Rattle.writer.specs.States.{Block, State}
use Rattle.writer.specs.Told.{of_writer}

abbrev pub phase_of : Waiting → Phase
phase_of for_key = WaitsForKey
phase_of (for_value k) = WaitsForValue
phase_of finished = Finished

abbrev pub waiting_of : Waiting → List ℕ
waiting_of for_key = []
waiting_of (for_value k) = k
waiting_of finished = []

module _ {V : Type 0} where
  -- the entries of the open block; none when finished
  abbrev pub open_of : List (Entry V) → Waiting → List (Entry V)
  open_of ts for_key = open_block ts
  open_of ts (for_value k) = open_block ts
  open_of ts finished = []

  abbrev pub block_in : List (Entry V) → Block V
  block_in os = record { vals = values os; delta = deltas os }

  -- a waiting key is above the last taken one
  abbrev pub Above : List (Entry V) → Waiting → Type 0
  Above ts for_key = Unit {0}
  Above ts (for_value k) = follows (last_key ts) k ≡ true
  Above ts finished = Unit {0}

module _ {V : Type 0} (bytes : List V → List ℕ) where
  abbrev pub state_in : List (Entry V) → Waiting → State V
  state_in ts s =
      record {
        phase = phase_of s;
        waiting = waiting_of s;
        table = record { last = last_key ts; block = block_in (open_of ts s); end = length (output_in bytes ts s); ordinal = length ts };
      }

  -- what a writer holds, by its entries
  abbrev pub state_of : Written V → State V
  state_of w = state_in w.taken w.waits

  -- what is written more for the second than for the first
  abbrev pub added : Written V → Written V → List ℕ
  added w v = drop (length (output bytes w)) (output bytes v)

module _ {V : Type 0} (means : Meaning V) where
  -- A writer stands for entries whose keys rise.
  pub record Stands (w : Written V) (s : State V) : Type 0 where
    pub state : s ≡ state_of means.bytes w
    pub rises : rising None w.taken ≡ true
    pub above : Above w.taken w.waits

  -- so it is with the entries for which a writer stands
  abbrev pub HoldsOf : State V → (Written V → Type 0) → Type 0
  HoldsOf s P = (w : Written V) → Stands w s → P w

  -- What a call answers and leaves, by the entries that were taken before it: it is refused exactly when their rules say so, the
  -- writer then stands for what those make of the call, and what they write more is written behind what was written.
  pub record Does (w : Written V) (c : Call V) (from : List ℕ) (got : Result (Unit {0}) WriterFault) (new : State V) (to : List ℕ) : Type 0 where
    pub answers : told of_writer got ≡ answered (refusal means w c (length from))
    pub stands : Stands (called means (length from) w c) new
    pub writes : to ≡ written from (length (output means.bytes w)) (added means.bytes w (called means (length from) w c))

  -- a call on a writer does so for the entries for which it stands
  abbrev pub Calls : Call V → State V → List ℕ → Result (Unit {0}) WriterFault → State V → List ℕ → Type 0
  Calls c old from got new to = HoldsOf old (λ w. Does w c from got new to)
