-- A merge writes the united keys of up to sixteen runs with their joined values as one sstable.
use Rattle.std.specs.Prelude.{ℕ, suc, ◌+◌, cond, List, [], ◌∷◌, length, Some, None, Ok, Err, Option, Result}
use Rattle.std.specs.List.{slice_get}
use Rattle.format.specs.declared.Run.{Run}
use Rattle.format.specs.Keys.{below, same}
use Rattle.format.specs.declared.fault.Fault.{Fault}
use Rattle.format.specs.Faults.{fault, call, in_run}
use Rattle.format.specs.Codecs.{Meaning}
use Rattle.format.specs.Tables.{Entry}
use Rattle.format.specs.Reading.{Reading, Ending, end, fails, read_area}
use Rattle.format.specs.Writing.{Written, insert, finish, new, last_key, accepted, refusal, first, Made, inserted, further}
use Rattle.format.specs.Runs.{area_of, runs_refusal}
use Rattle.format.specs.Joins.{join_next}
use Rattle.format.specs.Uniting.{united_keys, value_in, lowest_run, united}

-- How the writer of a merge is left, and what the merge answers.
pub record Merged (V : Type 0) : Type 0 where
  pub left : Written V
  pub answer : Result (Unit {0}) Fault

abbrev pub fault_of : Ending → Option Fault
fault_of end = None
fault_of (fails f) = Some f

module _ {V : Type 0} where
  abbrev pub entries_of : List (Reading V) → List (List (Entry V))
  entries_of [] = []
  entries_of (r ∷ rs) = r.entries ∷ entries_of rs

  -- the fault behind a key of a run: one stands only behind the last
  abbrev pub fault_past : List ℕ → Reading V → Option Fault
  fault_past k r = elim (last_key r.entries) [ None ↦ None | Some l ↦ cond (same l k) (fault_of r.ending) None ]

  -- the fault of a run without entries
  abbrev pub fault_first : Reading V → Option Fault
  fault_first r = elim (last_key r.entries) [ None ↦ fault_of r.ending | Some l ↦ None ]

  -- the first run that begins with a fault, where the first run has a number
  abbrev pub first_fault : ℕ → List (Reading V) → Option Fault
  first_fault i [] = None
  first_fault i (r ∷ rs) = elim (fault_first r) [ Some f ↦ Some (in_run i f) | None ↦ first_fault (suc i) rs ]

  -- how many entries are at or below a key
  abbrev pub up_to : List ℕ → List (Entry V) → ℕ
  up_to k [] = 0
  up_to k (e ∷ es) = cond (below k e.key) 0 1 + up_to k es

  -- how many of a run's keys are at or below the last key inserted; 0 if none was
  abbrev pub taken_of : Written V → List (Entry V) → ℕ
  taken_of w es = elim (last_key w.taken) [ None ↦ 0 | Some k ↦ up_to k es ]

  abbrev pub stopped_at : Written V → Fault → Merged V
  stopped_at w f = record { left = w; answer = Err f }

  -- 16 at the ordinal of the entry that would come next
  abbrev pub join_refusal : Written V → Fault
  join_refusal w = fault call 16 (length w.taken)

  -- a fault in the lowest run with the first united key that was not taken; in none where all were
  abbrev pub in_lowest : List (List (Entry V)) → Written V → Fault → Fault
  in_lowest runs w f = elim (slice_get (united_keys runs) (length w.taken)) [ Some k ↦ in_run (lowest_run k runs) f | None ↦ f ]

  abbrev pub merged_as : List (List (Entry V)) → Made V → Merged V
  merged_as runs m = elim m.stop [ None ↦ record { left = m.left; answer = Ok tt } | Some f ↦ stopped_at m.left (in_lowest runs m.left f) ]

module _ {V : Type 0} (join : V → V → Option V) where
  -- the value of one key, joined from the left in run order; directly after a run's value is taken into the join, the
  -- fault behind it shows, and a refused join is the given fault
  abbrev pub join_from : Fault → List ℕ → ℕ → Option V → List (Reading V) → Result (Option V) Fault
  join_from refused k i sofar [] = Ok sofar
  join_from refused k i sofar (r ∷ rs) =
      elim (value_in k r.entries) [
        | None ↦ join_from refused k (suc i) sofar rs
        | Some v ↦ elim (join_next join sofar v) [
          | None ↦ Err refused
          | Some u ↦ elim (fault_past k r) [ Some f ↦ Err (in_run i f) | None ↦ join_from refused k (suc i) (Some u) rs ]
        ]
      ]

  -- the joined value of a key that is inserted next; a refusal is in the lowest run with the key
  abbrev pub joined : Written V → List ℕ → List (Reading V) → Result (Option V) Fault
  joined w k rs = join_from (in_run (lowest_run k (entries_of rs)) (join_refusal w)) k 0 None rs

module _ {V : Type 0} (means : Meaning V) (join : V → V → Option V) where
  -- the finish, which belongs to no run
  abbrev pub merge_end : ℕ → Written V → Merged V
  merge_end room w = elim (refusal means w finish room) [ None ↦ record { left = accepted w finish; answer = Ok tt } | Some f ↦ stopped_at w f ]

  -- what a merge makes of the united keys that are still to come, where a writer has taken those before
  abbrev pub merge_keys : ℕ → List (Reading V) → Written V → List (List ℕ) → Merged V
  merge_keys room rs w [] = merge_end room w
  merge_keys room rs w (k ∷ ks) =
      elim (joined join w k rs) [
        | Err f ↦ stopped_at w f
        | Ok o ↦ elim o [
          | None ↦ merge_keys room rs w ks
          | Some v ↦ elim (refusal means w (insert k v) room) [
            | Some f ↦ stopped_at w (in_run (lowest_run k (entries_of rs)) f)
            | None ↦ merge_keys room rs (accepted w (insert k v)) ks
          ]
        ]
      ]

  -- the merge of readings into a new writer, on an output of so many bytes
  abbrev pub merge_readings : ℕ → List (Reading V) → Merged V
  merge_readings room rs = elim (first_fault 0 rs) [ Some f ↦ stopped_at new f | None ↦ merge_keys room rs new (united_keys (entries_of rs)) ]

  -- after the entries up to the first refused join comes that refusal, or where no join is refused the finish
  abbrev pub joins_end : ℕ → List (List (Entry V)) → Made V → Made V
  joins_end room runs m =
      elim (slice_get (united_keys runs) (length (united join runs))) [
        | Some k ↦ record { left = m.left; stop = first m.stop (Some (join_refusal m.left)) }
        | None ↦ further means room m finish
      ]

  -- the merge of runs without faults: what a new writer makes of the united keys with their joined values, up to the
  -- first refusal of a join or of the writer
  abbrev pub merge_entries : ℕ → List (List (Entry V)) → Merged V
  merge_entries room runs = merged_as runs (joins_end room runs (inserted means room (united join runs)))

module _ {V : Type 0} (means : Meaning V) where
  -- the readings of the runs, each from its start
  abbrev pub read_runs : List ℕ → List Run → List (Reading V)
  read_runs buffer [] = []
  read_runs buffer (r ∷ rs) = read_area means (area_of buffer r) ∷ read_runs buffer rs

-- the runs with their taken counts
abbrev pub with_taken : List Run → List ℕ → List Run
with_taken [] ns = []
with_taken (r ∷ rs) [] = r ∷ rs
with_taken (r ∷ rs) (n ∷ ns) = record { start = r.start; len = r.len; taken = n } ∷ with_taken rs ns

module _ {V : Type 0} where
  -- the taken count of each run
  abbrev pub taken_counts : Written V → List (List (Entry V)) → List ℕ
  taken_counts w [] = []
  taken_counts w (es ∷ rest) = taken_of w es ∷ taken_counts w rest

module _ {V : Type 0} (means : Meaning V) (join : V → V → Option V) where
  -- a merge of runs in a buffer, on an output of so many bytes
  abbrev pub merge : ℕ → List ℕ → List Run → Merged V
  merge room buffer rs =
      elim (runs_refusal buffer rs) [ Some f ↦ stopped_at new f | None ↦ merge_readings means join room (read_runs means buffer rs) ]

  -- the table of runs after a merge: refused runs stay as they are
  abbrev pub runs_after : ℕ → List ℕ → List Run → List Run
  runs_after room buffer rs =
      elim (runs_refusal buffer rs) [
        | Some f ↦ rs
        | None ↦ with_taken rs (taken_counts (merge room buffer rs).left (entries_of (read_runs means buffer rs)))
      ]
