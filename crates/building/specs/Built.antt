-- What is built of a text.
use Rattle.std.specs.Prelude.{◌≡◌, ℕ, ◌+◌, ◌≤◌, List, [], ◌∷◌, ◌++◌, length, Some, None, Ok, Err, Option, Result}
use Rattle.format.specs.declared.fault.Fault.{Fault}
use Rattle.format.specs.Monotonic.{u64_meaning, u64_bytes}
use Rattle.format.specs.Tables.{Entry, sstable}
use Rattle.format.specs.Writing.{Written, for_key, insert, finish, refusal, overwritten}
use Rattle.writer.specs.Told.{of_writer}
use Rattle.building.specs.declared.fault.BuildFault.{BuildFault}
use Rattle.building.specs.declared.fault.BuildFault.TheVariants as build_fault
use Rattle.building.specs.Lines.{lines_of, parsed}

-- the sstable of these entries, or what stopped it; lines are counted from 1
pub data Built : Type 0 where
  whole : List (Entry ℕ) → Built
  bad_line : ℕ → Built
  bad_entry : ℕ → Fault → Built
  bad_end : Fault → Built

-- a writer that has taken entries and waits for a key
abbrev pub took : List (Entry ℕ) → Written ℕ
took es = record { taken = es; waits = for_key }

-- at a finish, unless it is refused
abbrev pub finished_by : List (Entry ℕ) → Option Fault → Built
finished_by es None = whole es
finished_by es (Some f) = bad_end f

-- what is built of the lines from one on, where entries were taken and the output has so many bytes
abbrev pub built_from : ℕ → ℕ → List (Entry ℕ) → List (List ℕ) → Built
built_from room n es [] = finished_by es (refusal u64_meaning (took es) finish room)
built_from room n es (l ∷ ls) =
    elim (parsed l) [
      | None ↦ bad_line n
      | Some e ↦
          elim (refusal u64_meaning (took es) (insert e.key e.value) room) [
            | None ↦ built_from room (n + 1) (es ++ e ∷ []) ls
            | Some f ↦ bad_entry n f
          ]
    ]

abbrev pub built : ℕ → List ℕ → Built
built room text = built_from room 1 [] (lines_of text)

-- an output whose first bytes are the sstable of entries, and how many these are
pub record Holds (es : List (Entry ℕ)) (n : ℕ) (old left : List ℕ) : Type 0 where
  pub len : n ≡ length (sstable u64_bytes es)
  pub within : n ≤ length old
  pub bytes : left ≡ overwritten old (sstable u64_bytes es)

-- what stopped a build; nothing is said where there was no memory
abbrev pub Stops : Built → BuildFault → Type 0
Stops b (build_fault.Line n) = b ≡ bad_line n
Stops b (build_fault.Entry n f) = b ≡ bad_entry n (of_writer f)
Stops b (build_fault.End f) = b ≡ bad_end (of_writer f)
Stops b build_fault.Memory = Unit {0}

-- what a build answers and leaves
abbrev pub Answers : Built → List ℕ → Result ℕ BuildFault → List ℕ → Type 0
Answers b old (Ok n) left = (es : List (Entry ℕ)) × ((b ≡ whole es) × Holds es n old left)
Answers b old (Err fault) left = Stops b fault
