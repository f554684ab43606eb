-- The laws of writing and streaming, of search and of merge, for every codec, automaton and merger.
use Rattle.std.specs.Prelude.{◌≡◌, ℕ, ◌≤◌, false, List, [], ◌∷◌, ◌++◌, length, take, None, Ok, Option, Result}
use Rattle.std.specs.List.{slice_get}
use Rattle.format.specs.declared.Run.{Run}
use Rattle.format.specs.declared.fault.Fault.{Fault}
use Rattle.format.specs.Codecs.{Meaning, ReadsBack, Short, Within}
use Rattle.format.specs.Tables.{Entry, cut, blocks, sstable}
use Rattle.format.specs.Reading.{end, read_area}
use Rattle.format.specs.Writing.{Written, Call, finished, new, called_all, answers, output, overwritten}
use Rattle.format.specs.Automata.{Sure}
use Rattle.format.specs.Streaming.{Query, open_refusal, Stream, stream, passing, answer_at, key_after, match_answer, match_key}
use Rattle.format.specs.Searching.{search_at, hit_in}
use Rattle.format.specs.Runs.{area_of, outside, most_runs}
use Rattle.format.specs.Merging.{merge, merge_entries, runs_after, with_taken, taken_counts}

module _ {V : Type 0} where
  -- a stream gives just these entries in order, each once, with its key, and then only the end
  abbrev pub Gives : Stream V → Query → List (Entry V) → Type 0
  Gives s q es = (n : ℕ) → (answer_at s n ≡ match_answer (slice_get (passing q es) n) end) × (key_after s n ≡ match_key (slice_get (passing q es) n))

module _ {V : Type 0} (means : Meaning V) where
  -- what a list of calls makes of a new writer
  abbrev pub writer : ℕ → List (Call V) → Written V
  writer room cs = called_all means room new cs

  -- Calls on a new writer answer so, and leave the output so: each is refused exactly when the rule over the entries
  -- taken so far says it, and the written bytes of a finished writer are the sstable of its entries.
  pub record Writes (old : List ℕ) (cs : List (Call V)) (got : List (Result (Unit {0}) Fault)) (left : List ℕ) : Type 0 where
    pub refusals : got ≡ answers means (length old) new cs
    pub bytes_left : left ≡ overwritten old (output means.bytes (writer (length old) cs))
    pub whole : (writer (length old) cs).waits ≡ finished
        → take (length (sstable means.bytes (writer (length old) cs).taken)) left ≡ sstable means.bytes (writer (length old) cs).taken

  -- the entries of some finished writer
  abbrev pub Finished : List (Entry V) → Type 0
  Finished es = (room : ℕ) × ((cs : List (Call V)) × (((writer room cs).taken ≡ es) × ((writer room cs).waits ≡ finished)))

  -- each run lies in the buffer, and is the sstable of a finished writer
  abbrev pub Holds : List ℕ → List Run → List (List (Entry V)) → Type 0
  Holds buffer [] [] = Unit {0}
  Holds buffer (r ∷ rs) (es ∷ rest) = (outside buffer r ≡ false) × (area_of buffer r ≡ sstable means.bytes es) × Finished es × Holds buffer rs rest
  Holds buffer [] (es ∷ rest) = ⊥
  Holds buffer (r ∷ rs) [] = ⊥

module _ {V : Type 0} (means : Meaning V) where
  -- Once a finish was accepted, the reading of the output is the taken entries, and then the end.
  abbrev pub ReadsTaken : List ℕ → List (Call V) → List ℕ → Type 0
  ReadsTaken old cs left =
      (writer means (length old) cs).waits ≡ finished
      → read_area means left ≡ record { entries = (writer means (length old) cs).taken; ending = end }

  -- Writing and streaming: of the sstable of a finished writer, with any bytes behind it, every stream gives the passing
  -- entries, whatever the bounds and the automaton.
  abbrev pub WritingAndStreaming : Type 0
  WritingAndStreaming = (es : List (Entry V)) (rest : List ℕ) (q : Query)
      → Finished means es → open_refusal q.lower q.upper ≡ None → Sure q.automaton
      → Gives (stream q (read_area means (sstable means.bytes es ++ rest))) q es

  -- Search: in each block of such an sstable a key is found exactly if the block has it, with the count of smaller keys
  -- either way.
  abbrev pub Search : Type 0
  Search = (es : List (Entry V)) (rest : List ℕ) (before behind : List (List (Entry V))) (b : List (Entry V)) (key : List ℕ)
      → Finished means es → cut es ≡ before ++ b ∷ behind
      → search_at means (sstable means.bytes es ++ rest) (length (blocks means.bytes before)) key ≡ Ok (hit_in key b)

  -- Merge: of none to sixteen such sstables the output and the answer are those of a new writer given the united keys with
  -- their joined values, up to the first refusal, and the table has the taken counts.
  abbrev pub Merge : (V → V → Option V) → Type 0
  Merge join = (room : ℕ) (buffer : List ℕ) (rs : List Run) (runs : List (List (Entry V)))
      → length rs ≤ most_runs → Holds means buffer rs runs
      → (merge means join room buffer rs ≡ merge_entries means join room runs)
      × (runs_after means join room buffer rs ≡ with_taken rs (taken_counts (merge_entries means join room runs).left runs))

  -- the laws of a codec
  abbrev pub CodecLaws : Type 0
  CodecLaws = ReadsBack means × Short means × Within means.opens

  -- the three laws together, for a codec that keeps its own
  abbrev pub Laws : Type 0
  Laws = CodecLaws → WritingAndStreaming × Search × ((join : V → V → Option V) → Merge join)
