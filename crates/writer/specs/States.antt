-- What a writer holds, and what each call makes of it.
use Rattle.std.specs.Prelude.{◌≡◌, ℕ, ◌+◌, ◌-◌, ◌*◌, ◌≤◌, Bool, true, cond, List, [], ◌∷◌, ◌++◌, length, Some, None, Ok, Err, Option, Result, is_ok, if◌then◌else◌, ◌==◌, nat_lt}
use Rattle.format.specs.Codecs.{Meaning, takes, write_answer}
use Rattle.format.specs.Buffers.{written}
use Rattle.format.specs.declared.fault.Fault.{Fault}
use Rattle.format.specs.Faults.{told, fault, call}
use Rattle.format.specs.Keys.{longest, follows}
use Rattle.format.specs.Reading.{key_of}
use Rattle.format.specs.Tables.{block_len, word}
use Rattle.format.specs.Writing.{Call, insert, insert_key, insert_value, finish}
use Rattle.writer.specs.declared.phase.Phase.{Phase}
use Rattle.writer.specs.declared.phase.Phase.TheVariants.{WaitsForKey, WaitsForValue, Finished}
use Rattle.writer.specs.declared.phase.Kind.{Kind}
use Rattle.writer.specs.declared.phase.Kind.TheVariants.{Insert, InsertKey, InsertValue, Finish}
use Rattle.writer.specs.declared.fault.WriterFault.{WriterFault}
use Rattle.writer.specs.Told.{of_writer}
use Rattle.writer.specs.Parts.{Kept, behind, entry, before, block}

-- The open block.
pub record Block (V : Type 0) : Type 0 where
  pub vals : List V
  pub delta : List ℕ

-- An sstable that is being written.
pub record OpenTable (V : Type 0) : Type 0 where
  -- the last taken key, if one was taken
  pub last : Option (List ℕ)
  pub block : Block V
  -- how many bytes are written
  pub end : ℕ
  -- how many entries were taken
  pub ordinal : ℕ

pub record State (V : Type 0) : Type 0 where
  pub phase : Phase
  -- the key that waits for its value, where one waits
  pub waiting : List ℕ
  pub table : OpenTable V

abbrev pub Answer : Type 0
Answer = Result (Unit {0}) Fault

-- a test, and a second where the first does not refuse
abbrev pub and_then : {A B : Type 0} → Result A Fault → Result B Fault → Result B Fault
and_then (Ok x) later = later
and_then (Err f) later = Err f

-- 23 when finished; 21 where a key waits, 22 where none waits for the value
abbrev pub phase_test : Phase → Kind → ℕ → Answer
phase_test Finished k ordinal = Err (fault call 23 ordinal)
phase_test WaitsForValue Insert ordinal = Err (fault call 21 ordinal)
phase_test WaitsForValue InsertKey ordinal = Err (fault call 21 ordinal)
phase_test WaitsForValue InsertValue ordinal = Ok tt
phase_test WaitsForValue Finish ordinal = Err (fault call 21 ordinal)
phase_test WaitsForKey Insert ordinal = Ok tt
phase_test WaitsForKey InsertKey ordinal = Ok tt
phase_test WaitsForKey InsertValue ordinal = Err (fault call 22 ordinal)
phase_test WaitsForKey Finish ordinal = Ok tt

abbrev pub RoomIn : Phase → ℕ → ℕ → Type 0
RoomIn WaitsForKey due answer = (due ≤ answer) × (answer ≤ due + 16)
RoomIn WaitsForValue due answer = (due ≤ answer) × (answer ≤ due + 16)
RoomIn Finished due answer = answer ≡ 0

module _ {V : Type 0} where
  abbrev pub no_entries : Block V
  no_entries = record { vals = []; delta = [] }

  abbrev pub nothing_written : OpenTable V
  nothing_written = record { last = None; block = no_entries; end = 0; ordinal = 0 }

  abbrev pub fresh : State V
  fresh = record { phase = WaitsForKey; waiting = []; table = nothing_written }

  -- the last taken key; none before the first
  abbrev pub last_key : OpenTable V → Option (List ℕ)
  last_key t = cond (t.ordinal == 0) None (Some (key_of t.last))

  -- the key, or 1 where it is too long, 2 where it is not above the last taken one
  abbrev pub key_test : OpenTable V → List ℕ → Result (List ℕ) Fault
  key_test t k =
      cond (nat_lt longest (length k)) (Err (fault call 1 t.ordinal))
      (cond (follows (last_key t) k) (Ok k) (Err (fault call 2 t.ordinal)))

  -- 24 where so many bytes that are due do not fit behind those written
  abbrev pub room_test : OpenTable V → ℕ → ℕ → Answer
  room_test t due room = cond (nat_lt (room - t.end) due) (Err (fault call 24 t.ordinal)) (Ok tt)

  -- so many bytes that are due fit an output of so many bytes, behind those written
  abbrev pub HasRoom : OpenTable V → ℕ → ℕ → Type 0
  HasRoom t due room = due ≤ room - t.end

  -- a rule allows a value behind those of a block, and the block has not too many
  abbrev pub Allows : (List V → V → Bool) → Block V → V → Type 0
  Allows rule b v = takes rule b.vals v ≡ true

  -- a key behind the last one: it keeps nothing at a block's first entry
  abbrev pub behind_last : Block V → List ℕ → List ℕ → Kept
  behind_last b last k = behind (before b.delta last) k

  -- the block with one entry more
  abbrev pub pushed : Block V → Kept → V → Block V
  pushed b k v = record { vals = b.vals ++ v ∷ []; delta = b.delta ++ entry k }

  -- the delta part has more than 4,000 bytes
  abbrev pub is_long : Block V → Bool
  is_long b = nat_lt block_len (length b.delta)

  abbrev pub kept_of : OpenTable V → List ℕ → Kept
  kept_of t k = behind_last t.block (key_of t.last) k

  -- its open block with one entry more
  abbrev pub grown : OpenTable V → List ℕ → V → Block V
  grown t k v = pushed t.block (kept_of t k) v

  -- a key was taken that waits for its value
  abbrev pub holds : State V → List ℕ → State V
  holds s k = record { phase = WaitsForValue; waiting = k; table = s.table }

  -- no key waits, and so it goes on
  abbrev pub goes_on : Phase → OpenTable V → State V
  goes_on phase t = record { phase = phase; waiting = []; table = t }

module _ {V : Type 0} (bytes : List V → List ℕ) where
  abbrev pub block_of : Block V → List ℕ
  block_of b = block (bytes b.vals) b.delta

  -- a long block is flushed, and any other stays open
  abbrev pub flushed : Block V → List ℕ
  flushed b = cond (is_long b) (block_of b) []

  -- what an entry flushes
  abbrev pub flushed_by : OpenTable V → List ℕ → V → List ℕ
  flushed_by t k v = flushed (grown t k v)

  abbrev pub rest_in : List V → List ℕ → List ℕ
  rest_in vs [] = []
  rest_in vs (d ∷ ds) = block (bytes vs) (d ∷ ds)

  -- the block, if it has entries
  abbrev pub rest : Block V → List ℕ
  rest b = rest_in b.vals b.delta

  -- what a finish writes
  abbrev pub ending : OpenTable V → List ℕ
  ending t = rest t.block ++ word 0

  -- an entry was taken
  abbrev pub took_entry : OpenTable V → List ℕ → V → OpenTable V
  took_entry t k v =
      record {
        last = Some k;
        block = cond (is_long (grown t k v)) no_entries (grown t k v);
        end = t.end + length (flushed_by t k v);
        ordinal = t.ordinal + 1;
      }

  abbrev pub ended : OpenTable V → OpenTable V
  ended t = record { last = t.last; block = no_entries; end = t.end + length (ending t); ordinal = t.ordinal }

  -- what an accepted call makes of a writer
  abbrev pub next : State V → Call V → State V
  next s (insert k v) = goes_on WaitsForKey (took_entry s.table k v)
  next s (insert_key k) = holds s k
  next s (insert_value v) = goes_on WaitsForKey (took_entry s.table s.waiting v)
  next s finish = goes_on Finished (ended s.table)

  -- what an accepted call writes
  abbrev pub written_by : State V → Call V → List ℕ
  written_by s (insert k v) = flushed_by s.table k v
  written_by s (insert_key k) = []
  written_by s (insert_value v) = flushed_by s.table s.waiting v
  written_by s finish = ending s.table

  -- an answer to the question for room: what a finish writes or at most 16 more; 0 when finished
  abbrev pub Room : State V → ℕ → Type 0
  Room s answer = RoomIn s.phase (length (ending s.table)) answer

module _ {V : Type 0} (means : Meaning V) where
  -- 3 where the codec does not take the value
  abbrev pub value_test : OpenTable V → V → Answer
  value_test t v = write_answer means.rule t.block.vals v t.ordinal

  abbrev pub entry_test : OpenTable V → Kept → V → ℕ → Answer
  entry_test t k v room = and_then (value_test t v) (room_test t (length (flushed means.bytes (pushed t.block k v))) room)

  abbrev pub finish_test : OpenTable V → ℕ → Answer
  finish_test t room = room_test t (length (ending means.bytes t)) room

  -- what a call answers, where the output has so many bytes
  abbrev pub answer : State V → Call V → ℕ → Answer
  answer s (insert k v) room = and_then (phase_test s.phase Insert s.table.ordinal) (and_then (key_test s.table k) (entry_test s.table (kept_of s.table k) v room))
  answer s (insert_key k) room = and_then (phase_test s.phase InsertKey s.table.ordinal) (and_then (key_test s.table k) (Ok tt))
  answer s (insert_value v) room = and_then (phase_test s.phase InsertValue s.table.ordinal) (entry_test s.table (kept_of s.table s.waiting) v room)
  answer s finish room = and_then (phase_test s.phase Finish s.table.ordinal) (finish_test s.table room)

-- What a call on a writer answers, and what it leaves in the writer and in the output: a refusal changes nothing.
pub record Steps {V : Type 0} (means : Meaning V) (c : Call V) (old : State V) (from : List ℕ) (got : Result (Unit {0}) WriterFault) (new : State V) (to : List ℕ) : Type 0 where
  pub answers : told of_writer got ≡ answer means old c (length from)
  pub leaves : new ≡ (if is_ok got then next means.bytes old c else old)
  pub writes : to ≡ (if is_ok got then written from old.table.end (written_by means.bytes old c) else from)

-- What a table answers to a key that may come next and a value, and what it then holds and has written.
pub record Inserts {V : Type 0} (means : Meaning V) (k : List ℕ) (v : V) (old : OpenTable V) (from : List ℕ) (got : Result (Unit {0}) WriterFault) (new : OpenTable V) (to : List ℕ) : Type 0 where
  pub answers : told of_writer got ≡ entry_test means old (kept_of old k) v (length from)
  pub leaves : new ≡ (if is_ok got then took_entry means.bytes old k v else old)
  pub writes : to ≡ (if is_ok got then written from old.end (flushed_by means.bytes old k v) else from)

-- An entry may be taken: its value is allowed, and what it flushes fits an output of so many bytes.
pub record Fits {V : Type 0} (means : Meaning V) (t : OpenTable V) (k : Kept) (v : V) (room : ℕ) : Type 0 where
  pub allowed : Allows means.rule t.block v
  pub room_is : HasRoom t (length (flushed means.bytes (pushed t.block k v))) room

-- What holds of a writer at all times.
pub record Sound {V : Type 0} (s : State V) : Type 0 where
  pub last_short : length (key_of s.table.last) ≤ longest
  pub waiting_short : length s.waiting ≤ longest
  pub delta_short : length s.table.block.delta ≤ 4000
  -- an entry adds at least one byte to the delta part, and a flush of at most 4,533 of them writes five more
  pub counted : 4538 * s.table.ordinal ≤ 4533 * s.table.end + 4538 * length s.table.block.delta
