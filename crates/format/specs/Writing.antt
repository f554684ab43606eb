-- A writer: the entries that it has taken, and what it waits for. Its open block and all that it has written follow from these.
use Rattle.format.specs.Codecs.{Meaning}
use Rattle.std.specs.Prelude.{◌≡◌, ℕ, ◌+◌, ◌≤◌, cond, List, [], ◌∷◌, ◌++◌, length, drop, Some, None, Ok, Err, Option, Result, nat_lt}
use Rattle.format.specs.Keys.{longest, follows}
use Rattle.format.specs.declared.fault.Fault.{Fault}
use Rattle.format.specs.Faults.{fault, codec, call}
use Rattle.format.specs.Tables.{Entry, values, cut_from, blocks, sstable, word}
pub use Rattle.format.specs.Tables.{closes}

pub data Waiting : Type 0 where
  for_key : Waiting
  -- a key was inserted and its value was not
  for_value : List ℕ → Waiting
  finished : Waiting

pub record Written (V : Type 0) : Type 0 where
  -- a taken entry has its key and its value
  pub taken : List (Entry V)
  pub waits : Waiting

pub data Call (V : Type 0) : Type 0 where
  insert : List ℕ → V → Call V
  insert_key : List ℕ → Call V
  insert_value : V → Call V
  finish : Call V

-- the first of two tests that fails
abbrev pub first : Option Fault → Option Fault → Option Fault
first (Some f) later = Some f
first None later = later

-- a call is accepted unless it is refused
abbrev pub answered : Option Fault → Result (Unit {0}) Fault
answered None = Ok tt
answered (Some f) = Err f

-- an output whose first bytes were written
abbrev pub overwritten : List ℕ → List ℕ → List ℕ
overwritten old bs = bs ++ drop (length bs) old

module _ {V : Type 0} where
  abbrev pub new : Written V
  new = record { taken = []; waits = for_key }

  abbrev pub last_key : List (Entry V) → Option (List ℕ)
  last_key [] = None
  last_key (e ∷ []) = Some e.key
  last_key (e ∷ f ∷ es) = last_key (f ∷ es)

  -- the entries behind the last closed block, where some stand in the open one at first
  abbrev pub open_from : List (Entry V) → List (Entry V) → List (Entry V)
  open_from os [] = os
  open_from os (e ∷ es) =
      let fresh = open_from [] es in
      let longer = open_from (os ++ e ∷ []) es in
      cond (closes os e) fresh longer

  -- the blocks that are closed, where some entries stand in the open one at first
  abbrev pub closed_from : List (Entry V) → List (Entry V) → List (List (Entry V))
  closed_from os [] = []
  closed_from os (e ∷ es) =
      let fresh = closed_from [] es in
      let longer = closed_from (os ++ e ∷ []) es in
      cond (closes os e) ((os ++ e ∷ []) ∷ fresh) longer

  -- the open block of the taken entries
  abbrev pub open_block : List (Entry V) → List (Entry V)
  open_block es = open_from [] es

  -- the closed blocks of the taken entries
  abbrev pub closed_blocks : List (Entry V) → List (List (Entry V))
  closed_blocks es = closed_from [] es

  -- a refusal of the call itself, at the ordinal of the entry that would come next: how many were taken before it
  abbrev pub refused : List (Entry V) → ℕ → Option Fault
  refused es code = Some (fault call code (length es))

  -- 1 where the key is too long, 2 where it is not above the last taken key
  abbrev pub key_refusal : List (Entry V) → List ℕ → Option Fault
  key_refusal es k = cond (nat_lt longest (length k)) (refused es 1) (cond (follows (last_key es) k) None (refused es 2))

  -- what a writer is when a call was accepted
  abbrev pub accepted_in : List (Entry V) → Waiting → Call V → Written V
  accepted_in es s (insert k v) = record { taken = es ++ record { key = k; value = v } ∷ []; waits = for_key }
  accepted_in es s (insert_key k) = record { taken = es; waits = for_value k }
  accepted_in es (for_value k) (insert_value v) = record { taken = es ++ record { key = k; value = v } ∷ []; waits = for_key }
  accepted_in es for_key (insert_value v) = record { taken = es; waits = for_key }
  accepted_in es finished (insert_value v) = record { taken = es; waits = finished }
  accepted_in es s finish = record { taken = es; waits = finished }

  abbrev pub accepted : Written V → Call V → Written V
  accepted w c = accepted_in w.taken w.waits c

module _ {V : Type 0} (bytes : List V → List ℕ) where
  -- the bytes of the closed blocks
  abbrev pub closed_bytes : List (Entry V) → List ℕ
  closed_bytes es = blocks bytes (closed_blocks es)

  -- what a finish adds: the open block if it has entries, then the end marker
  abbrev pub finishing : List (Entry V) → List ℕ
  finishing es = blocks bytes (cut_from (open_block es) []) ++ word 0

  abbrev pub output_in : List (Entry V) → Waiting → List ℕ
  output_in es for_key = closed_bytes es
  output_in es (for_value k) = closed_bytes es
  output_in es finished = sstable bytes es

  -- all bytes written so far
  abbrev pub output : Written V → List ℕ
  output w = output_in w.taken w.waits

  abbrev pub finish_bytes_in : List (Entry V) → Waiting → ℕ
  finish_bytes_in es for_key = length (finishing es)
  finish_bytes_in es (for_value k) = length (finishing es)
  finish_bytes_in es finished = 0

  -- how many bytes an accepted finish would write now if no key waited; 0 when finished
  abbrev pub finish_bytes : Written V → ℕ
  finish_bytes w = finish_bytes_in w.taken w.waits

  abbrev pub RoomIn : List (Entry V) → Waiting → ℕ → Type 0
  RoomIn es for_key answer = (length (finishing es) ≤ answer) × (answer ≤ length (finishing es) + 16)
  RoomIn es (for_value k) answer = (length (finishing es) ≤ answer) × (answer ≤ length (finishing es) + 16)
  RoomIn es finished answer = answer ≡ 0

  -- an answer to the question for room: what a finish would write or at most 16 more; 0 when finished
  abbrev pub Room : Written V → ℕ → Type 0
  Room w answer = RoomIn w.taken w.waits answer

  -- 24: with the block that the entry closes, more bytes are written than the output has
  abbrev pub flush_refusal : List (Entry V) → Entry V → ℕ → Option Fault
  flush_refusal es e room = cond (closes (open_block es) e) (cond (nat_lt room (length (closed_bytes (es ++ e ∷ [])))) (refused es 24) None) None

  -- 24: the sstable is longer than the output
  abbrev pub finish_refusal : List (Entry V) → ℕ → Option Fault
  finish_refusal es room = cond (nat_lt room (length (sstable bytes es))) (refused es 24) None

module _ {V : Type 0} (means : Meaning V) where
  -- 3 where the codec's rule does not allow the value in the open block, then 24
  abbrev pub entry_refusal : List (Entry V) → Entry V → ℕ → Option Fault
  entry_refusal es e room =
      cond (means.rule (values (open_block es)) e.value) (flush_refusal means.bytes es e room) (Some (fault codec 3 (length es)))

  -- 23 when finished; 21 where a key waits, 22 where none waits for the value; then 1, 2, 3, 24
  abbrev pub refusal_in : List (Entry V) → Waiting → Call V → ℕ → Option Fault
  refusal_in es finished c room = refused es 23
  refusal_in es (for_value k) (insert l v) room = refused es 21
  refusal_in es (for_value k) (insert_key l) room = refused es 21
  refusal_in es (for_value k) (insert_value v) room = entry_refusal es (record { key = k; value = v }) room
  refusal_in es (for_value k) finish room = refused es 21
  refusal_in es for_key (insert k v) room = first (key_refusal es k) (entry_refusal es (record { key = k; value = v }) room)
  refusal_in es for_key (insert_key k) room = key_refusal es k
  refusal_in es for_key (insert_value v) room = refused es 22
  refusal_in es for_key finish room = finish_refusal means.bytes es room

  -- the refusal of a call, if there is one, where the output has so many bytes
  abbrev pub refusal : Written V → Call V → ℕ → Option Fault
  refusal w c room = refusal_in w.taken w.waits c room

  -- what any call leaves: a refusal changes nothing
  abbrev pub called : ℕ → Written V → Call V → Written V
  called room w c = elim (refusal w c room) [ None ↦ accepted w c | Some f ↦ w ]

  -- what a list of calls leaves, all on an output of so many bytes
  abbrev pub called_all : ℕ → Written V → List (Call V) → Written V
  called_all room w [] = w
  called_all room w (c ∷ cs) = called_all room (called room w c) cs

  -- what each call of a list answers
  abbrev pub answers : ℕ → Written V → List (Call V) → List (Result (Unit {0}) Fault)
  answers room w [] = []
  answers room w (c ∷ cs) = answered (refusal w c room) ∷ answers room (called room w c) cs

-- What a writer makes of entries: how it is left, and the refusal at which it stopped, if there was one.
pub record Made (V : Type 0) : Type 0 where
  pub left : Written V
  pub stop : Option Fault

module _ {V : Type 0} (means : Meaning V) where
  -- one call after those that made this, unless a refusal stopped it
  abbrev pub further : ℕ → Made V → Call V → Made V
  further room m c =
      elim m.stop [
        | None ↦ record { left = called means room m.left c; stop = refusal means m.left c room }
        | Some f ↦ m
      ]

  -- entries inserted in order, up to the first refusal
  abbrev pub inserts_all : ℕ → Made V → List (Entry V) → Made V
  inserts_all room m [] = m
  inserts_all room m (e ∷ es) = inserts_all room (further room m (insert e.key e.value)) es

  -- each entry inserted into a new writer
  abbrev pub inserted : ℕ → List (Entry V) → Made V
  inserted room es = inserts_all room (record { left = new; stop = None }) es

  -- what a new writer makes of entries: each inserted in order, then the finish
  abbrev pub made : ℕ → List (Entry V) → Made V
  made room es = further room (inserted room es) finish
