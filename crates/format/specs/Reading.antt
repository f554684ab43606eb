-- What the bytes of an area tell: entries, and then an end or a fault.
use Rattle.std.specs.Prelude.{ℕ, zero, suc, ◌+◌, ◌-◌, ◌*◌, cond, List, [], ◌∷◌, ◌++◌, length, take, drop, Some, None, Ok, Err, Option, Result, ◌==◌, nat_lt, slice_index}
use Rattle.format.specs.declared.Cursor.{Cursor}
use Rattle.format.specs.Keys.{longest, follows}
use Rattle.format.specs.Headers.{Header, read_header}
use Rattle.format.specs.declared.fault.Fault.{Fault}
use Rattle.format.specs.Faults.{fault, block, call, bad_number}
use Rattle.format.specs.Codecs.{Meaning, flaw_at, Opened, Stepped}
use Rattle.format.specs.Tables.{Entry}

-- Where a reading stands between two entries.
pub record Position : Type 0 where
  -- the length word of the block being read or last read
  pub start : ℕ
  -- where that block ends
  pub finish : ℕ
  -- the next header; where the block is used up, its end
  pub next : ℕ
  -- where the reading of the block's values stands
  pub cursor : Cursor
  -- the key before, unless none was read
  pub last : Option (List ℕ)
  -- how many entries were read
  pub ordinal : ℕ

abbrev pub no_values : Cursor
no_values = record { next = 0; last = 0; left = 0 }

-- a reading that starts at a block border
abbrev pub from : ℕ → Position
from place = record { start = place; finish = place; next = place; cursor = no_values; last = None; ordinal = 0 }

-- An entry as it stands in the area: what it keeps of the key before, the suffix and its place, its ordinal and its value.
pub record Delta (V : Type 0) : Type 0 where
  pub keep : ℕ
  pub suffix : List ℕ
  pub place : ℕ
  pub ordinal : ℕ
  pub value : V

-- One step of a reading: an entry and where the reading then stands, the end, or a fault.
pub data Step (V : Type 0) : Type 0 where
  entry : Delta V → Position → Step V
  ended : Step V
  faulted : Fault → Step V

-- A reader stands somewhere, is at the end for good, or repeats a fault.
pub data Standing : Type 0 where
  reading : Position → Standing
  at_end : Standing
  stopped : Fault → Standing

abbrev pub after : {V : Type 0} → Step V → Standing
after (entry d p) = reading p
after ended = at_end
after (faulted f) = stopped f

-- what a step answers
abbrev pub answer : {V : Type 0} → Step V → Result (Option (Delta V)) Fault
answer (entry d p) = Ok (Some d)
answer ended = Ok None
answer (faulted f) = Err f

-- the key of the entry that was read last
abbrev pub key_at : Standing → Option (List ℕ)
key_at (reading p) = p.last
key_at at_end = None
key_at (stopped f) = None

-- the bytes of a key that may be missing
abbrev pub key_of : Option (List ℕ) → List ℕ
key_of None = []
key_of (Some k) = k

-- the number in the first four bytes, the lowest first
abbrev pub word_of : List ℕ → ℕ
word_of rest = slice_index rest 0 + slice_index rest 1 * 256 + slice_index rest 2 * 65536 + slice_index rest 3 * 16777216

-- the bytes of a block behind its flag
abbrev pub content : List ℕ → ℕ → ℕ → List ℕ
content area start finish = take (finish - (start + 5)) (drop (start + 5) area)

-- where the block at the front of the rest of an area ends, or nothing at the end: 4 where it is cut short, 5 where it is
-- compressed
abbrev pub block_in : ℕ → List ℕ → Result (Option ℕ) Fault
block_in start rest =
    cond (length rest == 0) (Ok None)
    (cond (nat_lt (length rest) 4) (Err (fault block 4 start))
    (cond (nat_lt (word_of rest) 2) (Ok None)
    (cond (nat_lt (length rest) (word_of rest + 4)) (Err (fault block 4 start))
    (cond (slice_index rest 4 == 1) (Err (fault block 5 start)) (Ok (Some (start + 4 + word_of rest)))))))

abbrev pub block_at : List ℕ → ℕ → Result (Option ℕ) Fault
block_at area start = block_in start (drop start area)

-- The suffix of a key: how many bytes of the key before it follows, where it stands in the area, and its bytes.
pub record Suffix : Type 0 where
  pub keep : ℕ
  pub place : ℕ
  pub bytes : List ℕ

abbrev pub suffix_of : List ℕ → ℕ → ℕ → Header → Result Suffix Fault
suffix_of area next finish None = Err (bad_number next)
suffix_of area next finish (Some h) =
    cond (nat_lt (finish - (next + h.0)) h.1.1) (Err (fault block 8 next))
    (Ok (record { keep = h.1.0; place = next + h.0; bytes = take h.1.1 (drop (next + h.0) area) }))

-- the suffix at a header: 6 where that is none, 8 where the suffix passes the block
abbrev pub suffix_at : List ℕ → ℕ → ℕ → Result Suffix Fault
suffix_at area next finish = suffix_of area next finish (read_header (drop next (take finish area)))

-- the key that a suffix makes of a base: 9 where it keeps more than there is or is not above the key before, 10 where it is
-- too long
abbrev pub key_with : ℕ → Option (List ℕ) → List ℕ → Suffix → Result (List ℕ) Fault
key_with next last base s =
    cond (nat_lt (length base) s.keep) (Err (fault block 9 next))
    (cond (follows last (take s.keep base ++ s.bytes))
    (cond (nat_lt longest (s.keep + length s.bytes)) (Err (fault block 10 next)) (Ok (take s.keep base ++ s.bytes)))
    (Err (fault block 9 next)))

module _ {V : Type 0} where
  -- an entry with its value: 11 where there is none for it
  abbrev pub valued : Position → Suffix → List ℕ → Stepped V → Step V
  valued p s key (Ok (Some g)) =
      entry
      (record { keep = s.keep; suffix = s.bytes; place = s.place; ordinal = p.ordinal; value = g.0 })
      (record {
        start = p.start;
        finish = p.finish;
        next = s.place + length s.bytes;
        cursor = g.1;
        last = Some key;
        ordinal = p.ordinal + 1;
      })
  valued p s key (Ok None) = faulted (fault block 11 p.next)
  valued p s key (Err f) = faulted (flaw_at (p.start + 5) f)

  abbrev pub keyed : Position → Suffix → Result (List ℕ) Fault → Stepped V → Step V
  keyed p s (Ok key) value = valued p s key value
  keyed p s (Err f) value = faulted f

  abbrev pub suffixed : Position → List ℕ → Result Suffix Fault → Stepped V → Step V
  suffixed p base (Ok s) value = keyed p s (key_with p.next p.last base s) value
  suffixed p base (Err f) value = faulted f

module _ {V : Type 0} (means : Meaning V) where
  -- the entry at the next header; base is the key of which it may keep bytes, which is empty at a block's first entry
  abbrev pub entry_at : List ℕ → Position → List ℕ → Step V
  entry_at area p base = suffixed p base (suffix_at area p.next p.finish) (means.steps p.cursor (content area p.start p.finish))

  -- the first entry of a block whose values are opened; a block without entries is the end
  abbrev pub opened : List ℕ → ℕ → ℕ → Position → Opened → Step V
  opened area start finish p (Err f) = faulted (flaw_at (start + 5) f)
  opened area start finish p (Ok o) =
      cond (nat_lt (start + 5 + o.1) finish)
      (entry_at area (record { start = start; finish = finish; next = start + 5 + o.1; cursor = o.0; last = p.last; ordinal = p.ordinal }) [])
      ended

  -- the first entry of the block at a border, if there is one
  abbrev pub loaded : List ℕ → ℕ → Position → Result (Option ℕ) Fault → Step V
  loaded area start p (Ok (Some finish)) = opened area start finish p (means.opens (content area start finish))
  loaded area start p (Ok None) = ended
  loaded area start p (Err f) = faulted f

  abbrev pub border : List ℕ → ℕ → Position → Step V
  border area start p = loaded area start p (block_at area start)

  -- a block is still there, or it is 14 at its length word
  abbrev pub step_at : List ℕ → Position → Step V
  step_at area p =
      cond (nat_lt (length area) p.finish) (faulted (fault call 14 p.start))
      (cond (p.next == p.finish) (border area p.finish p)
      (entry_at area p (key_of p.last)))

  -- one step of a reader
  abbrev pub step : List ℕ → Standing → Step V
  step area (reading p) = step_at area p
  step area at_end = ended
  step area (stopped f) = faulted f

-- The whole reading of an area: its entries, and what stands behind them.
pub data Ending : Type 0 where
  end : Ending
  fails : Fault → Ending

pub record Reading (V : Type 0) : Type 0 where
  pub entries : List (Entry V)
  pub ending : Ending

module _ {V : Type 0} where
  abbrev pub nothing : Ending → Reading V
  nothing e = record { entries = []; ending = e }

  abbrev pub behind : Entry V → Reading V → Reading V
  behind e r = record { entries = e ∷ r.entries; ending = r.ending }

module _ {V : Type 0} (means : Meaning V) where
  -- the reading from a position, in at most so many entries
  abbrev pub read_in : ℕ → List ℕ → Standing → Reading V
  read_in zero area s = nothing end
  read_in (suc most) area s =
      elim (step means area s) [
        | entry d p ↦ behind (record { key = key_of p.last; value = d.value }) (read_in most area (reading p))
        | ended ↦ nothing end
        | faulted f ↦ nothing (fails f)
      ]

  -- an area has fewer entries than bytes
  abbrev pub read_from : List ℕ → Standing → Reading V
  read_from area s = read_in (length area + 1) area s

  -- the reading of a whole area
  abbrev pub read_area : List ℕ → Reading V
  read_area area = read_from area (reading (from 0))
