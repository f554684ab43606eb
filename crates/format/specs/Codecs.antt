-- What a value codec means: a rule that says which value may follow a list in one block, the bytes of each allowed list, and the reading of any bytes.
use Rattle.std.specs.Prelude.{◌≡◌, ℕ, zero, suc, ◌+◌, ◌*◌, ◌<◌, ◌≤◌, Bool, true, ◌&&◌, List, [], ◌∷◌, ◌++◌, length, Some, None, Ok, Err, Option, Result, nat_lt, if◌then◌else◌}
use Rattle.std.specs.List.{slice_get}
use Rattle.format.specs.declared.Cursor.{Cursor}
use Rattle.format.specs.declared.fault.Fault.{Fault}
use Rattle.format.specs.Faults.{fault, codec, bad_number}

-- what can be wrong with the bytes of values
pub data Flaw : Type 0 where
  -- a number that is none
  no_number : Flaw
  -- a running sum above 2^64-1
  overflow : Flaw

-- 6 or 7, at the place of the value part
abbrev pub flaw_at : ℕ → Flaw → Fault
flaw_at place no_number = bad_number place
flaw_at place overflow = fault codec 7 place

-- an answer on the value part at a place
abbrev pub placed : {A : Type 0} → ℕ → Result A Flaw → Result A Fault
placed place (Ok x) = Ok x
placed place (Err f) = Err (flaw_at place f)

-- the most values that a codec holds: as many as a written block can have
abbrev pub most : ℕ
most = 2001

-- The rule: which value may follow a list.
module _ {V : Type 0} (rule : List V → V → Bool) where
  -- each value of a list may follow those before it
  abbrev pub allowed_after : List V → List V → Bool
  allowed_after before [] = true
  allowed_after before (v ∷ vs) = rule before v && allowed_after (before ++ v ∷ []) vs

  abbrev pub Allowed : List V → Type 0
  Allowed vs = allowed_after [] vs ≡ true

  -- a codec takes what the rule allows, while it holds fewer than it can
  abbrev pub takes : List V → V → Bool
  takes vs v = rule vs v && nat_lt (length vs) most

  -- the answer to a value of the entry with an ordinal: 3 where it is not taken
  abbrev pub write_answer : List V → V → ℕ → Result (Unit {0}) Fault
  write_answer vs v ordinal = if takes vs v then Ok tt else Err (fault codec 3 ordinal)

  -- the list after that
  abbrev pub with_value : List V → V → List V
  with_value vs v = if takes vs v then vs ++ v ∷ [] else vs

-- The reading: a part is opened, which gives a cursor and how many bytes belong to the values; the cursor then gives
-- value after value, and nothing where there are no more.
abbrev pub Opened : Type 0
Opened = Result (Cursor × ℕ) Flaw

abbrev pub Stepped : Type 0 → Type 0
Stepped V = Result (Option (V × Cursor)) Flaw

-- the value that a step gives
abbrev pub given : {V : Type 0} → Stepped V → Result (Option V) Flaw
given (Ok (Some p)) = Ok (Some p.0)
given (Ok None) = Ok None
given (Err f) = Err f

-- what a step answers on the value part at a place
abbrev pub step_answer : {V : Type 0} → ℕ → Stepped V → Result (Option V) Fault
step_answer place s = placed place (given s)

-- the cursor after a step: where no value was given it stays
abbrev pub moved : {V : Type 0} → Cursor → Stepped V → Cursor
moved c (Ok (Some p)) = p.1
moved c (Ok None) = c
moved c (Err f) = c

abbrev pub value_of : {V : Type 0} → Stepped V → Option V
value_of (Ok (Some p)) = Some p.0
value_of (Ok None) = None
value_of (Err f) = None

module _ {V : Type 0} (steps : Cursor → List ℕ → Stepped V) where
  -- the value at each place, counted from where a cursor stands
  abbrev pub value_at : Cursor → List ℕ → ℕ → Option V
  value_at c part zero = value_of (steps c part)
  value_at c part (suc i) = value_at (moved c (steps c part)) part i

-- What a codec means: its rule, the bytes of a list, and the reading of any bytes.
pub record Meaning (V : Type 0) : Type 0 where
  pub rule : List V → V → Bool
  pub bytes : List V → List ℕ
  pub opens : List ℕ → Opened
  pub steps : Cursor → List ℕ → Stepped V

-- a meaning by its parts
abbrev pub meant : {V : Type 0} → (List V → V → Bool) → (List V → List ℕ) → (List ℕ → Opened) → (Cursor → List ℕ → Stepped V) → Meaning V
meant rule bytes opens steps = record { rule = rule; bytes = bytes; opens = opens; steps = steps }

module _ {V : Type 0} (means : Meaning V) where
  -- a part reads as a list: so many bytes of it belong to the list, and at each place below its length stands its value
  pub record Reads (part : List ℕ) (vs : List V) (consumed : ℕ) : Type 0 where
    pub cursor : Cursor
    pub opened : means.opens part ≡ Ok (cursor, consumed)
    pub values : (i : ℕ) → i < length vs → value_at means.steps cursor part i ≡ slice_get vs i

-- The laws of a codec, for the lists that it can hold.

module _ {V : Type 0} (means : Meaning V) where
  -- the bytes of an allowed list, followed by any bytes, read as that list
  abbrev pub ReadsBack : Type 0
  ReadsBack = (vs : List V) (rest : List ℕ) → Allowed means.rule vs → length vs ≤ most → Reads means (means.bytes vs ++ rest) vs (length (means.bytes vs))

  -- n values take at most 10 * (n + 2) bytes
  abbrev pub Short : Type 0
  Short = (vs : List V) → Allowed means.rule vs → length vs ≤ most → length (means.bytes vs) ≤ 10 * (length vs + 2)

-- of any part, what belongs to the values lies within it
abbrev pub Within : (List ℕ → Opened) → Type 0
Within opens = (part : List ℕ) (cursor : Cursor) (consumed : ℕ) → opens part ≡ Ok (cursor, consumed) → consumed ≤ length part
