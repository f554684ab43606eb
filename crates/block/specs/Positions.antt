-- Where a reading stands, by the fields that hold it.
use Rattle.std.specs.Prelude.{ℕ, ◌+◌, ◌<◌, ◌≤◌, List, length, Some, None, Option}
use Rattle.arrayvec.specs.ArrayVec.{ArrayVec}
use Rattle.format.specs.Keys.{longest}
use Rattle.format.specs.Reading.{Position, key_of}
use Rattle.block.specs.declared.position.Position.TheInside.{Inside}

-- the bytes of a key that may be missing
abbrev pub last_of : Option (ArrayVec ℕ) → Option (List ℕ)
last_of None = None
last_of (Some key) = Some key.items

abbrev pub position_of : Inside → Position
position_of p =
    record {
      start = p.start;
      finish = p.finish;
      next = p.next;
      cursor = p.cursor;
      last = last_of p.last;
      ordinal = p.ordinal;
    }

-- what holds of a reading wherever it stands
pub record IsPlace (p : Position) : Type 0 where
  pub within : p.next ≤ p.finish
  pub behind : p.next < p.finish → p.start + 5 ≤ p.next
  -- each entry has a header
  pub counted : p.ordinal ≤ p.next
  pub short : length (key_of p.last) ≤ longest

abbrev pub IsPosition : Inside → Type 0
IsPosition p = IsPlace (position_of p)
