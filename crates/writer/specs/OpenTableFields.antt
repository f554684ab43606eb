-- The fields of an sstable that is being written, and what they come to.
use Rattle.std.specs.Prelude.{◌≡◌, ◌+◌, ◌*◌, ◌≤◌, length}
use Rattle.block.specs.Positions.{last_of}
use Rattle.format.specs.Keys.{longest}
use Rattle.format.specs.Reading.{key_of}
use Rattle.writer.specs.declared.open_table.OpenTable.TheInside.{Inside}
use Rattle.writer.specs.States.{OpenTable, last_key}

module _ {C V : Type 0} where
  abbrev pub table_view : Inside C V → OpenTable V
  table_view t = record { last = last_of t.last; block = t.block; end = t.end; ordinal = t.ordinal }

  pub record IsOpenTable (t : Inside C V) : Type 0 where
    -- no key is the last one until an entry was taken
    pub first : last_key (table_view t) ≡ last_of t.last
    pub last_short : length (key_of (last_of t.last)) ≤ longest
    pub short : length t.block.delta ≤ 4000
    -- an entry adds at least one byte to the delta part, and a flush of at most 4,533 of them writes five more
    pub counted : 4538 * t.ordinal ≤ 4533 * t.end + 4538 * length t.block.delta
