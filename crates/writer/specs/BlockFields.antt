-- The fields of an open block, and what they come to.
use Rattle.std.specs.Prelude.{◌≤◌, List, vec_items, vec_len, vec_capacity}
use Rattle.writer.specs.declared.open_block.OpenBlock.TheInside.{Inside}
use Rattle.writer.specs.States.{Block}

module _ {C V : Type 0} where
  abbrev pub block_view : (C → List V) → Inside C V → Block V
  block_view list b = record { vals = list b.codec; delta = vec_items b.delta }

  -- the delta part has at most 4,000 bytes and one entry, in memory that does not grow
  pub record IsBlock (b : Inside C V) : Type 0 where
    pub short : vec_len b.delta ≤ 4533
    pub room : 4533 ≤ vec_capacity b.delta
