-- Blocks as the code answers them.
use Rattle.std.specs.Prelude.{◌≡◌, ℕ, ◌+◌, ◌<◌, ◌≤◌, cond, List, length, Some, None, Ok, Err, Option, Result, nat_lt}
use Rattle.format.specs.declared.Cursor.{Cursor}
use Rattle.format.specs.Codecs.{Meaning, placed}
use Rattle.format.specs.declared.fault.Fault.{Fault}
use Rattle.format.specs.Faults.{fault, call}
use Rattle.format.specs.Reading.{block_at, content}
use Rattle.block.specs.declared.frame.Block.{Block}

-- where a block that was found ends
abbrev pub end_of : Result (Option Block) Fault → Result (Option ℕ) Fault
end_of (Ok (Some b)) = Ok (Some b.end)
end_of (Ok None) = Ok None
end_of (Err f) = Err f

-- where the block at a place of an area ends: 14 where the place lies outside
abbrev pub end_at : List ℕ → ℕ → Result (Option ℕ) Fault
end_at area place = cond (nat_lt (length area) place) (Err (fault call 14 place)) (block_at area place)

-- A block begins at one place, has content, and ends no later than another.
pub record LiesIn (from to : ℕ) (b : Block) : Type 0 where
  pub start : b.start ≡ from
  pub some : from + 5 < b.end
  pub end : b.end ≤ to

-- A block has a length word and a flag, and ends within an area.
pub record IsWithin (area : List ℕ) (b : Block) : Type 0 where
  pub head : b.start + 5 ≤ b.end
  pub end : b.end ≤ length area

-- the values of a block: where their reading begins, and how many bytes they take
abbrev pub values_in : {V : Type 0} → Meaning V → List ℕ → Block → Result (Cursor × ℕ) Fault
values_in means area b = placed (b.start + 5) (means.opens (content area b.start b.end))
