-- What is built in memory of its own.
use Rattle.std.specs.Prelude.{◌≡◌, ℕ, List, Ok, Err, Result, vec_items}
use Rattle.std.specs.Global.{Vec}
use Rattle.format.specs.Monotonic.{u64_bytes}
use Rattle.format.specs.Tables.{Entry, sstable}
use Rattle.building.specs.declared.fault.BuildFault.{BuildFault}
use Rattle.building.specs.Built.{Built, whole, Stops}

-- the most bytes of its sstable
unfoldable pub most : ℕ
most = 1048576

-- the sstable, or what stopped it
abbrev pub Gives : Built → Result (Vec ℕ) BuildFault → Type 0
Gives b (Ok v) = (es : List (Entry ℕ)) × (b ≡ whole es) × (vec_items v ≡ sstable u64_bytes es)
Gives b (Err f) = Stops b f
