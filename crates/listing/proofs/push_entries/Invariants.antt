use Rattle.std.proofs.Common.{◌-◌, ◌++◌, length, string_bytes}
use Rattle.format.specs.Monotonic.{u64_meaning}
use Rattle.format.specs.Reading.{read_area}
use Rattle.listing.specs.Listing.{listed}
use Rattle.listing.proofs.Steps.{position_at, At}
use Rattle.listing.proofs.push_entries.Given as goal

abbrev pub invariant-loop-delta : goal.invariant-loop-delta
invariant-loop-delta l = At l.area (string_bytes l.initial.text ++ listed 0 (read_area u64_meaning l.area)) (string_bytes l.text) l.count l.reader

abbrev pub decreases-loop-delta : goal.decreases-loop-delta
decreases-loop-delta l = length l.area - (position_at l.reader).next
