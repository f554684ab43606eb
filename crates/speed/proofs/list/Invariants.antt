use Rattle.std.proofs.Common.{◌-◌, length}
use Rattle.speed.proofs.Steps.{position_at, Inside}
use Rattle.speed.proofs.list.Given as goal

abbrev pub invariant-loop-delta : goal.invariant-loop-delta
invariant-loop-delta l = Inside l.area l.reader

abbrev pub decreases-loop-delta : goal.decreases-loop-delta
decreases-loop-delta l = length l.area - (position_at l.reader).next
