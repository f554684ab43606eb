use Rattle.std.proofs.Common.{◌≡◌}
use Rattle.format.specs.Sums.{end_in}
use Rattle.codec.proofs.sums.end_of.Given as goal

abbrev pub invariant-loop : goal.invariant-loop
invariant-loop l = end_in l.cursor.left l.cursor l.part.bytes.now ≡ end_in l.initial.cursor.left l.initial.cursor l.part.bytes.now

abbrev pub decreases-loop : goal.decreases-loop
decreases-loop l = l.cursor.left
