use Rattle.std.proofs.Common.{◌≡◌, ◌+◌, length}
use Rattle.format.specs.Buffers.{written}
use Rattle.format.specs.Numbers.{leb}
use Rattle.codec.proofs.vint.put.Given as goal

abbrev pub invariant-loop-rest : goal.invariant-loop-rest
invariant-loop-rest l =
    (written l.buffer l.at (leb l.rest) ≡ written l.initial.buffer l.start (leb l.val))
    × (l.at + length (leb l.rest) ≡ l.start + length (leb l.val))

abbrev pub decreases-loop-rest : goal.decreases-loop-rest
decreases-loop-rest l = l.rest
