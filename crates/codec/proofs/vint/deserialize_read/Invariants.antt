use Rattle.std.proofs.Common.{◌≡◌, ◌*◌, ◌^◌, ◌<◌}
use Rattle.format.specs.Numbers.{read_leb}
use Rattle.format.proofs.NumberLaws.{goes_on}
use Rattle.codec.proofs.vint.deserialize_read.Given as goal

abbrev pub invariant-loop-i : goal.invariant-loop-i
invariant-loop-i l =
    let bs = l.part.bytes.now in record { on : read_leb bs ≡ goes_on bs l.value (2 ^ (7 * l.i)) l.i; below : l.value < 2 ^ (7 * l.i); ten : l.i < 10 }
