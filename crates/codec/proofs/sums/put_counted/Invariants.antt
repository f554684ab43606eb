use Rattle.std.proofs.Common.{◌≡◌, ◌+◌, length, drop}
use Rattle.format.specs.Buffers.{written}
use Rattle.format.specs.Sums.{rises}
use Rattle.format.proofs.SumLaws.{Rising}
use Rattle.codec.proofs.sums.put_counted.Given as goal

abbrev pub invariant-loop-v : goal.invariant-loop-v
invariant-loop-v l =
    let left = drop l.v-index l.vals in
    record {
      rising : Rising l.last left;
      bytes : written l.output l.at (rises l.last left) ≡ written l.initial.output l.initial.at (rises 0 l.vals);
      ends : l.at + length (rises l.last left) ≡ l.initial.at + length (rises 0 l.vals);
    }
