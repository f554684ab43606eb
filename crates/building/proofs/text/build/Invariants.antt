use Rattle.std.specs.Iterator.Adapters.{enumerate_source, enumerate_count}
use Rattle.building.specs.Lines.{lines_of}
use Rattle.building.proofs.Builds.{At}
use Rattle.building.proofs.text.build.Given as goal

abbrev pub invariant-loop-above : goal.invariant-loop-above
invariant-loop-above l =
    (goal.iterator-loop-above).can_next l.above-iterator
    × (goal.iterator-loop-above).is_finite l.above-iterator
    × At l.initial.output l.text (enumerate_count l.above-iterator) (lines_of (enumerate_source l.above-iterator).0.now) l.writer l.output
