-- The fields of a writer, and what they come to.
use Rattle.writer.specs.declared.writer.Writer.TheInside.{Inside}
use Rattle.writer.specs.States.{State}

module _ {C V : Type 0} where
  abbrev pub writer_view : Inside C V → State V
  writer_view w = record { phase = w.phase; waiting = w.waiting.items; table = w.table }
