-- What a list of calls on a new writer answers, and what it leaves in the output.
use Rattle.std.specs.Prelude.{◌≡◌, ℕ, List, map, MatchResult, Result, Vec}
use Rattle.std.specs.declared.alloc.AllocError.{AllocError}
use Rattle.format.specs.Codecs.{Meaning}
use Rattle.format.specs.Faults.{told}
use Rattle.format.specs.Laws.{Writes}
use Rattle.writer.specs.declared.fault.WriterFault.{WriterFault}
use Rattle.writer.specs.Told.{of_writer}
use Rattle.sstable.specs.declared.call.Call.{Call}
use Rattle.sstable.specs.Calls.{call_of}

-- Each call is answered, and the output is written, as the rules over the entries taken before it say; without memory nothing is touched.
abbrev pub Runs : {V A : Type 0} → Meaning V → List (Call V) → List ℕ → Result (Vec (Result (Unit {0}) WriterFault) A) AllocError → List ℕ → Type 0
Runs means calls old result left =
    MatchResult result (λ got. Writes means old (map call_of calls) (map (told of_writer) got.items) left) (λ _. left ≡ old)
