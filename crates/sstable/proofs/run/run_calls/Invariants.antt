use Rattle.std.proofs.Common.{◌≡◌, ◌≤◌, map, length, take, vec_items, vec_len, vec_capacity}
use Rattle.codec.specs.Meanings.{meaning}
use Rattle.format.specs.Faults.{told}
use Rattle.writer.specs.Told.{of_writer}
use Rattle.sstable.specs.Calls.{call_of}
use Rattle.sstable.proofs.History.{Ran}
use Rattle.sstable.proofs.run.run_calls.Given as goal

abbrev pub invariant-loop-call : goal.invariant-loop-call
invariant-loop-call g l =
    record {
      count : vec_len l.answers ≡ l.call-index;
      room : length l.calls ≤ vec_capacity l.answers;
      ran : Ran (meaning g.C.Codec) l.initial.output (map call_of (take l.call-index l.calls)) (map (told of_writer) (vec_items l.answers)) l.writer l.output;
    }
