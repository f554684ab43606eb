use Rattle.std.proofs.Common.{sym, subst}
use Rattle.codec.specs.Meanings.{meaning}
use Rattle.writer.specs.States.{Steps}
use Rattle.sstable.specs.Calls.{call_of}
use Rattle.sstable.proofs.run.apply.Goals as goal

pub returns-in-InsertKey : goal.returns-in-InsertKey
returns-in-InsertKey g c =
    subst (λ k. Steps (meaning g.C.Codec) (call_of k) c.args.writer.now c.args.output.now c.insert_key.result c.insert_key.new.self c.args.output.now) (sym c.in-InsertKey.is)
    (c.insert_key.ensures.steps c.args.output.now)
