use Rattle.std.proofs.Common.{rules}
use Rattle.codec.specs.Meanings.{meaning}
use Rattle.writer.proofs.ByEntries.{calls}
use Rattle.writer.proofs.writer.Writer.insert_value.Goals as goal

pub returns-in_err-insert-clause-entries : goal.returns-in_err-insert-clause-entries
returns-in_err-insert-clause-entries g c = calls (meaning g.C.Codec) _ _ _ _ _ _ (search rules)

pub returns-clause-entries : goal.returns-clause-entries
returns-clause-entries g c = calls (meaning g.C.Codec) _ _ _ _ _ _ (search rules)
