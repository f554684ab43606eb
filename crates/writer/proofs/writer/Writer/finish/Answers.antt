use Rattle.std.proofs.Common.{rules}
use Rattle.codec.specs.Meanings.{meaning}
use Rattle.writer.proofs.ByEntries.{calls}
use Rattle.writer.proofs.writer.Writer.finish.Goals as goal

pub returns-in_err-check_finish-clause-entries : goal.returns-in_err-check_finish-clause-entries
returns-in_err-check_finish-clause-entries g c = calls (meaning g.C.Codec) _ _ _ _ _ _ (search rules)

pub returns-clause-entries : goal.returns-clause-entries
returns-clause-entries g c = calls (meaning g.C.Codec) _ _ _ _ _ _ (search rules)
