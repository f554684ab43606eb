use Rattle.std.proofs.Common.{rules}
use Rattle.codec.specs.Meanings.{meaning}
use Rattle.writer.proofs.ByEntries.{calls}
use Rattle.writer.proofs.writer.Writer.insert_key.Goals as goal

pub returns-in_err-key-clause-entries : goal.returns-in_err-key-clause-entries
returns-in_err-key-clause-entries g c = λ out. calls (meaning g.C.Codec) _ _ out _ _ _ (record { answers = search rules; leaves = search rules; writes = search rules })
