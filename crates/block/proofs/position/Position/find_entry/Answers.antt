use Rattle.std.proofs.Common.{arith}
use Rattle.std.proofs.lemmas.List.{take_all}
use Rattle.std.proofs.lemmas.Grind.{common_steps}
use Rattle.format.specs.Reading.{key_of}
use Rattle.block.proofs.position.Position.find_entry.Goals as goal

pub returns-clause-answer : goal.returns-clause-answer
returns-clause-answer g c =
    let whole = take_all c.key_len.result (key_of c.args.self.now.last) (omega arith) in
    rw whole (grind (arith, common_steps))
