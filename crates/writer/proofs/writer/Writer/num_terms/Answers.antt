use Rattle.std.proofs.Common.{◌+◌, ◌*◌, ◌≤◌, length}
use Rattle.format.specs.Keys.{longest}
use Rattle.format.specs.Reading.{key_of}
use Rattle.writer.proofs.writer.Writer.num_terms.Goals as goal

pub returns-clause-sound : goal.returns-clause-sound
returns-clause-sound g c =
    let t = c.self-inside.invariant in
    let s = c.self.inside.table in
    let last : length (key_of s.last) ≤ longest = rw (← c.self-inside.view_is) t.last_short in
    let delta : length s.block.delta ≤ 4000 = rw (← c.self-inside.view_is) t.short in
    let counted : 4538 * s.ordinal ≤ 4533 * s.end + 4538 * length s.block.delta = rw (← c.self-inside.view_is) t.counted in
    rw (← c.self.view_is) record { last_short = last; waiting_short = c.self.invariant; delta_short = delta; counted = counted }
