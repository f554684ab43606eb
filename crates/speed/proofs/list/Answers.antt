use Rattle.std.proofs.Common.{◌<◌, Ok, sym, ap, ◌∙◌, arith}
use Rattle.block.specs.Entries.{delta_of}
use Rattle.block.specs.Readers.{told_delta}
use Rattle.speed.proofs.Steps.{Inside, position_at, advanced}
use Rattle.speed.proofs.list.Goals as goal

turn : (c : goal.After-map_or-key_len) → Inside c.args.area.now c.advance.new.self × ((position_at c.loop-delta.reader).next < (position_at c.advance.new.self).next)
turn c =
    advanced c.args.area.now c.loop-delta.reader c.advance.new.self (delta_of c.in-Ok-Some.delta) c.loop-delta.invariant
    (ap told_delta (sym (c.in-Ok-Some.is ∙ ap Ok c.in-Ok-Some.field-0-is)) ∙ c.advance.ensures.answers) c.advance.ensures.leaves

pub loop-delta-smaller : goal.loop-delta-smaller
loop-delta-smaller c = let t = turn c in omega (arith, t.0.within)

pub loop-delta-preserved : goal.loop-delta-preserved
loop-delta-preserved c = (turn c).0
