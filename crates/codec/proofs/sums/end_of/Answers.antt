use Rattle.std.proofs.Common.{sym, ap, ◌∙◌}
use Rattle.std.proofs.lemmas.Result.{err_from_is_err_and}
use Rattle.format.specs.Codecs.{placed}
use Rattle.format.proofs.SumLaws.{walks_on, walks_to_flaw}
use Rattle.codec.specs.Told.{of_codec}
use Rattle.codec.proofs.sums.end_of.Goals as goal

pub returns-in_err-rise : goal.returns-in_err-rise
returns-in_err-rise c =
    let p = err_from_is_err_and c.from_residual.result c.from_residual.ensures.1 in
    let place = c.args.part.place in
    let w = walks_to_flaw c.loop.cursor c.args.part.bytes.now place (of_codec c.in_err-rise.field-0.0) c.in_err-rise.ensures.answer in
    rw (p.1, p.2) (sym w ∙ ap (placed place) c.loop.invariant)

pub loop-preserved : goal.loop-preserved
loop-preserved c =
    let a = rw c.in-Some.is at c.in_ok-rise.ensures.answer in
    (walks_on c.loop.cursor c.rise.new.cursor c.args.part.bytes.now c.args.part.place c.in-Some.field-0 a c.rise.ensures.after).0 ∙ c.loop.invariant
