use Rattle.std.proofs.Common.{◌≡◌, ℕ, drop, Some, None, Err, sym, ap, ◌∙◌, arith}
use Rattle.std.proofs.lemmas.Result.{err_from_is_err_and}
use Rattle.format.specs.Codecs.{placed}
use Rattle.format.specs.declared.fault.Fault.{Fault}
use Rattle.format.specs.Faults.{bad_number}
use Rattle.format.specs.Numbers.{read_leb}
use Rattle.format.proofs.FaultLaws.{or_none, or_some}
use Rattle.format.proofs.RangeLaws.{opens_zero, opens_some}
use Rattle.codec.specs.Told.{of_number}
use Rattle.codec.proofs.range.RangeValuesCodec.load.Goals as goal
use Rattle.codec.proofs.range.RangeValuesCodec.load.Goals.{in-None, in-Some+in_ok-n-in-Some}

pub returns-in_err-n-in-Some : goal.returns-in_err-n-in-Some
returns-in_err-n-in-Some c =
    let part = c.args.part.bytes.now in
    let n = c.in_ok-next.next in
    let o = or_some (read_leb part) (bad_number c.args.part.place) (n, c.in_ok-next.count) c.in_ok-next.ensures.value in
    let h = rw (c.rest.ensures.bytes, c.rest.ensures.place) at c.in_err-n-in-Some.ensures.value in
    let q = or_none (read_leb (drop n part)) (bad_number c.args.part.place) (of_number c.in_err-n-in-Some.field-0.0) h in
    let e = opens_some part n c.in_ok-next.count None o (omega (arith, c.in-Some.ensures)) q.0 in
    let p = err_from_is_err_and c.from_residual-in_err-n-in-Some.result c.from_residual-in_err-n-in-Some.ensures.1 in
    rw (p.1, p.2) (ap (λ (f : Fault). Err f) q.1 ∙ sym (ap (placed c.args.part.place) e))

pub returns : goal.returns
returns c =
    let part = c.args.part.bytes.now in
    let n = c.in_ok-next.next in
    let count = c.in_ok-next.count in
    let o = or_some (read_leb part) (bad_number c.args.part.place) (n, count) c.in_ok-next.ensures.value in
    elim c.match-checked_sub.branch [
      | in-None w ↦
          let z : count ≡ 0 = omega (arith, w.in-None.ensures) in
          let f = rw (w.first-is, w.default.ensures.1.0, w.default.ensures.1.1) at c.whole.ensures in
          f ∙ sym (ap (placed c.args.part.place) (opens_zero part n count o z))
      | in-Some+in_ok-n-in-Some w ↦
          let h = rw (w.rest.ensures.bytes, w.rest.ensures.place) at w.in_ok-n-in-Some.ensures.value in
          let read : ℕ × ℕ = (w.in_ok-n-in-Some.n, w.in_ok-n-in-Some.last) in
          let q = or_some (read_leb (drop n part)) (bad_number c.args.part.place) read h in
          let f = rw (w.first-is, w.in-Some.ensures.1) at c.whole.ensures in
          f ∙ sym (ap (placed c.args.part.place) (opens_some part n count (Some read) o (omega (arith, w.in-Some.ensures)) q))
    ]
