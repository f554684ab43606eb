use Rattle.std.proofs.Common.{◌≡◌, ◌+◌, length, sym, ap, ◌∙◌, arith}
use Rattle.std.proofs.lemmas.List.{length_push}
use Rattle.std.proofs.lemmas.Bool.{cond-true, iff_false}
use Rattle.format.specs.Ranges.{range_rule, ranges_of}
use Rattle.format.proofs.CodecLaws.{allowed_push}
use Rattle.format.proofs.RangeLaws.{Started, started_first, started_next}
use Rattle.codec.proofs.range.RangeValuesCodec.write.Goals as goal
use Rattle.codec.proofs.range.RangeValuesCodec.write.Goals.{then-is_empty, else-is_empty}

-- the edges before the range's end
started : (c : goal.After-push-arg-2-1) → Started c.args.self.now.edges c.args.v c.if-is_empty.self.1.0
started c =
    let w = c.args.self.now in
    let v = c.args.v in
    let t = c.in_ok-check.ensures.allowed in
    elim c.if-is_empty.branch [
      | then-is_empty p ↦ rw (p.self-is, p.push.ensures) (started_first w.edges v t (c.is_empty.ensures.0 p.if-is_empty.true))
      | else-is_empty p ↦ rw p.self-is (started_next w.edges v t (omega (arith, iff_false c.is_empty.ensures p.if-is_empty.false)) w.paired)
    ]

pub push-requires-2 : goal.push-requires-2
push-requires-2 c = let s = started c in record { few = s.few; rising = s.last }

pub invariant_of-self : goal.invariant_of-self
invariant_of-self c =
    let w = c.args.self.now in
    let v = c.args.v in
    let s = started c.before in
    let n : length c.push-2.new.self ≡ length c.if-is_empty.self.1.0 + 1 = ap length c.push-2.ensures ∙ length_push c.if-is_empty.self.1.0 v.end in
    record {
      few = omega (arith, n, s.few);
      paired = λ q. omega (arith, n, s.some);
      allowed = rw (c.push-2.ensures, s.ranges) (allowed_push range_rule (ranges_of w.edges) v w.allowed s.allowed);
    }

pub returns-clause-after : goal.returns-clause-after
returns-clause-after c =
    let s = started c.before.before in
    ap ranges_of c.push-2.ensures ∙ s.ranges ∙ sym (cond-true _ _ _ c.in_ok-check.ensures.allowed)
