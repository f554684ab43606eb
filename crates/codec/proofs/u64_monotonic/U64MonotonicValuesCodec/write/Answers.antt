use Rattle.std.proofs.Common.{ltb, length, ap, arith}
use Rattle.std.proofs.lemmas.List.{length_push}
use Rattle.std.proofs.lemmas.Bool.{and_parts, ltb-true}
use Rattle.format.specs.Monotonic.{u64_rule}
use Rattle.format.proofs.CodecLaws.{allowed_push}
use Rattle.codec.proofs.u64_monotonic.U64MonotonicValuesCodec.write.Goals as goal

pub invariant_of-self : goal.invariant_of-self
invariant_of-self c =
    let w = c.args.self.now in
    let v = c.args.v in
    let t = and_parts (u64_rule w.vals v) (ltb (length w.vals) 2001) c.in_ok-check.ensures.allowed in
    record {
      few = omega (arith, ltb-true (length w.vals) 2001 t.1, ap length c.push.ensures, length_push w.vals v);
      allowed = rw c.push.ensures (allowed_push u64_rule w.vals v w.allowed t.0);
    }
