use Rattle.std.proofs.Common.{suc, ◌*◌, ◌/◌, ◌≤◌, sym, arith}
use Rattle.std.proofs.Math.Nat.{pow-suc}
use Rattle.std.proofs.Math.Pow.{pow_mono}
use Rattle.format.proofs.NumberLaws.{leb_bits}
use Rattle.codec.proofs.vint.serialized_len.Goals as goal

pub returns-clause-value : goal.returns-clause-value
returns-clause-value c =
    let r = c.ilog2.result in
    let low : 7 * (r / 7) ≤ r = omega arith in
    let high : suc r ≤ 7 * suc (r / 7) = omega arith in
    sym (leb_bits (r / 7) c.args.val (omega (arith, pow_mono high, pow-suc 2 r)) (λ z. let seven : 7 ≤ r = omega arith in omega (arith, pow_mono low, pow_mono seven)))
