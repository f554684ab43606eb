use Rattle.std.proofs.Common.{◌^◌, ◌<◌, ltb, ℕ, ap, arith}
use Rattle.std.proofs.lemmas.Bool.{le-leb}
use Rattle.format.proofs.RangeLaws.{takes_where}
use Rattle.codec.proofs.range.RangeValuesCodec.allows.Goals as goal

pub returns-then-v : goal.returns-then-v
returns-then-v c =
    let es = c.args.self.now.edges in
    let v = c.args.v in
    let s : v.end < 2 ^ 64 = omega arith in
    rw (takes_where es v s, ← c.joins.ensures, c.if-v.true.0, le-leb v.start v.end c.if-v.true.1) (ap (λ (n : ℕ). ltb n 2002) c.len.ensures)
