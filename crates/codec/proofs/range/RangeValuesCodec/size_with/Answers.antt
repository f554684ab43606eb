use Rattle.std.proofs.Common.{ℕ, ◌<◌, List, length, sym, ap, ◌∙◌, arith}
use Rattle.std.proofs.lemmas.Bool.{iff_false}
use Rattle.format.specs.Sums.{counted}
use Rattle.format.proofs.RangeLaws.{edges_push}
use Rattle.codec.proofs.range.RangeValuesCodec.size_with.Goals as goal

pub returns : goal.returns
returns c =
    let w = c.args.self.now in
    let v = c.args.v in
    let h : 0 < length w.edges = omega (arith, iff_false c.is_empty.ensures c.if-is_empty.false) in
    c.size_with.ensures ∙ sym (ap (λ (fs : List ℕ). length (counted fs)) (edges_push w.edges v h w.paired))
