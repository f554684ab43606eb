use Rattle.std.proofs.Common.{ℕ, List, length, sym, ap, ◌∙◌}
use Rattle.format.specs.Sums.{counted}
use Rattle.format.proofs.RangeLaws.{edges_of}
use Rattle.codec.proofs.range.RangeValuesCodec.size.Goals as goal

pub returns : goal.returns
returns c = let w = c.args.self.now in c.size.ensures ∙ sym (ap (λ (es : List ℕ). length (counted es)) (edges_of w.edges w.paired))
