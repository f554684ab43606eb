use Rattle.std.proofs.Common.{ap}
use Rattle.format.specs.Sums.{counted}
use Rattle.format.proofs.RangeLaws.{edges_of}
use Rattle.codec.proofs.range.RangeValuesCodec.serialize_block.Goals as goal

pub returns : goal.returns
returns c = let w = c.args.self.now in rw (ap counted (edges_of w.edges w.paired)) c.serialize.ensures
