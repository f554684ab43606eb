use Rattle.std.proofs.Common.{rules, ◌≡◌, ℕ, Bool, true, eqb, IsTrue, MatchOption, Some, None, Option}
use Rattle.format.proofs.RangeLaws.{joins_where}
use Rattle.codec.proofs.range.RangeValues.joins.Goals as goal

none_or : (o : Option ℕ) (start : ℕ) (b : Bool) → MatchOption o (IsTrue b) (λ x. b ≡ eqb x start) → b ≡ elim o [ None ↦ true | Some x ↦ eqb x start ]
none_or None start b m = m
none_or (Some x) start b m = m

pub returns : goal.returns
returns c =
    let w = c.args.self.now in
    let m : MatchOption c.last.result (IsTrue c.is_none_or.result) (λ x. c.is_none_or.result ≡ eqb x c.args.start) = search rules in
    rw (joins_where w.edges c.args.start w.paired, ← c.last.ensures) (none_or c.last.result c.args.start c.is_none_or.result m)
