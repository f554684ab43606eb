use Rattle.std.proofs.Common.{rules, tests, eqb, take, ◌∙◌, arith}
use Rattle.std.proofs.lemmas.Iterator.{YieldsList-from_slice, YieldsList-from_zip}
use Rattle.std.proofs.lemmas.Iterator.Consumers.{count_from_yields_List}
use Rattle.std.proofs.lemmas.Iterator.Search.{YieldsList-from_take_while}
use Rattle.block.proofs.Fronts.{prefix_shared, shared_cut}
use Rattle.block.proofs.keys.common_prefix_len.Goals as goal

pub returns-clause-value : goal.returns-clause-value
returns-clause-value c =
    let n = c.min-shorter.result in
    let a = take n c.args.left.now in
    let b = take n c.args.right.now in
    count_from_yields_List c.take_while.result _ c.count.ensures.ran
    (YieldsList-from_take_while _ (λ p. eqb p.0 p.1) (YieldsList-from_zip (YieldsList-from_slice a cc) (YieldsList-from_slice b cc)) c.take_while.ensures.closure c.take_while.ensures.done (λ x b q k. search (rules, tests)))
    ∙ prefix_shared a b ∙ shared_cut n c.args.left.now c.args.right.now (λ h. omega (arith, c.min-shorter.ensures))
