use Rattle.std.proofs.Common.{◌≡◌, ℕ, suc, ◌+◌, ◌<◌, List, length, get_or, drop, Some, Ok, sym, ap, ◌∙◌, arith}
use Rattle.std.proofs.lemmas.Grind.{common_steps}
use Rattle.std.proofs.lemmas.List.{drop-drop}
use Rattle.format.specs.Faults.{or_fault, bad_number}
use Rattle.format.specs.Headers.{Header, read_header, pair_of, length_of}
use Rattle.format.specs.Numbers.{read_leb}
use Rattle.format.proofs.FaultLaws.{or_some}
use Rattle.format.proofs.HeaderLaws.{head_long}
use Rattle.block.proofs.header.read_keep_add.Goals as goal

-- 01 and two numbers
long_at : (bs : List ℕ) (at n keep m add : ℕ) → at < length bs → get_or bs at 0 ≡ 1
    → Ok (n, keep) ≡ or_fault (read_leb (drop (at + 1) bs)) (bad_number at) → Ok (m, add) ≡ or_fault (read_leb (drop n (drop (at + 1) bs))) (bad_number at)
    → read_header (drop at bs) ≡ Some (suc (n + m), (keep, add))
long_at bs at n keep m add h b k a =
    head_long bs at n keep m add h b (or_some (read_leb (drop (at + 1) bs)) (bad_number at) (n, keep) k)
    (ap read_leb (sym (drop-drop n (at + 1) bs)) ∙ or_some (read_leb (drop n (drop (at + 1) bs))) (bad_number at) (m, add) a)

pub returns : goal.returns
returns c =
    let bs = c.args.block.now in
    let at = c.args.offset.now in
    let n = c.in_ok-n.n in
    let b = rw c.in-Some.is at c.get.ensures.lookup in
    let k = rw (c.rest-numbers.ensures.bytes, c.rest-numbers.ensures.place) at c.in_ok-n.ensures.value in
    let a =
    rw (c.rest.ensures.bytes, c.rest-numbers.ensures.bytes, c.rest.ensures.place, c.rest-numbers.ensures.place) at c.in_ok-m.ensures.value in
    let h = long_at bs at n c.in_ok-n.keep c.in_ok-m.m c.in_ok-m.add b.3.0 (omega arith) k a in
    record {
      answer = sym (ap (λ (z : Header). or_fault (pair_of z) (bad_number at)) h);
      after = omega (arith, ap length_of h);
      back = grind (arith, common_steps);
      within = (omega arith, grind (arith, common_steps));
    }
