use Rattle.std.proofs.Common.{◌≡◌, ℕ, ◌+◌, ◌*◌, ◌%◌, ◌^◌, ◌<◌, ◌≤◌, List, get_or, None, Ok, Err, sym, ap, ◌∙◌, arith}
use Rattle.format.specs.Faults.{or_fault, bad_number}
use Rattle.format.specs.Numbers.{Number, read_leb}
use Rattle.format.proofs.NumberLaws.{goes_unended, goes_fits, goes_tenth, goes_more, grows_shifted, next_scale, sum_fits, shifted}
use Rattle.codec.specs.declared.fault.NumberFault.TheVariants as number_fault
use Rattle.codec.specs.NumberBack.{NumberBack}
use Rattle.codec.proofs.NumberReads.{number_back}
use Rattle.codec.proofs.vint.deserialize_read.Goals as goal
use Rattle.codec.proofs.vint.deserialize_read.Goals.{else-i-eq-LAST_INDEX-via-then-i-eq-LAST_INDEX+else-b-gt-LAST_LIMIT as tenth, else-i-eq-LAST_INDEX-via-else-i-eq-LAST_INDEX as other}

-- what is answered to bytes that are no number
bad : (bs : List ℕ) (place : ℕ) → read_leb bs ≡ None → record {
  value : Err (bad_number place) ≡ or_fault (read_leb bs) (bad_number place);
  some : Unit {0};
  ten : Unit {0};
  within : Unit {0};
  back : NumberBack bs (Err (number_fault.Bad place));
}
bad bs place e =
    let v = sym (ap (λ (r : Number). or_fault r (bad_number place)) e) in
    record { value = v; some = tt; ten = tt; within = tt; back = number_back bs place (Err (number_fault.Bad place)) v }

pub returns-then-b-lt-CONTINUE_BIT : goal.returns-then-b-lt-CONTINUE_BIT
returns-then-b-lt-CONTINUE_BIT c =
    let bs = c.args.part.bytes.now in
    let i = c.loop-i.i in
    let value = c.loop-i.value in
    let b = get_or bs i 0 in
    let t : i ≡ 9 → b ≤ 1 = elim c.else-i-eq-LAST_INDEX.branch [ tenth p ↦ λ e. omega arith | other p ↦ λ e. omega arith ] in
    let w = sum_fits value b i c.loop-i.invariant.ten c.loop-i.invariant.below t in
    let e = c.loop-i.invariant.on ∙ goes_fits bs value (2 ^ (7 * i)) i c.loop-i.invariant.ten (omega arith) (omega arith) w in
    let v = sym (ap (λ (r : Number). or_fault r (bad_number c.args.part.place)) e) in
    rw (c.from.ensures, shifted value b (7 * i) c.loop-i.invariant.below w)
    (record { value = v; some = omega arith; ten = omega arith; within = omega arith; back = number_back bs c.args.part.place (Ok (i + 1, value + b % 128 * 2 ^ (7 * i))) v })

pub loop-i-preserved : goal.loop-i-preserved
loop-i-preserved c =
    let bs = c.args.part.bytes.now in
    let i = c.loop-i.i in
    let value = c.loop-i.value in
    let b = get_or bs i 0 in
    let u : i < 9 = elim c.else-i-eq-LAST_INDEX.branch [ tenth p ↦ omega arith | other p ↦ omega arith ] in
    let w = sum_fits value b i c.loop-i.invariant.ten c.loop-i.invariant.below (λ e. omega arith) in
    let g = goes_more bs value (2 ^ (7 * i)) i c.loop-i.invariant.ten (omega arith) (omega arith) in
    rw (c.from.ensures, shifted value b (7 * i) c.loop-i.invariant.below w)
    (record { on = rw (next_scale i) (c.loop-i.invariant.on ∙ g); below = grows_shifted value b i c.loop-i.invariant.below; ten = omega arith })

pub returns-after-loop-i : goal.returns-after-loop-i
returns-after-loop-i c =
    let bs = c.args.part.bytes.now in
    let i = c.loop-i.i in
    bad bs c.args.part.place (c.loop-i.invariant.on ∙ goes_unended bs c.loop-i.value (2 ^ (7 * i)) i c.loop-i.invariant.ten (omega arith))

pub returns-then-b-gt-LAST_LIMIT : goal.returns-then-b-gt-LAST_LIMIT
returns-then-b-gt-LAST_LIMIT c =
    let bs = c.args.part.bytes.now in
    bad bs c.args.part.place (c.loop-i.invariant.on ∙ goes_tenth bs c.loop-i.value c.loop-i.i (omega arith) (omega arith) (omega arith))
