use Rattle.std.proofs.Common.{◌≡◌, ℕ, ◌+◌, ◌-◌, ◌<◌, ◌≤◌, List, [], ◌++◌, length, get_or, drop, sym, refl, ap, ◌∙◌, arith, length-append}
use Rattle.std.proofs.lemmas.List.{drop_more, drop_all}
use Rattle.format.specs.Buffers.{written}
use Rattle.format.specs.Numbers.{leb}
use Rattle.format.specs.Sums.{rises}
use Rattle.format.proofs.BufferLaws.{written_none, written_then}
use Rattle.format.proofs.MonotonicLaws.{u64_rising}
use Rattle.format.proofs.SumLaws.{Rising, rising_next, counted_length}
use Rattle.codec.proofs.sums.put_counted.Goals as goal

-- the numbers that are left, from the next one on
rising_left : (last i : ℕ) (vs : List ℕ) → i < length vs → Rising last (drop i vs) → (last ≤ get_or vs i 0) × Rising (get_or vs i 0) (drop (i + 1) vs)
rising_left last i vs h r = rising_next (rw (drop_more vs i 0 h) at r)

rises_left : (last i : ℕ) (vs : List ℕ) → i < length vs → rises last (drop i vs) ≡ leb (get_or vs i 0 - last) ++ rises (get_or vs i 0) (drop (i + 1) vs)
rises_left last i vs h = ap (rises last) (drop_more vs i 0 h)

pub loop-v-init : goal.loop-v-init
loop-v-init c = record { rising = u64_rising c.args.vals.now c.requires.rising; bytes = refl; ends = refl }

pub overflow_sub-v : goal.overflow_sub-v
overflow_sub-v c = (rising_left c.loop-v.last c.loop-v.v-index c.args.vals.now (omega arith) c.loop-v.invariant.rising).0

pub loop-v-preserved : goal.loop-v-preserved
loop-v-preserved c =
    let vs = c.args.vals.now in
    let i = c.loop-v.v-index in
    let last = c.loop-v.last in
    let one = leb (get_or vs i 0 - last) in
    let rest = rises (get_or vs i 0) (drop (i + 1) vs) in
    let e = rises_left last i vs (omega arith) in
    let p = c.put-at-in-loop-v.ensures in
    record {
      rising = (rising_left last i vs (omega arith) c.loop-v.invariant.rising).1;
      bytes =
          written_then c.loop-v.output c.put-at-in-loop-v.new.buffer c.loop-v.at c.put-at-in-loop-v.result one rest p.after p.value (omega (arith, counted_length vs, c.requires.fits, c.loop-v.invariant.ends, c.put-at.ensures.value))
          ∙ ap (written c.loop-v.output c.loop-v.at) (sym e)
          ∙ c.loop-v.invariant.bytes;
      ends = omega (arith, p.value, ap length e ∙ length-append one rest, c.loop-v.invariant.ends);
    }

pub returns : goal.returns
returns c =
    let vs = c.args.vals.now in
    let z : rises c.loop-v.last (drop c.loop-v.v-index vs) ≡ [] = ap (rises c.loop-v.last) (drop_all c.loop-v.v-index vs (omega arith)) in
    record {
      value = omega (arith, ap length z, counted_length vs, c.loop-v.invariant.ends, c.put-at.ensures.value);
      after =
          sym (written_none c.loop-v.output c.loop-v.at)
          ∙ ap (written c.loop-v.output c.loop-v.at) (sym z)
          ∙ c.loop-v.invariant.bytes
          ∙ written_then c.args.output.now c.put-at.new.buffer 0 c.put-at.result (leb (length vs)) (rises 0 vs) c.put-at.ensures.after c.put-at.ensures.value (omega arith);
    }
