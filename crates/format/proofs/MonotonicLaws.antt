-- The laws of the codec of numbers that never fall.
use Rattle.std.proofs.Common.{◌≡◌, ℕ, zero, suc, ◌+◌, ◌-◌, ◌^◌, ◌<◌, ◌≤◌, true, ltb, leb as at_most, List, [], ◌∷◌, ◌++◌, length, Some, None, Ok, Option, Result, sym, refl, ap, ◌∙◌, append_assoc, arith, length-append}
use Rattle.std.proofs.lemmas.Bool.{and_parts, leb-true, ltb-true}
use Rattle.std.specs.List.{slice_get}
use Rattle.format.specs.declared.Cursor.{Cursor}
use Rattle.format.specs.Numbers.{leb, Number, read_leb}
use Rattle.format.specs.Codecs.{Flaw, Allowed, allowed_after, ReadsBack, Short, Within, value_at, value_of, moved}
use Rattle.format.specs.Sums.{rises, counted, valued}
use Rattle.format.specs.Monotonic.{u64_meaning, last_or, u64_rule, u64_opens, u64_steps, u64_counted}
use Rattle.format.proofs.NumberLaws.{leb_reads, read_sized}
use Rattle.format.proofs.SumLaws.{Rising, none, more, last_push, before, rise_one, part_next, whole_rises, counted_short, whole_within}

rising_after : (done vs : List ℕ) → allowed_after u64_rule done vs ≡ true → Rising (last_or 0 done) vs
rising_after done [] a = none
rising_after done (v ∷ vs) a =
    let p = and_parts (u64_rule done v) (allowed_after u64_rule (done ++ v ∷ []) vs) a in
    let q = and_parts (at_most (last_or 0 done) v) (ltb v (2 ^ 64)) p.0 in
    more (leb-true (last_or 0 done) v q.0) (ltb-true v (2 ^ 64) q.1) (rw (last_push 0 done v) at (rising_after (done ++ v ∷ []) vs p.1))

-- allowed numbers rise from 0
pub u64_rising : (vs : List ℕ) → Allowed u64_rule vs → Rising 0 vs
u64_rising vs a = rising_after [] vs a

values_rises : (pre : List ℕ) {last : ℕ} {vs : List ℕ} (rest : List ℕ) → Rising last vs → (i : ℕ) → i < length vs
    → value_at u64_steps (before (length pre) vs last) (pre ++ (rises last vs ++ rest)) i ≡ slice_get vs i
values_rises pre rest none i h = absurd (omega arith)
values_rises pre rest (more {last = last} {v = v} {vs = vs} l s r) zero h =
    ap (λ (x : Result (Option Cursor) Flaw). value_of (valued (λ (d : Cursor). d.last) x)) (rise_one pre last v vs rest l s)
values_rises pre rest (more {last = last} {v = v} {vs = vs} l s r) (suc i) h =
    let c = before (length pre) (v ∷ vs) last in
    let part = pre ++ (rises last (v ∷ vs) ++ rest) in
    let e : moved c (u64_steps c part) ≡ before (length (pre ++ leb (v - last))) vs v =
    ap (λ (x : Result (Option Cursor) Flaw). moved c (valued (λ (d : Cursor). d.last) x)) (rise_one pre last v vs rest l s) in
    ap (λ (d : Cursor). value_at u64_steps d part i) e
    ∙ ap (λ (t : List ℕ). value_at u64_steps (before (length (pre ++ leb (v - last))) vs v) t i) (part_next pre last v vs rest)
    ∙ values_rises (pre ++ leb (v - last)) rest r i (omega arith)

pub u64_back : ReadsBack u64_meaning
u64_back vs rest a h =
    let r = u64_rising vs a in
    let pre = leb (length vs) in
    let e : counted vs ++ rest ≡ pre ++ (rises 0 vs ++ rest) = append_assoc pre (rises 0 vs) rest in
    let c = before (length pre) vs 0 in
    let n : length pre + length (rises 0 vs) ≡ length (counted vs) = sym (length-append pre (rises 0 vs)) in
    record {
      cursor = c;
      opened =
          ap u64_opens e
          ∙ ap (u64_counted (pre ++ (rises 0 vs ++ rest))) (leb_reads (length vs) (rises 0 vs ++ rest) (omega arith))
          ∙ whole_rises pre rest r
          ∙ ap (λ (k : ℕ). Ok (c, k)) n;
      values = λ i l. ap (λ (t : List ℕ). value_at u64_steps c t i) e ∙ values_rises pre rest r i l;
    }

pub u64_short : Short u64_meaning
u64_short vs a h = omega (arith, counted_short (u64_rising vs a) (omega arith))

counted_within : (part : List ℕ) (c : Cursor) (n : ℕ) (r : Number) → ((k v : ℕ) → r ≡ Some (k, v) → k ≤ length part) → u64_counted part r ≡ Ok (c, n) → n ≤ length part
counted_within part c n None h e = let z : ◌≡◌ {A = ℕ} 0 1 = cc in omega arith
counted_within part c n (Some p) h e = whole_within (record { next = p.0; last = 0; left = p.1 }) c n part (h p.0 p.1 refl) e

pub u64_within : Within u64_opens
u64_within part c n e = counted_within part c n (read_leb part) (λ k v q. (read_sized part k v q).within) e
