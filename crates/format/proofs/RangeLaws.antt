-- The laws of the codec of ranges that join, and of its edges.
use Rattle.std.proofs.Common.{◌≡◌, ℕ, zero, suc, ◌+◌, ◌-◌, ◌^◌, ◌<◌, ◌≤◌, Bool, true, false, ◌&&◌, eqb, ltb, leb as at_most, List, [], ◌∷◌, ◌++◌, length, drop, Some, None, Ok, Option, Result, sym, refl, ap, ◌∙◌, inl, inr, append_assoc, arith, length-append, length-drop}
use Rattle.std.proofs.lemmas.List.{drop_at, append-nil}
use Rattle.std.proofs.lemmas.Bool.{and_parts, leb-true, ltb-true, eqb-true, ne_eqb, cond-true, cond-false, eq-eqb, lt-ltb, le-ltb, cases_lt}
use Rattle.std.specs.List.{slice_get}
use Rattle.format.specs.declared.Cursor.{Cursor}
use Rattle.format.specs.declared.Range.{Range}
use Rattle.format.specs.Numbers.{leb, Number, read_leb}
use Rattle.format.specs.Codecs.{Flaw, Opened, Allowed, takes, allowed_after, ReadsBack, Short, Within, Reads, value_at, value_of, moved, most}
use Rattle.format.specs.Sums.{rises, whole, valued}
use Rattle.format.specs.Monotonic.{last_or, last_of}
use Rattle.format.specs.Ranges.{range_meaning, end_or, joins, range_rule, ends, edges, range_bytes, range_started, range_counted, range_opens, range_steps, ranges_from, ranges_of}
use Rattle.format.proofs.NumberLaws.{leb_reads, read_sized}
use Rattle.format.proofs.SumLaws.{Rising, none, more, before, rise_one, part_next, whole_rises, counted_short, whole_within}

-- ranges of which each starts where the one before ends, the first at a place
pub data Joined : ℕ → List Range → Type 0 where
  nothing : {s : ℕ} → Joined s []
  joined : {s : ℕ} {r : Range} {rs : List Range} → r.start ≡ s → r.start ≤ r.end → r.end < 2 ^ 64 → Joined r.end rs → Joined s (r ∷ rs)

end_push : (e : ℕ) (rs : List Range) (r : Range) → end_or e (rs ++ r ∷ []) ≡ r.end
end_push e [] r = refl
end_push e (q ∷ rs) r = end_push q.end rs r

joined_after : (d : Range) (done rs : List Range) → allowed_after range_rule (d ∷ done) rs ≡ true → Joined (end_or d.end done) rs
joined_after d done [] a = nothing
joined_after d done (r ∷ rs) a =
    let p = and_parts (range_rule (d ∷ done) r) (allowed_after range_rule (d ∷ done ++ r ∷ []) rs) a in
    let q = and_parts (eqb (end_or d.end done) r.start) (at_most r.start r.end && ltb r.end (2 ^ 64)) p.0 in
    let t = and_parts (at_most r.start r.end) (ltb r.end (2 ^ 64)) q.1 in
    joined (sym (eqb-true _ _ q.0)) (leb-true _ _ t.0) (ltb-true _ _ t.1) (rw (end_push d.end done r) at (joined_after d (done ++ r ∷ []) rs p.1))

-- allowed ranges join
pub range_joined : (r : Range) (rs : List Range) → Allowed range_rule (r ∷ rs) → Joined r.start (r ∷ rs)
range_joined r rs a =
    let p = and_parts (range_rule [] r) (allowed_after range_rule (r ∷ []) rs) a in
    let q = and_parts true (at_most r.start r.end && ltb r.end (2 ^ 64)) p.0 in
    let t = and_parts (at_most r.start r.end) (ltb r.end (2 ^ 64)) q.1 in
    joined refl (leb-true _ _ t.0) (ltb-true _ _ t.1) (joined_after r [] rs p.1)

ends_rising : {s : ℕ} {rs : List Range} → Joined s rs → Rising s (ends rs)
ends_rising nothing = none
ends_rising (joined e h s j) = more (omega arith) s (ends_rising j)

-- so do their edges rise
pub edges_rising : (rs : List Range) → Allowed range_rule rs → Rising 0 (edges rs)
edges_rising [] a = none
edges_rising (r ∷ rs) a = rising (range_joined r rs a)
  where
    rising : Joined r.start (r ∷ rs) → Rising 0 (edges (r ∷ rs))
    rising (joined e h s j) = more (omega arith) (omega arith) (more h s (ends_rising j))

pub ends_length : (rs : List Range) → length (ends rs) ≡ length rs
ends_length [] = refl
ends_length (r ∷ rs) = ap suc (ends_length rs)

values_ends : (pre : List ℕ) {last : ℕ} {rs : List Range} (rest : List ℕ) → Joined last rs → (i : ℕ) → i < length rs
    → value_at range_steps (before (length pre) (ends rs) last) (pre ++ (rises last (ends rs) ++ rest)) i ≡ slice_get rs i
values_ends pre rest nothing i h = absurd (omega arith)
values_ends pre rest (joined {s = last} {r = r} {rs = rs} e l s j) zero h =
    let c = before (length pre) (ends (r ∷ rs)) last in
    ap (λ (x : Result (Option Cursor) Flaw). value_of {V = Range} (valued (λ (d : Cursor). record { start = c.last; end = d.last }) x)) (rise_one pre last r.end (ends rs) rest (omega arith) s)
    ∙ ap (λ (k : ℕ). Some (record { start = k; end = r.end })) (sym e)
values_ends pre rest (joined {s = last} {r = r} {rs = rs} e l s j) (suc i) h =
    let c = before (length pre) (ends (r ∷ rs)) last in
    let part = pre ++ (rises last (ends (r ∷ rs)) ++ rest) in
    let m : moved c (range_steps c part) ≡ before (length (pre ++ leb (r.end - last))) (ends rs) r.end =
    ap (λ (x : Result (Option Cursor) Flaw). moved {V = Range} c (valued (λ (d : Cursor). record { start = c.last; end = d.last }) x)) (rise_one pre last r.end (ends rs) rest (omega arith) s) in
    ap (λ (d : Cursor). value_at range_steps d part i) m
    ∙ ap (λ (t : List ℕ). value_at range_steps (before (length (pre ++ leb (r.end - last))) (ends rs) r.end) t i) (part_next pre last r.end (ends rs) rest)
    ∙ values_ends (pre ++ leb (r.end - last)) rest j i (omega arith)

-- a part that begins with a count and a first start
opens_started : (n start : ℕ) (es rest : List ℕ) → n ≡ length es + 1 → n < 2 ^ 64 → start < 2 ^ 64 → Rising start es
    → range_opens ((leb n ++ leb start) ++ (rises start es ++ rest)) ≡ Ok (before (length (leb n ++ leb start)) es start, length (leb n ++ leb start) + length (rises start es))
opens_started n start es rest e m s r =
    let tail = rises start es ++ rest in
    let part = (leb n ++ leb start) ++ tail in
    let a : part ≡ leb n ++ (leb start ++ tail) = append_assoc (leb n) (leb start) tail in
    let f : read_leb part ≡ Some (length (leb n), n) = ap read_leb a ∙ leb_reads n (leb start ++ tail) m in
    let g : read_leb (drop (length (leb n)) part) ≡ Some (length (leb start), start) = ap (λ (t : List ℕ). read_leb (drop (length (leb n)) t)) a ∙ ap read_leb (drop_at (leb n) (leb start ++ tail) (length (leb n)) refl) ∙ leb_reads start tail s in
    let l : length (leb n) + length (leb start) ≡ length (leb n ++ leb start) = sym (length-append (leb n) (leb start)) in
    let k : n - 1 ≡ length es = omega arith in
    ap (range_counted part) f
    ∙ cond-false (eqb n 0) _ _ (ne_eqb n 0 (λ z. omega arith))
    ∙ ap (range_started part (length (leb n)) n) g
    ∙ ap (λ (c : Cursor). whole c part) (cursor_path l k)
    ∙ whole_rises (leb n ++ leb start) rest r
  where
    cursor_path : {a b c d : ℕ} → a ≡ b → c ≡ d → ◌≡◌ {A = Cursor} (record { next = a; last = start; left = c }) (record { next = b; last = start; left = d })
    cursor_path p q = λ i. record { next = p i; last = start; left = q i }

opens_none : (rest : List ℕ) → range_opens (leb 0 ++ rest) ≡ Ok (record { next = length (leb 0); last = 0; left = 0 }, length (leb 0))
opens_none rest = ap (range_counted (leb 0 ++ rest)) (leb_reads 0 rest (omega arith))

-- the bytes of at least one range, with what follows them
bytes_split : (r : Range) (rs : List Range) (rest : List ℕ)
    → range_bytes (r ∷ rs) ++ rest ≡ (leb (length (edges (r ∷ rs))) ++ leb r.start) ++ (rises r.start (ends (r ∷ rs)) ++ rest)
bytes_split r rs rest =
    let z : r.start - 0 ≡ r.start = omega arith in
    ap (λ (k : ℕ). (leb (length (edges (r ∷ rs))) ++ (leb k ++ rises r.start (ends (r ∷ rs)))) ++ rest) z
    ∙ simp append_assoc

pub range_back : ReadsBack range_meaning
range_back [] rest a h =
    record {
      cursor = record { next = length (leb 0); last = 0; left = 0 };
      opened =
          ap (λ (t : List ℕ). range_opens (t ++ rest)) (append-nil (leb 0)) ∙ opens_none rest
          ∙ ap (λ (k : ℕ). Ok (record { next = length (leb 0); last = 0; left = 0 }, k)) (sym (ap length (append-nil (leb 0))));
      values = λ i l. absurd (omega arith);
    }
range_back (r ∷ rs) rest a h = back (range_joined r rs a)
  where
    start_fits : Joined r.start (r ∷ rs) → r.start < 2 ^ 64
    start_fits (joined e l s j) = omega arith

    back : Joined r.start (r ∷ rs) → Reads range_meaning (range_bytes (r ∷ rs) ++ rest) (r ∷ rs) (length (range_bytes (r ∷ rs)))
    back j =
        let n = length (edges (r ∷ rs)) in
        let es = ends (r ∷ rs) in
        let pre = leb n ++ leb r.start in
        let e = bytes_split r rs rest in
        let c = before (length pre) es r.start in
        let b : length pre + length (rises r.start es) ≡ length (range_bytes (r ∷ rs)) =
        sym (ap length (sym (append-nil (range_bytes (r ∷ rs))) ∙ bytes_split r rs [] ∙ ap (λ (t : List ℕ). pre ++ t) (append-nil (rises r.start es))) ∙ length-append pre (rises r.start es)) in
        record {
          cursor = c;
          opened = ap range_opens e ∙ opens_started n r.start es rest (omega arith) (omega (arith, ends_length rs)) (start_fits j) (ends_rising j) ∙ ap (λ (k : ℕ). Ok (c, k)) b;
          values = λ i l. ap (λ (t : List ℕ). value_at range_steps c t i) e ∙ values_ends pre rest j i l;
        }

pub edges_length : (rs : List Range) → length (edges rs) ≤ length rs + 1
edges_length [] = omega arith
edges_length (r ∷ rs) = omega (arith, ends_length rs)

pub range_short : Short range_meaning
range_short rs a h = omega (arith, counted_short (edges_rising rs a) (omega (arith, edges_length rs)), edges_length rs)

started_within : (part : List ℕ) (k count : ℕ) (c : Cursor) (n : ℕ) (r : Number) → ((m v : ℕ) → r ≡ Some (m, v) → k + m ≤ length part) → range_started part k count r ≡ Ok (c, n) → n ≤ length part
started_within part k count c n None h e = let z : ◌≡◌ {A = ℕ} 0 1 = cc in omega arith
started_within part k count c n (Some p) h e = whole_within (record { next = k + p.0; last = p.1; left = count - 1 }) c n part (h p.0 p.1 refl) e

counted_within : (part : List ℕ) (c : Cursor) (n : ℕ) (r : Number) → ((k v : ℕ) → r ≡ Some (k, v) → k ≤ length part) → range_counted part r ≡ Ok (c, n) → n ≤ length part
counted_within part c n None h e = let z : ◌≡◌ {A = ℕ} 0 1 = cc in omega arith
counted_within part c n (Some p) h e = by (eqb p.1 0) refl
  where
    by : (b : Bool) → eqb p.1 0 ≡ b → n ≤ length part
    by true q =
        let t : ◌≡◌ {A = Opened} (Ok (record { next = p.0; last = 0; left = 0 }, p.0)) (Ok (c, n)) = sym (cond-true (eqb p.1 0) _ _ q) ∙ e in
        let u : ◌≡◌ {A = Cursor × ℕ} (record { next = p.0; last = 0; left = 0 }, p.0) (c, n) = cc in
        omega (arith, h p.0 p.1 refl, ap (λ (x : Cursor × ℕ). x.1) u)
    by false q =
        started_within part p.0 p.1 c n (read_leb (drop p.0 part))
        (λ m v f. omega (arith, (read_sized (drop p.0 part) m v f).within, length-drop p.0 part, h p.0 p.1 refl))
        (sym (cond-false (eqb p.1 0) _ _ q) ∙ e)

pub range_within : Within range_opens
range_within part c n e = counted_within part c n (read_leb part) (λ k v q. (read_sized part k v q).within) e

-- Edges in a row, as the code holds them.
ends_from : (s : ℕ) (es : List ℕ) → ends (ranges_from s es) ≡ es
ends_from s [] = refl
ends_from s (e ∷ es) = ap (λ (t : List ℕ). e ∷ t) (ends_from e es)

from_length : (s : ℕ) (es : List ℕ) → length (ranges_from s es) ≡ length es
from_length s [] = refl
from_length s (e ∷ es) = ap suc (from_length e es)

pub ranges_length : (es : List ℕ) → length (ranges_of es) ≡ length es - 1
ranges_length [] = refl
ranges_length (e ∷ es) = omega (arith, from_length e es)

-- the edges of the ranges between edges, where there is not only one
pub edges_of : (es : List ℕ) → (length es ≡ 1 → ⊥) → edges (ranges_of es) ≡ es
edges_of [] h = refl
edges_of (s ∷ []) h = absurd (h refl)
edges_of (s ∷ e ∷ es) h = ap (λ (t : List ℕ). s ∷ e ∷ t) (ends_from e es)

from_push : (s : ℕ) (es : List ℕ) (x : ℕ) → ranges_from s (es ++ x ∷ []) ≡ ranges_from s es ++ record { start = last_or s es; end = x } ∷ []
from_push s [] x = refl
from_push s (e ∷ es) x = ap (λ (t : List Range). record { start = s; end = e } ∷ t) (from_push e es x)

-- one edge more, one range more
pub ranges_push : (es : List ℕ) (x : ℕ) → 0 < length es → ranges_of (es ++ x ∷ []) ≡ ranges_of es ++ record { start = last_or 0 es; end = x } ∷ []
ranges_push [] x h = absurd (omega arith)
ranges_push (e ∷ es) x h = from_push e es x

ends_push : (rs : List Range) (r : Range) → ends (rs ++ r ∷ []) ≡ ends rs ++ r.end ∷ []
ends_push [] r = refl
ends_push (q ∷ rs) r = ap (λ (t : List ℕ). q.end ∷ t) (ends_push rs r)

-- the edges with one range more
pub edges_push : (es : List ℕ) (r : Range) → 0 < length es → (length es ≡ 1 → ⊥) → edges (ranges_of es ++ r ∷ []) ≡ es ++ r.end ∷ []
edges_push [] r h n = absurd (omega arith)
edges_push (s ∷ []) r h n = absurd (n refl)
edges_push (s ∷ e ∷ es) r h n = ap (λ (t : List ℕ). s ∷ e ∷ t) (ends_push (ranges_from e es) r ∙ ap (λ (t : List ℕ). t ++ r.end ∷ []) (ends_from e es))

end_from : (s : ℕ) (es : List ℕ) → end_or s (ranges_from s es) ≡ last_or s es
end_from s [] = refl
end_from s (e ∷ es) = end_from e es

-- a range joins the last edge
pub joins_last : (es : List ℕ) (start : ℕ) → 0 < length es → (length es ≡ 1 → ⊥) → joins (ranges_of es) start ≡ eqb (last_or 0 es) start
joins_last [] start h n = absurd (omega arith)
joins_last (s ∷ []) start h n = absurd (n refl)
joins_last (s ∷ e ∷ es) start h n = ap (λ (k : ℕ). eqb k start) (end_from e es)

-- What a codec that holds edges takes.
pub joins_where : (es : List ℕ) (start : ℕ) → (length es ≡ 1 → ⊥) → joins (ranges_of es) start ≡ elim (last_of es) [ None ↦ true | Some e ↦ eqb e start ]
joins_where [] start n = refl
joins_where (e ∷ es) start n = joins_last (e ∷ es) start (omega arith) n

-- one edge more than ranges
room : (n : ℕ) → ltb (n - 1) most ≡ ltb n 2002
room n = elim (cases_lt n 2002) [
  | inl h ↦ lt-ltb (n - 1) most (omega arith) ∙ sym (lt-ltb n 2002 h)
  | inr h ↦ le-ltb (n - 1) most (omega arith) ∙ sym (le-ltb n 2002 h)
]

pub takes_where : (es : List ℕ) (r : Range) → r.end < 2 ^ 64
    → takes range_rule (ranges_of es) r ≡ (joins (ranges_of es) r.start && at_most r.start r.end) && ltb (length es) 2002
takes_where es r s = rw (ranges_length es, room (length es), lt-ltb r.end (2 ^ 64) s) (by (joins (ranges_of es) r.start) (at_most r.start r.end) (ltb (length es) 2002))
  where
    by : (a b c : Bool) → (a && (b && true)) && c ≡ (a && b) && c
    by true true c = refl
    by true false c = refl
    by false b c = refl

-- One range more.
pub ranges_more : (es : List ℕ) (r : Range) → 0 < length es → (length es ≡ 1 → ⊥) → range_rule (ranges_of es) r ≡ true → ranges_of (es ++ r.end ∷ []) ≡ ranges_of es ++ r ∷ []
ranges_more es r h n a =
    let j = (and_parts (joins (ranges_of es) r.start) (at_most r.start r.end && ltb r.end (2 ^ 64)) a).0 in
    let e : last_or 0 es ≡ r.start = eqb-true _ _ (sym (joins_last es r.start h n) ∙ j) in
    ranges_push es r.end h ∙ ap (λ (k : ℕ). ranges_of es ++ record { start = k; end = r.end } ∷ []) e

-- Edges before the end of a range that follows others: its start is the last of them.
pub record Started (es : List ℕ) (r : Range) (fs : List ℕ) : Type 0 where
  pub ranges : ranges_of (fs ++ r.end ∷ []) ≡ ranges_of es ++ r ∷ []
  pub last : last_or 0 fs ≤ r.end
  pub some : 0 < length fs
  pub few : length fs ≤ most
  pub allowed : range_rule (ranges_of es) r ≡ true

-- its start is put behind them where there are none
pub started_first : (es : List ℕ) (r : Range) → takes range_rule (ranges_of es) r ≡ true → length es ≡ 0 → Started es r (es ++ r.start ∷ [])
started_first [] r t z =
    let a = (and_parts (range_rule [] r) (ltb 0 most) t).0 in
    let h = and_parts (at_most r.start r.end) (ltb r.end (2 ^ 64)) (and_parts true (at_most r.start r.end && ltb r.end (2 ^ 64)) a).1 in
    record { ranges = refl; last = leb-true _ _ h.0; some = omega arith; few = omega arith; allowed = a }
started_first (e ∷ es) r t z = absurd (omega arith)

-- and stands there already where there are some
pub started_next : (es : List ℕ) (r : Range) → takes range_rule (ranges_of es) r ≡ true → 0 < length es → (length es ≡ 1 → ⊥) → Started es r es
started_next es r t s n =
    let p = and_parts (range_rule (ranges_of es) r) (ltb (length (ranges_of es)) most) t in
    let a = and_parts (joins (ranges_of es) r.start) (at_most r.start r.end && ltb r.end (2 ^ 64)) p.0 in
    let h = and_parts (at_most r.start r.end) (ltb r.end (2 ^ 64)) a.1 in
    let e : last_or 0 es ≡ r.start = eqb-true _ _ (sym (joins_last es r.start s n) ∙ a.0) in
    record {
      ranges = ranges_more es r s n p.0;
      last = omega (arith, leb-true _ _ h.0, e);
      some = s;
      few = omega (arith, ltb-true _ _ p.1, ranges_length es);
      allowed = p.0;
    }

-- What a part opens as.
pub opens_zero : (part : List ℕ) (n count : ℕ) → read_leb part ≡ Some (n, count) → count ≡ 0 → range_opens part ≡ Ok (record { next = n; last = 0; left = 0 }, n)
opens_zero part n count e z = ap (range_counted part) e ∙ cond-true (eqb count 0) _ _ (eq-eqb count 0 z)

pub opens_some : (part : List ℕ) (n count : ℕ) (r : Number) → read_leb part ≡ Some (n, count) → 0 < count → read_leb (drop n part) ≡ r → range_opens part ≡ range_started part n count r
opens_some part n count r e h f = ap (range_counted part) e ∙ cond-false (eqb count 0) _ _ (ne_eqb count 0 (λ z. omega arith)) ∙ ap (range_started part n count) f

-- the ranges of few edges are held
pub ranges_held : (es : List ℕ) → Allowed range_rule (ranges_of es) → length es ≤ 2002 → Allowed range_rule (ranges_of es) × (length (ranges_of es) ≤ most)
ranges_held es a h = (a, omega (arith, ranges_length es))
