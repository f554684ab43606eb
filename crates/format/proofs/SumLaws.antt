-- Laws of rising numbers: their bytes one by one, how many these are, and that a cursor walks through them.
use Rattle.std.proofs.Common.{◌≡◌, ℕ, zero, suc, ◌+◌, ◌-◌, ◌*◌, ◌^◌, ◌<◌, ◌≤◌, eqb, ltb, List, [], ◌∷◌, ◌++◌, length, drop, IfSome, IfOk, Some, None, Ok, Err, Option, Result, sym, refl, ap, ◌∙◌, append_assoc, arith, length-append, length-drop, MatchResult}
use Rattle.std.proofs.lemmas.List.{drop_at, length_push, append-nil}
use Rattle.std.proofs.lemmas.Bool.{lt-ltb, ne_eqb, eqb-false, cond_both}
use Rattle.std.specs.List.{slice_get}
use Rattle.format.specs.declared.Cursor.{Cursor}
use Rattle.format.specs.Numbers.{leb, Number, read_leb}
use Rattle.format.specs.Codecs.{Flaw, placed, flaw_at, given, moved}
use Rattle.format.specs.declared.fault.Fault.{Fault}
use Rattle.format.specs.Sums.{rises, counted, raised, rise, end_in, whole, with_end, valued}
use Rattle.format.specs.Monotonic.{last_or, last_of, u64_steps}
use Rattle.format.proofs.NumberLaws.{leb_ten, leb_reads, read_sized}

pub last_push : (v : ℕ) (vs : List ℕ) (w : ℕ) → last_or v (vs ++ w ∷ []) ≡ w
last_push v [] w = refl
last_push v (u ∷ vs) w = last_push u vs w

last_at : (v : ℕ) (vs : List ℕ) → slice_get (v ∷ vs) (length vs) ≡ Some (last_or v vs)
last_at v [] = refl
last_at v (w ∷ ws) = last_at w ws

-- the last number is the one at the last place
pub last_get : (vs : List ℕ) → slice_get vs (length vs - 1) ≡ last_of vs
last_get [] = refl
last_get (v ∷ vs) = let e : suc (length vs) - 1 ≡ length vs = omega arith in ap (slice_get (v ∷ vs)) e ∙ last_at v vs

-- one number more, one rise more
pub rises_push : (last : ℕ) (vs : List ℕ) (v : ℕ) → rises last (vs ++ v ∷ []) ≡ rises last vs ++ leb (v - last_or last vs)
rises_push last [] v = append-nil (leb (v - last))
rises_push last (u ∷ vs) v = ap (λ (t : List ℕ). leb (u - last) ++ t) (rises_push u vs v) ∙ sym (append_assoc (leb (u - last)) (rises u vs) (leb (v - last_or u vs)))

-- 64-bit numbers that do not fall, the first at least `last`
pub data Rising : ℕ → List ℕ → Type 0 where
  none : {last : ℕ} → Rising last []
  more : {last v : ℕ} {vs : List ℕ} → last ≤ v → v < 2 ^ 64 → Rising v vs → Rising last (v ∷ vs)

pub rising_next : {last v : ℕ} {vs : List ℕ} → Rising last (v ∷ vs) → (last ≤ v) × Rising v vs
rising_next (more h s r) = (h, r)

-- each rise takes at most ten bytes
pub rises_short : {last : ℕ} {vs : List ℕ} → Rising last vs → length (rises last vs) ≤ 10 * length vs
rises_short none = omega arith
rises_short (more {last = last} {v = v} {vs = vs} h s r) = simp length-append (omega (arith, leb_ten (v - last) (omega arith), rises_short r))

pub counted_short : {vs : List ℕ} → Rising 0 vs → length vs < 2 ^ 64 → length (counted vs) ≤ 10 * (length vs + 1)
counted_short {vs} r h = simp length-append (omega (arith, leb_ten (length vs) h, rises_short r))

-- A cursor stays within the part.
abbrev RiseIn : List ℕ → Result (Option Cursor) Flaw → Type 0
RiseIn part r = IfOk r (λ o. IfSome o (λ d. d.next ≤ length part))

raised_in : (c : Cursor) (part : List ℕ) (r : Number) → ((n v : ℕ) → r ≡ Some (n, v) → c.next + n ≤ length part) → RiseIn part (raised c r)
raised_in c part None h = tt
raised_in c part (Some p) h = cond_both (ltb (c.last + p.1) (2 ^ 64)) _ _ (RiseIn part) (λ _. h p.0 p.1 refl) (λ _. tt)

rise_in : (c : Cursor) (part : List ℕ) → c.next ≤ length part → RiseIn part (rise c part)
rise_in c part h =
    cond_both (eqb c.left 0) _ _ (RiseIn part) (λ _. tt)
    (λ _. raised_in c part (read_leb (drop c.next part)) (λ n v e. omega (arith, (read_sized (drop c.next part) n v e).within, length-drop c.next part)))

-- Where a cursor stands behind some bytes, before the rises of some numbers.
abbrev pub before : ℕ → List ℕ → ℕ → Cursor
before at vs last = record { next = at; last = last; left = length vs }

-- it moves past the first of them
pub rise_one : (pre : List ℕ) (last v : ℕ) (vs rest : List ℕ) → last ≤ v → v < 2 ^ 64
    → rise (before (length pre) (v ∷ vs) last) (pre ++ (rises last (v ∷ vs) ++ rest)) ≡ Ok (Some (before (length (pre ++ leb (v - last))) vs v))
rise_one pre last v vs rest h s =
    let e : drop (length pre) (pre ++ (rises last (v ∷ vs) ++ rest)) ≡ leb (v - last) ++ (rises v vs ++ rest) =
    drop_at pre (rises last (v ∷ vs) ++ rest) (length pre) refl ∙ append_assoc (leb (v - last)) (rises v vs) rest in
    let sum : last + (v - last) ≡ v = omega arith in
    let left : suc (length vs) - 1 ≡ length vs = omega arith in
    rw (e, leb_reads (v - last) (rises v vs ++ rest) (omega arith), sum, lt-ltb v (2 ^ 64) s, left, length-append pre (leb (v - last)), ne_eqb (suc (length vs)) 0 (λ z. omega arith))

-- the part, seen from behind the first rise
pub part_next : (pre : List ℕ) (last v : ℕ) (vs rest : List ℕ) → pre ++ (rises last (v ∷ vs) ++ rest) ≡ (pre ++ leb (v - last)) ++ (rises v vs ++ rest)
part_next pre last v vs rest =
    ap (λ (t : List ℕ). pre ++ t) (append_assoc (leb (v - last)) (rises v vs) rest) ∙ sym (append_assoc pre (leb (v - last)) (rises v vs ++ rest))

-- a walk goes on where the cursor moves, ends where nothing is left, and stops at a flaw
abbrev walked : ℕ → Cursor → List ℕ → Result (Option Cursor) Flaw → Result ℕ Flaw
walked m c part r = elim r [ Ok o ↦ elim o [ Some d ↦ end_in m d part | None ↦ Ok c.next ] | Err f ↦ Err f ]

pub end_more : (m : ℕ) (c d : Cursor) (part : List ℕ) → rise c part ≡ Ok (Some d) → end_in (suc m) c part ≡ end_in m d part
end_more m c d part e = ap (walked m c part) e

pub end_flaw : (m : ℕ) (c : Cursor) (part : List ℕ) (f : Flaw) → rise c part ≡ Err f → end_in (suc m) c part ≡ Err f
end_flaw m c part f e = ap (walked m c part) e

abbrev EndIn : List ℕ → Result ℕ Flaw → Type 0
EndIn part r = IfOk r (λ n. n ≤ length part)

walked_in : (m : ℕ) (c : Cursor) (part : List ℕ) (r : Result (Option Cursor) Flaw) → c.next ≤ length part → RiseIn part r
    → ((d : Cursor) → d.next ≤ length part → EndIn part (end_in m d part)) → EndIn part (walked m c part r)
walked_in m c part (Ok (Some d)) h i go = go d i
walked_in m c part (Ok None) h i go = h
walked_in m c part (Err f) h i go = tt

end_in_lem : (m : ℕ) (c : Cursor) (part : List ℕ) → c.next ≤ length part → EndIn part (end_in m c part)
end_in_lem zero c part h = h
end_in_lem (suc m) c part h = walked_in m c part (rise c part) h (rise_in c part h) (λ d i. end_in_lem m d part i)

with_end_in : (c k : Cursor) (n : ℕ) (part : List ℕ) (r : Result ℕ Flaw) → EndIn part r → with_end c r ≡ Ok (k, n) → n ≤ length part
with_end_in c k n part (Ok m) h e =
    let q : ◌≡◌ {A = Cursor × ℕ} (c, m) (k, n) = cc in
    omega (arith, ap (λ (x : Cursor × ℕ). x.1) q)
with_end_in c k n part (Err f) h e = let z : ◌≡◌ {A = ℕ} 0 1 = cc in omega arith

-- so do its numbers
pub whole_within : (c k : Cursor) (n : ℕ) (part : List ℕ) → c.next ≤ length part → whole c part ≡ Ok (k, n) → n ≤ length part
whole_within c k n part h e = with_end_in c k n part (end_in c.left c part) (end_in_lem c.left c part h) e

-- and ends behind the last
pub end_rises : (pre : List ℕ) {last : ℕ} {vs : List ℕ} (rest : List ℕ) → Rising last vs
    → end_in (length vs) (before (length pre) vs last) (pre ++ (rises last vs ++ rest)) ≡ Ok (length pre + length (rises last vs))
end_rises pre rest none = ap (λ (n : ℕ). Ok n) (omega arith)
end_rises pre rest (more {last = last} {v = v} {vs = vs} h s r) =
    end_more (length vs) (before (length pre) (v ∷ vs) last) (before (length (pre ++ leb (v - last))) vs v) _ (rise_one pre last v vs rest h s)
    ∙ ap (end_in (length vs) (before (length (pre ++ leb (v - last))) vs v)) (part_next pre last v vs rest)
    ∙ end_rises (pre ++ leb (v - last)) rest r
    ∙ ap (λ (n : ℕ). Ok n) (simp length-append (omega arith))

-- so its numbers are all there
pub whole_rises : (pre : List ℕ) {last : ℕ} {vs : List ℕ} (rest : List ℕ) → Rising last vs
    → whole (before (length pre) vs last) (pre ++ (rises last vs ++ rest)) ≡ Ok (before (length pre) vs last, length pre + length (rises last vs))
whole_rises pre {last} {vs} rest r = ap (with_end (before (length pre) vs last)) (end_rises pre rest r)

-- the number that a cursor comes to
abbrev summed : Cursor → ℕ
summed c = c.last

-- A cursor that moves has one number less before it; one with none left does not move.
abbrev Falls : Cursor → Result (Option Cursor) Flaw → Type 0
Falls c r = MatchResult r (λ o. IfSome o (λ d. c.left ≡ suc d.left)) (λ _. 0 < c.left)

raised_falls : (c : Cursor) (r : Number) → 0 < c.left → Falls c (raised c r)
raised_falls c None h = h
raised_falls c (Some p) h = cond_both (ltb (c.last + p.1) (2 ^ 64)) _ _ (Falls c) (λ _. omega arith) (λ _. h)

rise_falls : (c : Cursor) (part : List ℕ) → Falls c (rise c part)
rise_falls c part =
    cond_both (eqb c.left 0) _ _ (Falls c) (λ _. tt)
    (λ e. raised_falls c (read_leb (drop c.next part)) (omega (arith, eqb-false c.left 0 e)))

-- What a loop learns from each answer on the way.
on : (c d : Cursor) (part : List ℕ) (place v : ℕ) (r : Result (Option Cursor) Flaw) → rise c part ≡ r → Falls c r
    → Ok (Some v) ≡ placed place (given (valued summed r)) → d ≡ moved c (valued summed r) → (end_in d.left d part ≡ end_in c.left c part) × (d.left < c.left)
on c d part place v (Ok (Some e)) q h a l =
    let n : c.left ≡ suc d.left = rw l h in
    let m : rise c part ≡ Ok (Some d) = rw l q in
    (sym (ap (λ (k : ℕ). end_in k c part) n ∙ end_more d.left c d part m), omega arith)
on c d part place v (Ok None) q h a l = let z : ◌≡◌ {A = ℕ} 0 1 = cc in absurd (omega arith)
on c d part place v (Err f) q h a l = let z : ◌≡◌ {A = ℕ} 0 1 = cc in absurd (omega arith)

pub walks_on : (c d : Cursor) (part : List ℕ) (place v : ℕ) → Ok (Some v) ≡ placed place (given (u64_steps c part)) → d ≡ moved c (u64_steps c part)
    → (end_in d.left d part ≡ end_in c.left c part) × (d.left < c.left)
walks_on c d part place v a l = on c d part place v (rise c part) refl (rise_falls c part) a l

at_flaw : (c : Cursor) (part : List ℕ) (place : ℕ) (g : Fault) (r : Result (Option Cursor) Flaw) → rise c part ≡ r → Falls c r → Err g ≡ placed place (given (valued summed r))
    → placed place (end_in c.left c part) ≡ Err g
at_flaw c part place g (Ok (Some e)) q h a = cc
at_flaw c part place g (Ok None) q h a = cc
at_flaw c part place g (Err f) q h a =
    let n : c.left ≡ suc (c.left - 1) = omega arith in
    let t : flaw_at place f ≡ g = cc in
    ap (placed place) (ap (λ (k : ℕ). end_in k c part) n ∙ end_flaw (c.left - 1) c part f q) ∙ ap (λ (z : Fault). Err z) t

pub walks_to_flaw : (c : Cursor) (part : List ℕ) (place : ℕ) (g : Fault) → Err g ≡ placed place (given (u64_steps c part)) → placed place (end_in c.left c part) ≡ Err g
walks_to_flaw c part place g a = at_flaw c part place g (rise c part) refl (rise_falls c part) a

-- How many bytes a count and rises take, and with one number more.
pub counted_length : (vs : List ℕ) → length (counted vs) ≡ length (leb (length vs)) + length (rises 0 vs)
counted_length vs = length-append (leb (length vs)) (rises 0 vs)

pub counted_push : (vs : List ℕ) (v : ℕ) → length (counted (vs ++ v ∷ [])) ≡ length (leb (length vs + 1)) + length (rises 0 vs) + length (leb (v - last_or 0 vs))
counted_push vs v =
    let n : length (leb (length (vs ++ v ∷ []))) ≡ length (leb (length vs + 1)) = ap (λ (k : ℕ). length (leb k)) (length_push vs v) in
    let r : length (rises 0 (vs ++ v ∷ [])) ≡ length (rises 0 vs) + length (leb (v - last_or 0 vs)) = ap length (rises_push 0 vs v) ∙ length-append (rises 0 vs) (leb (v - last_or 0 vs)) in
    omega (arith, counted_length (vs ++ v ∷ []), n, r)
