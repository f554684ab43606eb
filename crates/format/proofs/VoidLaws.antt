-- The laws of the codec of values without content.
use Rattle.std.proofs.Common.{◌≡◌, ℕ, zero, suc, ◌<◌, ◌≤◌, true, List, [], ◌∷◌, ◌++◌, length, replicate, Some, refl, ap, ◌∙◌, arith}
use Rattle.std.proofs.lemmas.List.{length-replicate}
use Rattle.std.specs.List.{slice_get}
use Rattle.format.specs.declared.Cursor.{Cursor}
use Rattle.format.specs.Codecs.{Allowed, most, allowed_after, ReadsBack, Short, Within, value_at}
use Rattle.format.specs.Void.{void_meaning, void_rule, void_opens, void_steps}

-- every list is allowed
pub void_allowed : (before vs : List (Unit {0})) → allowed_after void_rule before vs ≡ true
void_allowed before [] = refl
void_allowed before (v ∷ vs) = void_allowed (before ++ v ∷ []) vs

value_here : (c : Cursor) (part : List ℕ) (i : ℕ) → value_at void_steps c part i ≡ Some tt
value_here c part zero = refl
value_here c part (suc i) = value_here c part i

nth_here : (vs : List (Unit {0})) (i : ℕ) → i < length vs → Some tt ≡ slice_get vs i
nth_here [] i h = absurd (omega arith)
nth_here (v ∷ vs) zero h = refl
nth_here (v ∷ vs) (suc i) h = nth_here vs i (omega arith)

pub void_back : ReadsBack void_meaning
void_back vs rest a h = record {
  cursor = record { next = 0; last = 0; left = 0 };
  opened = refl;
  values = λ i l. value_here (record { next = 0; last = 0; left = 0 }) rest i ∙ nth_here vs i l;
}

pub void_short : Short void_meaning
void_short vs a h = omega arith

pub void_within : Within void_opens
void_within part c n e =
    let p : ◌≡◌ {A = Cursor × ℕ} (record { next = 0; last = 0; left = 0 }, 0) (c, n) = cc in
    omega (arith, ap (λ (x : Cursor × ℕ). x.1) p)

-- so many values without content are held
pub void_held : (n : ℕ) → n ≤ 2001 → Allowed void_rule (replicate n (tt {0})) × (length (replicate n (tt {0})) ≤ most)
void_held n h = (void_allowed [] (replicate n (tt {0})), omega (arith, length-replicate n (tt {0})))
