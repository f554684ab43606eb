-- What stands before and behind the first place of a byte.
use Rattle.std.proofs.Common.{◌≡◌, ℕ, ◌+◌, ◌<◌, ◌≤◌, cond, eqb, ltb, false, List, [], ◌∷◌, length, take, drop, Some, None, Option, sym, refl, ap, ◌∙◌, inl, inr, add-one, arith, Bor}
use Rattle.std.proofs.lemmas.Bool.{cond-true, cond-false, cases_Bool, ltb-false}
use Rattle.std.proofs.lemmas.List.{take_all, drop_all}
use Rattle.std.specs.List.{position_or_len}
use Rattle.std.specs.Option.{option_map, unwrap_or}
use Rattle.building.specs.Lines.{first_at, halves, longer, lines_of}
use Rattle.building.specs.Parts.{parts_of}

-- the library's word for the first place
first_at_is : (b : ℕ) (xs : List ℕ) → position_or_len (λ c. eqb c b) xs ≡ first_at b xs
first_at_is b [] = refl
first_at_is b (c ∷ cs) = let e = first_at_is b cs in grind (arith, e)

-- the halves at a place, if there is one
abbrev pub halves_at : List ℕ → Option ℕ → Option (List ℕ × List ℕ)
halves_at xs = option_map (λ i. (take i xs, drop (i + 1) xs))

pub halves_are : (b : ℕ) (xs : List ℕ) → halves_at xs (cond (ltb (position_or_len (λ c. eqb c b) xs) (length xs)) (Some (position_or_len (λ c. eqb c b) xs)) None) ≡ halves b xs
halves_are b xs =
    let at : ℕ → Option (List ℕ × List ℕ) = λ n. halves_at xs (cond (ltb n (length xs)) (Some n) None) in
    ap at (first_at_is b xs)
    ∙ elim (cases_Bool (ltb (first_at b xs) (length xs))) [
      | inl e ↦ rw e refl
      | inr e ↦ rw e refl
    ]

-- the first line of a text, and those behind it
lines_more : (c : ℕ) (cs : List ℕ) → eqb c 10 ≡ false → lines_of cs ≡ take (first_at 10 cs) cs ∷ lines_of (drop (first_at 10 cs + 1) cs)
    → lines_of (c ∷ cs) ≡ take (first_at 10 cs + 1) (c ∷ cs) ∷ lines_of (drop (first_at 10 cs + 1 + 1) (c ∷ cs))
lines_more c cs e h =
    let f = first_at 10 cs in
    cond-false (eqb c 10) _ _ e ∙ ap (longer c) h
    ∙ ap (λ (n : ℕ). take n (c ∷ cs) ∷ lines_of (drop (f + 1) cs)) (sym (add-one f))
    ∙ ap (λ (n : ℕ). take (f + 1) (c ∷ cs) ∷ lines_of (drop n (c ∷ cs))) (sym (add-one (f + 1)))

lines_split : (t : List ℕ) → 0 < length t → lines_of t ≡ take (first_at 10 t) t ∷ lines_of (drop (first_at 10 t + 1) t)
lines_split [] h = absurd (omega arith)
lines_split (c ∷ cs) h =
    elim (cases_Bool (eqb c 10)) [
      | inl e ↦ cond-true (eqb c 10) _ _ e ∙ ap (λ (n : ℕ). take n (c ∷ cs) ∷ lines_of (drop (n + 1) (c ∷ cs))) (sym (cond-true (eqb c 10) 0 (first_at 10 cs + 1) e))
      | inr e ↦ further cs e (λ k. lines_split cs k) ∙ ap (λ (n : ℕ). take n (c ∷ cs) ∷ lines_of (drop (n + 1) (c ∷ cs))) (sym (cond-false (eqb c 10) 0 (first_at 10 cs + 1) e))
    ]
  where
    further : (ds : List ℕ) → eqb c 10 ≡ false → (0 < length ds → lines_of ds ≡ take (first_at 10 ds) ds ∷ lines_of (drop (first_at 10 ds + 1) ds)) → lines_of (c ∷ ds) ≡ take (first_at 10 ds + 1) (c ∷ ds) ∷ lines_of (drop (first_at 10 ds + 1 + 1) (c ∷ ds))
    further [] e h = cond-false (eqb c 10) _ _ e
    further (d ∷ ds) e h = lines_more c (d ∷ ds) e (h (omega arith))

-- the halves that were found, or a whole text and nothing
abbrev pub parted : List ℕ → Option (List ℕ × List ℕ) → List ℕ × List ℕ
parted t (Some h) = h
parted t None = (t, [])

-- the first line of a text, and those behind it
pub first_line : (t : List ℕ) → 0 < length t → lines_of t ≡ (parted t (halves 10 t)).0 ∷ lines_of (parted t (halves 10 t)).1
first_line t h =
    elim (cases_Bool (ltb (first_at 10 t) (length t))) [
      | inl e ↦ rw e (lines_split t h)
      | inr e ↦
          let end : length t ≤ first_at 10 t = ltb-false (first_at 10 t) (length t) e in
          let whole = ap (λ (z : List ℕ). z ∷ lines_of (drop (first_at 10 t + 1) t)) (take_all (first_at 10 t) t end) in
          let none = ap (λ (z : List ℕ). t ∷ lines_of z) (drop_all (first_at 10 t + 1) t (omega arith)) in
          rw e (lines_split t h ∙ whole ∙ none)
    ]

pub parts_or : (t : List ℕ) (o : Option (Bor (List ℕ) × Bor (List ℕ))) (d : Bor (List ℕ) × Bor (List ℕ)) → parts_of d ≡ (t, [])
    → parts_of (unwrap_or o d) ≡ parted t (option_map parts_of o)
parts_or t (Some p) d e = refl
parts_or t None d e = e
