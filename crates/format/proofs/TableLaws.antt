-- One entry more: in the values, the delta part and the cutting of entries into blocks.
use Rattle.std.proofs.Common.{◌≡◌, ℕ, cond, ltb, List, [], ◌∷◌, ◌++◌, length, sym, refl, ap, ◌∙◌, append_assoc}
use Rattle.std.proofs.lemmas.List.{append-nil}
use Rattle.format.specs.Tables.{Entry, block_len, delta, values, deltas_after, deltas, last_after, cut_from}

module _ {V : Type 0} where
  pub last_push : (k : List ℕ) (os : List (Entry V)) (e : Entry V) → last_after k (os ++ e ∷ []) ≡ e.key
  last_push k [] e = refl
  last_push k (o ∷ os) e = last_push o.key os e

  pub values_push : (os : List (Entry V)) (e : Entry V) → values (os ++ e ∷ []) ≡ values os ++ e.value ∷ []
  values_push [] e = refl
  values_push (o ∷ os) e = ap (λ (z : List V). o.value ∷ z) (values_push os e)

  pub deltas_push : (prev : List ℕ) (os : List (Entry V)) (e : Entry V) → deltas_after prev (os ++ e ∷ []) ≡ deltas_after prev os ++ delta (last_after prev os) e.key
  deltas_push prev [] e = append-nil (delta prev e.key)
  deltas_push prev (o ∷ os) e =
      ap (λ (z : List ℕ). delta prev o.key ++ z) (deltas_push o.key os e)
      ∙ sym (append_assoc (delta prev o.key) (deltas_after o.key os) (delta (last_after o.key os) e.key))

  -- an entry closes the open block, or stays in it
  pub open_step : (os : List (Entry V)) (e : Entry V) (es : List (Entry V))
      → cut_from os (e ∷ es) ≡ cond (ltb block_len (length (deltas (os ++ e ∷ [])))) ((os ++ e ∷ []) ∷ cut_from [] es) (cut_from (os ++ e ∷ []) es)
  open_step [] e es = refl
  open_step (o ∷ os) e es = refl
