-- Laws of allowed lists, for every rule.
use Rattle.std.proofs.Common.{◌≡◌, ℕ, ◌≤◌, Bool, true, List, [], ◌∷◌, ◌++◌, length, refl, append_assoc, arith}
use Rattle.std.proofs.lemmas.List.{append-nil}
use Rattle.std.proofs.lemmas.Bool.{and_parts, and_from}
use Rattle.format.specs.Codecs.{allowed_after, Allowed, most}

module _ {V : Type 0} (rule : List V → V → Bool) where
  -- an allowed list with a value that may follow it
  allowed_behind : (before vs : List V) (v : V) → allowed_after rule before vs ≡ true → rule (before ++ vs) v ≡ true → allowed_after rule before (vs ++ v ∷ []) ≡ true
  allowed_behind before [] v a r =
      let e : rule before v ≡ true = rw append-nil at r in
      and_from _ _ e refl
  allowed_behind before (w ∷ vs) v a r =
      let p = and_parts (rule before w) (allowed_after rule (before ++ w ∷ []) vs) a in
      let s : rule (before ++ w ∷ [] ++ vs) v ≡ true = rw (append_assoc before (w ∷ []) vs) r in
      and_from _ _ p.0 (allowed_behind (before ++ w ∷ []) vs v p.1 s)

  pub allowed_push : (vs : List V) (v : V) → Allowed rule vs → rule vs v ≡ true → Allowed rule (vs ++ v ∷ [])
  allowed_push vs v a r = allowed_behind [] vs v a r

  -- a list that is counted by n is held
  pub list_held : (vs : List V) (n : ℕ) → Allowed rule vs → n ≡ length vs → n ≤ most → Allowed rule vs × (length vs ≤ most)
  list_held vs n a e h = (a, omega arith)
