-- Keys that share a front, and what one takes in the delta part.
use Rattle.std.proofs.Common.{◌≡◌, ℕ, ◌+◌, ◌-◌, true, List, [], ◌∷◌, ◌++◌, length, take, drop, is_ok, IfErr, Ok, Err, Result, refl, ap, ◌∙◌, append_assoc, length-append, length-drop}
use Rattle.std.proofs.lemmas.List.{take_rest}
use Rattle.format.specs.Headers.{header}
use Rattle.format.proofs.EntryBack.{shared_front}
use Rattle.writer.specs.Parts.{Kept, behind, entry, before}

-- a key's length in the delta part
pub entry_length : (k : Kept) → length (entry k) ≡ length (header k.keep (length k.key - k.keep)) + (length k.key - k.keep)
unfolding entry
entry_length k = length-append (header k.keep (length k.key - k.keep)) (drop k.keep k.key) ∙ ap (λ (n : ℕ). length (header k.keep (length k.key - k.keep)) + n) (length-drop k.keep k.key)

-- a header and a suffix behind a delta part are an entry
pub entry_pushed : (ds ds' ds'' : List ℕ) (k : Kept) → ds' ≡ ds ++ header k.keep (length k.key - k.keep) → ds'' ≡ ds' ++ take (length k.key - k.keep) (drop k.keep k.key) → ds'' ≡ ds ++ entry k
unfolding entry
entry_pushed ds ds' ds'' k e f =
    f ∙ ap (λ (z : List ℕ). z ++ take (length k.key - k.keep) (drop k.keep k.key)) e
    ∙ append_assoc ds (header k.keep (length k.key - k.keep)) (take (length k.key - k.keep) (drop k.keep k.key))
    ∙ ap (λ (z : List ℕ). ds ++ (header k.keep (length k.key - k.keep) ++ z)) (take_rest k.key k.keep)

-- the bytes that a key keeps stand at the front of the last key, and of its own
pub kept_same : (ds last key : List ℕ) → take (behind (before ds last) key).keep last ≡ take (behind (before ds last) key).keep key
kept_same [] last key = refl
kept_same (d ∷ ds) last key = shared_front last key

-- an answer that cannot be a refusal
pub ok_since : {A E : Type 0} (r : Result A E) (P : Type 0) → IfErr r (λ _. P) → (P → ⊥) → is_ok r ≡ true
ok_since (Ok x) P h n = refl
ok_since (Err e) P h n = absurd (n h)
