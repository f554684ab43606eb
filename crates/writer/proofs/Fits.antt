-- What is written fits the output, whatever calls were made.
use Rattle.std.proofs.Common.{◌≡◌, ℕ, ◌+◌, ◌≤◌, Bool, true, false, cond, ltb, List, [], ◌∷◌, ◌++◌, length, drop, Some, None, Option, sym, refl, ap, ◌∙◌, subst, arith, length-append, length-drop}
use Rattle.std.proofs.lemmas.Bool.{ltb-false}
use Rattle.format.specs.Codecs.{Meaning}
use Rattle.format.specs.declared.fault.Fault.{Fault}
use Rattle.format.specs.Faults.{fault, codec, call}
use Rattle.format.specs.Tables.{Entry, values, block, sstable}
use Rattle.format.specs.Writing as writing
use Rattle.format.specs.Writing.{Waiting, for_key, for_value, finished, Written, Call, insert, insert_key, insert_value, finish, new, closes, open_block, closed_bytes, refusal, refusal_in, accepted, accepted_in, called, called_all, output, overwritten}
use Rattle.writer.proofs.ByEntries.{called_none, called_some}
use Rattle.writer.proofs.Steps.{none_first, none_if, none_unless, closed_length}

-- an output keeps its length
pub overwritten_length : (old a : List ℕ) → length a ≤ length old → length (overwritten old a) ≡ length old
overwritten_length old a h = length-append a (drop (length a) old) ∙ omega (arith, length-drop (length a) old)

-- what is due where a block closes fits, unless 24 refuses it
none_due : (t : Bool) (room m n : ℕ) (f : Fault) (b : List ℕ) → cond t (cond (ltb room m) (Some f) None) None ≡ None → m ≡ n + length (cond t b []) → n ≤ room → m ≤ room
none_due true room m n f b h e l = ltb-false room m (none_if (ltb room m) f None h).0
none_due false room m n f b h e l = omega arith

module _ {V : Type 0} (means : Meaning V) where
  entry_fits : (room : ℕ) (ts : List (Entry V)) (e : Entry V) → length (closed_bytes means.bytes ts) ≤ room → writing.entry_refusal means ts e room ≡ None → length (closed_bytes means.bytes (ts ++ e ∷ [])) ≤ room
  entry_fits room ts e l h =
      let os = open_block ts in
      let n = none_unless (means.rule (values os) e.value) (writing.flush_refusal means.bytes ts e room) (fault codec 3 (length ts)) h in
      none_due (closes os e) room (length (closed_bytes means.bytes (ts ++ e ∷ []))) (length (closed_bytes means.bytes ts)) (fault call 24 (length ts)) (block means.bytes (os ++ e ∷ [])) n.1 (closed_length means.bytes ts e) l

  accepted_fits : (room : ℕ) (ts : List (Entry V)) (s : Waiting) (c : Call V) → length (writing.output_in means.bytes ts s) ≤ room → refusal_in means ts s c room ≡ None
      → length (output means.bytes (accepted_in ts s c)) ≤ room
  accepted_fits room ts for_key (insert k v) l h =
      let e : Entry V = record { key = k; value = v } in
      entry_fits room ts e l (none_first (writing.key_refusal ts k) (writing.entry_refusal means ts e room) h).1
  accepted_fits room ts for_key (insert_key k) l h = l
  accepted_fits room ts for_key (insert_value v) l h = l
  accepted_fits room ts for_key finish l h = ltb-false room (length (sstable means.bytes ts)) (none_if (ltb room (length (sstable means.bytes ts))) (fault call 24 (length ts)) None h).0
  accepted_fits room ts (for_value k) (insert m v) l h = let z : ◌≡◌ {A = ℕ} 0 1 = cc in absurd (omega arith)
  accepted_fits room ts (for_value k) (insert_key m) l h = l
  accepted_fits room ts (for_value k) (insert_value v) l h = entry_fits room ts (record { key = k; value = v }) l h
  accepted_fits room ts (for_value k) finish l h = let z : ◌≡◌ {A = ℕ} 0 1 = cc in absurd (omega arith)
  accepted_fits room ts finished (insert k v) l h = let z : ◌≡◌ {A = ℕ} 0 1 = cc in absurd (omega arith)
  accepted_fits room ts finished (insert_key k) l h = let z : ◌≡◌ {A = ℕ} 0 1 = cc in absurd (omega arith)
  accepted_fits room ts finished (insert_value v) l h = l
  accepted_fits room ts finished finish l h = l

  called_fits : (room : ℕ) (w : Written V) (c : Call V) (f : Option Fault) → refusal means w c room ≡ f → length (output means.bytes w) ≤ room → length (output means.bytes (called means room w c)) ≤ room
  called_fits room w c None h l =
      subst (λ (z : Written V). length (output means.bytes z) ≤ room) (sym (called_none means room w c h)) (accepted_fits room w.taken w.waits c l h)
  called_fits room w c (Some g) h l = subst (λ (z : Written V). length (output means.bytes z) ≤ room) (sym (called_some means room w c g h)) l

  -- what fits the output fits it after any calls
  pub all_fits : (room : ℕ) (cs : List (Call V)) (w : Written V) → length (output means.bytes w) ≤ room → length (output means.bytes (called_all means room w cs)) ≤ room
  all_fits room [] w l = l
  all_fits room (c ∷ cs) w l = all_fits room cs (called means room w c) (called_fits room w c (refusal means w c room) refl l)

  -- and nothing is written at first
  pub new_fits : (room : ℕ) (cs : List (Call V)) → length (output means.bytes (called_all means room new cs)) ≤ room
  new_fits room cs = all_fits room cs new (omega arith)
