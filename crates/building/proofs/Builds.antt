-- What a loop over lines learns from each call on the writer.
use Rattle.std.proofs.Common.{vec_items, ◌≡◌, ℕ, ◌+◌, ◌≤◌, ltb, List, [], ◌∷◌, ◌++◌, length, Some, None, Ok, Err, Option, Result, sym, refl, ap, ◌∙◌, subst, arith}
use Rattle.std.proofs.lemmas.Bool.{ltb-false}
use Rattle.std.specs.Result.{MatchResult}
use Rattle.format.specs.declared.fault.Fault.{Fault}
use Rattle.format.specs.Faults.{told, fault, call as call_layer}
use Rattle.format.specs.Monotonic.{u64_meaning, u64_bytes}
use Rattle.format.specs.Tables.{Entry, sstable}
use Rattle.format.specs.Writing.{Written, Call, insert, finish, refusal, answered, accepted, called, output, overwritten}
use Rattle.writer.specs.declared.fault.WriterFault.{WriterFault}
use Rattle.writer.specs.Standing.{Stands, HoldsOf, Calls}
use Rattle.writer.specs.States.{State}
use Rattle.writer.specs.Told.{of_writer}
use Rattle.writer.proofs.ByEntries.{called_none, out_after}
use Rattle.writer.proofs.Steps.{none_if}
use Rattle.building.specs.declared.fault.BuildFault.{BuildFault}
use Rattle.building.specs.declared.fault.BuildFault.TheVariants as build_fault
use Rattle.building.specs.declared.line.Line.{Line}
use Rattle.building.specs.Parts.{entry_of}
use Rattle.std.specs.Option.{option_map}
use Rattle.building.specs.Lines.{parsed}
use Rattle.building.specs.Built.{Built, whole, bad_line, bad_entry, took, finished_by, built_from, built, Holds, Answers}

-- one step of what is built
abbrev entered : ℕ → ℕ → List (Entry ℕ) → List (List ℕ) → Entry ℕ → Option Fault → Built
entered room n es ls e o = elim o [ None ↦ built_from room (n + 1) (es ++ e ∷ []) ls | Some f ↦ bad_entry n f ]

abbrev refusal_of : ℕ → List (Entry ℕ) → Entry ℕ → Option Fault
refusal_of room es e = refusal u64_meaning (took es) (insert e.key e.value) room

abbrev stepped : ℕ → ℕ → List (Entry ℕ) → List (List ℕ) → Option (Entry ℕ) → Built
stepped room n es ls o = elim o [ None ↦ bad_line n | Some e ↦ entered room n es ls e (refusal_of room es e) ]

none_from : (o : Option Fault) → Ok tt ≡ answered o → o ≡ None
none_from None h = refl
none_from (Some f) h = cc

some_from : (o : Option Fault) (f : Fault) → Err f ≡ answered o → o ≡ Some f
some_from None f h = cc
some_from (Some g) f h = let z : g ≡ f = cc in ap Some z

-- the entry of a line that was parsed, with its key as the writer is given it
pub entry_is : (l : Line) (o : Option Line) (key line : List ℕ) → o ≡ Some l → key ≡ vec_items l.key → option_map entry_of o ≡ parsed line
    → Some (record { key = key; value = l.value }) ≡ parsed line
entry_is l o key line e k p = ap (λ (z : List ℕ). Some (record { key = z; value = l.value })) k ∙ ap (option_map entry_of) (sym e) ∙ p

-- A call on the writer answers this, its fault is turned, and `?` lets it through or not.
abbrev pub Turned : (WriterFault → BuildFault) → Result (Unit {0}) WriterFault → Result (Unit {0}) BuildFault → Type 0
Turned turn r m = MatchResult r (λ x. m ≡ Ok x) (λ f. m ≡ Err (turn f))

-- A build where so many lines are read, and lines are left.
pub record At (old text : List ℕ) (line : ℕ) (ls : List (List ℕ)) (s : State ℕ) (out : List ℕ) : Type 0 where
  pub entries : List (Entry ℕ)
  pub stands : Stands u64_meaning (took entries) s
  pub out_is : out ≡ overwritten old (output u64_bytes (took entries))
  pub left : built (length old) text ≡ built_from (length old) (line + 1) entries ls

module _ (old text : List ℕ) (line : ℕ) (ls : List (List ℕ)) (s : State ℕ) (out : List ℕ) (at : At old text line ls s out) (same : length out ≡ length old) where
  abbrev w : Written ℕ
  w = took at.entries

  -- what a call on the writer answers
  answer_to : (c : Call ℕ) (r : Result (Unit {0}) WriterFault) (s' : State ℕ) (o' : List ℕ) → Calls u64_meaning c s out r s' o' → told of_writer r ≡ answered (refusal u64_meaning w c (length old))
  answer_to c r s' o' d = (d w at.stands).answers ∙ ap (λ (k : ℕ). answered (refusal u64_meaning w c k)) same

  -- what an accepted call leaves
  record Left (v : Written ℕ) (s' : State ℕ) (o' : List ℕ) : Type 0 where
    pub stands : Stands u64_meaning v s'
    pub out_is : o' ≡ overwritten old (output u64_bytes v)

  left_by : (c : Call ℕ) (r : Result (Unit {0}) WriterFault) (s' : State ℕ) (o' : List ℕ) → Calls u64_meaning c s out r s' o' → refusal u64_meaning w c (length old) ≡ None → Left (accepted w c) s' o'
  left_by c r s' o' d n =
      let p : called u64_meaning (length out) w c ≡ accepted w c = ap (λ (k : ℕ). called u64_meaning k w c) same ∙ called_none u64_meaning (length old) w c n in
      record {
        stands = subst (λ (z : Written ℕ). Stands u64_meaning z s') p (d w at.stands).stands;
        out_is = out_after u64_meaning old w c s out r s' o' at.stands at.out_is (d w at.stands) ∙ ap (λ (z : Written ℕ). overwritten old (output u64_bytes z)) p;
      }

  -- the line that is next
  module _ (l : List ℕ) (more : List (List ℕ)) (next : ls ≡ l ∷ more) where
    next_line : (o : Option (Entry ℕ)) → o ≡ parsed l → built (length old) text ≡ stepped (length old) (line + 1) at.entries more o
    next_line o h = at.left ∙ ap (built_from (length old) (line + 1) at.entries) next ∙ ap (stepped (length old) (line + 1) at.entries more) (sym h)

    module _ (e : Entry ℕ) (is : Some e ≡ parsed l) (n : ℕ) (number : n ≡ line) (s' : State ℕ) (o' : List ℕ) where
      abbrev call : Call ℕ
      call = insert e.key e.value

      at_more : Calls u64_meaning call s out (Ok tt) s' o' → At old text (line + 1) more s' o'
      at_more d =
          let n = none_from (refusal_of (length old) at.entries e) (answer_to call (Ok tt) s' o' d) in
          let l = left_by call (Ok tt) s' o' d n in
          record {
            entries = at.entries ++ e ∷ [];
            stands = l.stands;
            out_is = l.out_is;
            left = next_line (Some e) is ∙ ap (entered (length old) (line + 1) at.entries more e) n;
          }

      -- the entry was refused
      pub entry_refused : (r : Result (Unit {0}) WriterFault) (m : Result (Unit {0}) BuildFault) (b : BuildFault) (a : Result ℕ BuildFault)
          → Calls u64_meaning call s out r s' o' → Turned (build_fault.Entry (n + 1)) r m → m ≡ Err b → a ≡ Err b → Answers (built (length old) text) old a o'
      entry_refused (Ok x) m b a d t g e = cc
      entry_refused (Err f) m b a d t g answer =
          let is_entry : a ≡ Err (build_fault.Entry (n + 1) f) = cc in
          let refused = some_from (refusal_of (length old) at.entries e) (of_writer f) (answer_to call (Err f) s' o' d) in
          let bad : built (length old) text ≡ bad_entry (n + 1) (of_writer f) =
          next_line (Some e) is ∙ ap (entered (length old) (line + 1) at.entries more e) refused ∙ ap (λ (k : ℕ). bad_entry (k + 1) (of_writer f)) (sym number) in
          subst (λ (z : Result ℕ BuildFault). Answers (built (length old) text) old z o') (sym is_entry) bad

      -- the entry was taken
      pub entry_taken : (r : Result (Unit {0}) WriterFault) (m : Result (Unit {0}) BuildFault) → Calls u64_meaning call s out r s' o' → Turned (build_fault.Entry (n + 1)) r m → m ≡ Ok tt → At old text (line + 1) more s' o'
      entry_taken (Ok x) m d t g = at_more d
      entry_taken (Err f) m d t g = cc

  -- the finish
  module _ (none : ls ≡ []) (s' : State ℕ) (o' : List ℕ) where
    no_line : built (length old) text ≡ finished_by at.entries (refusal u64_meaning w finish (length old))
    no_line = at.left ∙ ap (built_from (length old) (line + 1) at.entries) none

    at_whole : Calls u64_meaning finish s out (Ok tt) s' o' → (n : ℕ) → HoldsOf u64_meaning s' (λ v. n ≡ length (output u64_bytes v))
        → (es : List (Entry ℕ)) × ((built (length old) text ≡ whole es) × Holds es n old o')
    at_whole d n m =
        let x = none_from (refusal u64_meaning w finish (length old)) (answer_to finish (Ok tt) s' o' d) in
        let v = left_by finish (Ok tt) s' o' d x in
        let l : n ≡ length (sstable u64_bytes at.entries) = m (accepted w finish) v.stands in
        let fits : length (sstable u64_bytes at.entries) ≤ length old =
        ltb-false (length old) (length (sstable u64_bytes at.entries)) (none_if (ltb (length old) (length (sstable u64_bytes at.entries))) (fault call_layer 24 (length at.entries)) None x).0 in (
          at.entries,
          (no_line ∙ ap (finished_by at.entries) x, record { len = l; within = omega (arith, l, fits); bytes = v.out_is }),
        )

    -- it was refused
    pub end_refused : (r : Result (Unit {0}) WriterFault) (m : Result (Unit {0}) BuildFault) (b : BuildFault) (a : Result ℕ BuildFault)
        → Calls u64_meaning finish s out r s' o' → Turned (λ f. build_fault.End f) r m → m ≡ Err b → a ≡ Err b → Answers (built (length old) text) old a o'
    end_refused (Ok x) m b a d t g e = cc
    end_refused (Err f) m b a d t g answer =
        let is_end : a ≡ Err (build_fault.End f) = cc in
        let refused = some_from (refusal u64_meaning w finish (length old)) (of_writer f) (answer_to finish (Err f) s' o' d) in
        subst (λ (z : Result ℕ BuildFault). Answers (built (length old) text) old z o') (sym is_end) (no_line ∙ ap (finished_by at.entries) refused)

    -- the sstable is whole
    pub whole_by : (r : Result (Unit {0}) WriterFault) (m : Result (Unit {0}) BuildFault) → Calls u64_meaning finish s out r s' o' → Turned (λ f. build_fault.End f) r m → m ≡ Ok tt
        → (n : ℕ) → HoldsOf u64_meaning s' (λ v. n ≡ length (output u64_bytes v)) → Answers (built (length old) text) old (Ok n) o'
    whole_by (Ok x) m d t g n v = at_whole d n v
    whole_by (Err f) m d t g n v = cc
