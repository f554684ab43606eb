-- A list of calls on a new writer.
use Rattle.format.specs.Codecs.{Meaning}
use Rattle.std.proofs.Common.{◌≡◌, ℕ, ◌+◌, ◌<◌, List, [], ◌∷◌, ◌++◌, map, length, get_or, take, drop, Result, sym, refl, ap, ◌∙◌, subst}
use Rattle.std.proofs.lemmas.List.{take_at, map_more, map_push}
use Rattle.format.specs.Faults.{told}
use Rattle.format.specs.Laws.{Writes}
use Rattle.format.specs.Tables.{sstable}
use Rattle.format.specs.Writing.{Waiting, Written, Call, new, refusal, answered, called, called_all, answers, output, output_in, overwritten}
use Rattle.writer.specs.declared.fault.WriterFault.{WriterFault}
use Rattle.writer.specs.Standing.{Stands, Calls}
use Rattle.writer.specs.States.{State, Answer}
use Rattle.writer.specs.Told.{of_writer}
use Rattle.writer.proofs.ByEntries.{out_after}
use Rattle.sstable.specs.declared.call.Call as code
use Rattle.sstable.specs.Calls.{call_of}

module _ {V : Type 0} (means : Meaning V) where
  -- one call more
  called_push : (room : ℕ) (w : Written V) (cs : List (Call V)) (c : Call V) → called_all means room w (cs ++ c ∷ []) ≡ called means room (called_all means room w cs) c
  called_push room w [] c = refl
  called_push room w (x ∷ cs) c = called_push room (called means room w x) cs c

  answers_push : (room : ℕ) (w : Written V) (cs : List (Call V)) (c : Call V)
      → answers means room w (cs ++ c ∷ []) ≡ answers means room w cs ++ answered (refusal means (called_all means room w cs) c room) ∷ []
  answers_push room w [] c = refl
  answers_push room w (x ∷ cs) c = ap (λ (z : List Answer). answered (refusal means w x room) ∷ z) (answers_push room (called means room w x) cs c)

  -- What calls on a new writer leave and answer.
  pub record Ran (old : List ℕ) (cs : List (Call V)) (got : List Answer) (s : State V) (out : List ℕ) : Type 0 where
    pub answers_are : got ≡ answers means (length old) new cs
    pub stands : Stands means (called_all means (length old) new cs) s
    pub out_is : out ≡ overwritten old (output means.bytes (called_all means (length old) new cs))

  pub ran_none : (old : List ℕ) (got : List Answer) (s : State V) → got ≡ [] → Stands means new s → Ran old [] got s old
  ran_none old got s e st = record { answers_are = e; stands = st; out_is = refl }

  pub ran_more : (old : List ℕ) (cs cs' : List (Call V)) (c : Call V) (got got' : List Answer) (r : Result (Unit {0}) WriterFault) (s s' : State V) (o o' : List ℕ)
      → Ran old cs got s o → length o ≡ length old → Calls means c s o r s' o' → cs' ≡ cs ++ c ∷ [] → got' ≡ got ++ told of_writer r ∷ [] → Ran old cs' got' s' o'
  ran_more old cs cs' c got got' r s s' o o' n l d ec eg =
      let room = length old in
      let w = called_all means room new cs in
      let x = d w n.stands in
      let p : called means (length o) w c ≡ called_all means room new cs' =
      ap (λ (k : ℕ). called means k w c) l ∙ sym (called_push room new cs c) ∙ ap (called_all means room new) (sym ec) in
      record {
        answers_are = eg ∙ ap (λ (z : List Answer). z ++ told of_writer r ∷ []) n.answers_are
            ∙ ap (λ (z : Answer). answers means room new cs ++ z ∷ []) (x.answers ∙ ap (λ (k : ℕ). answered (refusal means w c k)) l)
            ∙ sym (answers_push room new cs c) ∙ ap (answers means room new) (sym ec);
        stands = subst (λ (z : Written V). Stands means z s') p x.stands;
        out_is = out_after means old w c s o r s' o' n.stands n.out_is x ∙ ap (λ (z : Written V). overwritten old (output means.bytes z)) p;
      }

  -- so the rules say it all
  pub ran_writes : (old : List ℕ) (cs : List (Call V)) (got : List Answer) (s : State V) (out : List ℕ) → Ran old cs got s out → Writes means old cs got out
  ran_writes old cs got s out n =
      let w = called_all means (length old) new cs in
      let ts = w.taken in
      record {
        refusals = n.answers_are;
        bytes_left = n.out_is;
        whole = λ e.
            let f = n.out_is ∙ ap (λ (z : Waiting). overwritten old (output_in means.bytes ts z)) e in
            ap (take (length (sstable means.bytes ts))) f ∙ take_at (sstable means.bytes ts) (drop (length (sstable means.bytes ts)) old) (length (sstable means.bytes ts)) refl;
      }

-- the calls made so far, with one more
pub made_more : {V : Type 0} (xs : List (code.Call V)) (i : ℕ) (x : code.Call V) → x ≡ get_or xs i x
    → i < length xs → map call_of (take (i + 1) xs) ≡ map call_of (take i xs) ++ call_of x ∷ []
made_more xs i x e h = map_more call_of xs i x h ∙ ap (λ y. map call_of (take i xs) ++ call_of y ∷ []) (sym e)

-- the answers given so far, with one more
pub told_more : (got more : List (Result (Unit {0}) WriterFault)) (r : Result (Unit {0}) WriterFault) → more ≡ got ++ r ∷ []
    → map (told of_writer) more ≡ map (told of_writer) got ++ told of_writer r ∷ []
told_more got more r e = ap (map (told of_writer)) e ∙ map_push (told of_writer) got r
