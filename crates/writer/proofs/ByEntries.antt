-- A call on a writer, in the words of the entries for which it stands.
use Rattle.std.proofs.Common.{◌≡◌, ℕ, ◌+◌, ◌≤◌, true, false, List, [], ◌++◌, length, drop, is_ok, Some, None, Ok, Err, Option, Result, sym, refl, ap, ◌∙◌, subst, arith}
use Rattle.std.proofs.lemmas.List.{append-nil, drop_at, drop_all}
use Rattle.std.proofs.lemmas.Bool.{cond-true, cond-false}
use Rattle.format.specs.Buffers.{written}
use Rattle.format.specs.Codecs.{Meaning}
use Rattle.format.specs.declared.fault.Fault.{Fault}
use Rattle.format.specs.Faults.{told}
use Rattle.format.specs.Tables.{Entry}
use Rattle.format.specs.Writing as writing
use Rattle.format.specs.Writing.{Waiting, for_key, for_value, finished, Written, Call, refusal, answered, accepted, called, output, overwritten}
use Rattle.writer.specs.declared.fault.WriterFault.{WriterFault}
use Rattle.writer.specs.Told.{of_writer}
use Rattle.writer.specs.States as states
use Rattle.writer.specs.States.{State, Steps}
use Rattle.writer.specs.Standing.{state_in, state_of, added, Stands, Does, Calls}
use Rattle.format.proofs.BufferLaws.{written_none}
use Rattle.writer.proofs.BlockParts.{over_more}
use Rattle.writer.proofs.Standings.{open_rising}
use Rattle.writer.proofs.Steps.{After, after_is, answer_is, ending_is}

-- An answer by what it tells.
ok_told : {E : Type 0} (f : E → Fault) (r : Result (Unit {0}) E) → told f r ≡ Ok tt → is_ok r ≡ true
ok_told f (Ok x) h = refl
ok_told f (Err e) h = cc

err_told : {E : Type 0} (f : E → Fault) (r : Result (Unit {0}) E) (g : Fault) → told f r ≡ Err g → is_ok r ≡ false
err_told f (Ok x) g h = cc
err_told f (Err e) g h = refl

module _ {V : Type 0} (means : Meaning V) where
  pub called_none : (room : ℕ) (w : Written V) (c : Call V) → refusal means w c room ≡ None → called means room w c ≡ accepted w c
  called_none room w c h = ap (λ (f : Option Fault). elim f [ None ↦ accepted w c | Some g ↦ w ]) h

  pub called_some : (room : ℕ) (w : Written V) (c : Call V) (g : Fault) → refusal means w c room ≡ Some g → called means room w c ≡ w
  called_some room w c g h = ap (λ (f : Option Fault). elim f [ None ↦ accepted w c | Some g ↦ w ]) h

  does_case : (w : Written V) (c : Call V) (old : State V) (from : List ℕ) (got : Result (Unit {0}) WriterFault) (new : State V) (to : List ℕ) (f : Option Fault)
      → refusal means w c (length from) ≡ f → told of_writer got ≡ answered f → Stands means w old → Steps means c old from got new to → Does means w c from got new to
  does_case w c old from got new to None h a st s =
      let room = length from in
      let n = length (output means.bytes w) in
      let t = ok_told of_writer got a in
      let x : After means room w.taken w.waits c = after_is means room w.taken w.waits c (open_rising w.taken st.rises) st.rises st.above h in
      let y : accepted w c ≡ called means room w c = sym (called_none room w c h) in
      let q : states.written_by means.bytes (state_of means.bytes w) c ≡ added means.bytes w (accepted w c) =
      sym (drop_at (output means.bytes w) (states.written_by means.bytes (state_of means.bytes w) c) n refl) ∙ ap (drop n) x.added in
      record {
        answers = a ∙ ap answered (sym h);
        stands = subst (λ (z : Written V). Stands means z new) y
            (record { state = s.leaves ∙ cond-true _ _ _ t ∙ ap (λ (z : State V). states.next means.bytes z c) st.state ∙ x.state; rises = x.rises; above = x.above });
        writes = s.writes ∙ cond-true _ _ _ t ∙ ap (λ (z : State V). written from z.table.end (states.written_by means.bytes z c)) st.state
            ∙ ap (written from n) q ∙ ap (λ (z : Written V). written from n (added means.bytes w z)) y;
      }
  does_case w c old from got new to (Some g) h a st s =
      let n = length (output means.bytes w) in
      let t = err_told of_writer got g a in
      let y : w ≡ called means (length from) w c = sym (called_some (length from) w c g h) in
      let z : added means.bytes w w ≡ [] = drop_all n (output means.bytes w) (omega arith) in
      record {
        answers = a ∙ ap answered (sym h);
        stands = subst (λ (z : Written V). Stands means z new) y (record { state = s.leaves ∙ cond-false _ _ _ t ∙ st.state; rises = st.rises; above = st.above });
        writes = s.writes ∙ cond-false _ _ _ t ∙ sym (ap (written from n) z ∙ written_none from n) ∙ ap (λ (z : Written V). written from n (added means.bytes w z)) y;
      }

  -- what a call does to a state, it does by the entries
  pub calls : (c : Call V) (old : State V) (from : List ℕ) (got : Result (Unit {0}) WriterFault) (new : State V) (to : List ℕ) → Steps means c old from got new to → Calls means c old from got new to
  calls c old from got new to s w st =
      let room = length from in
      let a = s.answers ∙ ap (λ (z : State V). states.answer means z c room) st.state ∙ answer_is means room w.taken w.waits c (open_rising w.taken st.rises) in
      does_case w c old from got new to (refusal means w c room) refl a st s

  room_in : (ts : List (Entry V)) (s : Waiting) (answer : ℕ) → states.Room means.bytes (state_in means.bytes ts s) answer → writing.RoomIn means.bytes ts s answer
  room_in ts for_key answer h = subst (λ (z : List ℕ). (length z ≤ answer) × (answer ≤ length z + 16)) (ending_is means.bytes ts) h
  room_in ts (for_value k) answer h = subst (λ (z : List ℕ). (length z ≤ answer) × (answer ≤ length z + 16)) (ending_is means.bytes ts) h
  room_in ts finished answer h = h

  pub room_of : (s : State V) (answer : ℕ) → states.Room means.bytes s answer → (w : Written V) → Stands means w s → writing.Room means.bytes w answer
  room_of s answer h w st = room_in w.taken w.waits answer (subst (λ (z : State V). states.Room means.bytes z answer) st.state h)

  added_is : (w : Written V) (o b : List ℕ) → output means.bytes w ++ b ≡ o → output means.bytes w ++ drop (length (output means.bytes w)) o ≡ o
  added_is w o b e =
      let a = output means.bytes w in
      ap (λ (z : List ℕ). a ++ drop (length a) z) (sym e) ∙ ap (λ (z : List ℕ). a ++ z) (drop_at a b (length a) refl) ∙ e

  more_case : (room : ℕ) (w : Written V) (c : Call V) (s : State V) (f : Option Fault) → refusal means w c room ≡ f → Stands means w s
      → output means.bytes w ++ added means.bytes w (called means room w c) ≡ output means.bytes (called means room w c)
  more_case room w c s None h st =
      let x : After means room w.taken w.waits c = after_is means room w.taken w.waits c (open_rising w.taken st.rises) st.rises st.above h in
      added_is w (output means.bytes (called means room w c)) (states.written_by means.bytes (state_of means.bytes w) c)
      (x.added ∙ ap (output means.bytes) (sym (called_none room w c h)))
  more_case room w c s (Some g) h st =
      added_is w (output means.bytes (called means room w c)) []
      (append-nil (output means.bytes w) ∙ ap (output means.bytes) (sym (called_some room w c g h)))

  -- what was written stays, and what a call adds comes behind it
  pub output_more : (room : ℕ) (w : Written V) (c : Call V) (s : State V) → Stands means w s
      → output means.bytes w ++ added means.bytes w (called means room w c) ≡ output means.bytes (called means room w c)
  output_more room w c s st = more_case room w c s (refusal means w c room) refl st

  -- an output that began with what was written begins with what is written after a call
  pub out_after : (old : List ℕ) (w : Written V) (c : Call V) (s : State V) (from : List ℕ) (got : Result (Unit {0}) WriterFault) (new : State V) (to : List ℕ)
      → Stands means w s → from ≡ overwritten old (output means.bytes w) → Does means w c from got new to → to ≡ overwritten old (output means.bytes (called means (length from) w c))
  out_after old w c s from got new to st e d =
      let b = added means.bytes w (called means (length from) w c) in
      d.writes ∙ ap (λ (z : List ℕ). written z (length (output means.bytes w)) b) e ∙ over_more old (output means.bytes w) b
      ∙ ap (overwritten old) (output_more (length from) w c s st)
