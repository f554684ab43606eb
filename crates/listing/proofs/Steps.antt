-- What a loop over a reading learns from each answer.
use Rattle.std.proofs.Common.{◌≡◌, ℕ, suc, ◌+◌, ◌-◌, ◌<◌, ◌≤◌, List, [], ◌++◌, length, Some, None, Ok, Err, Option, sym, refl, ap, ◌∙◌, subst, append_assoc, arith, unwrap_or, Bor}
use Rattle.std.specs.Option.{option_map, IsSome}
use Rattle.format.specs.Codecs.{Meaning}
use Rattle.format.specs.declared.fault.Fault.{Fault}
use Rattle.format.specs.Reading.{Position, Delta, Step, entry, ended, faulted, Standing, reading, at_end, stopped, from, after, answer, key_at, key_of, step, step_at, read_in, Reading, end, fails, behind, nothing}
use Rattle.format.specs.Monotonic.{u64_meaning}
use Rattle.format.proofs.ReadingLaws.{Onward, Moves, step_moves}
use Rattle.listing.specs.Listing.{line, closing, listed}

-- where a reader stands; at the front where it reads no more
abbrev pub position_at : Standing → Position
position_at (reading p) = p
position_at at_end = from 0
position_at (stopped f) = from 0

module _ {V : Type 0} where
  -- an answer that is an entry
  pub record Entered (s : Step V) (d : Delta V) (t : Standing) : Type 0 where
    pub position : Position
    pub stepped : s ≡ entry d position
    pub stood : t ≡ reading position

  pub entered : (s : Step V) (d : Delta V) (t : Standing) → Ok (Some d) ≡ answer s → t ≡ after s → Entered s d t
  entered (entry e q) d t a l = let z : d ≡ e = cc in record { position = q; stepped = ap (λ (x : Delta V). entry x q) (sym z); stood = l }
  entered ended d t a l = let z : ◌≡◌ {A = ℕ} 0 1 = cc in absurd (omega arith)
  entered (faulted f) d t a l = let z : ◌≡◌ {A = ℕ} 0 1 = cc in absurd (omega arith)

  pub at_end_lem : (s : Step V) → Ok None ≡ answer s → s ≡ ended
  at_end_lem (entry d q) a = cc
  at_end_lem ended a = refl
  at_end_lem (faulted f) a = cc

  pub at_fault : (s : Step V) (f : Fault) → Err f ≡ answer s → s ≡ faulted f
  at_fault (entry d q) f a = cc
  at_fault ended f a = cc
  at_fault (faulted g) f a = let z : g ≡ f = cc in ap (λ (x : Fault). faulted x) z

  -- one step of a whole reading
  abbrev then : Step V → (Position → Reading V) → Reading V
  then s go = elim s [ entry d p ↦ behind (record { key = key_of p.last; value = d.value }) (go p) | ended ↦ nothing end | faulted f ↦ nothing (fails f) ]

module _ {V : Type 0} (means : Meaning V) where
  read_more : (m : ℕ) (area : List ℕ) (s : Standing) → read_in means (suc m) area s ≡ then (step means area s) (λ p. read_in means m area (reading p))
  read_more m area s = refl

  pub read_entry : (k m : ℕ) (area : List ℕ) (s : Standing) (d : Delta V) (q : Position) → k ≡ suc m → step means area s ≡ entry d q
      → read_in means k area s ≡ behind (record { key = key_of q.last; value = d.value }) (read_in means m area (reading q))
  read_entry k m area s d q n e =
      ap (λ (z : ℕ). read_in means z area s) n ∙ ap (λ (z : Step V). then z (λ p. read_in means m area (reading p))) e

  pub read_end : (k m : ℕ) (area : List ℕ) (s : Standing) → k ≡ suc m → step means area s ≡ ended → read_in means k area s ≡ nothing end
  read_end k m area s n e = ap (λ (z : ℕ). read_in means z area s) n ∙ ap (λ (z : Step V). then z (λ p. read_in means m area (reading p))) e

  pub read_fault : (k m : ℕ) (area : List ℕ) (s : Standing) (f : Fault) → k ≡ suc m → step means area s ≡ faulted f → read_in means k area s ≡ nothing (fails f)
  read_fault k m area s f n e = ap (λ (z : ℕ). read_in means z area s) n ∙ ap (λ (z : Step V). then z (λ p. read_in means m area (reading p))) e

  -- an entry moves a reading on, and has the next ordinal
  pub moved_on : (area : List ℕ) (p : Position) (d : Delta V) (q : Position) → step_at means area p ≡ entry d q → Onward area p.next p.ordinal q × (d.ordinal ≡ p.ordinal)
  moved_on area p d q e = subst (Moves area p.next p.ordinal) e (step_moves means area p)

-- A listing between two lines: those that were written, and those that are left, are the whole text.
pub record At (area whole text : List ℕ) (count : ℕ) (s : Standing) : Type 0 where
  pub text_is : text ++ listed count (read_in u64_meaning (length area + 1 - count) area s) ≡ whole
  pub stands : s ≡ reading (position_at s)
  pub inside : (position_at s).next ≤ length area
  pub few : count ≤ (position_at s).next
  pub counted : count ≡ (position_at s).ordinal

module _ (area whole text : List ℕ) (count : ℕ) (s : Standing) (at : At area whole text count s) where
  abbrev p : Position
  p = position_at s

  abbrev taken : Step ℕ
  taken = step u64_meaning area s

  -- after one line more
  pub turned : (s' : Standing) (text' key : List ℕ) (d : Delta ℕ) → Ok (Some d) ≡ answer taken → s' ≡ after taken
      → key ≡ key_of (key_at s') → text' ≡ text ++ line d.ordinal (record { key = key; value = d.value })
      → At area whole text' (d.ordinal + 1) s' × (p.next < (position_at s').next)
  turned s' text' key d a l k t =
      let e = entered taken d s' a l in
      let q = e.position in
      let is : position_at s' ≡ q = ap position_at e.stood in
      let o = moved_on u64_meaning area p d q (sym (ap (step u64_meaning area) at.stands) ∙ e.stepped) in
      let n : d.ordinal ≡ count = o.1 ∙ sym at.counted in
      let m = length area + 1 - (d.ordinal + 1) in
      let few = at.few in
      let inside = at.inside in
      let further = o.0.further in
      let within = o.0.inside in
      let r = read_entry u64_meaning (length area + 1 - count) m area s d q (omega arith) e.stepped in
      let key_is : key ≡ key_of q.last = k ∙ ap (λ (z : Standing). key_of (key_at z)) e.stood in
      let rest : List ℕ = listed (d.ordinal + 1) (read_in u64_meaning m area (reading q)) in
      let next_is : q.next ≡ (position_at s').next = ap (λ (z : Position). z.next) (sym is) in
      let ordinal_is : q.ordinal ≡ (position_at s').ordinal = ap (λ (z : Position). z.ordinal) (sym is) in
      let counted = o.0.counted in (
        record {
          text_is =
              ap (λ (z : Standing). text' ++ listed (d.ordinal + 1) (read_in u64_meaning m area z)) e.stood
              ∙ ap (λ (z : List ℕ). z ++ rest) (t ∙ ap (λ (z : List ℕ). text ++ line d.ordinal (record { key = z; value = d.value })) key_is)
              ∙ append_assoc text (line d.ordinal (record { key = key_of q.last; value = d.value })) rest
              ∙ ap (λ (z : ℕ). text ++ (line z (record { key = key_of q.last; value = d.value }) ++ listed (z + 1) (read_in u64_meaning m area (reading q)))) n
              ∙ ap (λ (z : Reading ℕ). text ++ listed count z) (sym r)
              ∙ at.text_is;
          stands = e.stood ∙ ap (λ (z : Position). reading z) (sym is);
          inside = omega arith;
          few = omega arith;
          counted = omega arith;
        },
        omega arith,
      )

  -- a reader that answered an entry has its key
  pub has_key : (s' : Standing) (d : Delta ℕ) → Ok (Some d) ≡ answer taken → s' ≡ after taken → IsSome (key_at s')
  has_key s' d a l =
      let e = entered taken d s' a l in
      let o = moved_on u64_meaning area p d e.position (sym (ap (step u64_meaning area) at.stands) ∙ e.stepped) in
      subst (λ (z : Standing). IsSome (key_at z)) (sym e.stood) o.0.has_key

  -- what is left at the end and at a fault
  pub left_at_end : Ok None ≡ answer taken → text ++ closing (Ok count) ≡ whole
  left_at_end a =
      let few = at.few in
      let inside = at.inside in
      ap (λ (z : Reading ℕ). text ++ listed count z) (sym (read_end u64_meaning (length area + 1 - count) (length area - count) area s (omega arith) (at_end_lem taken a))) ∙ at.text_is

  pub left_at_fault : (f : Fault) → Err f ≡ answer taken → text ++ closing (Err f) ≡ whole
  left_at_fault f a =
      let few = at.few in
      let inside = at.inside in
      ap (λ (z : Reading ℕ). text ++ listed count z) (sym (read_fault u64_meaning (length area + 1 - count) (length area - count) area s f (omega arith) (at_fault taken f a))) ∙ at.text_is

-- a key that is there, as the code has it
pub key_there : (o : Option (Bor (List ℕ))) (k : Option (List ℕ)) → option_map (λ x. x.now) o ≡ k → IsSome k → IsSome o
key_there None k e i = let z : IsSome {T = List ℕ} None = subst IsSome (sym e) i in z
key_there (Some x) k e i = refl

-- the key that is read, or no bytes
pub key_of_lem : (o : Option (Bor (List ℕ))) (r d : Bor (List ℕ)) (k : Option (List ℕ)) → r ≡ unwrap_or o d → d.now ≡ [] → option_map (λ x. x.now) o ≡ k → r.now ≡ key_of k
key_of_lem None r d k e z m = ap (λ x. x.now) e ∙ z ∙ ap key_of m
key_of_lem (Some x) r d k e z m = ap (λ x. x.now) e ∙ ap key_of m

pub key_is : (o : Option (Bor (List ℕ))) (r : Bor (List ℕ)) (k : Option (List ℕ)) → o ≡ Some r → option_map (λ x. x.now) o ≡ k → r.now ≡ key_of k
key_is o r k e m = ap (λ z. key_of (option_map (λ x. x.now) z)) (sym e) ∙ ap key_of m
