-- A stream gives the passing entries of a reading in order: those within both bounds that the automaton accepts.
use Rattle.std.specs.Prelude.{ℕ, suc, Bool, cond, ◌&&◌, List, [], ◌∷◌, length, Some, None, Ok, Err, Option, Result, nat_lt}
use Rattle.std.specs.List.{slice_get}
use Rattle.format.specs.Keys.{longest}
use Rattle.format.specs.declared.fault.Fault.{Fault}
use Rattle.format.specs.Faults.{fault, call}
use Rattle.format.specs.Tables.{Entry}
use Rattle.format.specs.Reading.{Reading, Ending, end, fails}
use Rattle.format.specs.Writing.{first}
use Rattle.format.specs.Bounds.{Bound, bound_key, above_lower, within_upper}
use Rattle.format.specs.Automata.{Machine, accepts_key}

-- 1: a bound has at most 512 bytes; the lower one is at place 0, the upper one at place 1
abbrev pub bound_refusal : ℕ → Bound → Option Fault
bound_refusal place b = cond (nat_lt longest (length (bound_key b))) (Some (fault call 1 place)) None

-- the refusal to open a stream, if there is one
abbrev pub open_refusal : Bound → Bound → Option Fault
open_refusal lower upper = first (bound_refusal 0 lower) (bound_refusal 1 upper)

-- what a stream is asked for
pub record Query : Type 0 where
  pub lower : Bound
  pub upper : Bound
  pub automaton : Machine

-- a key within both bounds that is accepted
abbrev pub is_passing : Query → List ℕ → Bool
is_passing q key = above_lower q.lower key && (within_upper q.upper key && accepts_key q.automaton key)

-- an entry with its ordinal, which counts all entries before it, passing or not
pub record Match (V : Type 0) : Type 0 where
  pub ordinal : ℕ
  pub key : List ℕ
  pub value : V

module _ {V : Type 0} where
  -- the passing ones of some entries, the first of which has an ordinal
  abbrev pub passing_from : Query → ℕ → List (Entry V) → List (Match V)
  passing_from q n [] = []
  passing_from q n (e ∷ es) =
      let later = passing_from q (suc n) es in
      cond (is_passing q e.key) (record { ordinal = n; key = e.key; value = e.value } ∷ later) later

  -- the passing ones of all entries
  abbrev pub passing : Query → List (Entry V) → List (Match V)
  passing q es = passing_from q 0 es

-- A stream: what it gives, and what stands behind.
pub record Stream (V : Type 0) : Type 0 where
  pub matches : List (Match V)
  pub ending : Ending

module _ {V : Type 0} where
  abbrev pub matched : Match V → Stream V → Stream V
  matched m s = record { matches = m ∷ s.matches; ending = s.ending }

  -- the stream of a reading from an entry with an ordinal on: the first key beyond the upper bound is the end, whatever the automaton says
  abbrev pub stream_from : Query → ℕ → List (Entry V) → Ending → Stream V
  stream_from q n [] ending = record { matches = []; ending = ending }
  stream_from q n (e ∷ es) ending =
      let later = stream_from q (suc n) es ending in
      cond (within_upper q.upper e.key)
      (cond (is_passing q e.key) (matched (record { ordinal = n; key = e.key; value = e.value }) later) later)
      (record { matches = []; ending = end })

  abbrev pub stream : Query → Reading V → Stream V
  stream q r = stream_from q 0 r.entries r.ending

  -- at the end a stream answers nothing, and after a fault that fault, for ever
  abbrev pub end_answer : Ending → Result (Option (ℕ × V)) Fault
  end_answer end = Ok None
  end_answer (fails f) = Err f

  abbrev pub match_answer : Option (Match V) → Ending → Result (Option (ℕ × V)) Fault
  match_answer (Some m) ending = Ok (Some (m.ordinal, m.value))
  match_answer None ending = end_answer ending

  -- what the advance after n others answers
  abbrev pub answer_at : Stream V → ℕ → Result (Option (ℕ × V)) Fault
  answer_at s n = match_answer (slice_get s.matches n) s.ending

  abbrev pub match_key : Option (Match V) → Option (List ℕ)
  match_key (Some m) = Some m.key
  match_key None = None

  -- the key that can be read after that advance
  abbrev pub key_after : Stream V → ℕ → Option (List ℕ)
  key_after s n = match_key (slice_get s.matches n)
