-- An automaton reads a key byte by byte; three are given: one that accepts every key, a prefix, and a table of states.
use Rattle.std.specs.Prelude.{◌≡◌, ℕ, zero, suc, ◌+◌, ◌*◌, ◌/◌, ◌%◌, ◌<◌, Bool, true, false, cond, not, ◌&&◌, ◌||◌, leb as at_most, List, [], ◌∷◌, length, Some, None, Option, ◌==◌, nat_lt, slice_index}
use Rattle.format.specs.Keys.{longest}
use Rattle.format.specs.declared.fault.Fault.{Fault}
use Rattle.format.specs.Faults.{fault, call, table}

pub record Machine : Type 0 where
  pub start : ℕ
  -- the state to which a byte leads from a state
  pub next : ℕ → ℕ → ℕ
  pub accepts : ℕ → Bool
  -- whatever follows, the key is accepted
  pub sure : ℕ → Bool

-- the state to which some bytes lead from a state
abbrev pub state_after : Machine → ℕ → List ℕ → ℕ
state_after m s [] = s
state_after m s (b ∷ bs) = state_after m (m.next s b) bs

-- a key is accepted that leads from the start to an accepting state
abbrev pub accepts_key : Machine → List ℕ → Bool
accepts_key m key = m.accepts (state_after m m.start key)

-- the law: a sure state accepts, and every byte leads from it to a sure state
abbrev pub Sure : Machine → Type 0
Sure m = (s : ℕ) → m.sure s ≡ true → (m.accepts s ≡ true) × ((b : ℕ) → b < 256 → m.sure (m.next s b) ≡ true)

-- the automaton that accepts every key
abbrev pub always : Machine
always = record { start = 0; next = λ s b. s; accepts = λ s. true; sure = λ s. true }

-- the automaton of the keys that begin with some bytes: a state is how many of them were met, and one more than all where another byte came
abbrev pub prefix : List ℕ → Machine
prefix p = record {
  start = 0;
  next = λ s b. cond (nat_lt s (length p)) (cond (slice_index p s == b) (s + 1) (length p + 1)) s;
  accepts = λ s. (s == length p);
  sure = λ s. (s == length p);
}

-- 1: a prefix has at most 512 bytes
abbrev pub prefix_refusal : List ℕ → Option Fault
prefix_refusal p = cond (nat_lt longest (length p)) (Some (fault call 1 0)) None

-- A table of n states has n rows of 256 next states, then n flag bytes: 1 for accepting, 2 for sure, added.
abbrev pub states : List ℕ → ℕ
states t = length t / 257

-- 257 bytes for each of 1 to 255 states
abbrev pub sized : List ℕ → Bool
sized t = length t % 257 == 0 && (at_most 1 (states t) && at_most (states t) 255)

-- the flag byte of a state
abbrev pub flag : List ℕ → ℕ → ℕ → ℕ
flag t n s = slice_index t (256 * n + s)

-- a flag byte that says sure, even a bad one
abbrev pub says_sure : ℕ → Bool
says_sure f = at_most 2 (f % 4)

-- the automaton of a table; a state code of n or more neither accepts nor is sure, and stays itself
abbrev pub table_of : List ℕ → Machine
table_of t = record {
  start = 0;
  next = λ s b. cond (nat_lt s (states t)) (slice_index t (256 * s + b)) s;
  accepts = λ s. nat_lt s (states t) && (flag t (states t) s == 1 || flag t (states t) s == 3);
  sure = λ s. nat_lt s (states t) && says_sure (flag t (states t) s);
}

-- a next state is bad if there is no such state, or if it is not sure and its row's state is
abbrev pub bad_next : List ℕ → ℕ → ℕ → Bool
bad_next t n i = at_most n (slice_index t i) || (says_sure (flag t n (i / 256)) && not (says_sure (flag t n (slice_index t i))))

-- a flag byte is bad if it is 2 or above 3
abbrev pub bad_flag : ℕ → Bool
bad_flag f = f == 2 || nat_lt 3 f

-- a byte of a table of n states is bad
abbrev pub bad : List ℕ → ℕ → ℕ → Bool
bad t n i = cond (nat_lt i (256 * n)) (bad_next t n i) (bad_flag (slice_index t i))

-- the first bad byte among so many from a place on
abbrev pub bad_from : List ℕ → ℕ → ℕ → ℕ → Option ℕ
bad_from t n i zero = None
bad_from t n i (suc more) = let later = bad_from t n (suc i) more in cond (bad t n i) (Some i) later

abbrev pub first_bad : List ℕ → Option ℕ
first_bad t = bad_from t (states t) 0 (length t)

-- 12 where the length fits no number of states, else 13 at the first bad byte
abbrev pub table_refusal : List ℕ → Option Fault
table_refusal t =
    elim (sized t) [ false ↦ Some (fault table 12 0) | true ↦ elim (first_bad t) [ None ↦ None | Some i ↦ Some (fault table 13 i) ] ]
