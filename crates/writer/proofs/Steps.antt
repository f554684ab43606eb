-- One call on a writer, in the words of the entries that it has taken.
use Rattle.format.specs.Codecs.{Meaning}
use Rattle.std.proofs.Common.{◌≡◌, ℕ, ◌+◌, ◌-◌, ◌<◌, Bool, true, false, cond, ltb, List, [], ◌∷◌, ◌++◌, length, Some, None, Ok, Err, Option, sym, refl, ap, ◌∙◌, inl, inr, arith, length-append}
use Rattle.std.proofs.lemmas.List.{append-nil, length_push}
use Rattle.std.proofs.lemmas.Bool.{lt-ltb, le-ltb, cases_lt}
use Rattle.format.specs.declared.fault.Fault.{Fault}
use Rattle.format.specs.Faults.{fault, codec, call}
use Rattle.format.specs.Keys.{follows, longest}
use Rattle.format.specs.Tables.{Entry, values, deltas, cut_from, block, blocks, sstable, word}
use Rattle.format.specs.Writing as writing
use Rattle.format.specs.Writing.{Waiting, for_key, for_value, finished, Written, Call, insert, insert_key, insert_value, finish, closes, open_block, closed_bytes, finishing, first, answered, accepted_in, output_in}
use Rattle.writer.specs.declared.phase.Phase.TheVariants.{WaitsForKey, Finished}
use Rattle.writer.specs.Parts as parts
use Rattle.writer.specs.States as states
use Rattle.writer.specs.States.{Block, Answer, and_then, kept_of, no_entries, is_long, goes_on}
use Rattle.format.specs.Sound.{rising}
use Rattle.format.proofs.TakenSound.{rising_push, last_of_lem}
use Rattle.writer.proofs.Cuts.{chosen, open_push, closed_push, sstable_parts}
use Rattle.writer.specs.Standing.{block_in, state_in, state_of, Above}
use Rattle.writer.proofs.Standings.{Open, last_key_is, last_key_push, pushed_is, never_full, deltas_some}

answered_first : (a b : Option Fault) → answered (first a b) ≡ and_then (answered a) (answered b)
answered_first None b = refl
answered_first (Some f) b = refl

then_ok : (f : Option Fault) → and_then (answered f) (Ok tt) ≡ answered f
then_ok None = refl
then_ok (Some f) = refl

then_if : {A : Type 0} (t : Bool) (x : A) (f : Fault) (a : Answer) → and_then {A = A} (cond t (Ok x) (Err f)) a ≡ cond t a (Err f)
then_if true x f a = refl
then_if false x f a = refl

-- bytes that are due fit behind those written, or do not, wherever those end
fits_same : (room end n : ℕ) → 0 < n → ltb (room - end) n ≡ ltb room (end + n)
fits_same room end n h =
    elim (cases_lt room (end + n)) [
      | inl p ↦ lt-ltb (room - end) n (omega arith) ∙ sym (lt-ltb room (end + n) p)
      | inr p ↦ le-ltb (room - end) n (omega arith) ∙ sym (le-ltb room (end + n) p)
    ]

abbrev fits_or : Fault → Bool → Answer
fits_or f t = cond t (Err f) (Ok tt)

fits_is : (room end n m : ℕ) (f : Fault) → 0 < n → m ≡ end + n → fits_or f (ltb (room - end) n) ≡ answered (cond (ltb room m) (Some f) None)
fits_is room end n m f h e = ap (fits_or f) (fits_same room end n h ∙ ap (ltb room) (sym e)) ∙ chosen answered (ltb room m) (Err f) (Ok tt) (Some f) None refl refl

-- 24 only where something is due
due_is : (t : Bool) (room end m : ℕ) (b : List ℕ) (f : Fault) → 0 < length b → m ≡ end + length (cond t b [])
    → fits_or f (ltb (room - end) (length (cond t b []))) ≡ answered (cond t (cond (ltb room m) (Some f) None) None)
due_is true room end m b f h e = fits_is room end (length b) m f h e
due_is false room end m b f h e = ap (fits_or f) (le-ltb (room - end) 0 (omega arith))

-- what was not refused
pub none_first : (a b : Option Fault) → first a b ≡ None → (a ≡ None) × (b ≡ None)
none_first None b h = (refl, h)
none_first (Some f) b h = (h, cc)

pub none_if : (t : Bool) (f : Fault) (a : Option Fault) → cond t (Some f) a ≡ None → (t ≡ false) × (a ≡ None)
none_if true f a h = (cc, cc)
none_if false f a h = (refl, h)

pub none_unless : (t : Bool) (a : Option Fault) (f : Fault) → cond t a (Some f) ≡ None → (t ≡ true) × (a ≡ None)
none_unless true a f h = (refl, h)
none_unless false a f h = (cc, cc)

key_case : (long above : Bool) (k : List ℕ) (f g : Fault) (a : Answer)
    → and_then {A = List ℕ} (cond long (Err f) (cond above (Ok k) (Err g))) a ≡ and_then (answered (cond long (Some f) (cond above None (Some g)))) a
key_case true above k f g a = refl
key_case false true k f g a = refl
key_case false false k f g a = refl

module _ {V : Type 0} (bytes : List V → List ℕ) where
  block_some : (es : List (Entry V)) → 0 < length (block bytes es)
  block_some es = omega (arith, length-append (word (1 + length (bytes (values es)) + length (deltas es))) (0 ∷ bytes (values es) ++ deltas es))

  finishing_some : (ts : List (Entry V)) → 0 < length (finishing bytes ts)
  finishing_some ts = omega (arith, length-append (blocks bytes (cut_from (open_block ts) [])) (word 0))

  block_is : (es : List (Entry V)) → states.block_of bytes (block_in es) ≡ block bytes es
  unfolding parts.block
  block_is es = refl

  rest_some : (vs : List V) (ds : List ℕ) → 0 < length ds → states.rest_in bytes vs ds ≡ parts.block (bytes vs) ds
  rest_some vs [] h = absurd (omega arith)
  rest_some vs (d ∷ ds) h = refl

  rest_is : (os : List (Entry V)) → states.rest bytes (block_in os) ≡ blocks bytes (cut_from os [])
  rest_is [] = refl
  rest_is (o ∷ os) = rest_some (values (o ∷ os)) (deltas (o ∷ os)) (deltas_some o os) ∙ block_is (o ∷ os) ∙ sym (append-nil (block bytes (o ∷ os)))

  pub ending_is : (ts : List (Entry V)) → states.rest bytes (block_in (open_block ts)) ++ word 0 ≡ finishing bytes ts
  ending_is ts = ap (λ (z : List ℕ). z ++ word 0) (rest_is (open_block ts))

  -- what an entry flushes
  pub flushed_is : (ts : List (Entry V)) (e : Entry V) → Open ts (open_block ts)
      → states.flushed bytes (states.grown (state_in bytes ts for_key).table e.key e.value) ≡ cond (closes (open_block ts) e) (block bytes (open_block ts ++ e ∷ [])) []
  flushed_is ts e o =
      ap (states.flushed bytes) (pushed_is ts (open_block ts) e o)
      ∙ ap (λ (b : List ℕ). cond (closes (open_block ts) e) b []) (block_is (open_block ts ++ e ∷ []))

  pub closed_length : (ts : List (Entry V)) (e : Entry V) → length (closed_bytes bytes (ts ++ e ∷ [])) ≡ length (closed_bytes bytes ts) + length (cond (closes (open_block ts) e) (block bytes (open_block ts ++ e ∷ [])) [])
  closed_length ts e = ap length (closed_push bytes ts e) ∙ length-append (closed_bytes bytes ts) (cond (closes (open_block ts) e) (block bytes (open_block ts ++ e ∷ [])) [])

  -- the state when an entry was taken
  took_is : (ts : List (Entry V)) (e : Entry V) → Open ts (open_block ts) → states.took_entry bytes (state_in bytes ts for_key).table e.key e.value ≡ (state_in bytes (ts ++ e ∷ []) for_key).table
  took_is ts e o =
      let os = open_block ts in
      let l = sym (last_key_push ts e) in
      let b = ap (λ (g : Block V). cond (is_long g) no_entries g) (pushed_is ts os e o) ∙ chosen block_in (closes os e) no_entries (block_in (os ++ e ∷ [])) [] (os ++ e ∷ []) refl refl ∙ ap block_in (sym (open_push ts e)) in
      let n = ap (λ (z : List ℕ). length (closed_bytes bytes ts) + length z) (flushed_is ts e o) ∙ sym (closed_length ts e) in
      let m = sym (length_push ts e) in
      λ i. record { last = l i; block = b i; end = n i; ordinal = m i }

  end_length : (ts : List (Entry V)) → length (sstable bytes ts) ≡ length (closed_bytes bytes ts) + length (finishing bytes ts)
  end_length ts = ap length (sstable_parts bytes ts) ∙ length-append (closed_bytes bytes ts) (finishing bytes ts)

  ended_is : (ts : List (Entry V)) → states.ended bytes (state_in bytes ts for_key).table ≡ (state_in bytes ts finished).table
  ended_is ts =
      let e : length (closed_bytes bytes ts) + length (states.ending bytes (state_in bytes ts for_key).table) ≡ length (sstable bytes ts) = ap (λ (z : List ℕ). length (closed_bytes bytes ts) + length z) (ending_is ts) ∙ sym (end_length ts) in
      λ i. record { last = writing.last_key ts; block = no_entries; end = e i; ordinal = length ts }

module _ {V : Type 0} (means : Meaning V) where
  -- a key that passes its test, and then another test
  key_is : (ts : List (Entry V)) (s : Waiting) (k : List ℕ) (a : Answer) → and_then (states.key_test (state_in means.bytes ts s).table k) a ≡ and_then (answered (writing.key_refusal ts k)) a
  key_is ts s k a =
      ap (λ (l : Option (List ℕ)). and_then {A = List ℕ} (cond (ltb longest (length k)) (Err (fault call 1 (length ts))) (cond (follows l k) (Ok k) (Err (fault call 2 (length ts))))) a) (last_key_is ts)
      ∙ key_case (ltb longest (length k)) (follows (writing.last_key ts) k) k (fault call 1 (length ts)) (fault call 2 (length ts)) a

  room_is : (room : ℕ) (ts : List (Entry V)) (e : Entry V) → Open ts (open_block ts)
      → states.room_test (state_in means.bytes ts for_key).table (length (states.flushed means.bytes (states.grown (state_in means.bytes ts for_key).table e.key e.value))) room ≡ answered (writing.flush_refusal means.bytes ts e room)
  room_is room ts e o =
      let end = length (closed_bytes means.bytes ts) in
      let f = fault call 24 (length ts) in
      ap (λ (b : List ℕ). fits_or f (ltb (room - end) (length b))) (flushed_is means.bytes ts e o)
      ∙ due_is (closes (open_block ts) e) room end (length (closed_bytes means.bytes (ts ++ e ∷ []))) (block means.bytes (open_block ts ++ e ∷ [])) f (block_some means.bytes (open_block ts ++ e ∷ [])) (closed_length means.bytes ts e)

  entry_is : (room : ℕ) (ts : List (Entry V)) (e : Entry V) → Open ts (open_block ts)
      → states.entry_test means (state_in means.bytes ts for_key).table (kept_of (state_in means.bytes ts for_key).table e.key) e.value room ≡ answered (writing.entry_refusal means ts e room)
  entry_is room ts e o =
      let vs = values (open_block ts) in
      let f = fault codec 3 (length ts) in
      let a = states.room_test (state_in means.bytes ts for_key).table (length (states.flushed means.bytes (states.grown (state_in means.bytes ts for_key).table e.key e.value))) room in
      ap (λ (t : Bool). and_then {A = Unit {0}} (cond t (Ok tt) (Err f)) a) (never_full means.rule ts (open_block ts) e.value o)
      ∙ then_if (means.rule vs e.value) tt f a
      ∙ ap (λ (z : Answer). cond (means.rule vs e.value) z (Err f)) (room_is room ts e o)
      ∙ chosen answered (means.rule vs e.value) (answered (writing.flush_refusal means.bytes ts e room)) (Err f) (writing.flush_refusal means.bytes ts e room) (Some f) refl refl

  finish_is : (room : ℕ) (ts : List (Entry V))
      → states.finish_test means (state_in means.bytes ts for_key).table room ≡ answered (writing.finish_refusal means.bytes ts room)
  finish_is room ts =
      let end = length (closed_bytes means.bytes ts) in
      let f = fault call 24 (length ts) in
      ap (λ (b : List ℕ). fits_or f (ltb (room - end) (length b))) (ending_is means.bytes ts)
      ∙ fits_is room end (length (finishing means.bytes ts)) (length (sstable means.bytes ts)) f (finishing_some means.bytes ts) (end_length means.bytes ts)

  -- a writer answers what the rules say of the entries that it has taken
  pub answer_is : (room : ℕ) (ts : List (Entry V)) (s : Waiting) (c : Call V) → Open ts (open_block ts) → states.answer means (state_in means.bytes ts s) c room ≡ answered (writing.refusal_in means ts s c room)
  answer_is room ts for_key (insert k v) h =
      let e : Entry V = record { key = k; value = v } in
      key_is ts for_key k (states.entry_test means (state_in means.bytes ts for_key).table (kept_of (state_in means.bytes ts for_key).table k) v room)
      ∙ ap (and_then (answered (writing.key_refusal ts k))) (entry_is room ts e h)
      ∙ sym (answered_first (writing.key_refusal ts k) (writing.entry_refusal means ts e room))
  answer_is room ts for_key (insert_key k) h = key_is ts for_key k (Ok tt) ∙ then_ok (writing.key_refusal ts k)
  answer_is room ts for_key (insert_value v) h = refl
  answer_is room ts for_key finish h = finish_is room ts
  answer_is room ts (for_value k) (insert l v) h = refl
  answer_is room ts (for_value k) (insert_key l) h = refl
  answer_is room ts (for_value k) (insert_value v) h = entry_is room ts (record { key = k; value = v }) h
  answer_is room ts (for_value k) finish h = refl
  answer_is room ts finished (insert k v) h = refl
  answer_is room ts finished (insert_key k) h = refl
  answer_is room ts finished (insert_value v) h = refl
  answer_is room ts finished finish h = refl

  -- What an accepted call leaves.
  pub record After (room : ℕ) (ts : List (Entry V)) (s : Waiting) (c : Call V) : Type 0 where
    pub state : states.next means.bytes (state_in means.bytes ts s) c ≡ state_of means.bytes (accepted_in ts s c)
    pub added : output_in means.bytes ts s ++ states.written_by means.bytes (state_in means.bytes ts s) c ≡ writing.output means.bytes (accepted_in ts s c)
    pub rises : rising None (accepted_in ts s c).taken ≡ true
    pub above : Above (accepted_in ts s c).taken (accepted_in ts s c).waits

  pub key_follows : (ts : List (Entry V)) (k : List ℕ) → writing.key_refusal ts k ≡ None → follows (writing.last_key ts) k ≡ true
  key_follows ts k h =
      (none_unless (follows (writing.last_key ts) k) None (fault call 2 (length ts))
      (none_if (ltb longest (length k)) (fault call 1 (length ts)) (cond (follows (writing.last_key ts) k) None (Some (fault call 2 (length ts)))) h).1).0

  rising_more : (ts : List (Entry V)) (e : Entry V) → rising None ts ≡ true → follows (writing.last_key ts) e.key ≡ true → rising None (ts ++ e ∷ []) ≡ true
  rising_more ts e r f = rising_push None ts e r (ap (λ (k : Option (List ℕ)). follows k e.key) (sym (last_of_lem ts)) ∙ f)

  entry_added : (ts : List (Entry V)) (e : Entry V) → Open ts (open_block ts) → closed_bytes means.bytes ts ++ states.flushed means.bytes (states.grown (state_in means.bytes ts for_key).table e.key e.value) ≡ closed_bytes means.bytes (ts ++ e ∷ [])
  entry_added ts e o = ap (λ (z : List ℕ). closed_bytes means.bytes ts ++ z) (flushed_is means.bytes ts e o) ∙ sym (closed_push means.bytes ts e)

  pub after_is : (room : ℕ) (ts : List (Entry V)) (s : Waiting) (c : Call V) → Open ts (open_block ts) → rising None ts ≡ true → Above ts s → writing.refusal_in means ts s c room ≡ None → After room ts s c
  after_is room ts for_key (insert k v) h r a n =
      let e : Entry V = record { key = k; value = v } in
      let p = none_first (writing.key_refusal ts k) (writing.entry_refusal means ts e room) n in
      record {
        state = ap (goes_on WaitsForKey) (took_is means.bytes ts e h);
        added = entry_added ts e h;
        rises = rising_more ts e r (key_follows ts k p.0);
        above = tt;
      }
  after_is room ts for_key (insert_key k) h r a n =
      record {
        state = refl;
        added = append-nil (closed_bytes means.bytes ts);
        rises = r;
        above = key_follows ts k n;
      }
  after_is room ts for_key (insert_value v) h r a n = let z : ◌≡◌ {A = ℕ} 0 1 = cc in absurd (omega arith)
  after_is room ts for_key finish h r a n =
      record {
        state = ap (goes_on Finished) (ended_is means.bytes ts);
        added = ap (λ (z : List ℕ). closed_bytes means.bytes ts ++ z) (ending_is means.bytes ts) ∙ sym (sstable_parts means.bytes ts);
        rises = r;
        above = tt;
      }
  after_is room ts (for_value k) (insert l v) h r a n = let z : ◌≡◌ {A = ℕ} 0 1 = cc in absurd (omega arith)
  after_is room ts (for_value k) (insert_key l) h r a n = let z : ◌≡◌ {A = ℕ} 0 1 = cc in absurd (omega arith)
  after_is room ts (for_value k) (insert_value v) h r a n =
      let e : Entry V = record { key = k; value = v } in
      record {
        state = ap (goes_on WaitsForKey) (took_is means.bytes ts e h);
        added = entry_added ts e h;
        rises = rising_more ts e r a;
        above = tt;
      }
  after_is room ts (for_value k) finish h r a n = let z : ◌≡◌ {A = ℕ} 0 1 = cc in absurd (omega arith)
  after_is room ts finished (insert k v) h r a n = let z : ◌≡◌ {A = ℕ} 0 1 = cc in absurd (omega arith)
  after_is room ts finished (insert_key k) h r a n = let z : ◌≡◌ {A = ℕ} 0 1 = cc in absurd (omega arith)
  after_is room ts finished (insert_value v) h r a n = let z : ◌≡◌ {A = ℕ} 0 1 = cc in absurd (omega arith)
  after_is room ts finished finish h r a n = let z : ◌≡◌ {A = ℕ} 0 1 = cc in absurd (omega arith)
