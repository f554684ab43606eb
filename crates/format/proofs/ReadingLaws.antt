-- A step of a reading that gives an entry moves on, stays within the area, counts, and leaves a key.
use Rattle.std.proofs.Common.{◌≡◌, ℕ, ◌+◌, ◌-◌, ◌<◌, ◌≤◌, eqb, ltb, List, [], ◌∷◌, length, take, drop, IfSome, IsSome, IfOk, Some, None, Ok, Err, Option, Result, refl, arith, length-drop, length-take}
use Rattle.std.proofs.lemmas.Bool.{cond_both, eqb-true}
use Rattle.format.specs.Codecs.{Meaning, Opened, Stepped}
use Rattle.format.specs.declared.fault.Fault.{Fault}
use Rattle.format.specs.Headers.{Header, read_header, keep_of, add_of}
use Rattle.format.specs.Numbers.{Number, read_leb}
use Rattle.format.specs.Reading.{Position, Step, entry, ended, faulted, Suffix, suffix_of, suffix_at, key_with, key_of, valued, keyed, suffixed, content, entry_at, opened, loaded, block_at, step_at}
use Rattle.format.proofs.NumberLaws.{read_sized}

-- Where an entry leaves a reading of an area that stood at a place, with so many entries read.
pub record Onward (area : List ℕ) (next ordinal : ℕ) (q : Position) : Type 0 where
  pub further : next < q.next
  pub inside : q.next ≤ length area
  pub counted : q.ordinal ≡ ordinal + 1
  pub has_key : IsSome q.last

abbrev pub Moves : {V : Type 0} → List ℕ → ℕ → ℕ → Step V → Type 0
Moves area next ordinal s = elim s [ entry d q ↦ Onward area next ordinal q × (d.ordinal ≡ ordinal) | ended ↦ Unit {0} | faulted f ↦ Unit {0} ]

-- a header takes at least a byte, and lies in its part
abbrev InPart : List ℕ → Header → Type 0
InPart bs h = IfSome h (λ p. (0 < p.0) × (p.0 ≤ length bs))

add_in : (bs : List ℕ) (n keep : ℕ) (r : Number) → ((m v : ℕ) → r ≡ Some (m, v) → n + m + 1 ≤ length bs) → InPart bs (add_of n keep r)
add_in bs n keep None h = tt
add_in bs n keep (Some p) h = (omega arith, omega (arith, h p.0 p.1 refl))

keep_in : (b : ℕ) (bs : List ℕ) (r : Number) → ((n v : ℕ) → r ≡ Some (n, v) → n ≤ length bs) → InPart (b ∷ bs) (keep_of bs r)
keep_in b bs None h = tt
keep_in b bs (Some p) h =
    add_in (b ∷ bs) p.0 p.1 (read_leb (drop p.0 bs))
    (λ m v e. omega (arith, (read_sized (drop p.0 bs) m v e).within, length-drop p.0 bs, h p.0 p.1 refl))

header_in : (bs : List ℕ) → InPart bs (read_header bs)
header_in [] = tt
header_in (b ∷ bs) =
    cond_both (eqb b 1) _ _ (InPart (b ∷ bs)) (λ _. keep_in b bs (read_leb bs) (λ n v e. (read_sized bs n v e).within))
    (λ _. (omega arith, omega arith))

-- a suffix stands behind its header, in the area
abbrev SuffixIn : List ℕ → ℕ → Result Suffix Fault → Type 0
SuffixIn area next r = IfOk r (λ s. (next < s.place) × (s.place + length s.bytes ≤ length area))

suffix_in : (area : List ℕ) (next finish : ℕ) (h : Header) → InPart (drop next (take finish area)) h → SuffixIn area next (suffix_of area next finish h)
suffix_in area next finish None i = tt
suffix_in area next finish (Some h) i =
    cond_both (ltb (finish - (next + h.0)) h.1.1) _ _ (SuffixIn area next) (λ _. tt)
    (λ _. (omega (arith, i.0), omega (arith, i.0, i.1, length-drop next (take finish area), length-take finish area, length-take h.1.1 (drop (next + h.0) area), length-drop (next + h.0) area)))

suffix_at_in : (area : List ℕ) (next finish : ℕ) → SuffixIn area next (suffix_at area next finish)
suffix_at_in area next finish = suffix_in area next finish (read_header (drop next (take finish area))) (header_in (drop next (take finish area)))

module _ {V : Type 0} where
  valued_moves : (area : List ℕ) (p : Position) (s : Suffix) (key : List ℕ) (g : Stepped V) → p.next < s.place → s.place + length s.bytes ≤ length area
      → Moves area p.next p.ordinal (valued p s key g)
  valued_moves area p s key (Ok (Some g)) h l = (record { further = omega arith; inside = l; counted = refl; has_key = refl }, refl)
  valued_moves area p s key (Ok None) h l = tt
  valued_moves area p s key (Err f) h l = tt

  keyed_moves : (area : List ℕ) (p : Position) (s : Suffix) (k : Result (List ℕ) Fault) (g : Stepped V) → p.next < s.place → s.place + length s.bytes ≤ length area
      → Moves area p.next p.ordinal (keyed p s k g)
  keyed_moves area p s (Ok key) g h l = valued_moves area p s key g h l
  keyed_moves area p s (Err f) g h l = tt

  suffixed_moves : (area : List ℕ) (p : Position) (base : List ℕ) (r : Result Suffix Fault) (g : Stepped V) → SuffixIn area p.next r → Moves area p.next p.ordinal (suffixed p base r g)
  suffixed_moves area p base (Ok s) g i = keyed_moves area p s (key_with p.next p.last base s) g i.0 i.1
  suffixed_moves area p base (Err f) g i = tt

  -- a step from further on
  later : (area : List ℕ) (m n ordinal : ℕ) (s : Step V) → m ≤ n → Moves area n ordinal s → Moves area m ordinal s
  later area m n ordinal (entry d q) h (o, e) = (record { further = omega (arith, o.further); inside = o.inside; counted = o.counted; has_key = o.has_key }, e)
  later area m n ordinal ended h o = tt
  later area m n ordinal (faulted f) h o = tt

module _ {V : Type 0} (means : Meaning V) where
  entry_moves : (area : List ℕ) (p : Position) (base : List ℕ) → Moves area p.next p.ordinal (entry_at means area p base)
  entry_moves area p base = suffixed_moves area p base (suffix_at area p.next p.finish) (means.steps p.cursor (content area p.start p.finish)) (suffix_at_in area p.next p.finish)

  opened_moves : (area : List ℕ) (start finish : ℕ) (p : Position) (o : Opened) → Moves area start p.ordinal (opened means area start finish p o)
  opened_moves area start finish p (Err f) = tt
  opened_moves area start finish p (Ok o) =
      cond_both (ltb (start + 5 + o.1) finish) _ _ (Moves area start p.ordinal)
      (λ _. later area start (start + 5 + o.1) p.ordinal _ (omega arith) (entry_moves area (record { start = start; finish = finish; next = start + 5 + o.1; cursor = o.0; last = p.last; ordinal = p.ordinal }) []))
      (λ _. tt)

  loaded_moves : (area : List ℕ) (start : ℕ) (p : Position) (r : Result (Option ℕ) Fault) → Moves area start p.ordinal (loaded means area start p r)
  loaded_moves area start p (Ok (Some finish)) = opened_moves area start finish p (means.opens (content area start finish))
  loaded_moves area start p (Ok None) = tt
  loaded_moves area start p (Err f) = tt

  -- a step that gives an entry moves on
  pub step_moves : (area : List ℕ) (p : Position) → Moves area p.next p.ordinal (step_at means area p)
  step_moves area p =
      cond_both (ltb (length area) p.finish) _ _ (Moves area p.next p.ordinal) (λ _. tt)
      (λ _. cond_both (eqb p.next p.finish) _ _ (Moves area p.next p.ordinal)
      (λ e. later area p.next p.finish p.ordinal _ (omega (arith, eqb-true p.next p.finish e)) (loaded_moves area p.finish p (block_at area p.finish)))
      (λ _. entry_moves area p (key_of p.last)))
