-- What holds of the open block of rising entries.
use Rattle.std.proofs.Common.{◌≡◌, ℕ, suc, ◌+◌, ◌-◌, ◌*◌, ◌<◌, ◌≤◌, Bool, true, false, cond, ◌&&◌, ◌==◌, List, [], ◌∷◌, ◌++◌, length, drop, Some, None, Option, sym, refl, ap, ◌∙◌, subst, append_assoc, arith, length-append, length-drop}
use Rattle.std.proofs.Math.Bool.{and-true}
use Rattle.std.proofs.lemmas.List.{append-nil, length_push}
use Rattle.std.proofs.lemmas.Bool.{and_parts, lt-ltb, ltb-false, ne_eqb, cond-false}
use Rattle.format.specs.Codecs.{takes}
use Rattle.format.specs.Headers.{header}
use Rattle.format.specs.Keys.{below, shared, follows}
use Rattle.format.specs.Reading.{key_of}
use Rattle.format.specs.Sound.{rising}
use Rattle.format.specs.Tables.{Entry, values, deltas_after, deltas, last_after as last_or, delta, block_len}
use Rattle.format.specs.Writing as writing
use Rattle.format.specs.Writing.{closes, open_from, open_block}
use Rattle.writer.specs.Parts as parts
use Rattle.writer.specs.States.{behind_last, pushed}
use Rattle.writer.specs.Standing.{block_in}
use Rattle.format.proofs.EntryBack.{shared_less}
use Rattle.format.proofs.HeaderLaws.{header_some}
use Rattle.format.proofs.TableLaws.{values_push, deltas_push, last_push}
use Rattle.writer.proofs.Cuts.{chosen}

delta_length : (p k : List ℕ) → length k - shared p k < length (delta p k)
delta_length p k =
    let keep = shared p k in
    omega (arith, header_some keep (length k - keep), length-append (header keep (length k - keep)) (drop keep k), length-drop keep k)

before_some : (ds last : List ℕ) → 0 < length ds → parts.before ds last ≡ last
before_some [] last h = absurd (omega arith)
before_some (d ∷ ds) last h = refl

module _ {V : Type 0} where
  pub deltas_some : (o : Entry V) (os : List (Entry V)) → 0 < length (deltas (o ∷ os))
  deltas_some o os = omega (arith, delta_length [] o.key, length-append (delta [] o.key) (deltas_after o.key os))

  last_some : (e : Entry V) (es : List (Entry V)) → Some (key_of (writing.last_key (e ∷ es))) ≡ writing.last_key (e ∷ es)
  last_some e [] = refl
  last_some e (f ∷ es) = last_some f es

  -- the last key, by how many entries there are
  pub last_key_is : (ts : List (Entry V)) → cond (length ts == 0) None (Some (key_of (writing.last_key ts))) ≡ writing.last_key ts
  last_key_is [] = refl
  last_key_is (e ∷ es) = cond-false _ _ _ (ne_eqb (suc (length es)) 0 (λ h. omega arith)) ∙ last_some e es

  pub last_key_push : (ts : List (Entry V)) (e : Entry V) → writing.last_key (ts ++ e ∷ []) ≡ Some e.key
  last_key_push [] e = refl
  last_key_push (x ∷ []) e = refl
  last_key_push (x ∷ y ∷ ts) e = last_key_push (y ∷ ts) e

  -- What holds of an open block: its delta part is not long, each entry but the first adds at least two bytes to it, and its
  -- last key is the last key of all.
  pub record Open (ts os : List (Entry V)) : Type 0 where
    pub short : length (deltas os) ≤ 4000
    pub sparse : 2 * length os ≤ length (deltas os) + 1
    pub lastly : 0 < length os → writing.last_key ts ≡ Some (last_or [] os)

  -- the key before the next entry of the open block
  before_open : (ts os : List (Entry V)) → (0 < length os → writing.last_key ts ≡ Some (last_or [] os)) → parts.before (deltas os) (key_of (writing.last_key ts)) ≡ last_or [] os
  before_open ts [] h = refl
  before_open ts (o ∷ os) h = before_some (deltas (o ∷ os)) (key_of (writing.last_key ts)) (deltas_some o os) ∙ ap key_of (h (omega arith))

  -- the open block with one entry more
  pub pushed_is : (ts os : List (Entry V)) (e : Entry V) → Open ts os → pushed (block_in os) (behind_last (block_in os) (key_of (writing.last_key ts)) e.key) e.value ≡ block_in (os ++ e ∷ [])
  unfolding parts.entry
  pushed_is ts os e o =
      let d = ap (λ (p : List ℕ). deltas os ++ delta p e.key) (before_open ts os o.lastly) ∙ sym (deltas_push [] os e) in
      λ i. record { vals = sym (values_push os e) i; delta = d i }

  sparse_push : (os : List (Entry V)) (e : Entry V) → (0 < length os → below (last_or [] os) e.key ≡ true) → 2 * length os ≤ length (deltas os) + 1
      → 2 * length (os ++ e ∷ []) ≤ length (deltas (os ++ e ∷ [])) + 1
  sparse_push [] e b h = omega (arith, deltas_some e [])
  sparse_push (o ∷ os) e b h =
      let l = ap length (deltas_push [] (o ∷ os) e) in
      let m = length-append (deltas (o ∷ os)) (delta (last_or [] (o ∷ os)) e.key) in
      let d = delta_length (last_or [] (o ∷ os)) e.key in
      let s = shared_less (last_or [] (o ∷ os)) e.key (b (omega arith)) in
      let n = length_push (o ∷ os) e in
      omega arith

  open_case : (ts os : List (Entry V)) (e : Entry V) (t : Bool) → closes os e ≡ t → Open ts os → follows (writing.last_key ts) e.key ≡ true → Open (ts ++ e ∷ []) (cond t [] (os ++ e ∷ []))
  open_case ts os e true c o f = record { short = omega arith; sparse = omega arith; lastly = λ h. absurd (omega arith) }
  open_case ts os e false c o f =
      record {
        short = ltb-false block_len (length (deltas (os ++ e ∷ []))) c;
        sparse = sparse_push os e (λ h. ap (λ (k : Option (List ℕ)). follows k e.key) (sym (o.lastly h)) ∙ f) o.sparse;
        lastly = λ h. last_key_push ts e ∙ ap (λ (k : List ℕ). Some k) (sym (last_push [] os e));
      }

  open_behind : (ts os es : List (Entry V)) → Open ts os → rising (writing.last_key ts) es ≡ true → Open (ts ++ es) (open_from os es)
  open_behind ts os [] o r = subst (λ (z : List (Entry V)). Open z os) (sym (append-nil ts)) o
  open_behind ts os (e ∷ es) o r =
      let p = and_parts (follows (writing.last_key ts) e.key) (rising (Some e.key) es) r in
      let q = open_case ts os e (closes os e) refl o p.0 in
      let s = ap (λ (k : Option (List ℕ)). rising k es) (last_key_push ts e) ∙ p.1 in
      let x = open_behind (ts ++ e ∷ []) (cond (closes os e) [] (os ++ e ∷ [])) es q s in
      subst (λ (z : List (Entry V)). Open z (cond (closes os e) (open_from [] es) (open_from (os ++ e ∷ []) es))) (append_assoc ts (e ∷ []) es)
      (subst (Open ((ts ++ e ∷ []) ++ es)) (sym (chosen (λ (z : List (Entry V)). open_from z es) (closes os e) (open_from [] es) (open_from (os ++ e ∷ []) es) [] (os ++ e ∷ []) refl refl)) x)

  -- so it is with rising entries
  pub open_rising : (ts : List (Entry V)) → rising None ts ≡ true → Open ts (open_block ts)
  open_rising ts r = open_behind [] [] ts (record { short = omega arith; sparse = omega arith; lastly = λ h. absurd (omega arith) }) r

  pub length_values : (os : List (Entry V)) → length (values os) ≡ length os
  length_values [] = refl
  length_values (o ∷ os) = ap suc (length_values os)

  -- so a codec is never full
  pub never_full : (rule : List V → V → Bool) (ts os : List (Entry V)) (v : V) → Open ts os → takes rule (values os) v ≡ rule (values os) v
  never_full rule ts os v o =
      let l : length (values os) < 2001 = omega (arith, length_values os, o.sparse, o.short) in
      ap (λ (t : Bool). rule (values os) v && t) (lt-ltb (length (values os)) 2001 l) ∙ and-true (rule (values os) v)
