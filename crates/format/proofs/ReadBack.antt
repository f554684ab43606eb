-- The sstable of sound entries reads as these entries, and then the end.
use Rattle.std.proofs.Common.{◌≡◌, ℕ, zero, suc, ◌+◌, ◌-◌, ◌*◌, ◌/◌, ◌%◌, ◌^◌, ◌<◌, ◌≤◌, Bool, true, false, cond, eqb, ltb, leb as at_most, List, [], ◌∷◌, ◌++◌, length, take, drop, Some, None, Ok, Err, Option, sym, refl, ap, ◌∙◌, subst, append_assoc, arith, length-append, length-drop}
use Rattle.std.proofs.lemmas.Nat.{shr-shr, div-add-mod'}
use Rattle.std.proofs.lemmas.List.{take_at, drop_at, length_push}
use Rattle.std.proofs.lemmas.Bool.{cond-true, cond-false, lt-ltb, le-ltb, ne_eqb, eq-eqb, and_parts, leb-true, ltb-false, and_from}
use Rattle.std.specs.List.{slice_get}
use Rattle.format.specs.declared.Cursor.{Cursor}
use Rattle.format.specs.Codecs.{Meaning, Stepped, Allowed, allowed_after, Reads, ReadsBack, Short, value_at, value_of, moved, most}
use Rattle.format.specs.Keys.{below, shared, follows}
use Rattle.format.specs.Reading.{
  Position,
  from,
  Delta,
  Step,
  entry,
  ended,
  faulted,
  Standing,
  reading,
  key_of,
  word_of,
  content,
  block_in,
  block_at,
  entry_at,
  opened,
  loaded,
  border,
  step_at,
  step,
  Reading,
  end,
  fails,
  nothing,
  behind,
  read_in,
}
use Rattle.format.specs.Sound.{rising, short_keys, allowed_in, TableReadsBack}
use Rattle.format.specs.Tables.{last_after, Entry, block_len, word, delta, values, deltas_after, deltas, cut_from, cut, block, blocks, sstable}
use Rattle.format.specs.Headers.{header}
use Rattle.format.proofs.HeaderLaws.{header_some, header_short}
use Rattle.format.proofs.TableLaws.{deltas_push, open_step}
use Rattle.format.proofs.EntryBack.{shared_le, shared_less, entry_back}

-- a value that is given tells the whole step
given_is : {V : Type 0} (c : Cursor) (r : Stepped V) (v : V) → value_of r ≡ Some v → r ≡ Ok (Some (v, moved c r))
given_is c (Ok (Some g)) v e = let q : g.0 ≡ v = cc in ap (λ (x : _). Ok (Some (x, g.1))) q
given_is c (Ok None) v e = cc
given_is c (Err f) v e = cc

-- an entry takes at least a byte
delta_some : (base key : List ℕ) → 0 < length (delta base key)
delta_some base key = omega (arith, length-append (header (shared base key) (length key - shared base key)) (drop (shared base key) key), header_some (shared base key) (length key - shared base key))

-- two, where its key is above the one before
delta_two : (base key : List ℕ) → below base key ≡ true → 2 ≤ length (delta base key)
delta_two base key b = omega (arith, length-append (header (shared base key) (length key - shared base key)) (drop (shared base key) key), header_some (shared base key) (length key - shared base key), length-drop (shared base key) key, shared_less base key b)

-- and not many more than its key
delta_short : (base key : List ℕ) → length key ≤ 512 → length (delta base key) ≤ 533
delta_short base key h =
    omega (arith, length-append (header (shared base key) (length key - shared base key)) (drop (shared base key) key), header_short (shared base key) (length key - shared base key) (omega (arith, (shared_le base key).1)) (omega arith), length-drop (shared base key) key)

-- entries of blocks, in a row
abbrev pub flat : {V : Type 0} → List (List (Entry V)) → List (Entry V)
flat [] = []
flat (b ∷ bs) = b ++ flat bs

module _ {V : Type 0} (means : Meaning V) where
  -- from here on an area tells these entries, and then the end
  abbrev Tells : ℕ → List ℕ → Standing → List (Entry V) → Type 0
  Tells k area s es = read_in means k area s ≡ record { entries = es; ending = end }

  abbrev then : Step V → (Position → Reading V) → Reading V
  then s go = elim s [ entry d p ↦ behind (record { key = key_of p.last; value = d.value }) (go p) | ended ↦ nothing end | faulted f ↦ nothing (fails f) ]

  tells_end : (m : ℕ) (area : List ℕ) (s : Standing) → step means area s ≡ ended → Tells (suc m) area s []
  tells_end m area s e = ap (λ (z : Step V). then z (λ p. read_in means m area (reading p))) e

  tells_entry : (m : ℕ) (area : List ℕ) (s : Standing) (d : Delta V) (q : Position) (e : Entry V) (es : List (Entry V))
      → step means area s ≡ entry d q → q.last ≡ Some e.key → d.value ≡ e.value → Tells m area (reading q) es → Tells (suc m) area s (e ∷ es)
  tells_entry m area s d q e es a k v t =
      ap (λ (z : Step V). then z (λ p. read_in means m area (reading p))) a
      ∙ ap (λ (z : Reading V). behind (record { key = key_of q.last; value = d.value }) z) t
      ∙ (λ i. record { entries = record { key = key_of (k i); value = v i } ∷ es; ending = end })

  -- a step inside a block
  mid_step : (area : List ℕ) (p : Position) (prev : List ℕ) → p.finish ≤ length area → p.next < p.finish → p.last ≡ Some prev → step_at means area p ≡ entry_at means area p prev
  mid_step area p prev h l e =
      cond-false (ltb (length area) p.finish) _ _ (le-ltb (length area) p.finish h)
      ∙ cond-false (eqb p.next p.finish) _ _ (ne_eqb p.next p.finish (λ z. omega arith))
      ∙ ap (λ (z : Option (List ℕ)). entry_at means area p (key_of z)) e

  -- The entries that are left of a block.
  inside : (es : List (Entry V)) (area before after' prev : List ℕ) (p : Position) (k : ℕ) (more : List (Entry V))
      → area ≡ before ++ (deltas_after prev es ++ after') → p.next ≡ length before → p.finish ≡ p.next + length (deltas_after prev es) → p.last ≡ Some prev
      → rising (Some prev) es ≡ true → short_keys es ≡ true
      → ((i : ℕ) → i < length es → value_at means.steps p.cursor (content area p.start p.finish) i ≡ slice_get (values es) i)
      → ((q : Position) (m : ℕ) → q.finish ≡ p.finish → q.next ≡ p.finish → q.last ≡ Some (last_after prev es) → length more < m → Tells m area (reading q) more)
      → length es + length more < k → Tells k area (reading p) (es ++ more)
  inside [] area before after' prev p k more is at ends last r s vs go h = go p k refl (omega arith) last (omega arith)
  inside (e ∷ es) area before after' prev p zero more is at ends last r s vs go h = absurd (omega arith)
  inside (e ∷ es) area before after' prev p (suc k) more is at ends last r s vs go h =
      let key = e.key in
      let d : List ℕ = delta prev key in
      let D : List ℕ = deltas_after key es in
      let part = content area p.start p.finish in
      let c = moved p.cursor (means.steps p.cursor part) in
      let rs = and_parts (below prev key) (rising (Some key) es) r in
      let ss = and_parts (at_most (length key) 512) (short_keys es) s in
      let is' : area ≡ before ++ (d ++ (D ++ after')) = is ∙ ap (λ (z : List ℕ). before ++ z) (append_assoc d D after') in
      let is'' : area ≡ (before ++ d) ++ (D ++ after') = is' ∙ sym (append_assoc before d (D ++ after')) in
      let n : length (deltas_after prev (e ∷ es)) ≡ length d + length D = length-append d D in
      let l : length area ≡ length before + (length d + (length D + length after')) =
      ap length is' ∙ length-append before (d ++ (D ++ after')) ∙ ap (λ (z : ℕ). length before + z) (length-append d (D ++ after') ∙ ap (λ (z : ℕ). length d + z) (length-append D after')) in
      let some : 0 < length d = delta_some prev key in
      let g = given_is p.cursor (means.steps p.cursor part) e.value (vs 0 (omega arith)) in
      let a = entry_back means prev key area before (D ++ after') p (length D) e.value c (leb-true (length key) 512 ss.0) (λ z. omega (arith, shared_less prev key rs.0, z.1)) is' at (omega arith) (omega (arith, length-append D after')) (ap (λ (z : Option (List ℕ)). follows z key) last ∙ rs.0) g in
      let q : Position = record { start = p.start; finish = p.finish; next = p.next + length d; cursor = c; last = Some key; ordinal = p.ordinal + 1 } in
      tells_entry k area (reading p) _ q e (es ++ more) (mid_step area p prev (omega arith) (omega arith) last ∙ a) refl refl
      (inside es area (before ++ d) after' key q k more is'' (omega (arith, length-append before d)) (omega arith) refl rs.1 ss.1 (λ i z. vs (suc i) (omega arith)) go (omega arith))

-- four digits to the base of 256
four : (n a b c w x y z : ℕ) → n ≡ a * 256 + w → a ≡ b * 256 + x → b ≡ c * 256 + y → z ≡ c → w + x * 256 + y * 65536 + z * 16777216 ≡ n
four n a b c w x y z e f g h = omega arith

-- the number in a length word is read back
word_back : (n : ℕ) (xs : List ℕ) → n < 2 ^ 32 → word_of (word n ++ xs) ≡ n
word_back n xs h =
    let a : n / 256 / 256 ≡ n / 65536 = shr-shr n 8 8 in
    let b : n / 65536 / 256 ≡ n / 16777216 = shr-shr n 16 8 in
    four n (n / 256) (n / 65536) (n / 16777216) (n % 256) (n / 256 % 256) (n / 65536 % 256) (n / 16777216 % 256) (sym (div-add-mod' n 256))
    (sym (div-add-mod' (n / 256) 256) ∙ ap (λ (z : ℕ). z * 256 + n / 256 % 256) a) (sym (div-add-mod' (n / 65536) 256) ∙ ap (λ (z : ℕ). z * 256 + n / 65536 % 256) b) (omega arith)

rising_split : {V : Type 0} (prev : List ℕ) (es more : List (Entry V)) → rising (Some prev) (es ++ more) ≡ true
    → (rising (Some prev) es ≡ true) × (rising (Some (last_after prev es)) more ≡ true)
rising_split prev [] more r = (refl, r)
rising_split prev (e ∷ es) more r =
    let a = and_parts (below prev e.key) (rising (Some e.key) (es ++ more)) r in
    let b = rising_split e.key es more a.1 in
    (and_from _ _ a.0 b.0, b.1)

short_split : {V : Type 0} (es more : List (Entry V)) → short_keys (es ++ more) ≡ true → (short_keys es ≡ true) × (short_keys more ≡ true)
short_split [] more s = (refl, s)
short_split (e ∷ es) more s =
    let a = and_parts (at_most (length e.key) 512) (short_keys (es ++ more)) s in
    let b = short_split es more a.1 in
    (and_from _ _ a.0 b.0, b.1)

values_length : {V : Type 0} (es : List (Entry V)) → length (values es) ≡ length es
values_length [] = refl
values_length (e ∷ es) = ap suc (values_length es)

module _ {V : Type 0} (means : Meaning V) (back : ReadsBack means) (few_bytes : Short means) where
  -- a block that can be written: it has entries, few enough, with allowed values
  pub record Good (b : List (Entry V)) : Type 0 where
    pub some : 0 < length b
    pub few : length b ≤ most
    pub small : length (deltas b) ≤ 5000
    pub allowed : Allowed means.rule (values b)

  pub data AllGood : List (List (Entry V)) → Type 0 where
    none : AllGood []
    more : {b : List (Entry V)} {bs : List (List (Entry V))} → Good b → AllGood bs → AllGood (b ∷ bs)

  -- One block at a border.
  module _ (e : Entry V) (es : List (Entry V)) (good : Good (e ∷ es)) (area before after' : List ℕ) (is : area ≡ before ++ (block means.bytes (e ∷ es) ++ after')) where
    abbrev vs : List V
    vs = values (e ∷ es)

    abbrev vpart : List ℕ
    vpart = means.bytes vs

    abbrev dpart : List ℕ
    dpart = deltas (e ∷ es)

    abbrev size : ℕ
    size = 1 + length vpart + length dpart

    abbrev start : ℕ
    start = length before

    abbrev front : List ℕ
    front = word size ++ 0 ∷ vpart

    abbrev reads : Reads means (vpart ++ dpart) vs (length vpart)
    reads = back vs dpart good.allowed (omega (arith, good.few, values_length (e ∷ es)))

    dpart_some : 0 < length dpart
    dpart_some = omega (arith, delta_some [] e.key, length-append (delta [] e.key) (deltas_after e.key es))

    small : size < 2 ^ 32
    small = omega (arith, few_bytes vs good.allowed (omega (arith, good.few, values_length (e ∷ es))), good.small, good.few, values_length (e ∷ es))

    block_length : length (block means.bytes (e ∷ es)) ≡ 4 + size
    block_length = omega (arith, length-append front dpart)

    rest_is : drop start area ≡ block means.bytes (e ∷ es) ++ after'
    rest_is = ap (drop start) is ∙ drop_at before (block means.bytes (e ∷ es) ++ after') start refl

    at_block : block_at area start ≡ Ok (Some (start + 4 + size))
    at_block =
        let r : List ℕ = block means.bytes (e ∷ es) ++ after' in
        let l : length r ≡ 4 + size + length after' = length-append (block means.bytes (e ∷ es)) after' ∙ ap (λ (n : ℕ). n + length after') block_length in
        let w : word_of r ≡ size = word_back size (((0 ∷ vpart) ++ dpart) ++ after') small in
        ap (block_in start) rest_is
        ∙ cond-false (eqb (length r) 0) _ _ (ne_eqb (length r) 0 (λ z. omega arith))
        ∙ cond-false (ltb (length r) 4) _ _ (le-ltb (length r) 4 (omega arith))
        ∙ cond-false (ltb (word_of r) 2) _ _ (le-ltb (word_of r) 2 (omega (arith, w, dpart_some)))
        ∙ cond-false (ltb (length r) (word_of r + 4)) _ _ (le-ltb (length r) (word_of r + 4) (omega (arith, w, l)))
        ∙ ap (λ (n : ℕ). Ok (Some (start + 4 + n))) w

    content_is : content area start (start + 4 + size) ≡ vpart ++ dpart
    content_is =
        let n : start + 4 + size - (start + 5) ≡ length (vpart ++ dpart) = omega (arith, length-append vpart dpart) in
        let a : area ≡ (before ++ (word size ++ 0 ∷ [])) ++ ((vpart ++ dpart) ++ after') = is ∙ sym (append_assoc before (word size ++ 0 ∷ []) ((vpart ++ dpart) ++ after')) in
        ap (λ (k : ℕ). take k (drop (start + 5) area)) n
        ∙ ap (λ (t : List ℕ). take (length (vpart ++ dpart)) t) (ap (drop (start + 5)) a ∙ drop_at (before ++ (word size ++ 0 ∷ [])) ((vpart ++ dpart) ++ after') (start + 5) (length-append before (word size ++ 0 ∷ [])))
        ∙ take_at (vpart ++ dpart) after' (length (vpart ++ dpart)) refl

    -- where the first entry stands
    abbrev first : Position → Position
    first p = record { start = start; finish = start + 4 + size; next = start + 5 + length vpart; cursor = reads.cursor; last = p.last; ordinal = p.ordinal }

    at_border : (p : Position) → border means area start p ≡ entry_at means area (first p) []
    at_border p =
        ap (loaded means area start p) at_block
        ∙ ap (opened means area start (start + 4 + size) p) (ap means.opens content_is ∙ reads.opened)
        ∙ cond-true _ _ _ (lt-ltb (start + 5 + length vpart) (start + 4 + size) (omega (arith, dpart_some)))

    -- the block's values, as the cursor gives them
    given : (i : ℕ) → i < length vs → value_at means.steps reads.cursor (content area start (start + 4 + size)) i ≡ slice_get vs i
    given i l = ap (λ (t : List ℕ). value_at means.steps reads.cursor t i) content_is ∙ reads.values i l

    -- all entries of the block, and then what comes behind it
    whole : (p : Position) (k : ℕ) (rest : List (Entry V)) → p.next ≡ p.finish → p.finish ≡ start → follows p.last e.key ≡ true
        → rising (Some e.key) es ≡ true → short_keys (e ∷ es) ≡ true
        → ((q : Position) (m : ℕ) → q.finish ≡ start + 4 + size → q.next ≡ start + 4 + size → q.last ≡ Some (last_after e.key es) → length rest < m → Tells means m area (reading q) rest)
        → suc (length es) + length rest < k → Tells means k area (reading p) ((e ∷ es) ++ rest)
    whole p zero rest n f l r s go h = absurd (omega arith)
    whole p (suc k) rest n f l r s go h =
        let key = e.key in
        let d : List ℕ = delta [] key in
        let D : List ℕ = deltas_after key es in
        let ss = and_parts (at_most (length key) 512) (short_keys es) s in
        let b : List ℕ = before ++ front in
        let is' : area ≡ b ++ (d ++ (D ++ after')) =
        is ∙ ap (λ (z : List ℕ). before ++ z) (append_assoc front dpart after') ∙ sym (append_assoc before front (dpart ++ after')) ∙ ap (λ (z : List ℕ). b ++ z) (append_assoc d D after') in
        let c = moved reads.cursor (means.steps reads.cursor (content area start (start + 4 + size))) in
        let g = given_is reads.cursor (means.steps reads.cursor (content area start (start + 4 + size))) e.value (given 0 (omega arith)) in
        let lb : length b ≡ start + 5 + length vpart = omega (arith, length-append before front) in
        let ld : length dpart ≡ length d + length D = length-append d D in
        let a = entry_back means [] key area b (D ++ after') (first p) (length D) e.value c (leb-true (length key) 512 ss.0) (λ z. omega (arith, z.0)) is' (sym lb) (omega (arith, ld)) (omega (arith, length-append D after')) l g in
        let q : Position = record { start = start; finish = start + 4 + size; next = start + 5 + length vpart + length d; cursor = c; last = Some key; ordinal = p.ordinal + 1 } in
        let la : start ≤ length area = omega (arith, ap length is ∙ length-append before (block means.bytes (e ∷ es) ++ after')) in
        let t : step_at means area p ≡ border means area start p =
        cond-false (ltb (length area) p.finish) _ _ (le-ltb (length area) p.finish (omega arith))
        ∙ cond-true (eqb p.next p.finish) _ _ (eq-eqb p.next p.finish n)
        ∙ ap (λ (k : ℕ). border means area k p) f in
        tells_entry means k area (reading p) _ q e (es ++ rest) (t ∙ at_border p ∙ a) refl refl
        (inside means es area (b ++ d) after' key q k rest (is' ∙ sym (append_assoc b d (D ++ after'))) (omega (arith, length-append b d, lb)) (omega (arith, ld)) refl r ss.1 (λ i z. given (suc i) (omega (arith, values_length es))) go (omega arith))

  -- the end marker is the end
  at_marker : (area before after' : List ℕ) (p : Position) → area ≡ before ++ (word 0 ++ after') → p.next ≡ p.finish → p.finish ≡ length before → step_at means area p ≡ ended
  at_marker area before after' p is n f =
      let r : drop (length before) area ≡ word 0 ++ after' = ap (drop (length before)) is ∙ drop_at before (word 0 ++ after') (length before) refl in
      let l : length area ≡ length before + length (word 0 ++ after') = ap length is ∙ length-append before (word 0 ++ after') in
      let b : block_at area (length before) ≡ Ok None =
      ap (block_in (length before)) r
      ∙ cond-false (eqb (length (word 0 ++ after')) 0) _ _ (ne_eqb (length (word 0 ++ after')) 0 (λ z. omega arith))
      ∙ cond-false (ltb (length (word 0 ++ after')) 4) _ _ (le-ltb (length (word 0 ++ after')) 4 (omega arith)) in
      cond-false (ltb (length area) p.finish) _ _ (le-ltb (length area) p.finish (omega arith))
      ∙ cond-true (eqb p.next p.finish) _ _ (eq-eqb p.next p.finish n)
      ∙ ap (λ (k : ℕ). border means area k p) f
      ∙ ap (loaded means area (length before) p) b

  -- Blocks, and then the end marker.
  blocks_read : {bs : List (List (Entry V))} → AllGood bs → (area before after' : List ℕ) (p : Position) (k : ℕ) → area ≡ before ++ (blocks means.bytes bs ++ (word 0 ++ after'))
      → p.next ≡ p.finish → p.finish ≡ length before → rising p.last (flat bs) ≡ true → short_keys (flat bs) ≡ true → length (flat bs) < k → Tells means k area (reading p) (flat bs)
  blocks_read none area before after' p zero is n f r s h = absurd (omega arith)
  blocks_read none area before after' p (suc k) is n f r s h = tells_end means k area (reading p) (at_marker area before after' p is n f)
  blocks_read (more {b = []} g gs) area before after' p k is n f r s h = absurd (omega (arith, g.some))
  blocks_read (more {b = e ∷ es} {bs = bs} g gs) area before after' p k is n f r s h =
      let b : List ℕ = block means.bytes (e ∷ es) in
      let tail : List ℕ = blocks means.bytes bs ++ (word 0 ++ after') in
      let is' : area ≡ before ++ (b ++ tail) = is ∙ ap (λ (z : List ℕ). before ++ z) (append_assoc b (blocks means.bytes bs) (word 0 ++ after')) in
      let rs = and_parts (follows p.last e.key) (rising (Some e.key) (es ++ flat bs)) r in
      let rr = rising_split e.key es (flat bs) rs.1 in
      let ss = short_split (e ∷ es) (flat bs) s in
      let lb = block_length e es g area before tail is' in
      whole e es g area before tail is' p k (flat bs) n f rs.0 rr.0 ss.0
      (λ q m qf qn ql h'. blocks_read gs area (before ++ b) after' q m (is' ∙ sym (append_assoc before b tail)) (qn ∙ sym qf) (omega (arith, qf, length-append before b, lb)) (ap (λ (z : Option (List ℕ)). rising z (flat bs)) ql ∙ rr.1) ss.1 h')
      (omega (arith, length-append es (flat bs)))

-- Cutting entries into blocks.
module _ {V : Type 0} where
  flat_cut : (es os : List (Entry V)) → flat (cut_from os es) ≡ os ++ es
  flat_cut [] [] = refl
  flat_cut [] (o ∷ os) = refl
  flat_cut (e ∷ es) os = ap flat (open_step os e es) ∙ by (ltb block_len (length (deltas (os ++ e ∷ [])))) (flat_cut es []) (flat_cut es (os ++ e ∷ []))
    where
      by : (t : Bool) → flat (cut_from [] es) ≡ es → flat (cut_from (os ++ e ∷ []) es) ≡ (os ++ e ∷ []) ++ es
          → flat (cond t ((os ++ e ∷ []) ∷ cut_from [] es) (cut_from (os ++ e ∷ []) es)) ≡ os ++ e ∷ es
      by true a b = ap (λ (z : List (Entry V)). (os ++ e ∷ []) ++ z) a ∙ append_assoc os (e ∷ []) es
      by false a b = b ∙ append_assoc os (e ∷ []) es

  -- entries take at least as many bytes as they are
  one_each : (prev : List ℕ) (es : List (Entry V)) → length es ≤ length (deltas_after prev es)
  one_each prev [] = omega arith
  one_each prev (e ∷ es) = omega (arith, one_each e.key es, delta_some prev e.key, length-append (delta prev e.key) (deltas_after e.key es))

  blocks_long : (bytes : List V → List ℕ) (bs : List (List (Entry V))) → length (flat bs) ≤ length (blocks bytes bs)
  blocks_long bytes [] = omega arith
  blocks_long bytes (b ∷ bs) =
      omega (arith, blocks_long bytes bs, one_each [] b, length-append b (flat bs), length-append (block bytes b) (blocks bytes bs), length-append (word (1 + length (bytes (values b)) + length (deltas b)) ++ 0 ∷ bytes (values b)) (deltas b))

  -- each entry but a block's first takes at least two bytes
  two_each : (prev : List ℕ) (es : List (Entry V)) → rising (Some prev) es ≡ true → 2 * length es ≤ length (deltas_after prev es)
  two_each prev [] r = omega arith
  two_each prev (e ∷ es) r =
      let rs = and_parts (below prev e.key) (rising (Some e.key) es) r in
      omega (arith, two_each e.key es rs.1, delta_two prev e.key rs.0, length-append (delta prev e.key) (deltas_after e.key es))

  counted : (os : List (Entry V)) → rising None os ≡ true → 2 * length os ≤ length (deltas os) + 1
  counted [] r = omega arith
  counted (e ∷ es) r = omega (arith, two_each e.key es r, delta_some [] e.key, length-append (delta [] e.key) (deltas_after e.key es))

  -- a front of rising entries rises, and so does what follows it
  rising_front : (last : Option (List ℕ)) (os es : List (Entry V)) → rising last (os ++ es) ≡ true → rising last os ≡ true
  rising_front last [] es r = refl
  rising_front last (o ∷ os) es r =
      let rs = and_parts (follows last o.key) (rising (Some o.key) (os ++ es)) r in
      and_from _ _ rs.0 (rising_front (Some o.key) os es rs.1)

  rising_behind : (last : Option (List ℕ)) (os es : List (Entry V)) → rising last (os ++ es) ≡ true → rising None es ≡ true
  rising_behind last [] [] r = refl
  rising_behind last [] (e ∷ es) r = (and_parts (follows last e.key) (rising (Some e.key) es) r).1
  rising_behind last (o ∷ os) es r = rising_behind (Some o.key) os es (and_parts (follows last o.key) (rising (Some o.key) (os ++ es)) r).1

  module _ (means : Meaning V) (back : ReadsBack means) (few_bytes : Short means) where
    abbrev Fine : List (List (Entry V)) → Type 0
    Fine bs = AllGood means back few_bytes bs

    good_block : (os : List (Entry V)) (e : Entry V) → rising None os ≡ true → length (deltas os) ≤ 4000 → length e.key ≤ 512 → Allowed means.rule (values (os ++ e ∷ [])) → Good means back few_bytes (os ++ e ∷ [])
    good_block os e r d s a =
        let l : length (os ++ e ∷ []) ≡ length os + 1 = length_push os e in
        record {
          some = omega arith;
          few = omega (arith, counted os r);
          small = omega (arith, ap length (deltas_push [] os e) ∙ length-append (deltas os) (delta (last_after [] os) e.key), delta_short (last_after [] os) e.key s);
          allowed = a;
        }

    good_open : (o : Entry V) (os : List (Entry V)) → rising None (o ∷ os) ≡ true → length (deltas (o ∷ os)) ≤ 4000 → Allowed means.rule (values (o ∷ os)) → Good means back few_bytes (o ∷ os)
    good_open o os r d a = record { some = omega arith; few = omega (arith, counted (o ∷ os) r); small = omega arith; allowed = a }

    good_cut : (es os : List (Entry V)) → length (deltas os) ≤ 4000 → rising None (os ++ es) ≡ true → short_keys es ≡ true → allowed_in means.rule (cut_from os es) ≡ true → Fine (cut_from os es)
    good_cut [] [] d r s a = none
    good_cut [] (o ∷ os) d r s a = more (good_open o os (rising_front None (o ∷ os) [] r) d (and_parts (allowed_after means.rule [] (values (o ∷ os))) true a).0) none
    good_cut (e ∷ es) os d r s a =
        let ss = and_parts (at_most (length e.key) 512) (short_keys es) s in
        let r' : rising None ((os ++ e ∷ []) ++ es) ≡ true = ap (rising None) (append_assoc os (e ∷ []) es) ∙ r in
        subst Fine (sym (open_step os e es))
        (by (ltb block_len (length (deltas (os ++ e ∷ [])))) refl
        (λ a'. good_block os e (rising_front None os (e ∷ es) r) d (leb-true (length e.key) 512 ss.0) a')
        (λ a'. good_cut es [] (omega arith) (rising_behind None (os ++ e ∷ []) es r') ss.1 a')
        (λ d' a'. good_cut es (os ++ e ∷ []) d' r' ss.1 a')
        (sym (ap (allowed_in means.rule) (open_step os e es)) ∙ a))
      where
        by : (t : Bool) → ltb block_len (length (deltas (os ++ e ∷ []))) ≡ t
            → (Allowed means.rule (values (os ++ e ∷ [])) → Good means back few_bytes (os ++ e ∷ []))
            → (allowed_in means.rule (cut_from [] es) ≡ true → Fine (cut_from [] es))
            → (length (deltas (os ++ e ∷ [])) ≤ 4000 → allowed_in means.rule (cut_from (os ++ e ∷ []) es) ≡ true → Fine (cut_from (os ++ e ∷ []) es))
            → allowed_in means.rule (cond t ((os ++ e ∷ []) ∷ cut_from [] es) (cut_from (os ++ e ∷ []) es)) ≡ true → Fine (cond t ((os ++ e ∷ []) ∷ cut_from [] es) (cut_from (os ++ e ∷ []) es))
        by true q one rest open' a' = let p = and_parts (allowed_after means.rule [] (values (os ++ e ∷ []))) (allowed_in means.rule (cut_from [] es)) a' in more (one p.0) (rest p.1)
        by false q one rest open' a' = open' (ltb-false block_len (length (deltas (os ++ e ∷ []))) q) a'

    -- the sstable of sound entries reads back
    pub table_back : TableReadsBack means
    table_back es rest sound =
        let g = good_cut es [] (omega arith) sound.rises sound.short sound.allowed in
        let f : flat (cut es) ≡ es = flat_cut es [] in
        let area : List ℕ = sstable means.bytes es ++ rest in
        let n : length es < length area + 1 = omega (arith, blocks_long means.bytes (cut es), ap length f, length-append (blocks means.bytes (cut es)) (word 0), length-append (sstable means.bytes es) rest) in
        let t = blocks_read means back few_bytes g area [] rest (from 0) (length area + 1) (append_assoc (blocks means.bytes (cut es)) (word 0) rest) refl refl (ap (rising None) f ∙ sound.rises) (ap short_keys f ∙ sound.short) (omega (arith, n, ap length f)) in
        t ∙ ap (λ (z : List (Entry V)). record { entries = z; ending = end }) f
