-- An entry that was written is read back.
use Rattle.std.proofs.Common.{◌≡◌, ℕ, suc, ◌+◌, ◌-◌, ◌<◌, ◌≤◌, Bool, true, false, cond, eqb, ltb, List, [], ◌∷◌, ◌++◌, length, take, drop, Some, Ok, Option, Result, sym, refl, ap, ◌∙◌, append_assoc, arith, length-append, length-drop}
use Rattle.std.proofs.Math.Seq.{take-append-add}
use Rattle.std.proofs.lemmas.List.{take_at, drop_at, drop-take, take-append-drop}
use Rattle.std.proofs.lemmas.Bool.{cond-true, cond-false, le-ltb, eqb-true}
use Rattle.format.specs.declared.Cursor.{Cursor}
use Rattle.format.specs.Codecs.{Meaning}
use Rattle.format.specs.declared.fault.Fault.{Fault}
use Rattle.format.specs.Headers.{header, read_header}
use Rattle.format.specs.Keys.{below, shared, follows}
use Rattle.format.specs.Reading.{Position, entry, Suffix, suffix_of, suffix_at, key_with, valued, keyed, suffixed, content, entry_at}
use Rattle.format.specs.Tables.{delta}
use Rattle.format.proofs.HeaderLaws.{header_back}

-- What two keys share.
pub shared_le : (a k : List ℕ) → (shared a k ≤ length a) × (shared a k ≤ length k)
shared_le [] k = (omega arith, omega arith)
shared_le (x ∷ a) [] = (omega arith, omega arith)
shared_le (x ∷ a) (y ∷ k) = by (eqb x y) (shared_le a k)
  where
    by : (t : Bool) → (shared a k ≤ length a) × (shared a k ≤ length k) → (cond t (suc (shared a k)) 0 ≤ suc (length a)) × (cond t (suc (shared a k)) 0 ≤ suc (length k))
    by true h = (omega (arith, h.0), omega (arith, h.1))
    by false h = (omega arith, omega arith)

-- the front that they share is the same
pub shared_front : (a k : List ℕ) → take (shared a k) a ≡ take (shared a k) k
shared_front [] k = refl
shared_front (x ∷ a) [] = refl
shared_front (x ∷ a) (y ∷ k) = by (eqb x y) refl (shared_front a k)
  where
    by : (t : Bool) → eqb x y ≡ t → take (shared a k) a ≡ take (shared a k) k → take (cond t (suc (shared a k)) 0) (x ∷ a) ≡ take (cond t (suc (shared a k)) 0) (y ∷ k)
    by true e h = let q : x ≡ y = eqb-true x y e in ap (λ (z : ℕ). z ∷ take (shared a k) a) q ∙ ap (λ (z : List ℕ). y ∷ z) h
    by false e h = refl

-- a key is what it shares with another, and what follows
pub shared_back : (a k : List ℕ) → take (shared a k) a ++ drop (shared a k) k ≡ k
shared_back a k = ap (λ (z : List ℕ). z ++ drop (shared a k) k) (shared_front a k) ∙ take-append-drop (shared a k) k

-- a key above another shares fewer bytes than it has
pub shared_less : (a k : List ℕ) → below a k ≡ true → shared a k < length k
shared_less [] [] b = let z : ◌≡◌ {A = ℕ} 0 1 = cc in absurd (omega arith)
shared_less [] (y ∷ k) b = omega arith
shared_less (x ∷ a) [] b = let z : ◌≡◌ {A = ℕ} 0 1 = cc in absurd (omega arith)
shared_less (x ∷ a) (y ∷ k) b = by (eqb x y) refl (shared_less a k)
  where
    by : (t : Bool) → eqb x y ≡ t → (below a k ≡ true → shared a k < length k) → cond t (suc (shared a k)) 0 < suc (length k)
    by false e h = omega arith
    by true e h =
        let q : x ≡ y = eqb-true x y e in
        let n : ltb x y ≡ false = le-ltb x y (omega arith) in
        let c : below a k ≡ true = sym (cond-false (ltb x y) true (cond (eqb x y) (below a k) false) n ∙ cond-true (eqb x y) (below a k) false e) ∙ b in
        omega (arith, h c)

-- An entry behind a base, of which it keeps what it shares.
module _ (base key : List ℕ) where
  abbrev pub keep : ℕ
  keep = shared base key

  abbrev pub add : ℕ
  add = length key - keep

  abbrev pub head : List ℕ
  head = header keep add

  abbrev pub tail : List ℕ
  tail = drop keep key

  tail_length : length tail ≡ add
  tail_length = length-drop keep key

  -- the header and the suffix are read as they were written
  module _ (area before behind : List ℕ) (next finish : ℕ) (short : length key ≤ 512) (not-one : (keep ≡ 1) × (add ≡ 0) → ⊥)
      (is : area ≡ before ++ (delta base key ++ behind)) (at : next ≡ length before) (more : ℕ) (ends : finish ≡ next + (length (delta base key) + more)) (fits : more ≤ length behind) where
    abbrev rest : List ℕ
    rest = tail ++ behind

    area_is : area ≡ before ++ (head ++ rest)
    area_is = is ∙ ap (λ (z : List ℕ). before ++ z) (append_assoc head tail behind)

    lengths : length (delta base key) ≡ length head + add
    lengths = length-append head tail ∙ ap (λ (n : ℕ). length head + n) tail_length

    header_is : read_header (drop next (take finish area)) ≡ Some (length head, (keep, add))
    header_is =
        let n : length head + (add + more) ≡ length (delta base key) + more = omega (arith, lengths) in
        ap (λ (k : ℕ). read_header (drop next (take k area))) ends
        ∙ ap read_header (drop-take next (length (delta base key) + more) area)
        ∙ ap (λ (t : List ℕ). read_header (take (length (delta base key) + more) t)) (ap (λ (k : ℕ). drop k area) at ∙ ap (drop (length before)) area_is ∙ drop_at before (head ++ rest) (length before) refl)
        ∙ ap (λ (k : ℕ). read_header (take k (head ++ rest))) (sym n)
        ∙ ap read_header (take-append-add head rest (add + more))
        ∙ header_back keep add (take (add + more) rest) (omega (arith, (shared_le base key).1)) (omega arith) not-one

    suffix_is : suffix_at area next finish ≡ Ok (record { keep = keep; place = next + length head; bytes = tail })
    suffix_is =
        let d : drop (next + length head) area ≡ rest =
        ap (λ (k : ℕ). drop (k + length head) area) at
        ∙ ap (drop (length before + length head)) (area_is ∙ sym (append_assoc before head rest))
        ∙ drop_at (before ++ head) rest (length before + length head) (length-append before head) in
        ap (suffix_of area next finish) header_is
        ∙ cond-false _ _ _ (le-ltb (finish - (next + length head)) add (omega (arith, lengths, ends)))
        ∙ ap (λ (t : List ℕ). Ok (record { keep = keep; place = next + length head; bytes = take add t })) d
        ∙ ap (λ (t : List ℕ). Ok (record { keep = keep; place = next + length head; bytes = t })) (take_at tail behind add tail_length)

  -- the key is made of the base and the suffix
  key_is : (next place : ℕ) (last : Option (List ℕ)) → length key ≤ 512 → follows last key ≡ true
      → key_with next last base (record { keep = keep; place = place; bytes = tail }) ≡ Ok key
  key_is next place last short f =
      cond-false _ _ _ (le-ltb (length base) keep (shared_le base key).0)
      ∙ cond-true _ _ _ (ap (follows last) (shared_back base key) ∙ f)
      ∙ cond-false _ _ _ (le-ltb 512 (keep + length tail) (omega (arith, tail_length, (shared_le base key).1)))
      ∙ ap (λ (k : List ℕ). Ok k) (shared_back base key)

-- an entry in an area, behind a base
pub entry_back : {V : Type 0} (means : Meaning V) (base key area before behind : List ℕ) (p : Position) (more : ℕ) (v : V) (c : Cursor)
    → length key ≤ 512 → ((shared base key ≡ 1) × (length key - shared base key ≡ 0) → ⊥)
    → area ≡ before ++ (delta base key ++ behind) → p.next ≡ length before → p.finish ≡ p.next + (length (delta base key) + more) → more ≤ length behind
    → follows p.last key ≡ true → means.steps p.cursor (content area p.start p.finish) ≡ Ok (Some (v, c))
    → entry_at means area p base
    ≡ entry (record { keep = shared base key; suffix = drop (shared base key) key; place = p.next + length (header (shared base key) (length key - shared base key)); ordinal = p.ordinal; value = v })
    (record { start = p.start; finish = p.finish; next = p.next + length (delta base key); cursor = c; last = Some key; ordinal = p.ordinal + 1 })
entry_back means base key area before behind p more v c short not-one is at ends fits f g =
    let s : Suffix = record { keep = shared base key; place = p.next + length (header (shared base key) (length key - shared base key)); bytes = drop (shared base key) key } in
    let n : s.place + length s.bytes ≡ p.next + length (delta base key) = omega (arith, length-append (header (shared base key) (length key - shared base key)) (drop (shared base key) key)) in
    ap (λ (r : Result Suffix Fault). suffixed p base r (means.steps p.cursor (content area p.start p.finish))) (suffix_is base key area before behind p.next p.finish short not-one is at more ends fits)
    ∙ ap (λ (r : Result (List ℕ) Fault). keyed p s r (means.steps p.cursor (content area p.start p.finish))) (key_is base key p.next s.place p.last short f)
    ∙ ap (valued p s key) g
    ∙ ap (λ (k : ℕ). entry (record { keep = s.keep; suffix = s.bytes; place = s.place; ordinal = p.ordinal; value = v }) (record { start = p.start; finish = p.finish; next = k; cursor = c; last = Some key; ordinal = p.ordinal + 1 })) n
