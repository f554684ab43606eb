-- Lengths of blocks, and blocks written part by part.
use Rattle.std.proofs.Common.{◌≡◌, ℕ, ◌+◌, ◌-◌, ◌<◌, ◌≤◌, true, cond, ltb, List, [], ◌∷◌, ◌++◌, length, get_or, take, drop, set, Some, Option, zero-add, sym, refl, ap, ◌∙◌, append_assoc, arith, length-append, length-drop}
use borrow.Rule.Slice.PartMut.{put_mid}
use Rattle.std.proofs.lemmas.List.{length_push, drop_more, set_at, length-take-le, drop_at, append-nil, drop_all, drop-drop, take_rest}
use Rattle.std.proofs.lemmas.Bool.{lt-ltb, ltb-true, cond-true, le-leb, and_parts}
use Rattle.format.specs.Buffers.{written, has_room, put_end, put}
use Rattle.format.specs.Codecs.{Meaning, Allowed, Short, takes, most}
use Rattle.format.specs.Tables.{word, block_len}
use Rattle.format.specs.Writing.{overwritten}
use Rattle.format.proofs.BufferLaws.{written_part, written_both, written_then}
use Rattle.format.proofs.CodecLaws.{allowed_push}
use Rattle.writer.specs.Parts.{block}
use Rattle.writer.specs.States.{Block, is_long, block_of, flushed, rest_in}

pub block_length : (vs ds : List ℕ) → length (block vs ds) ≡ 5 + length vs + length ds
unfolding block
block_length vs ds = simp length-append (omega arith)

-- bytes at the front of an output
at_front : (out bs : List ℕ) → overwritten out bs ≡ written out 0 bs
at_front out bs = ap (λ (n : ℕ). bs ++ drop n out) (sym (zero-add (length bs)))

-- outputs whose first bytes were written
pub over_more : (old a b : List ℕ) → written (overwritten old a) (length a) b ≡ overwritten old (a ++ b)
over_more old a b =
    ap (λ (z : List ℕ). written z (length a) b) (at_front old a) ∙ ap (λ (n : ℕ). written (written old 0 a) n b) (sym (zero-add (length a)))
    ∙ written_both old 0 a b (omega arith) ∙ sym (at_front old (a ++ b))

-- what a write at the front of `out[at..]` leaves
pub written_from : (out part bs : List ℕ) (at : ℕ) → part ≡ overwritten (take (length out - at) (drop at out)) bs → at + length bs ≤ length out → put_mid at (length out - at) out part ≡ written out at bs
written_from out part bs at e h =
    let n : length out - at ≡ at + (length out - at) - at = omega arith in
    let q : part ≡ bs ++ drop (length bs) (drop at out) = e ∙ ap (λ (z : List ℕ). bs ++ drop (length bs) z) (take_rest out at) in
    let l : length (bs ++ drop (length bs) (drop at out)) ≡ length out - at =
    length-append bs (drop (length bs) (drop at out)) ∙ omega (arith, length-drop (length bs) (drop at out), length-drop at out) in
    let z : at + length (bs ++ drop (length bs) (drop at out)) ≡ length out = omega arith in
    ap (λ (k : ℕ). put_mid at k out part) n ∙ written_part out at (length out - at) part (bs ++ drop (length bs) (drop at out)) q (sym l)
    ∙ ap (λ (k : List ℕ). take at out ++ ((bs ++ drop (length bs) (drop at out)) ++ k)) (drop_all (at + length (bs ++ drop (length bs) (drop at out))) out (omega arith))
    ∙ ap (λ (k : List ℕ). take at out ++ k) (append-nil (bs ++ drop (length bs) (drop at out)) ∙ ap (λ (k : List ℕ). bs ++ k) (drop-drop (length bs) at out))

-- a word and a flag in front of bytes from the sixth on
head_written : (out b : List ℕ) (x : ℕ) → 5 ≤ length out → set (overwritten (written out 5 b) (word x)) 4 0 ≡ overwritten out (word x ++ (0 ∷ b))
head_written out b x h =
    let tail = drop (5 + length b) out in
    let o : List ℕ = written out 5 b in
    let l : length (take 5 out) ≡ 5 = length-take-le 5 out h in
    let n : 5 + length b ≡ length (word x ++ (0 ∷ b)) = omega arith in
    let more : drop 4 o ≡ get_or o 4 0 ∷ drop 5 o = drop_more o 4 0 (omega (arith, length-append (take 5 out) (b ++ tail))) in
    ap (λ (z : List ℕ). set (word x ++ z) 4 0) more ∙ set_at (word x) (get_or o 4 0) (drop 5 o) 0 4 refl
    ∙ ap (λ (z : List ℕ). word x ++ (0 ∷ z)) (drop_at (take 5 out) (b ++ tail) 5 l)
    ∙ sym (append_assoc (word x) (0 ∷ b) tail)
    ∙ ap (λ (n : ℕ). (word x ++ (0 ∷ b)) ++ drop n out) n

-- the writes of a block at the front of an output, as the code comes to them
pub block_written : (out v o p d w : List ℕ) (m n x : ℕ) (r : Option ℕ) → r ≡ Some m → r ≡ put_end (take (length out - 5) (drop 5 out)) 0 v → o ≡ put (take (length out - 5) (drop 5 out)) 0 v
    → p ≡ d → n ≡ length d → x ≡ 5 + m + n - 4 → w ≡ overwritten (put_mid (5 + m) (5 + m + n - (5 + m)) (put_mid 5 (length out - 5) out o) p) (word x) → 5 + length v + length d ≤ length out
    → set w 4 0 ≡ overwritten out (block v d)
unfolding block
block_written out v o p d w m n x r s e f g k y z h =
    let part = take (length out - 5) (drop 5 out) in
    let t : has_room part 0 v ≡ true = le-leb _ _ (omega (arith, ap length (take_rest out 5), length-drop 5 out)) in
    let q : Some m ≡ Some (0 + length v) = sym s ∙ e ∙ cond-true _ _ _ t in
    let l : m ≡ 0 + length v = cc in
    let a = written_from out o v 5 (f ∙ cond-true _ _ _ t ∙ sym (at_front part v)) (omega arith) in
    let b =
    written_part (put_mid 5 (length out - 5) out o) (5 + m) n p d g k
    ∙ written_then out (put_mid 5 (length out - 5) out o) 5 (5 + m) v d a (omega arith) (omega arith) in
    let c : x ≡ 1 + length v + length d = omega arith in
    ap (λ (i : List ℕ). set i 4 0) (z ∙ ap (λ (i : List ℕ). overwritten i (word x)) b)
    ∙ head_written out (v ++ d) x (omega arith) ∙ ap (λ (i : ℕ). overwritten out (word i ++ (0 ∷ (v ++ d)))) c

module _ {V : Type 0} (bytes : List V → List ℕ) where
  rest_length : (vs : List V) (ds : List ℕ) → 0 < length ds → length (rest_in bytes vs ds) ≡ 5 + length (bytes vs) + length ds
  rest_length vs [] h = absurd (omega arith)
  rest_length vs (d ∷ ds) h = block_length (bytes vs) (d ∷ ds)

  pub rest_by : (vs : List V) (ds : List ℕ) (n d : ℕ) → n ≡ length (bytes vs) → d ≡ length ds → 0 < d → length (rest_in bytes vs ds) ≡ 5 + (n + d)
  rest_by vs ds n d e f h = rest_length vs ds (omega arith) ∙ omega arith

  pub flushed_long : (b : Block V) → is_long b ≡ true → length (flushed bytes b) ≡ 5 + length (bytes b.vals) + length b.delta
  flushed_long b h = ap length (cond-true (is_long b) (block_of bytes b) [] h) ∙ block_length (bytes b.vals) b.delta

  -- a block that is flushed fits behind what is written, so that ends within the output
  pub fits_long : (b new : Block V) (end room : ℕ) → new ≡ b → is_long new ≡ true → length (flushed bytes b) ≤ room - end → end ≤ room
  fits_long b new end room e l h = omega (arith, flushed_long b (ap is_long (sym e) ∙ l))

  pub ending_length : (vs : List V) (ds : List ℕ) → length (rest_in bytes vs ds ++ word 0) ≡ 4 + length (rest_in bytes vs ds)
  ending_length vs ds = length-append (rest_in bytes vs ds) (word 0) ∙ omega arith

-- the values of a block take few bytes, with one more too
pub pushed_few : {V : Type 0} (means : Meaning V) → Short means → (vs : List V) (v : V) → Allowed means.rule vs × (length vs ≤ most) → takes means.rule vs v ≡ true
    → length (means.bytes (vs ++ v ∷ [])) ≤ 20030
pushed_few means short vs v h t =
    let p = and_parts (means.rule vs v) (ltb (length vs) most) t in
    let l : length vs < 2001 = ltb-true (length vs) 2001 p.1 in
    let m = length_push vs v in
    omega (arith, short (vs ++ v ∷ []) (allowed_push means.rule vs v h.0 p.0) (omega arith))

-- what an entry flushes, by the length of the delta part with it
pub over_length : (vs ds : List ℕ) (n d : ℕ) → n ≡ length vs → d ≡ length ds → 4000 < d → 5 + n + d ≡ length (cond (ltb block_len (length ds)) (block vs ds) [])
over_length vs ds n d e f h = sym (ap length (cond-true (ltb block_len (length ds)) (block vs ds) [] (lt-ltb block_len (length ds) (omega arith))) ∙ block_length vs ds ∙ omega arith)
