-- The library's reading of digits is the reading of a line's parts.
use Rattle.std.proofs.Common.{◌≡◌, ℕ, ◌+◌, ◌-◌, ◌*◌, ◌%◌, ◌^◌, ◌<◌, ◌≤◌, Bool, true, false, ◌&&◌, rules, eqb, List, [], ◌∷◌, length, Some, None, Ok, Err, Option, Result, ◌≢◌, get_or, subst, sym, refl, ap, ◌∙◌, inl, inr, arith}
use Rattle.std.proofs.lemmas.Bool.{cases_eq, and_parts}
use Rattle.std.proofs.lemmas.Bool.Decides.{nat_tests}
use Rattle.std.proofs.lemmas.Str.Parse.{IsNumeralModel, numerals_by_fold, tells_all_ascii_digits, parse_plain}
use Rattle.std.proofs.lemmas.Str.{IsUtf8-from_ascii}
use Rattle.std.proofs.lemmas.Fmt.{IsAscii-from_digits}
use Rattle.std.specs.Char.{is_ascii_digit, is_ascii_hexdigit}
use Rattle.std.specs.List.{list_all, starts_with}
use Rattle.std.specs.Result.{result_ok, OkIff}
use Rattle.std.specs.Str.{all_ascii_digits, IsUtf8}
use Rattle.std.specs.Str.Parse.{ParsesUnsigned}
use Rattle.hex.specs.Hex.{decode_of, decode_pairs, digit_or_error, hex_digit_value, pair_value, value_at, ◌>>=◌}
use Rattle.hex.proofs.HexLemmas.{decode_of-even, decode_of-odd}
use Rattle.hex.specs.declared.error.FromHexError.{FromHexError}
use Rattle.building.specs.Lines.{hex_value, byte_of, hex_byte, behind_byte, key_of, with_digit, value_from, value_of, entry_in}

-- a digit
digit_is : (c : ℕ) → hex_digit_value c ≡ hex_value c
digit_is c = grind (arith, nat_tests)

digit_read : (c i : ℕ) (o : Option ℕ) → result_ok (digit_or_error c i o) ≡ o
digit_read c i (Some v) = refl
digit_read c i None = refl

-- a byte
bytes_bind : (r s : Result ℕ FromHexError) → result_ok (r >>= λ h. s >>= λ l. Ok (h * 16 + l)) ≡ byte_of (result_ok r) (result_ok s)
bytes_bind (Ok h) (Ok l) = refl
bytes_bind (Ok h) (Err e) = refl
bytes_bind (Err e) s = refl

pair_is : (c d i : ℕ) → result_ok (pair_value c d i) ≡ hex_byte c d
pair_is c d i =
    let h = digit_read c i (hex_digit_value c) ∙ digit_is c in
    let l = digit_read d (i + 1) (hex_digit_value d) ∙ digit_is d in
    bytes_bind (value_at c i) (value_at d (i + 1)) ∙ ap (λ (o : Option ℕ). byte_of o (result_ok (value_at d (i + 1)))) h ∙ ap (byte_of (hex_value c)) l

-- pairs of digits
key_bind : (r : Result ℕ FromHexError) (s : Result (List ℕ) FromHexError) → result_ok (r >>= λ b. s >>= λ bs. Ok (b ∷ bs)) ≡ behind_byte (result_ok r) (result_ok s)
key_bind (Ok b) (Ok bs) = refl
key_bind (Ok b) (Err e) = refl
key_bind (Err e) s = refl

pairs_are : (i : ℕ) (ds : List ℕ) → result_ok (decode_pairs i ds) ≡ key_of ds
unfolding decode_pairs
pairs_are i [] = refl
pairs_are i (c ∷ []) = refl
pairs_are i (c ∷ d ∷ ds) =
    key_bind (pair_value c d i) (decode_pairs (i + 2) ds)
    ∙ ap (λ (o : Option ℕ). behind_byte o (result_ok (decode_pairs (i + 2) ds))) (pair_is c d i)
    ∙ ap (behind_byte (hex_byte c d)) (pairs_are (i + 2) ds)

behind_none : (o : Option ℕ) → behind_byte o None ≡ None
behind_none (Some b) = refl
behind_none None = refl

odd_is_none : (ds : List ℕ) → length ds % 2 ≡ 1 → key_of ds ≡ None
odd_is_none [] h = absurd (omega arith)
odd_is_none (c ∷ []) h = refl
odd_is_none (c ∷ d ∷ ds) h = ap (behind_byte (hex_byte c d)) (odd_is_none ds (omega arith)) ∙ behind_none (hex_byte c d)

-- a key has no byte that is no digit
digit_none : (c : ℕ) → is_ascii_hexdigit c ≡ false → hex_value c ≡ None
digit_none c h = grind (arith, nat_tests)

byte_none : (o : Option ℕ) → byte_of o None ≡ None
byte_none (Some high) = refl
byte_none None = refl

pair_none : (p q r : Bool) (c d : ℕ) (ds : List ℕ) → is_ascii_hexdigit c ≡ p → is_ascii_hexdigit d ≡ q → (r ≡ false → key_of ds ≡ None) → (p && (q && r)) ≡ false
    → behind_byte (hex_byte c d) (key_of ds) ≡ None
pair_none false q r c d ds e f n h = ap (λ (o : Option ℕ). behind_byte (byte_of o (hex_value d)) (key_of ds)) (digit_none c e)
pair_none true false r c d ds e f n h =
    ap (λ (o : Option ℕ). behind_byte (byte_of (hex_value c) o) (key_of ds)) (digit_none d f)
    ∙ ap (λ (o : Option ℕ). behind_byte o (key_of ds)) (byte_none (hex_value c))
pair_none true true r c d ds e f n h = ap (behind_byte (hex_byte c d)) (n h) ∙ behind_none (hex_byte c d)

pub key_none : (ds : List ℕ) → list_all is_ascii_hexdigit ds ≡ false → key_of ds ≡ None
key_none [] h = cc
key_none (c ∷ []) h = refl
key_none (c ∷ d ∷ ds) h = pair_none (is_ascii_hexdigit c) (is_ascii_hexdigit d) (list_all is_ascii_hexdigit ds) c d ds refl refl (key_none ds) h

pub key_is : (ds : List ℕ) → result_ok (decode_of ds) ≡ key_of ds
key_is ds =
    elim (cases_eq (length ds % 2) 1) [
      | inl odd ↦ ap result_ok (decode_of-odd ds odd) ∙ sym (odd_is_none ds odd)
      | inr even ↦ ap result_ok (decode_of-even ds (omega arith)) ∙ pairs_are 0 ds
    ]

-- a number in decimal, with no bound
abbrev read_on : ℕ → List ℕ → ℕ
read_on n [] = n
read_on n (c ∷ cs) = read_on (n * 10 + (c - 48)) cs

numerals : IsNumeralModel (λ ds. all_ascii_digits ds ≡ true) (read_on 0)
numerals = numerals_by_fold _ tells_all_ascii_digits read_on (search rules)

read_on_grows : (n : ℕ) (cs : List ℕ) → n ≤ read_on n cs
read_on_grows n [] = omega arith
read_on_grows n (c ∷ cs) = let e = read_on_grows (n * 10 + (c - 48)) cs in omega arith

digit_some : (n c : ℕ) → is_ascii_digit c ≡ true → n * 10 + (c - 48) < 2 ^ 64 → with_digit n c ≡ Some (n * 10 + (c - 48))
digit_some n c d h = grind (arith, nat_tests)

record Digit (n c m : ℕ) : Type 0 where
  is : is_ascii_digit c ≡ true
  gives : m ≡ n * 10 + (c - 48)
  small : m < 2 ^ 64

digit_of_some : (n c m : ℕ) → with_digit n c ≡ Some m → Digit n c m
digit_of_some n c m h = record { is = grind (arith, nat_tests); gives = grind (arith, nat_tests); small = grind (arith, nat_tests) }

abbrev then : Option ℕ → List ℕ → Option ℕ
then o cs = elim o [ None ↦ None | Some m ↦ value_from m cs ]

value_some : (n : ℕ) (cs : List ℕ) → all_ascii_digits cs ≡ true → read_on n cs < 2 ^ 64 → value_from n cs ≡ Some (read_on n cs)
value_some n [] d h = refl
value_some n (c ∷ cs) d h =
    let m = n * 10 + (c - 48) in
    let parts = and_parts (is_ascii_digit c) (all_ascii_digits cs) d in
    let grows = read_on_grows m cs in
    ap (λ (o : Option ℕ). then o cs) (digit_some n c parts.0 (omega arith)) ∙ value_some m cs parts.1 h

-- a number that was read
record Numeral (n : ℕ) (cs : List ℕ) : Type 0 where
  digits : all_ascii_digits cs ≡ true
  small : read_on n cs < 2 ^ 64

-- the digits behind a first one
behind_digit : (n c : ℕ) (cs : List ℕ) (v : ℕ) → ((m : ℕ) → m < 2 ^ 64 → value_from m cs ≡ Some v → Numeral m cs) → (o : Option ℕ) → with_digit n c ≡ o → then o cs ≡ Some v → Numeral n (c ∷ cs)
behind_digit n c cs v rest None e k = cc
behind_digit n c cs v rest (Some m) e k =
    let d = digit_of_some n c m e in
    let more : Numeral (n * 10 + (c - 48)) cs = subst (λ (z : ℕ). Numeral z cs) d.gives (rest m d.small k) in
    record { digits = rw d.is more.digits; small = more.small }

numeral_of_some : (n : ℕ) (cs : List ℕ) (v : ℕ) → n < 2 ^ 64 → value_from n cs ≡ Some v → Numeral n cs
numeral_of_some n [] v small h = record { digits = refl; small = small }
numeral_of_some n (c ∷ cs) v small h = behind_digit n c cs v (λ m s k. numeral_of_some m cs v s k) (with_digit n c) refl h

-- what `parse` answers for a text with no sign in front
pub value_is : {E : Type 0} (bs : List ℕ) (r : Result ℕ E) → ParsesUnsigned 64 10 bs r → get_or bs 0 0 ≢ 43 → result_ok r ≡ value_of bs
value_is bs r h p = by_parse bs r (parse_plain numerals 64 bs r h p)
  where
    by_none : (o : Option ℕ) (cs : List ℕ) → value_from 0 cs ≡ o → (Numeral 0 cs → ⊥) → None ≡ o
    by_none None cs e bad = refl
    by_none (Some v) cs e bad = absurd (bad (numeral_of_some 0 cs v (omega arith) e))

    by_parse : {E : Type 0} (bs : List ℕ) (r : Result ℕ E) → OkIff r ((all_ascii_digits bs ≡ true) × (0 < length bs) × (read_on 0 bs < 2 ^ 64)) (read_on 0 bs) → result_ok r ≡ value_of bs
    by_parse [] (Ok x) h = absurd (omega (arith, h.0.1))
    by_parse [] (Err e) h = refl
    by_parse (c ∷ cs) (Ok x) h = ap Some h.1 ∙ sym (value_some 0 (c ∷ cs) h.0.0 h.0.2)
    by_parse (c ∷ cs) (Err e) h = by_none (value_from 0 (c ∷ cs)) (c ∷ cs) refl (λ n. h (n.digits, omega arith, n.small))

-- a text that is no UTF-8 has others than digits
pub no_text : (bs : List ℕ) → ¬ (IsUtf8 bs) → None ≡ value_of bs
no_text [] h = refl
no_text (c ∷ cs) h = by_none (value_from 0 (c ∷ cs)) refl
  where
    by_none : (o : Option ℕ) → value_from 0 (c ∷ cs) ≡ o → None ≡ o
    by_none None e = refl
    by_none (Some v) e = absurd (h (IsUtf8-from_ascii (c ∷ cs) (IsAscii-from_digits (c ∷ cs) (numerals.to (c ∷ cs) (numeral_of_some 0 (c ∷ cs) v (omega arith) e).digits))))

-- a text with no sign in front
pub with_no_sign : (bs : List ℕ) → starts_with eqb bs (43 ∷ []) ≡ false → get_or bs 0 0 ≢ 43
with_no_sign [] h e = absurd (omega arith)
with_no_sign (c ∷ cs) h e = cc

-- a key with no value
pub none_without : (k : Option (List ℕ)) → entry_in k None ≡ None
none_without (Some key) = refl
none_without None = refl
