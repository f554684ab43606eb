-- What a writer takes, whatever the calls, is sound: its sstable reads back.
use Rattle.std.proofs.Common.{◌≡◌, ℕ, ◌≤◌, Bool, true, false, cond, ltb, leb as at_most, List, [], ◌∷◌, ◌++◌, length, Some, None, Option, sym, refl, ap, ◌∙◌, arith}
use Rattle.std.proofs.lemmas.Bool.{and_parts, and_from, le-leb, ltb-false}
use Rattle.format.specs.Codecs.{Meaning, allowed_after, Allowed}
use Rattle.format.specs.declared.fault.Fault.{Fault}
use Rattle.format.specs.Faults.{fault, codec}
use Rattle.format.specs.Keys.{longest, follows}
use Rattle.format.specs.Sound.{rising, short_keys, allowed_in, Sound}
use Rattle.format.specs.Tables.{Entry, block_len, values, deltas, cut_from}
use Rattle.format.specs.Writing.{Waiting, for_key, for_value, finished, Written, Call, insert, insert_key, insert_value, finish, first, new, last_key, closes, open_from, open_block, refused, key_refusal, accepted_in, accepted, flush_refusal, entry_refusal, refusal_in, refusal, called, called_all}
use Rattle.format.proofs.CodecLaws.{allowed_push}
use Rattle.format.proofs.TableLaws.{values_push, open_step}

module _ {V : Type 0} where
  -- the last key of entries behind another
  abbrev pub last_of : Option (List ℕ) → List (Entry V) → Option (List ℕ)
  last_of prev [] = prev
  last_of prev (e ∷ es) = last_of (Some e.key) es

  last_is : (e : Entry V) (es : List (Entry V)) → last_key (e ∷ es) ≡ last_of (Some e.key) es
  last_is e [] = refl
  last_is e (f ∷ es) = last_is f es

  pub last_of_lem : (es : List (Entry V)) → last_key es ≡ last_of None es
  last_of_lem [] = refl
  last_of_lem (e ∷ es) = last_is e es

  pub rising_push : (prev : Option (List ℕ)) (es : List (Entry V)) (e : Entry V) → rising prev es ≡ true → follows (last_of prev es) e.key ≡ true → rising prev (es ++ e ∷ []) ≡ true
  rising_push prev [] e r f = and_from _ _ f refl
  rising_push prev (x ∷ es) e r f =
      let rs = and_parts (follows prev x.key) (rising (Some x.key) es) r in
      and_from _ _ rs.0 (rising_push (Some x.key) es e rs.1 f)

  short_push : (es : List (Entry V)) (e : Entry V) → short_keys es ≡ true → length e.key ≤ 512 → short_keys (es ++ e ∷ []) ≡ true
  short_push [] e s h = and_from _ _ (le-leb (length e.key) 512 h) refl
  short_push (x ∷ es) e s h =
      let ss = and_parts (at_most (length x.key) 512) (short_keys es) s in
      and_from _ _ ss.0 (short_push es e ss.1 h)

  -- Values, block by block.
  module _ (rule : List V → V → Bool) where
    allowed_front : (before vs ws : List V) → allowed_after rule before (vs ++ ws) ≡ true → allowed_after rule before vs ≡ true
    allowed_front before [] ws a = refl
    allowed_front before (v ∷ vs) ws a =
        let p = and_parts (rule before v) (allowed_after rule (before ++ v ∷ []) (vs ++ ws)) a in
        and_from _ _ p.0 (allowed_front (before ++ v ∷ []) vs ws p.1)

    block_front : (os : List (Entry V)) (e : Entry V) → Allowed rule (values (os ++ e ∷ [])) → Allowed rule (values os)
    block_front os e a = allowed_front [] (values os) (e.value ∷ []) (ap (allowed_after rule []) (sym (values_push os e)) ∙ a)

    -- the open block of allowed blocks is allowed
    open_allowed : (es os : List (Entry V)) → allowed_in rule (cut_from os es) ≡ true → Allowed rule (values os)
    open_allowed [] [] a = refl
    open_allowed [] (o ∷ os) a = (and_parts (allowed_after rule [] (values (o ∷ os))) true a).0
    open_allowed (e ∷ es) os a =
        by (ltb block_len (length (deltas (os ++ e ∷ [])))) (λ a'. open_allowed es (os ++ e ∷ []) a') (sym (ap (allowed_in rule) (open_step os e es)) ∙ a)
      where
        by : (t : Bool) → (allowed_in rule (cut_from (os ++ e ∷ []) es) ≡ true → Allowed rule (values (os ++ e ∷ [])))
            → allowed_in rule (cond t ((os ++ e ∷ []) ∷ cut_from [] es) (cut_from (os ++ e ∷ []) es)) ≡ true → Allowed rule (values os)
        by true go a' = block_front os e (and_parts (allowed_after rule [] (values (os ++ e ∷ []))) (allowed_in rule (cut_from [] es)) a').0
        by false go a' = block_front os e (go a')

    one_block : (os : List (Entry V)) (e : Entry V) → Allowed rule (values (os ++ e ∷ [])) → allowed_in rule (cut_from (os ++ e ∷ []) []) ≡ true
    one_block [] e a = and_from _ _ a refl
    one_block (o ∷ os) e a = and_from _ _ a refl

    -- a value that may follow those of the open block
    allowed_behind : (es os : List (Entry V)) (e : Entry V) → allowed_in rule (cut_from os es) ≡ true → rule (values (open_from os es)) e.value ≡ true → allowed_in rule (cut_from os (es ++ e ∷ [])) ≡ true
    allowed_behind [] os e a r =
        let v : Allowed rule (values (os ++ e ∷ [])) = ap (allowed_after rule []) (values_push os e) ∙ allowed_push rule (values os) e.value (open_allowed [] os a) r in
        ap (allowed_in rule) (open_step os e []) ∙ by (ltb block_len (length (deltas (os ++ e ∷ [])))) (and_from _ _ v refl) (one_block os e v)
      where
        by : (t : Bool) → allowed_in rule ((os ++ e ∷ []) ∷ []) ≡ true → allowed_in rule (cut_from (os ++ e ∷ []) []) ≡ true
            → allowed_in rule (cond t ((os ++ e ∷ []) ∷ cut_from [] []) (cut_from (os ++ e ∷ []) [])) ≡ true
        by true x y = x
        by false x y = y
    allowed_behind (x ∷ es) os e a r =
        ap (allowed_in rule) (open_step os x (es ++ e ∷ []))
        ∙ by (closes os x) (λ a' r'. allowed_behind es [] e a' r') (λ a' r'. allowed_behind es (os ++ x ∷ []) e a' r') (sym (ap (allowed_in rule) (open_step os x es)) ∙ a) r
      where
        by : (t : Bool)
            → (allowed_in rule (cut_from [] es) ≡ true → rule (values (open_from [] es)) e.value ≡ true → allowed_in rule (cut_from [] (es ++ e ∷ [])) ≡ true)
            → (allowed_in rule (cut_from (os ++ x ∷ []) es) ≡ true → rule (values (open_from (os ++ x ∷ []) es)) e.value ≡ true → allowed_in rule (cut_from (os ++ x ∷ []) (es ++ e ∷ [])) ≡ true)
            → allowed_in rule (cond t ((os ++ x ∷ []) ∷ cut_from [] es) (cut_from (os ++ x ∷ []) es)) ≡ true
            → rule (values (cond t (open_from [] es) (open_from (os ++ x ∷ []) es))) e.value ≡ true
            → allowed_in rule (cond t ((os ++ x ∷ []) ∷ cut_from [] (es ++ e ∷ [])) (cut_from (os ++ x ∷ []) (es ++ e ∷ []))) ≡ true
        by true one two a' r' = let p = and_parts (allowed_after rule [] (values (os ++ x ∷ []))) (allowed_in rule (cut_from [] es)) a' in and_from _ _ p.0 (one p.1 r')
        by false one two a' r' = two a' r'

    sound_push : (es : List (Entry V)) (e : Entry V) → Sound rule es → length e.key ≤ 512 → follows (last_key es) e.key ≡ true → rule (values (open_block es)) e.value ≡ true → Sound rule (es ++ e ∷ [])
    sound_push es e s h f r = record {
      rises = rising_push None es e s.rises (ap (λ (z : Option (List ℕ)). follows z e.key) (sym (last_of_lem es)) ∙ f);
      short = short_push es e s.short h;
      allowed = allowed_behind es [] e s.allowed r;
    }

-- Calls.
first_none : (a b : Option Fault) → first a b ≡ None → (a ≡ None) × (b ≡ None)
first_none None b e = (refl, e)
first_none (Some f) b e = (cc, cc)

module _ {V : Type 0} where
  key_accepted : (es : List (Entry V)) (k : List ℕ) → key_refusal es k ≡ None → (length k ≤ 512) × (follows (last_key es) k ≡ true)
  key_accepted es k e = by (ltb longest (length k)) refl (follows (last_key es) k) refl e
    where
      by : (s : Bool) → ltb longest (length k) ≡ s → (t : Bool) → follows (last_key es) k ≡ t → cond s (refused es 1) (cond t None (refused es 2)) ≡ None → (length k ≤ 512) × (follows (last_key es) k ≡ true)
      by true p t q e' = let z : ◌≡◌ {A = ℕ} 0 1 = cc in absurd (omega arith)
      by false p true q e' = (ltb-false longest (length k) p, q)
      by false p false q e' = let z : ◌≡◌ {A = ℕ} 0 1 = cc in absurd (omega arith)

  module _ (means : Meaning V) (room : ℕ) where
    entry_accepted : (es : List (Entry V)) (e : Entry V) → entry_refusal means es e room ≡ None → means.rule (values (open_block es)) e.value ≡ true
    entry_accepted es e r = by (means.rule (values (open_block es)) e.value) r
      where
        by : (t : Bool) → cond t (flush_refusal means.bytes es e room) (Some (fault codec 3 (length es))) ≡ None → t ≡ true
        by true r' = refl
        by false r' = cc

    -- what a writer holds at any time
    abbrev Held : List (Entry V) → Waiting → Type 0
    Held es for_key = Unit {0}
    Held es (for_value k) = (length k ≤ 512) × (follows (last_key es) k ≡ true)
    Held es finished = Unit {0}

    abbrev Fine : Written V → Type 0
    Fine w = Sound means.rule w.taken × Held w.taken w.waits

    took : (es : List (Entry V)) (k : List ℕ) (v : V) → Sound means.rule es → (length k ≤ 512) × (follows (last_key es) k ≡ true) → entry_refusal means es (record { key = k; value = v }) room ≡ None → Sound means.rule (es ++ record { key = k; value = v } ∷ [])
    took es k v s h e = sound_push means.rule es (record { key = k; value = v }) s h.0 h.1 (entry_accepted es (record { key = k; value = v }) e)

    fine_accepted : (es : List (Entry V)) (w : Waiting) (c : Call V) → Sound means.rule es → Held es w → refusal_in means es w c room ≡ None → Fine (accepted_in es w c)
    fine_accepted es finished c s h e = let z : ◌≡◌ {A = ℕ} 0 1 = cc in absurd (omega arith)
    fine_accepted es (for_value k) (insert l v) s h e = let z : ◌≡◌ {A = ℕ} 0 1 = cc in absurd (omega arith)
    fine_accepted es (for_value k) (insert_key l) s h e = let z : ◌≡◌ {A = ℕ} 0 1 = cc in absurd (omega arith)
    fine_accepted es (for_value k) (insert_value v) s h e = (took es k v s h e, tt)
    fine_accepted es (for_value k) finish s h e = let z : ◌≡◌ {A = ℕ} 0 1 = cc in absurd (omega arith)
    fine_accepted es for_key (insert k v) s h e =
        let p = first_none (key_refusal es k) (entry_refusal means es (record { key = k; value = v }) room) e in
        (took es k v s (key_accepted es k p.0) p.1, tt)
    fine_accepted es for_key (insert_key k) s h e = (s, key_accepted es k e)
    fine_accepted es for_key (insert_value v) s h e = let z : ◌≡◌ {A = ℕ} 0 1 = cc in absurd (omega arith)
    fine_accepted es for_key finish s h e = (s, tt)

    fine_called : (w : Written V) (c : Call V) → Fine w → Fine (called means room w c)
    fine_called w c f = by (refusal means w c room) refl
      where
        by : (r : Option Fault) → refusal means w c room ≡ r → Fine (elim r [ None ↦ accepted w c | Some g ↦ w ])
        by None e = fine_accepted w.taken w.waits c f.0 f.1 e
        by (Some g) e = f

    fine_all : (w : Written V) (cs : List (Call V)) → Fine w → Fine (called_all means room w cs)
    fine_all w [] f = f
    fine_all w (c ∷ cs) f = fine_all (called means room w c) cs (fine_called w c f)

    -- whatever the calls, the taken entries are sound
    pub taken_sound : (cs : List (Call V)) → Sound means.rule (called_all means room new cs).taken
    taken_sound cs = (fine_all new cs (record { rises = refl; short = refl; allowed = refl }, tt)).0
