-- How entries are cut into blocks: what is closed, what is open, and one entry more.
use Rattle.std.proofs.Common.{◌≡◌, ℕ, Bool, true, false, cond, List, [], ◌∷◌, ◌++◌, sym, refl, ap, ◌∙◌, append_assoc}
use Rattle.std.proofs.lemmas.List.{append-nil}
use Rattle.format.specs.Tables.{Entry, cut_from, block, blocks, sstable, word}
use Rattle.format.proofs.TableLaws.{open_step}
use Rattle.format.specs.Writing.{closes, open_from, closed_from, open_block, closed_blocks, closed_bytes, finishing}

-- a choice made inside or outside
pub chosen : {X Y : Type 0} (f : X → Y) (t : Bool) (a b : Y) (x z : X) → a ≡ f x → b ≡ f z → cond t a b ≡ f (cond t x z)
chosen f true a b x z p q = p
chosen f false a b x z p q = q

chosen_both : {X Z Y : Type 0} (f : X → Z → Y) (t : Bool) (a b : Y) (x x' : X) (z z' : Z) → a ≡ f x z → b ≡ f x' z' → cond t a b ≡ f (cond t x x') (cond t z z')
chosen_both f true a b x x' z z' p q = p
chosen_both f false a b x x' z z' p q = q

module _ {V : Type 0} where
  open_more : (os es fs : List (Entry V)) → open_from os (es ++ fs) ≡ open_from (open_from os es) fs
  open_more os [] fs = refl
  open_more os (e ∷ es) fs =
      chosen (λ (z : List (Entry V)). open_from z fs) (closes os e) (open_from [] (es ++ fs)) (open_from (os ++ e ∷ []) (es ++ fs)) (open_from [] es) (open_from (os ++ e ∷ []) es)
      (open_more [] es fs) (open_more (os ++ e ∷ []) es fs)

  closed_more : (os es fs : List (Entry V)) → closed_from os (es ++ fs) ≡ closed_from os es ++ closed_from (open_from os es) fs
  closed_more os [] fs = refl
  closed_more os (e ∷ es) fs =
      chosen_both (λ (x : List (List (Entry V))) (z : List (Entry V)). x ++ closed_from z fs) (closes os e)
      ((os ++ e ∷ []) ∷ closed_from [] (es ++ fs)) (closed_from (os ++ e ∷ []) (es ++ fs))
      ((os ++ e ∷ []) ∷ closed_from [] es) (closed_from (os ++ e ∷ []) es) (open_from [] es) (open_from (os ++ e ∷ []) es)
      (ap (λ (z : List (List (Entry V))). (os ++ e ∷ []) ∷ z) (closed_more [] es fs)) (closed_more (os ++ e ∷ []) es fs)

  pub cut_from_lem : (os es : List (Entry V)) → cut_from os es ≡ closed_from os es ++ cut_from (open_from os es) []
  cut_from_lem os [] = refl
  cut_from_lem os (e ∷ es) =
      open_step os e es
      ∙ chosen_both (λ (x : List (List (Entry V))) (z : List (Entry V)). x ++ cut_from z []) (closes os e)
      ((os ++ e ∷ []) ∷ cut_from [] es) (cut_from (os ++ e ∷ []) es)
      ((os ++ e ∷ []) ∷ closed_from [] es) (closed_from (os ++ e ∷ []) es) (open_from [] es) (open_from (os ++ e ∷ []) es)
      (ap (λ (z : List (List (Entry V))). (os ++ e ∷ []) ∷ z) (cut_from_lem [] es)) (cut_from_lem (os ++ e ∷ []) es)

  -- one entry more
  pub open_push : (ts : List (Entry V)) (e : Entry V) → open_block (ts ++ e ∷ []) ≡ cond (closes (open_block ts) e) [] (open_block ts ++ e ∷ [])
  open_push ts e = open_more [] ts (e ∷ [])

  pub closed_blocks_push : (ts : List (Entry V)) (e : Entry V) → closed_blocks (ts ++ e ∷ []) ≡ closed_blocks ts ++ cond (closes (open_block ts) e) ((open_block ts ++ e ∷ []) ∷ []) []
  closed_blocks_push ts e = closed_more [] ts (e ∷ [])

module _ {V : Type 0} (bytes : List V → List ℕ) where
  blocks_more : (bs cs : List (List (Entry V))) → blocks bytes (bs ++ cs) ≡ blocks bytes bs ++ blocks bytes cs
  blocks_more [] cs = refl
  blocks_more (b ∷ bs) cs = ap (λ (z : List ℕ). block bytes b ++ z) (blocks_more bs cs) ∙ sym (append_assoc (block bytes b) (blocks bytes bs) (blocks bytes cs))

  closed_one : (t : Bool) (b : List (Entry V)) → blocks bytes (cond t (b ∷ []) []) ≡ cond t (block bytes b) []
  closed_one true b = append-nil (block bytes b)
  closed_one false b = refl

  -- the closed blocks with one entry more
  pub closed_push : (ts : List (Entry V)) (e : Entry V) → closed_bytes bytes (ts ++ e ∷ []) ≡ closed_bytes bytes ts ++ cond (closes (open_block ts) e) (block bytes (open_block ts ++ e ∷ [])) []
  closed_push ts e =
      ap (blocks bytes) (closed_blocks_push ts e)
      ∙ blocks_more (closed_blocks ts) (cond (closes (open_block ts) e) ((open_block ts ++ e ∷ []) ∷ []) [])
      ∙ ap (λ (z : List ℕ). closed_bytes bytes ts ++ z) (closed_one (closes (open_block ts) e) (open_block ts ++ e ∷ []))

  -- an sstable is its closed blocks and what a finish adds
  pub sstable_parts : (ts : List (Entry V)) → sstable bytes ts ≡ closed_bytes bytes ts ++ finishing bytes ts
  sstable_parts ts =
      ap (λ (z : List (List (Entry V))). blocks bytes z ++ word 0) (cut_from_lem [] ts)
      ∙ ap (λ (z : List ℕ). z ++ word 0) (blocks_more (closed_blocks ts) (cut_from (open_block ts) []))
      ∙ append_assoc (closed_bytes bytes ts) (blocks bytes (cut_from (open_block ts) [])) (word 0)
