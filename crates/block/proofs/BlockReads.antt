-- From a block to its first entry.
use Rattle.std.proofs.Common.{◌≡◌, ℕ, ◌+◌, ◌-◌, ◌<◌, ◌≤◌, ltb, List, [], length, drop, Some, Ok, Result, sym, ap, ◌∙◌, arith, length-take}
use Rattle.std.proofs.lemmas.Bool.{cond-true, cond-false, lt-ltb, le-ltb}
use Rattle.format.specs.declared.Cursor.{Cursor}
use Rattle.format.specs.Codecs.{Meaning, Flaw, flaw_at, placed}
use Rattle.format.specs.Reading.{Position, block_at, content, border, loaded, opened, entry_at}
use Rattle.format.proofs.FaultLaws.{told_ok}
use Rattle.block.specs.declared.frame.Block.{Block}
use Rattle.block.specs.Blocks.{end_at}

pub placed_ok : {A : Type 0} (place : ℕ) (r : Result A Flaw) (x : A) → Ok x ≡ placed place r → r ≡ Ok x
placed_ok place r x e = told_ok (flaw_at place) r x (sym e)

-- what belongs to the values ends within the block
pub content_within : (area : List ℕ) (start end n : ℕ) → n ≤ length (content area start end) → start + 5 ≤ end → start + 5 + n ≤ end
content_within area start end n h l = omega (arith, length-take (end - (start + 5)) (drop (start + 5) area))

-- a block that was found ends where the area says
end_found : (area : List ℕ) (place end : ℕ) → place ≤ length area → Ok (Some end) ≡ end_at area place → block_at area place ≡ Ok (Some end)
end_found area place end h e = sym (e ∙ cond-false (ltb (length area) place) _ _ (le-ltb (length area) place h))

module _ {V : Type 0} (means : Meaning V) (area : List ℕ) (p : Position) (b : Block) (c : Cursor) (n : ℕ) where
  first_at_lem : (place : ℕ) → b.start ≡ place → block_at area place ≡ Ok (Some b.end) → means.opens (content area place b.end) ≡ Ok (c, n) → place + 5 + n < b.end
      → entry_at means area (record { start = place; finish = b.end; next = place + 5 + n; cursor = c; last = p.last; ordinal = p.ordinal }) [] ≡ border means area place p
  first_at_lem place s e o l =
      sym (ap (loaded means area place p) e ∙ ap (opened means area place b.end p) o ∙ cond-true _ _ _ (lt-ltb (place + 5 + n) b.end l))

  -- the first entry of a block
  pub first_entry : (place : ℕ) → place ≤ length area → b.start ≡ place → Ok (Some b.end) ≡ end_at area place → means.opens (content area b.start b.end) ≡ Ok (c, n) → b.start + 5 + n < b.end
      → entry_at means area (record { start = b.start; finish = b.end; next = b.start + 5 + n; cursor = c; last = p.last; ordinal = p.ordinal }) [] ≡ border means area place p
  first_entry place h s e o l =
      ap (λ (k : ℕ). entry_at means area (record { start = k; finish = b.end; next = k + 5 + n; cursor = c; last = p.last; ordinal = p.ordinal }) []) s
      ∙ first_at_lem place s (end_found area place b.end h e) (ap (λ (k : ℕ). means.opens (content area k b.end)) (sym s) ∙ o) (omega arith)
