use Rattle.std.proofs.Common.{rules, ◌≡◌, ℕ, ◌≤◌, ◌-◌, Bool, List, ◌++◌, length, take, drop, Bor, Some, None, Option, IsTrue, MatchOption, sym, ◌∙◌}
use Rattle.std.specs.Option.{option_map}
use Rattle.std.proofs.lemmas.List.{take_rest}
use Rattle.format.specs.Keys.{below, follows}
use Rattle.format.specs.Reading.{key_of}
use Rattle.format.proofs.KeyLaws.{below_kept}
use Rattle.block.proofs.position.Position.follows_last.Goals as goal

-- no key before, or one that is below
follows_kept : (o : Option (Bor (List ℕ))) (last : Option (List ℕ)) (keep : ℕ) (suffix : List ℕ) (b : Bool) → option_map (λ x. x.now) o ≡ last → keep ≤ length (key_of last)
    → MatchOption o (IsTrue b) (λ x. b ≡ below (take (length x.now - keep) (drop keep x.now)) suffix) → b ≡ follows last (take keep (key_of last) ++ suffix)
follows_kept None last keep suffix b e h m = rw (← e) m
follows_kept (Some x) last keep suffix b e h m =
    let kept : keep ≤ length x.now = rw (← e) at h in
    rw (← e) (rw take_rest at m ∙ sym (below_kept x.now suffix keep kept))

pub returns : goal.returns
returns c =
    let keep = c.args.suffix.keep in
    let bytes = c.args.suffix.bytes.now in
    let m : MatchOption c.key.result (IsTrue c.is_none_or.result) (λ x. c.is_none_or.result ≡ below (take (length x.now - keep) (drop keep x.now)) bytes) = search rules in
    follows_kept c.key.result c.args.self.now.last keep bytes c.is_none_or.result c.key.ensures.value c.requires m
