use Rattle.std.proofs.Common.{◌≡◌, ℕ, Ok, Err, take, vec_len, sym, subst, ap, ◌∙◌, rules}
use Rattle.std.proofs.lemmas.List.{take_at}
use Rattle.building.specs.Built.{built, Answers}
use Rattle.building.specs.Whole.{most}
use Rattle.building.proofs.Wholes.{most_is, is_whole}
use Rattle.building.proofs.whole.build_vec.Goals as goal

pub returns-in-Ok : goal.returns-in-Ok
returns-in-Ok c =
    let room : vec_len c.in_ok-output.output ≡ 1048576 = search rules in
    let answers = subst (λ (n : ℕ). Answers (built n c.args.text.now) c.deref_mut.result.now c.build.result c.build.new.output) (c.deref_mut.ensures.len ∙ room ∙ most_is) c.build.ensures in
    is_whole (built most c.args.text.now) _ _ c.build.result c.in-Ok.len c.truncate.new.self answers c.in-Ok.is
    (c.truncate.ensures.items ∙ ap (take c.in-Ok.len) (take_at c.build.new.output _ (vec_len c.in_ok-output.output) (c.build.auto.output ∙ c.deref_mut.ensures.len)))

pub returns-in-Err : goal.returns-in-Err
returns-in-Err c =
    let room : vec_len c.in_ok-output.output ≡ 1048576 = search rules in
    let answers = subst (λ (n : ℕ). Answers (built n c.args.text.now) c.deref_mut.result.now c.build.result c.build.new.output) (c.deref_mut.ensures.len ∙ room ∙ most_is) c.build.ensures in
    subst (λ r. Answers (built most c.args.text.now) c.deref_mut.result.now r c.build.new.output) c.in-Err.is answers
