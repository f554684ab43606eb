use Rattle.std.proofs.Common.{ℕ, ◌-◌, List, length, ap, ◌∙◌}
use Rattle.std.specs.List.{slice_get}
use Rattle.format.proofs.SumLaws.{last_get}
use Rattle.codec.proofs.rises.Rises.last.Goals as goal

pub returns : goal.returns
returns c =
    let vs = c.self.inside.vals.items in
    let e = ap (λ (xs : List ℕ). slice_get xs (length xs - 1)) c.deref.ensures.value in
    rw (← c.self.view_is) (c.copied.ensures ∙ c.last.ensures.value ∙ e ∙ last_get vs)
