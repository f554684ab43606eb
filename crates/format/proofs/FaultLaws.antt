-- What an answer by its fault says of the answer itself.
use Rattle.std.proofs.Common.{◌≡◌, Some, None, Ok, Err, Option, Result, refl, ap, ◌∙◌}
use Rattle.format.specs.declared.fault.Fault.{Fault}
use Rattle.format.specs.Faults.{told, or_fault}

pub or_none : {A : Type 0} (o : Option A) (f g : Fault) → Err g ≡ or_fault o f → (o ≡ None) × (g ≡ f)
or_none None f g e = (refl, cc)
or_none (Some x) f g e = (cc, cc)

pub or_some : {A : Type 0} (o : Option A) (f : Fault) (x : A) → Ok x ≡ or_fault o f → o ≡ Some x
or_some None f x e = cc
or_some (Some y) f x e = cc

-- an answer that tells a value is that value
pub told_ok : {A E : Type 0} (f : E → Fault) (r : Result A E) (x : A) → told f r ≡ Ok x → r ≡ Ok x
told_ok f (Ok y) x e = let q : y ≡ x = cc in ap (λ (z : _). Ok z) q
told_ok f (Err y) x e = cc

-- so where something is there, the answer is that
pub told_some : {A E : Type 0} (f : E → Fault) (r : Result A E) (o : Option A) (g : Fault) (x : A) → told f r ≡ or_fault o g → o ≡ Some x → r ≡ Ok x
told_some f r o g x e s = told_ok f r x (e ∙ ap (λ (z : Option _). or_fault z g) s)
