-- A written header, followed by anything, gives keep and add back, and the offset stands behind it; but for one kept and none
-- added, whose one byte is that of the long form.
use Rattle.std.specs.Prelude.{◌≡◌, ℕ, ◌+◌, ◌^◌, ◌<◌, List, ◌++◌, length, drop, Ok, Result}
use Rattle.codec.specs.declared.fault.NumberFault.{NumberFault}
use Rattle.format.specs.Headers.{header}

abbrev pub HeaderBack : List ℕ → ℕ → Result (ℕ × ℕ) NumberFault → ℕ → Type 0
HeaderBack block before r behind =
    (keep add : ℕ) (rest : List ℕ) → keep < 2 ^ 64 → add < 2 ^ 64 → ((keep ≡ 1) × (add ≡ 0) → ⊥) → drop before block ≡ header keep add ++ rest
    → (r ≡ Ok (keep, add)) × (behind ≡ before + length (header keep add))
