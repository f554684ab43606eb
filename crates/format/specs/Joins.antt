-- A merger joins two values of one key, or refuses; three are given.
use Rattle.std.specs.Prelude.{ℕ, ◌+◌, ◌^◌, cond, List, [], ◌∷◌, Some, None, Option, nat_lt}

-- the first of two values of any type
abbrev pub keep_first : {V : Type 0} → V → V → Option V
keep_first v w = Some v

-- the sum, which has 64 bits
abbrev pub u64_sum : ℕ → ℕ → Option ℕ
u64_sum v w = cond (nat_lt (v + w) (2 ^ 64)) (Some (v + w)) None

-- values without content join to one
abbrev pub void_join : Unit {0} → Unit {0} → Option (Unit {0})
void_join v w = Some tt

module _ {V : Type 0} (join : V → V → Option V) where
  -- a value joined to those before it, if there are any
  abbrev pub join_next : Option V → V → Option V
  join_next None w = Some w
  join_next (Some v) w = join v w

  -- values joined from the left onto one; nothing where a join is refused
  abbrev pub join_onto : V → List V → Option V
  join_onto v [] = Some v
  join_onto v (w ∷ ws) = elim (join v w) [ Some u ↦ join_onto u ws | None ↦ None ]

  -- some values joined from the left
  abbrev pub join_all : List V → Option V
  join_all [] = None
  join_all (v ∷ vs) = join_onto v vs
