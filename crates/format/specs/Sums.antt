-- Rising numbers as a count and the rise of each over the one before, the first over 0: both number codecs are made of these.
use Rattle.std.specs.Prelude.{ℕ, zero, suc, ◌+◌, ◌-◌, ◌^◌, cond, List, [], ◌∷◌, ◌++◌, length, drop, Some, None, Ok, Err, Option, Result, ◌==◌, nat_lt}
use Rattle.format.specs.declared.Cursor.{Cursor}
use Rattle.format.specs.Numbers.{leb, Number, read_leb}
use Rattle.format.specs.Codecs.{Flaw, no_number, overflow, Opened, Stepped}

-- the rise of each number over the one before
abbrev pub rises : ℕ → List ℕ → List ℕ
rises last [] = []
rises last (v ∷ vs) = leb (v - last) ++ rises v vs

-- the count, then the rises
abbrev pub counted : List ℕ → List ℕ
counted vs = leb (length vs) ++ rises 0 vs

-- what follows from how many bytes a number takes and its value; a flaw where the bytes are no number
abbrev pub on_number : {A : Type 0} → (ℕ → ℕ → Result A Flaw) → Number → Result A Flaw
on_number f None = Err no_number
on_number f (Some p) = f p.0 p.1

-- a cursor moves past one rise, and its sum grows by it
abbrev pub raised : Cursor → Number → Result (Option Cursor) Flaw
raised c r =
    on_number
    (λ n by.
    cond (nat_lt (c.last + by) (2 ^ 64))
    (Ok (Some (record { next = c.next + n; last = c.last + by; left = c.left - 1 })))
    (Err overflow))
    r

-- the cursor one number on; nothing where none is left
abbrev pub rise : Cursor → List ℕ → Result (Option Cursor) Flaw
rise c part = cond (c.left == 0) (Ok None) (raised c (read_leb (drop c.next part)))

-- where the numbers end: the first flaw on the way, in at most `most` numbers
abbrev pub end_in : ℕ → Cursor → List ℕ → Result ℕ Flaw
end_in zero c part = Ok c.next
end_in (suc most) c part = elim (rise c part) [ Ok o ↦ elim o [ Some d ↦ end_in most d part | None ↦ Ok c.next ] | Err f ↦ Err f ]

abbrev pub with_end : Cursor → Result ℕ Flaw → Opened
with_end c (Ok consumed) = Ok (c, consumed)
with_end c (Err f) = Err f

-- a cursor whose numbers are all there
abbrev pub whole : Cursor → List ℕ → Opened
whole c part = with_end c (end_in c.left c part)

-- a step that gives a value made of where the cursor then stands
abbrev pub valued : {V : Type 0} → (Cursor → V) → Result (Option Cursor) Flaw → Stepped V
valued f (Ok (Some d)) = Ok (Some (f d, d))
valued f (Ok None) = Ok None
valued f (Err e) = Err e
