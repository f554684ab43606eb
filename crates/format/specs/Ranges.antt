-- The codec of ranges that join: each starts where the one before in its block ends. The bytes of n ranges are their n + 1 edges.
use Rattle.std.specs.Prelude.{ℕ, ◌+◌, ◌-◌, ◌^◌, Bool, true, cond, ◌&&◌, leb as at_most, List, [], ◌∷◌, drop, Ok, ◌==◌, nat_lt}
use Rattle.format.specs.declared.Cursor.{Cursor}
use Rattle.format.specs.declared.Range.{Range}
use Rattle.format.specs.Numbers.{Number, read_leb}
use Rattle.format.specs.Codecs.{Meaning, meant, Opened, Stepped}
use Rattle.format.specs.Sums.{counted, on_number, rise, whole, valued}

-- where the last of some ranges ends, which come after one that ends at a place
abbrev pub end_or : ℕ → List Range → ℕ
end_or e [] = e
end_or e (r ∷ rs) = end_or r.end rs

-- a range joins those before it; any may be the first
abbrev pub joins : List Range → ℕ → Bool
joins [] start = true
joins (r ∷ rs) start = end_or r.end rs == start

abbrev pub range_rule : List Range → Range → Bool
range_rule rs r = joins rs r.start && (at_most r.start r.end && nat_lt r.end (2 ^ 64))

abbrev pub ends : List Range → List ℕ
ends [] = []
ends (r ∷ rs) = r.end ∷ ends rs

-- the first start, then each end
abbrev pub edges : List Range → List ℕ
edges [] = []
edges (r ∷ rs) = r.start ∷ ends (r ∷ rs)

abbrev pub range_bytes : List Range → List ℕ
range_bytes rs = counted (edges rs)

abbrev pub range_started : List ℕ → ℕ → ℕ → Number → Opened
range_started part n count r = on_number (λ m start. whole (record { next = n + m; last = start; left = count - 1 }) part) r

-- of a count of 0 nothing follows; else the first start, and so a count of 1 has a start and no range
abbrev pub range_counted : List ℕ → Number → Opened
range_counted part r =
    on_number
    (λ n count.
    cond (count == 0)
    (Ok (record { next = n; last = 0; left = 0 }, n))
    (range_started part n count (read_leb (drop n part))))
    r

abbrev pub range_opens : List ℕ → Opened
range_opens part = range_counted part (read_leb part)

-- each range goes from one edge to the next
abbrev pub range_steps : Cursor → List ℕ → Stepped Range
range_steps c part = valued (λ d. record { start = c.last; end = d.last }) (rise c part)

-- the ranges between edges
abbrev pub ranges_from : ℕ → List ℕ → List Range
ranges_from start [] = []
ranges_from start (e ∷ es) = record { start = start; end = e } ∷ ranges_from e es

abbrev pub ranges_of : List ℕ → List Range
ranges_of [] = []
ranges_of (e ∷ es) = ranges_from e es

abbrev pub range_meaning : Meaning Range
range_meaning = meant range_rule range_bytes range_opens range_steps
