-- Worked examples of the definitions, in one table.
use Rattle.std.specs.Prelude.{◌≡◌, ℕ, ◌-◌, ◌^◌, List, [], ◌∷◌, ◌++◌, length, Some, None, Ok, Err, Result}
use Rattle.format.specs.declared.Range.{Range}
use Rattle.format.specs.declared.Run.{Run}
use Rattle.format.specs.Numbers.{leb}
use Rattle.format.specs.Headers.{header}
use Rattle.format.specs.declared.fault.Fault.{Fault}
use Rattle.format.specs.Faults.{codec}
use Rattle.format.specs.Tables.{Entry, sstable}
use Rattle.format.specs.Monotonic.{u64_meaning, u64_bytes}
use Rattle.format.specs.Ranges.{range_meaning, range_bytes}
use Rattle.format.specs.Void.{void_meaning, void_bytes}
use Rattle.format.specs.Reading.{read_area, end}
use Rattle.format.specs.Writing.{output, made, finished, for_key}
use Rattle.format.specs.Bounds.{unbounded, excluded}
use Rattle.format.specs.Automata.{always}
use Rattle.format.specs.Streaming.{Stream, stream, answer_at, key_after}
use Rattle.format.specs.Searching.{Hit, exact, next, search_at}
use Rattle.format.specs.Joins.{u64_sum}
use Rattle.format.specs.Merging.{Merged, merge, runs_after}

-- the keys a, ab and b
abbrev pub a : List ℕ
a = 0x61 ∷ []

abbrev pub ab : List ℕ
ab = 0x61 ∷ 0x62 ∷ []

abbrev pub b : List ℕ
b = 0x62 ∷ []

-- numbers that never fall: a 3, ab 3, b 10
abbrev pub three : List (Entry ℕ)
three = record { key = a; value = 3 } ∷ record { key = ab; value = 3 } ∷ record { key = b; value = 10 } ∷ []

abbrev pub three_bytes : List ℕ
three_bytes = 0x0b ∷ 0 ∷ 0 ∷ 0 ∷ 0 ∷ 3 ∷ 3 ∷ 0 ∷ 7 ∷ 0x10 ∷ 0x61 ∷ 0x11 ∷ 0x62 ∷ 0x10 ∷ 0x62 ∷ 0 ∷ 0 ∷ 0 ∷ 0 ∷ []

-- ranges that join: a 5..9, b 9..9
abbrev pub ranges : List (Entry Range)
ranges = record { key = a; value = record { start = 5; end = 9 } } ∷ record { key = b; value = record { start = 9; end = 9 } } ∷ []

abbrev pub ranges_bytes : List ℕ
ranges_bytes = 0x09 ∷ 0 ∷ 0 ∷ 0 ∷ 0 ∷ 3 ∷ 5 ∷ 4 ∷ 0 ∷ 0x10 ∷ 0x61 ∷ 0x10 ∷ 0x62 ∷ 0 ∷ 0 ∷ 0 ∷ 0 ∷ []

-- a value without content at the empty key
abbrev pub empty : List (Entry (Unit {0}))
empty = record { key = []; value = tt } ∷ []

abbrev pub empty_bytes : List ℕ
empty_bytes = 0x02 ∷ 0 ∷ 0 ∷ 0 ∷ 0 ∷ 0 ∷ 0 ∷ 0 ∷ 0 ∷ 0 ∷ []

-- the stream of the first above a
abbrev pub above_a : Stream ℕ
above_a = stream (record { lower = excluded a; upper = unbounded; automaton = always }) (read_area u64_meaning three_bytes)

-- the search for a key in the one block of the first
abbrev pub sought : List ℕ → Result Hit Fault
sought key = search_at u64_meaning three_bytes 0 key

-- sstables of one key each: b 1, and a 4
abbrev pub one_b : List ℕ
one_b = sstable u64_bytes (record { key = b; value = 1 } ∷ [])

abbrev pub one_a : List ℕ
one_a = sstable u64_bytes (record { key = a; value = 4 } ∷ [])

-- the first, and behind it another, as runs of a merge by sum on an output of 64 bytes
abbrev pub runs : List ℕ → List Run
runs other = record { start = 0; len = 19; taken = 0 } ∷ record { start = 19; len = length other; taken = 0 } ∷ []

abbrev pub summed : List ℕ → Merged ℕ
summed other = merge u64_meaning u64_sum 64 (three_bytes ++ other) (runs other)

abbrev pub summed_runs : List ℕ → List Run
summed_runs other = runs_after u64_meaning u64_sum 64 (three_bytes ++ other) (runs other)

pub record Worked : Type 0 where
  -- numbers
  pub number127 : leb 127 ≡ 0x7f ∷ []
  pub number128 : leb 128 ≡ 0x80 ∷ 1 ∷ []
  pub number_most : leb (2 ^ 64 - 1) ≡ 0xff ∷ 0xff ∷ 0xff ∷ 0xff ∷ 0xff ∷ 0xff ∷ 0xff ∷ 0xff ∷ 0xff ∷ 1 ∷ []
  -- headers
  pub header15_15 : header 15 15 ≡ 0xff ∷ []
  pub header16_1 : header 16 1 ≡ 1 ∷ 0x10 ∷ 1 ∷ []
  pub header0_16 : header 0 16 ≡ 1 ∷ 0 ∷ 0x10 ∷ []
  -- sstables, what a new writer makes of the first, and how they read
  pub three_written : sstable u64_bytes three ≡ three_bytes
  pub three_made : made u64_meaning 19 three ≡ record { left = record { taken = three; waits = finished }; stop = None }
  pub three_read : read_area u64_meaning three_bytes ≡ record { entries = three; ending = end }
  pub ranges_written : sstable range_bytes ranges ≡ ranges_bytes
  pub ranges_read : read_area range_meaning ranges_bytes ≡ record { entries = ranges; ending = end }
  pub empty_written : sstable void_bytes empty ≡ empty_bytes
  pub empty_read : read_area void_meaning empty_bytes ≡ record { entries = empty; ending = end }
  pub none_written : sstable u64_bytes [] ≡ 0 ∷ 0 ∷ 0 ∷ 0 ∷ []
  -- the stream above a: ab 3 with ordinal 1, b 10 with ordinal 2, then nothing
  pub stream0 : answer_at above_a 0 ≡ Ok (Some (1, 3))
  pub key0 : key_after above_a 0 ≡ Some ab
  pub stream1 : answer_at above_a 1 ≡ Ok (Some (2, 10))
  pub key1 : key_after above_a 1 ≡ Some b
  pub stream2 : answer_at above_a 2 ≡ Ok None
  pub key2 : key_after above_a 2 ≡ None
  pub stream3 : answer_at above_a 3 ≡ Ok None
  pub key3 : key_after above_a 3 ≡ None
  -- searches for ab, aa and c
  pub search_ab : sought ab ≡ Ok (exact 1)
  pub search_aa : sought (0x61 ∷ 0x61 ∷ []) ≡ Ok (next 1)
  pub search_c : sought (0x63 ∷ []) ≡ Ok (next 3)
  -- summed with b 1 it ends in b 11
  pub sum_answer : (summed one_b).answer ≡ Ok tt
  pub sum_output : output u64_bytes (summed one_b).left
      ≡ 0x0b ∷ 0 ∷ 0 ∷ 0 ∷ 0 ∷ 3 ∷ 3 ∷ 0 ∷ 8 ∷ 0x10 ∷ 0x61 ∷ 0x11 ∷ 0x62 ∷ 0x10 ∷ 0x62 ∷ 0 ∷ 0 ∷ 0 ∷ 0 ∷ []
  pub sum_read : read_area u64_meaning (output u64_bytes (summed one_b).left)
      ≡ record { entries = record { key = a; value = 3 } ∷ record { key = ab; value = 3 } ∷ record { key = b; value = 11 } ∷ []; ending = end }
  pub sum_runs : summed_runs one_b
      ≡ record { start = 0; len = 19; taken = 3 } ∷ record { start = 19; len = 13; taken = 1 } ∷ []
  -- summed with a 4 it has a 7, and ab 3 is refused, which the first run has
  pub fall_answer : (summed one_a).answer ≡ Err (record { layer = codec; number = 3; place = 1; run = Some 0 })
  pub fall_left : (summed one_a).left ≡ record { taken = record { key = a; value = 7 } ∷ []; waits = for_key }
  pub fall_runs : summed_runs one_a
      ≡ record { start = 0; len = 19; taken = 1 } ∷ record { start = 19; len = 13; taken = 1 } ∷ []
