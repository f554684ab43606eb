use Rattle.std.proofs.Common.{◌≡◌, ◌+◌, ◌<◌, ◌++◌, List, ℕ, Ok, Result, OnOk, string_bytes, sym, ap, ◌∙◌, subst, arith}
use Rattle.format.specs.Faults.{told}
use Rattle.format.specs.Monotonic.{u64_meaning}
use Rattle.format.specs.Reading.{key_at, read_area}
use Rattle.block.specs.declared.fault.ReadFault.{ReadFault}
use Rattle.block.specs.Entries.{delta_of}
use Rattle.block.specs.Readers.{told_delta}
use Rattle.block.specs.Told.{of_read}
use Rattle.listing.specs.Listing.{listed, closing}
use Rattle.listing.proofs.Steps.{At, position_at, turned, left_at_end, left_at_fault, has_key, key_there, key_is}
use Rattle.listing.proofs.push_entries.Goals as goal
use Rattle.listing.proofs.push_entries.Goals.{in-Ok-None, in-Err}

-- after a line
turn : (c : goal.In_ok-push_line-in-Ok-Some)
    → At c.args.area.now (string_bytes c.args.text.now ++ listed 0 (read_area u64_meaning c.args.area.now)) (string_bytes c.push_line.new.text) (c.in-Ok-Some.delta.ordinal + 1) c.advance.new.self
    × ((position_at c.loop-delta.reader).next < (position_at c.advance.new.self).next)
turn c =
    turned c.args.area.now _ (string_bytes c.loop-delta.text) c.loop-delta.count c.loop-delta.reader c.loop-delta.invariant
    c.advance.new.self (string_bytes c.push_line.new.text) c.unwrap-key.result.now (delta_of c.in-Ok-Some.delta)
    (ap told_delta (sym (c.in-Ok-Some.is ∙ ap Ok c.in-Ok-Some.field-0-is)) ∙ c.advance.ensures.answers) c.advance.ensures.leaves
    (key_is c.key.result c.unwrap-key.result (key_at c.advance.new.self) c.unwrap-key.ensures c.key.ensures.value)
    c.in_ok-push_line-in-Ok-Some.ensures

pub unwrap-key-requires : goal.unwrap-key-requires
unwrap-key-requires c =
    key_there c.key.result (key_at c.advance.new.self) c.key.ensures.value
    (has_key c.args.area.now _ (string_bytes c.loop-delta.text) c.loop-delta.count c.loop-delta.reader c.loop-delta.invariant
    c.advance.new.self (delta_of c.in-Ok-Some.delta)
    (ap told_delta (sym (c.in-Ok-Some.is ∙ ap Ok c.in-Ok-Some.field-0-is)) ∙ c.advance.ensures.answers) c.advance.ensures.leaves)

pub loop-delta-smaller : goal.loop-delta-smaller
loop-delta-smaller c = let t = turn c in omega (arith, t.0.inside)

pub loop-delta-preserved : goal.loop-delta-preserved
loop-delta-preserved c = (turn c).0

pub overflow_add-count : goal.overflow_add-count
overflow_add-count c = let t = turn c in omega (arith, t.0.inside, t.0.few)

pub returns : goal.returns
returns c =
    let area = c.args.area.now in
    let whole = string_bytes c.args.text.now ++ listed 0 (read_area u64_meaning area) in
    let text = string_bytes c.loop-delta.text in
    let last = λ (r : Result ℕ ReadFault). text ++ closing (told of_read r) in
    let left : last c.match-advance.counted ≡ whole =
    elim c.match-advance.branch [
      | in-Ok-None w ↦
          ap last w.counted-is
          ∙ left_at_end area whole text c.loop-delta.count c.loop-delta.reader c.loop-delta.invariant (ap told_delta (sym (w.in-Ok-None.is ∙ ap Ok w.in-Ok-None.field-0-is)) ∙ c.advance.ensures.answers)
      | in-Err w ↦
          ap last w.counted-is
          ∙ left_at_fault area whole text c.loop-delta.count c.loop-delta.reader c.loop-delta.invariant (of_read w.in-Err.fault) (ap told_delta (sym w.in-Err.is) ∙ c.advance.ensures.answers)
    ] in
    subst (λ (z : List ℕ). OnOk c.push_last_line.result (string_bytes c.push_last_line.new.text ≡ z)) left c.push_last_line.ensures
