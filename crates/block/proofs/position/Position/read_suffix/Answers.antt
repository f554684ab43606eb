use Rattle.std.proofs.Common.{◌≡◌, ℕ, ◌+◌, ◌-◌, ◌≤◌, List, take, drop, Some, None, Ok, sym, arith}
use Rattle.std.proofs.lemmas.Bool.{cond-false, le-ltb}
use Rattle.format.specs.Faults.{or_fault, bad_number}
use Rattle.format.specs.Headers.{Header, read_header, pair_of, length_of}
use Rattle.format.specs.Reading.{suffix_of}
use Rattle.block.proofs.position.Position.read_suffix.Goals as goal

-- the suffix behind a header, where it ends within the block
suffix_in : (area : List ℕ) (next end keep add offset : ℕ) (h : Header) → Ok (keep, add) ≡ or_fault (pair_of h) (bad_number next) → offset ≡ next + length_of h → add ≤ end - offset
    → Ok (record { keep = keep; place = offset; bytes = take (offset + add - offset) (drop offset area) }) ≡ suffix_of area next end h
suffix_in area next end keep add offset None e o l = cc
suffix_in area next end keep add offset (Some h) e o l =
    let n : offset + add - offset ≡ add = omega arith in
    let p : h.1 ≡ (keep, add) = cc in
    rw (n, o, p) (sym (cond-false _ _ _ (le-ltb (end - (next + h.0)) add (omega arith))))

pub returns-clause-answer : goal.returns-clause-answer
returns-clause-answer c =
    let r = c.self.inside in
    let area = c.args.area.now in
    let head = read_header (drop r.next (take r.finish area)) in
    rw (← c.self.view_is) (suffix_in area r.next r.finish c.in_ok-keep.keep c.in_ok-keep.add c.read_keep_add.new.offset head c.in_ok-keep.ensures.answer c.read_keep_add.ensures.after (omega arith))
