use Rattle.std.proofs.Common.{◌≡◌, ℕ, ◌+◌, ◌≤◌, List, length, ◌∙◌, arith}
use Rattle.std.proofs.lemmas.Bool.{cond-true, le-leb}
use Rattle.format.specs.Buffers.{written, put}
use Rattle.format.specs.Numbers.{leb}
use Rattle.format.proofs.BufferLaws.{written_then}
use Rattle.format.proofs.NumberLaws.{leb_ten}
use Rattle.block.proofs.header.put_numbers.Goals as goal

-- bytes that fit are written
put_fits : (out : List ℕ) (at : ℕ) (bytes : List ℕ) → at + length bytes ≤ length out → put out at bytes ≡ written out at bytes
put_fits out at bytes h = cond-true _ _ _ (le-leb _ _ h)

pub returns-clause-after : goal.returns-clause-after
returns-clause-after c =
    let old = c.args.buf.now in
    let mid = c.serialize.new.buffer in
    let k = leb_ten c.args.keep (omega arith) in
    let a = leb_ten c.args.add (omega arith) in
    let keep = c.serialize.ensures.after ∙ put_fits old 1 (leb c.args.keep) (omega arith) in
    let add = c.serialize-2.ensures.after ∙ put_fits mid c.unwrap-n.result (leb c.args.add) (grind arith) in
    add ∙ written_then old mid 1 c.unwrap-n.result (leb c.args.keep) (leb c.args.add) keep (grind arith) (omega arith)
