use Rattle.std.proofs.Common.{◌≡◌, ◌+◌, ◌-◌, length, is_ok, vec_items, vec_len, ap, ◌∙◌, arith, length-append}
use Rattle.std.proofs.lemmas.Bool.{cond-true}
use Rattle.format.specs.Headers.{header}
use Rattle.format.proofs.HeaderLaws.{header_short}
use Rattle.writer.proofs.KeyParts.{entry_pushed}
use Rattle.writer.proofs.keys.DeltaKey.push_to.Goals as goal

pub unwrap-requires-2 : goal.unwrap-requires-2
unwrap-requires-2 c =
    let k = c.self.inside in
    let d = c.args.delta.now in
    let add = length k.bytes.now - k.keep in
    let h = header_short k.keep add (omega arith) (omega arith) in
    let e = c.encode_keep_add.ensures.after ∙ cond-true _ _ _ (ap is_ok c.unwrap.ensures) in
    let l : vec_len c.encode_keep_add.new.block ≡ vec_len d + length (header k.keep add) = omega (arith, ap length e, length-append (vec_items d) (header k.keep add), c.encode_keep_add.new.block.ok.0, d.ok.0) in
    c.extend_from_slice.ensures.succeeds (omega (arith, c.requires, c.encode_keep_add.ensures.capacity))

pub returns-clause-items : goal.returns-clause-items
returns-clause-items c =
    let e = c.encode_keep_add.ensures.after ∙ cond-true _ _ _ (ap is_ok c.unwrap.ensures) in
    let f = c.extend_from_slice.ensures.items ∙ cond-true _ _ _ (ap is_ok c.unwrap-2.ensures) in
    rw (← c.self.view_is) (entry_pushed _ _ _ _ e f)

pub returns-clause-high : goal.returns-clause-high
returns-clause-high c =
    let k = c.self.inside in
    let d = c.args.delta.now in
    let add = length k.bytes.now - k.keep in
    let h = header_short k.keep add (omega arith) (omega arith) in
    let e = c.encode_keep_add.ensures.after ∙ cond-true _ _ _ (ap is_ok c.unwrap.ensures) in
    let l : vec_len c.encode_keep_add.new.block ≡ vec_len d + length (header k.keep add) = omega (arith, ap length e, length-append (vec_items d) (header k.keep add), c.encode_keep_add.new.block.ok.0, d.ok.0) in
    let n = c.extend_from_slice.ensures.len ∙ cond-true _ _ _ (ap is_ok c.unwrap-2.ensures) in
    omega (arith, n)
