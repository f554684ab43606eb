use Rattle.std.proofs.Common.{sym, ap, ◌∙◌, inl, inr}
use Rattle.std.specs.Result.{result_ok}
use Rattle.building.proofs.Digits.{key_is, key_none}
use Rattle.building.proofs.line.parse_key.Goals as goal
use Rattle.building.proofs.line.parse_key.Goals.{in_default-via-in-OutOfMemory+else-is_hex, in_default-via-in_default}

pub returns-in-Ok : goal.returns-in-Ok
returns-in-Ok c = sym (ap result_ok c.in-Ok.ensures.ok) ∙ key_is c.args.digits.now

pub returns-in_default : goal.returns-in_default
returns-in_default c =
    let ds = c.args.digits.now in
    elim c.in_default.branch [
      | in_default-via-in-OutOfMemory+else-is_hex w ↦ sym (key_none ds (sym w.is_hex.ensures ∙ w.if-is_hex.false))
      | in_default-via-in_default w ↦
          elim c.in-Err.ensures.err [
            | inl memory ↦ absurd (w.in_default.not-OutOfMemory memory)
            | inr e ↦ sym (ap result_ok e) ∙ key_is ds
          ]
    ]
