use Rattle.std.proofs.Common.{◌≡◌, List, ℕ, [], ◌∷◌, ◌++◌, OnOk, string_bytes, decimal, ap, ◌∙◌, subst, append_assoc, arith}
use Rattle.listing.specs.Listing.{line}
use Rattle.listing.proofs.Digits.{hex_text}
use Rattle.listing.proofs.text.push_line.Goals as goal

pub returns : goal.returns
returns c =
    let o = decimal c.args.ordinal in
    let v = decimal c.args.value in
    let digits = c.in_ok-digits.ensures ∙ hex_text c.args.key.now (λ k. omega (arith, c.type_inv.key k)) in
    let pieces : o ++ 9 ∷ (string_bytes c.in_ok-digits.digits ++ 9 ∷ (v ++ 10 ∷ [])) ≡ line c.args.ordinal (record { key = c.args.key.now; value = c.args.value }) =
    ap (λ (z : List ℕ). o ++ 9 ∷ (z ++ 9 ∷ (v ++ 10 ∷ []))) digits ∙ simp append_assoc in
    subst (λ (z : List ℕ). OnOk c.writeln.result (string_bytes c.writeln.new.self ≡ string_bytes c.args.text.now ++ z)) pieces c.writeln.ensures.bytes
