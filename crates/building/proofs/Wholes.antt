-- What a build in memory of its own answers.
use Rattle.std.proofs.Common.{◌≡◌, ℕ, List, length, take, drop, Ok, Err, Result, vec_items, refl, sym, ap, ◌∙◌}
use Rattle.std.proofs.lemmas.List.{take_at}
use Rattle.std.specs.Global.{Vec}
use Rattle.format.specs.Monotonic.{u64_bytes}
use Rattle.format.specs.Tables.{sstable}
use Rattle.building.specs.declared.fault.BuildFault.{BuildFault}
use Rattle.building.specs.Built.{Built, Answers}
use Rattle.building.specs.Whole.{most, Gives}

pub most_is : 1048576 ≡ most
unfolding most
most_is = refl

-- the first bytes of the output
pub is_whole : (b : Built) (old left : List ℕ) (r : Result ℕ BuildFault) (n : ℕ) (v : Vec ℕ) → Answers b old r left → r ≡ Ok n → vec_items v ≡ take n left → Gives b (Ok v)
is_whole b old left (Ok x) n v d g h =
    let s = sstable u64_bytes d.0 in
    let same : x ≡ n = cc in
    let bytes = d.1.1 in
    (d.0, d.1.0, h ∙ ap (take n) bytes.bytes ∙ take_at s (drop (length s) old) n (sym bytes.len ∙ same))
is_whole b old left (Err f) n v d g h = cc
