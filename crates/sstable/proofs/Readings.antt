-- A finished sstable reads as the taken entries.
use Rattle.std.proofs.Common.{◌≡◌, ℕ, List, ◌++◌, length, drop, ap, ◌∙◌}
use Rattle.format.specs.Codecs.{Meaning, ReadsBack, Short}
use Rattle.format.specs.Laws.{writer, ReadsTaken}
use Rattle.format.specs.Reading.{read_area}
use Rattle.format.specs.Tables.{sstable}
use Rattle.format.specs.Writing.{Waiting, Call, output_in, output, overwritten}
use Rattle.format.proofs.ReadBack.{table_back}
use Rattle.format.proofs.TakenSound.{taken_sound}

module _ {V : Type 0} (means : Meaning V) (back : ReadsBack means) (few : Short means) where
  pub reads_taken : (old : List ℕ) (cs : List (Call V)) (left : List ℕ) → left ≡ overwritten old (output means.bytes (writer means (length old) cs)) → ReadsTaken means old cs left
  reads_taken old cs left l f =
      let w = writer means (length old) cs in
      let o : output means.bytes w ≡ sstable means.bytes w.taken = ap (λ (z : Waiting). output_in means.bytes w.taken z) f in
      let rest : List ℕ = drop (length (sstable means.bytes w.taken)) old in
      let e : left ≡ sstable means.bytes w.taken ++ rest = l ∙ ap (overwritten old) o in
      ap (read_area means) e ∙ table_back means back few w.taken rest (taken_sound means (length old) cs)
