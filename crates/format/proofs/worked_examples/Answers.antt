use Rattle.std.proofs.Common.{refl}
use Rattle.format.specs.Numbers.{leb}
use Rattle.format.specs.Worked.{Worked}
use Rattle.format.proofs.worked_examples.Goals as goal

worked : Worked
unfolding leb
worked = record {
  number127 = refl;
  number128 = refl;
  number_most = refl;
  header15_15 = refl;
  header16_1 = refl;
  header0_16 = refl;
  three_written = refl;
  three_made = refl;
  three_read = refl;
  ranges_written = refl;
  ranges_read = refl;
  empty_written = refl;
  empty_read = refl;
  none_written = refl;
  stream0 = refl;
  key0 = refl;
  stream1 = refl;
  key1 = refl;
  stream2 = refl;
  key2 = refl;
  stream3 = refl;
  key3 = refl;
  search_ab = refl;
  search_aa = refl;
  search_c = refl;
  sum_answer = refl;
  sum_output = refl;
  sum_read = refl;
  sum_runs = refl;
  fall_answer = refl;
  fall_left = refl;
  fall_runs = refl;
}

pub returns : goal.returns
returns c = record { table = worked; count = refl }
