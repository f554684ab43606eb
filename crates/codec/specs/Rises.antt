-- What holds of numbers that never fall and are kept with their size.
use Rattle.std.specs.Prelude.{◌≡◌, ◌+◌, ◌*◌, ◌≤◌, length, vec_items, vec_len, vec_capacity}
use Rattle.format.specs.Codecs.{Allowed, most}
use Rattle.format.specs.Monotonic.{u64_rule}
use Rattle.format.specs.Sums.{rises}
use Rattle.codec.specs.declared.rises.Rises.TheInside.{Inside}

pub record IsRises (r : Inside) : Type 0 where
  pub room : most + 1 ≤ vec_capacity r.vals
  pub few : vec_len r.vals ≤ most + 1
  pub rising : Allowed u64_rule (vec_items r.vals)
  pub sized : r.rises_len ≡ length (rises 0 (vec_items r.vals))
  pub short : r.rises_len ≤ 10 * vec_len r.vals
