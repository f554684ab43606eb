use Rattle.std.proofs.Common.{◌<◌, length, sym, ap, ◌∙◌, arith}
use Rattle.format.specs.Buffers.{written}
use Rattle.format.proofs.BufferLaws.{written_one, written_next}
use Rattle.format.proofs.NumberLaws.{leb_last, leb_more, leb_some}
use Rattle.codec.proofs.vint.put.Goals as goal

pub bounds-buffer-at : goal.bounds-buffer-at
bounds-buffer-at c = omega (arith, leb_some c.loop-rest.rest)

pub loop-rest-preserved : goal.loop-rest-preserved
loop-rest-preserved c =
    let e = leb_more c.loop-rest.rest (omega arith) in
    let h : c.loop-rest.at < length c.loop-rest.buffer = omega (arith, leb_some c.loop-rest.rest) in (
      written_next c.loop-rest.buffer c.loop-rest.at _ _ h
          ∙ ap (written c.loop-rest.buffer c.loop-rest.at) (sym e)
          ∙ c.loop-rest.invariant.0,
      omega (arith, ap length e),
    )

pub bounds-buffer-at-2 : goal.bounds-buffer-at-2
bounds-buffer-at-2 c = omega (arith, leb_some c.loop-rest.rest)

pub returns : goal.returns
returns c =
    let e = leb_last c.loop-rest.rest (omega arith) in
    let h : c.loop-rest.at < length c.loop-rest.buffer = omega (arith, leb_some c.loop-rest.rest) in
    record {
      value = omega (arith, ap length e);
      after =
          written_one c.loop-rest.buffer c.loop-rest.at c.loop-rest.rest h
          ∙ ap (written c.loop-rest.buffer c.loop-rest.at) (sym e)
          ∙ c.loop-rest.invariant.0;
    }
