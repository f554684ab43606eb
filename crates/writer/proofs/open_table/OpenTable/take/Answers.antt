use Rattle.std.proofs.Common.{length, sym, ap, ◌∙◌}
use Rattle.format.specs.Reading.{key_of}
use Rattle.block.specs.Positions.{last_of}
use Rattle.writer.specs.States.{pushed}
use Rattle.writer.proofs.KeyParts.{kept_same}
use Rattle.writer.proofs.BlockParts.{fits_long}
use Rattle.writer.proofs.open_table.OpenTable.take.Goals as goal

pub set_last-requires : goal.set_last-requires
set_last-requires g c =
    let t = c.self.inside in
    let k = ap (λ k. k.keep) (rw (← c.self.view_is) at c.requires.kept) in
    rw k (kept_same t.block.delta (key_of (last_of t.last)) c.args.key.now.key)

pub slice_bounds-write-count : goal.slice_bounds-write-count
slice_bounds-write-count g c =
    let t = c.self.inside in
    let room = rw (← c.self.view_is) at c.requires.fits.room_is in
    fits_long g.C.Codec.bytes (pushed t.block c.args.key.now c.args.value) c.push.new.self t.end (length c.args.output.now) c.push.ensures.after (sym c.is_long.ensures ∙ c.if-is_long.true) room

pub slice_bounds-write-start : goal.slice_bounds-write-start
slice_bounds-write-start g c = slice_bounds-write-count g c
