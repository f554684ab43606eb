use Rattle.std.proofs.Common.{◌≡◌, map, take, vec_items, ap, arith}
use Rattle.std.proofs.lemmas.List.{take_all}
use Rattle.codec.specs.Meanings.{meaning}
use Rattle.format.specs.Faults.{told}
use Rattle.writer.specs.Told.{of_writer}
use Rattle.writer.proofs.ByEntries.{calls}
use Rattle.sstable.specs.Calls.{call_of}
use Rattle.sstable.proofs.History.{Ran, ran_more, ran_writes, made_more, told_more}
use Rattle.format.proofs.ReadBack.{table_back}
use Rattle.sstable.proofs.Readings.{reads_taken}
use Rattle.sstable.proofs.run.run_calls.Goals as goal

pub loop-call-preserved : goal.loop-call-preserved
loop-call-preserved g c =
    let m = meaning g.C.Codec in
    let made = made_more c.args.calls.now c.loop-call.call-index c.call-item.result c.call-item.is c.loop-call-test.true in
    let got = told_more (vec_items c.loop-call.answers) (vec_items c.push_reserved.new.self) c.apply.result c.push_reserved.ensures.items in
    record {
      count = omega arith;
      room = omega arith;
      ran = ran_more m c.args.output.now _ _ (call_of c.call-item.result) _ _ c.apply.result c.loop-call.writer c.apply.new.writer c.loop-call.output c.apply.new.output c.loop-call.invariant.ran
          (omega (arith, c.loop-call.auto.output)) (calls m _ _ _ _ _ _ c.apply.ensures) made got;
    }

pub returns : goal.returns
returns g c =
    let m = meaning g.C.Codec in
    let xs = c.args.calls.now in
    let all : map call_of (take c.loop-call.call-index xs) ≡ map call_of xs = ap (map call_of) (take_all _ xs c.loop-call-test.false) in
    let ran : Ran m c.args.output.now (map call_of xs) (map (told of_writer) (vec_items c.loop-call.answers)) c.loop-call.writer c.loop-call.output = rw (← all) c.loop-call.invariant.ran in
    let w = ran_writes m c.args.output.now (map call_of xs) _ c.loop-call.writer c.loop-call.output ran in
    record {
      writing = w;
      table = table_back m g.met.C.Codec.back g.met.C.Codec.short;
      reading = reads_taken m g.met.C.Codec.back g.met.C.Codec.short c.args.output.now (map call_of xs) c.loop-call.output w.bytes_left;
    }

pub returns-in_err-answers-clause-table : goal.returns-in_err-answers-clause-table
returns-in_err-answers-clause-table g c = table_back (meaning g.C.Codec) g.met.C.Codec.back g.met.C.Codec.short

pub returns-in_err-writer-clause-table : goal.returns-in_err-writer-clause-table
returns-in_err-writer-clause-table g c = table_back (meaning g.C.Codec) g.met.C.Codec.back g.met.C.Codec.short
