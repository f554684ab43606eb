use Rattle.std.proofs.Common.{◌≡◌, ◌+◌, [], ◌∷◌, ℕ, sym, subst, rules}
use Rattle.std.specs.Iterator.Adapters.{enumerate_source, enumerate_count}
use Rattle.building.specs.Lines.{lines_of}
use Rattle.building.proofs.Builds.{At, entry_is, entry_refused, entry_taken, end_refused, whole_by}
use Rattle.building.proofs.text.build.Goals as goal

pub returns-in_err-map_err : goal.returns-in_err-map_err
returns-in_err-map_err c =
    let it = c.loop-above.above-iterator in
    let next : lines_of (enumerate_source it).0.now ≡ c.in-Some.line.now ∷ lines_of (enumerate_source c.next.new.self).0.now = search rules in
    let entry = entry_is c.in_ok-entry.entry c.in_ok-parse_line.field-0 c.deref.result.now c.in-Some.line.now (search rules) c.deref.ensures.value c.in_ok-parse_line.ensures in
    entry_refused c.args.output.now c.args.text.now (enumerate_count it) _ c.loop-above.writer c.loop-above.output c.loop-above.invariant.2 c.loop-above.auto.output
    _ _ next _ entry c.in-Some.above (search rules) c.insert.new.self c.insert.new.output c.insert.result c.map_err.result c.in_err-map_err.field-0.0 _
    c.insert.ensures.entries (search rules) (search rules) (search rules)

pub loop-above-preserved : goal.loop-above-preserved
loop-above-preserved c =
    let it = c.loop-above.above-iterator in
    let next : lines_of (enumerate_source it).0.now ≡ c.in-Some.line.now ∷ lines_of (enumerate_source c.next.new.self).0.now = search rules in
    let further : enumerate_count c.next.new.self ≡ enumerate_count it + 1 = search rules in
    let entry = entry_is c.in_ok-entry.entry c.in_ok-parse_line.field-0 c.deref.result.now c.in-Some.line.now (search rules) c.deref.ensures.value c.in_ok-parse_line.ensures in
    let more =
    entry_taken c.args.output.now c.args.text.now (enumerate_count it) _ c.loop-above.writer c.loop-above.output c.loop-above.invariant.2 c.loop-above.auto.output
    _ _ next _ entry c.in-Some.above (search rules) c.insert.new.self c.insert.new.output c.insert.result c.map_err.result c.insert.ensures.entries (search rules) (search rules) in (
      search rules,
      search rules,
      subst (λ (n : ℕ). At c.args.output.now c.args.text.now n (lines_of (enumerate_source c.next.new.self).0.now) c.insert.new.self c.insert.new.output) (sym further) more,
    )

pub returns-in_err-map_err-2 : goal.returns-in_err-map_err-2
returns-in_err-map_err-2 c =
    let it = c.loop-above.above-iterator in
    let none : lines_of (enumerate_source it).0.now ≡ [] = search rules in
    end_refused c.args.output.now c.args.text.now (enumerate_count it) _ c.loop-above.writer c.loop-above.output c.loop-above.invariant.2 c.loop-above.auto.output
    none c.finish.new.self c.finish.new.output c.finish.result c.map_err-2.result c.in_err-map_err-2.field-0.0 _
    c.finish.ensures.entries (search rules) (search rules) (search rules)

pub returns : goal.returns
returns c =
    let it = c.loop-above.above-iterator in
    let none : lines_of (enumerate_source it).0.now ≡ [] = search rules in
    whole_by c.args.output.now c.args.text.now (enumerate_count it) _ c.loop-above.writer c.loop-above.output c.loop-above.invariant.2 c.loop-above.auto.output
    none c.finish.new.self c.finish.new.output c.finish.result c.map_err-2.result c.finish.ensures.entries (search rules) (search rules)
    c.written_bytes.result c.written_bytes.ensures.entries
