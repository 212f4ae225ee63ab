use Rattle.std.proofs.Common.{◌≡◌, ◌∙◌, ◌<◌, ◌+◌, ◌-◌, suc, get_or, length, ap, arith}
use Rattle.line_gaps.proofs.Reporting.{passed, old_more}
use Rattle.line_gaps.proofs.reported.report_line.Goals as goal

pub decide_first-requires : goal.decide_first-requires
decide_first-requires c = record {
  classes = c.requires.classes;
  place = omega (arith, c.requires.some, c.requires.places);
  items = c.requires.items;
  id = c.at.ensures 0;
  whole = c.requires.whole;
}

pub move_to-requires : goal.move_to-requires
move_to-requires c = record {
  tab = c.requires.tab;
  items = c.requires.items;
  before = omega (arith, c.requires.before);
  within = omega (arith, c.requires.some, c.requires.places);
  column = c.requires.column;
}

pub decide-requires : goal.decide-requires
decide-requires c =
    let layout = c.args.layout.now in
    let within : get_or layout.view.now c.loop-place.place 0 < length layout.arena.now.tokens = c.requires.items c.loop-place.place 0 (omega (arith, c.loop-place-test.true, c.requires.places)) in
    omega (arith, within, c.at-id.ensures 0, c.loop-place.invariant.len, c.requires.whole)

pub loop-place-preserved : goal.loop-place-preserved
loop-place-preserved c =
    let style = c.args.layout.now.style.now in
    let arena = c.args.layout.now.arena.now in
    let ids = c.args.layout.now.view.now in
    let last = c.args.line.now.last in
    let k = c.loop-place.place in
    let v = c.loop-place.invariant in
    let p = c.pass-start in
    let more : last + 1 - k ≡ suc (last + 1 - (k + 1)) = omega (arith, c.loop-place-test.true) in
    record {
      place = p.ensures.place ∙ ap (λ x. x + 1) v.place;
      column = passed style arena ids k c.at-id.result.0 c.loop-place.cursor.column p.new.cursor.column v.column (c.at-id.ensures 0) p.ensures.column;
      len = c.decide.ensures.len ∙ v.len;
      rest = old_more style arena ids c.loop-place.plan c.decide.new.self c.loop-place.cursor.column p.new.cursor.column k c.at-id.result.0 p.result (last + 1 - (k + 1)) (last + 1 - k) more (c.at-id.ensures 0)
          p.ensures.start p.ensures.column c.decide.ensures.plan
          ∙ v.rest;
    }
