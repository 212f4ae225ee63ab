use Rattle.std.proofs.Common.{◌∙◌, refl, arith}
use Rattle.std.proofs.Math.ListN.{drop_of_length-le}
use Rattle.run_layout.proofs.Telling.{stand_for_items}
use Rattle.run_layout.proofs.RunSteps.{line_done, lines_end, ahead_more, next_needs, first_within}
use Rattle.run_layout.proofs.Failed.{not_done}
use Rattle.run_layout.proofs.lines.lay_out_lines.Goals as goal

pub lay_out_line-requires-clause-places : goal.lay_out_line-requires-clause-places
lay_out_line-requires-clause-places c =
    (next_needs c.args.layout.now.style.now c.args.layout.now.arena.now c.args.layout.now.view.now c.loop-line.cursor.place c.loop-line.cursor.column c.args.lines.now c.loop-line.line-index _ c.loop-line-test.true c.loop-line.invariant.ahead).within

pub lay_out_line-requires-clause-ready : goal.lay_out_line-requires-clause-ready
lay_out_line-requires-clause-ready c = record {
  range = c.requires.range;
  budget = c.requires.budget;
  within = c.requires.within;
  classes = c.requires.classes;
  tell = stand_for_items c.args.layout.now.arena.now c.args.layout.now.view.now c.args.layout.now.tokens.now c.requires.count c.requires.tell;
}

pub note_line-requires-clause-within : goal.note_line-requires-clause-within
note_line-requires-clause-within c =
    first_within c.args.layout.now.style.now c.args.layout.now.arena.now c.args.layout.now.view.now c.loop-line.cursor.place c.loop-line.cursor.column c.args.lines.now c.loop-line.line-index _ c.loop-line-test.true c.loop-line.invariant.ahead

pub loop-line-preserved : goal.loop-line-preserved
loop-line-preserved c =
    let v = c.loop-line.invariant in
    let i = c.loop-line.line-index in
    let made = c.in_ok-laid.ensures in
    let told = c.in_ok-note_line.ensures in
    record {
      len = made.len ∙ v.len;
      ahead = ahead_more c.args.layout.now.style.now c.args.layout.now.arena.now c.args.layout.now.view.now c.loop-line.cursor.place c.loop-line.cursor.column c.lay_out_line.new.cursor.place c.lay_out_line.new.cursor.column c.args.lines.now i _ c.loop-line-test.true v.ahead
          made.before made.column;
      room = omega (arith, told.room, v.room);
      cheap = told.cheap;
      counted = told.counted;
      on = line_done c.args.layout.now.style.now c.args.layout.now.budget c.args.layout.now.arena.now c.args.layout.now.view.now c.args.layout.now.tokens.now c.args.number c.args.plan.now c.args.lines.now c.args.tally.now c.loop-line.tally c.note_line.new.tally c.loop-line.plan c.lay_out_line.new.plan i _
          _ c.in_ok-laid.laid c.loop-line-test.true v.on made.laid refl
          told.reports told.searched told.cost;
    }

pub returns-clause-laid : goal.returns-clause-laid
returns-clause-laid c =
    lines_end c.args.layout.now.style.now c.args.layout.now.budget c.args.layout.now.arena.now c.args.layout.now.view.now c.args.layout.now.tokens.now c.args.number c.args.plan.now c.args.lines.now _ c.args.tally.now c.loop-line.tally c.loop-line.plan
    (drop_of_length-le c.args.lines.now c.loop-line-test.false) c.loop-line.invariant.on

pub returns-in_err-laid : goal.returns-in_err-laid
returns-in_err-laid c =
    let result = c.from_residual.result in
    let err = c.from_residual.ensures.0 in
    record {
      laid = not_done result _ err;
      len = not_done result _ err;
      room = not_done result _ err;
      cheap = not_done result _ err;
      counted = not_done result _ err;
    }

pub returns-in_err-note_line : goal.returns-in_err-note_line
returns-in_err-note_line c =
    let result = c.from_residual-in_err-note_line.result in
    let err = c.from_residual-in_err-note_line.ensures.0 in
    record {
      laid = not_done result _ err;
      len = not_done result _ err;
      room = not_done result _ err;
      cheap = not_done result _ err;
      counted = not_done result _ err;
    }

pub returns-clause-len : goal.returns-clause-len
returns-clause-len c = c.loop-line.invariant.len

pub returns-clause-cheap : goal.returns-clause-cheap
returns-clause-cheap c = c.loop-line.invariant.cheap

pub returns-clause-counted : goal.returns-clause-counted
returns-clause-counted c = c.loop-line.invariant.counted
