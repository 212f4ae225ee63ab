use Rattle.std.proofs.Common.{◌∙◌, length, subst, sym, arith}
use Rattle.std.proofs.lemmas.Result.{on_ok_weaker}
use Rattle.line_tokens.specs.Lines.{CutPlaces}
use Rattle.item_classes.proofs.Told.{told_within}
use Rattle.run_layout.proofs.RunSteps.{cut_count}
use Rattle.run_layout.proofs.Views.{view_laid}
use Rattle.run_layout.proofs.Failed.{not_done}
use Rattle.run_layout.proofs.view.lay_out_view.Goals as goal

pub joined_lines-requires : goal.joined_lines-requires
joined_lines-requires c = record {
  range = c.requires.range;
  within = c.requires.within;
  classes = c.requires.classes;
  count = c.requires.count;
  cut = subst (λ n. CutPlaces 0 n c.args.lines.now) (sym c.requires.count) c.requires.cut;
  whole = c.requires.whole;
}

pub lay_out_lines-requires-clause-cut : goal.lay_out_lines-requires-clause-cut
lay_out_lines-requires-clause-cut c = subst (λ n. CutPlaces 0 n c.in_ok-rows.rows.now) c.requires.count c.in_ok-rows.ensures.cut

pub lay_out_lines-requires-clause-room : goal.lay_out_lines-requires-clause-room
lay_out_lines-requires-clause-room c = omega (arith, cut_count 0 (length c.args.layout.now.tokens.now) c.in_ok-rows.rows.now c.in_ok-rows.ensures.cut, c.requires.count, c.requires.room)

pub place_comments-requires-clause-within : goal.place_comments-requires-clause-within
place_comments-requires-clause-within c = λ k d below.
    let within = told_within c.args.layout.now.arena.now c.args.layout.now.view.now c.args.layout.now.tokens.now c.requires.tell c.requires.count c.requires.within k d below in
    omega (arith, within, c.requires.whole, c.in_ok-lay_out_lines.ensures.len)

pub returns-clause-laid : goal.returns-clause-laid
returns-clause-laid c =
    on_ok_weaker c.place_comments.result
    (λ plan. view_laid c.args.layout.now.style.now c.args.layout.now.budget c.args.layout.now.arena.now c.args.layout.now.view.now c.args.layout.now.tokens.now c.args.number c.args.plan.now c.args.lines.now c.in_ok-rows.rows.now c.lay_out_lines.new.plan c.place_comments.new.plan
    c.args.tally.now c.lay_out_lines.new.tally c.in_ok-rows.ensures.lines
    c.in_ok-lay_out_lines.ensures.laid plan) c.place_comments.ensures.plan

pub returns-clause-len : goal.returns-clause-len
returns-clause-len c = on_ok_weaker c.place_comments.result (λ plan. c.place_comments.ensures.len ∙ c.in_ok-lay_out_lines.ensures.len) c.place_comments.ensures.plan

pub returns-clause-room : goal.returns-clause-room
returns-clause-room c =
    on_ok_weaker c.place_comments.result
    (λ plan. omega (arith, c.in_ok-lay_out_lines.ensures.room, cut_count 0 (length c.args.layout.now.tokens.now) c.in_ok-rows.rows.now c.in_ok-rows.ensures.cut, c.requires.count))
    c.place_comments.ensures.plan

pub returns-clause-cheap : goal.returns-clause-cheap
returns-clause-cheap c = on_ok_weaker c.place_comments.result (λ plan. c.in_ok-lay_out_lines.ensures.cheap) c.place_comments.ensures.plan

pub returns-clause-counted : goal.returns-clause-counted
returns-clause-counted c = on_ok_weaker c.place_comments.result (λ plan. c.in_ok-lay_out_lines.ensures.counted) c.place_comments.ensures.plan

pub returns-in_err-rows : goal.returns-in_err-rows
returns-in_err-rows c =
    let result = c.from_residual.result in
    let err = c.from_residual.ensures.0 in
    record {
      laid = not_done result _ err;
      len = not_done result _ err;
      room = not_done result _ err;
      cheap = not_done result _ err;
      counted = not_done result _ err;
    }

pub returns-in_err-lay_out_lines : goal.returns-in_err-lay_out_lines
returns-in_err-lay_out_lines c =
    let result = c.from_residual-in_err-lay_out_lines.result in
    let err = c.from_residual-in_err-lay_out_lines.ensures.0 in
    record {
      laid = not_done result _ err;
      len = not_done result _ err;
      room = not_done result _ err;
      cheap = not_done result _ err;
      counted = not_done result _ err;
    }
