use Rattle.std.proofs.Common.{◌≡◌, ◌∙◌, ◌+◌, ◌-◌, ◌<◌, ℕ, length, map, get_or, refl, false, arith, sym, ap}
use Rattle.std.specs.Prelude.{None, slice_get}
use Rattle.std.proofs.lemmas.Option.{slice_get_within}
use Rattle.line_tokens.specs.declared.LineTok.{LineTok}
use Rattle.line_state.specs.Layout.{gap_before, layout_after}
use Rattle.line_state.specs.Line.{decision_at, first_layout}
use Rattle.searched_line.specs.Searched.{line_of}
use Rattle.searched_line.proofs.LineSteps.{start_here, went_on}
use Rattle.run_layout.specs.Broken.{number}
use Rattle.run_layout.proofs.Writing.{write_begins, write_goes, write_more, write_ends, token_within, number_of, decision_here}
use Rattle.run_layout.proofs.broken.write_breaks.Goals as goal

pub loop-at-init : goal.loop-at-init
loop-at-init c =
    let l = line_of c.args.style.now c.args.column c.args.tokens.now c.args.fixed.now in
    record {
      len = refl;
      layout = first_layout l;
      told = c.in_ok-starts.ensures;
      written = write_begins l c.args.line.now (map number c.args.tokens.now) c.args.breaks.now c.args.plan.now (first_layout l) c.requires.line.some c.requires.admissible refl;
    }

pub decide_open-requires-clause-within : goal.decide_open-requires-clause-within
decide_open-requires-clause-within c =
    omega (arith, c.loop-at.invariant.len, token_within c.args.tokens.now (length c.args.plan.now) (c.loop-at.at + 1) c.token_at-right.result.now c.requires.within c.token_at-right.ensures)

pub loop-at-preserved : goal.loop-at-preserved
loop-at-preserved c =
    let at = c.loop-at.at in
    let style = c.args.style.now in
    let l = line_of style c.args.column c.args.tokens.now c.args.fixed.now in
    let w = c.loop-at.invariant.written in
    let layout = c.loop-at.invariant.layout in
    let left : LineTok = c.token_at-left.result.now in
    let right : LineTok = c.token_at-right.result.now in
    let brk = get_or c.args.breaks.now at false in
    let fixed = get_or c.args.fixed.now (at + 1) None in
    let index : at + 1 ≡ layout.index = sym w.index in
    let some : 0 < layout.index = omega (arith, w.index) in
    let before : at ≡ layout.index - 1 = omega (arith, w.index) in
    let left_there = ap (λ (i : ℕ). slice_get c.args.tokens.now i) (sym before) ∙ c.token_at-left.ensures in
    let right_there = ap (λ (i : ℕ). slice_get c.args.tokens.now i) w.index ∙ c.token_at-right.ensures in
    let decided = decision_here l (at + 1) None (omega (arith, slice_get_within c.args.tokens.now (at + 1) right c.token_at-right.ensures, c.requires.line.even)) in
    let fixed_there = decided ∙ ap (λ (i : ℕ). decision_at l i) index in
    let next = layout_after style layout (gap_before layout left right fixed) brk in
    let leads = write_goes l c.args.line.now (map number c.args.tokens.now) c.args.breaks.now c.args.plan.now c.loop-at.plan layout at false w c.loop-at-test.true in
    let begins = start_here l layout left right fixed some left_there right_there fixed_there style brk c.in_ok-start.start refl (c.in_ok-start.ensures.start layout some c.loop-at.invariant.told) in
    record {
      len = c.decide_open.ensures.len ∙ c.loop-at.invariant.len;
      layout = next;
      told = c.in_ok-start.ensures.next layout some c.loop-at.invariant.told;
      written = write_more l c.args.line.now (map number c.args.tokens.now) c.args.breaks.now c.args.plan.now c.loop-at.plan c.decide_open.new.plan layout next at c.in_ok-start.start brk false
          left right fixed w c.loop-at-test.true refl
          c.token_at-left.ensures c.token_at-right.ensures decided (number_of c.args.tokens.now (at + 1) right c.token_at-right.ensures)
          begins (went_on l layout left right fixed some left_there right_there fixed_there style brk next refl leads refl)
          (c.decide_open.ensures.plan left c.before-spaces.ensures.table);
    }

pub returns-clause-plan : goal.returns-clause-plan
returns-clause-plan c = write_ends _ c.args.line.now (map number c.args.tokens.now) c.args.breaks.now c.args.plan.now c.loop-at.plan c.loop-at.invariant.layout c.loop-at.at c.loop-at.invariant.written (omega (arith, c.loop-at-test.false))
