use Rattle.std.proofs.Common.{◌<◌, ◌≤◌, length, refl, arith, ap, sym}
use Rattle.statement_lines.specs.declared.form.Form.{Form}
use Rattle.statement_lines.proofs.TurnLemmas.{ends_low, simple_turn, stays_turn, stays_up, top_within}
use Rattle.statement_lines.proofs.TurnLemmas.{turned}
use Rattle.statement_lines.proofs.tree.turn.Goals as goal

pub simple_end-requires-clause-list : goal.simple_end-requires-clause-list
simple_end-requires-clause-list c = top_within _ _ _ _ _ _ _ c.loop-place.invariant.stands

-- ## A simple line

pub line_of-requires-in-loop-place-clause-begins : goal.line_of-requires-in-loop-place-clause-begins
line_of-requires-in-loop-place-clause-begins c =
    let within : c.args.opened.end ≤ length c.args.tokens.now = top_within _ _ _ _ _ _ _ c.loop-place.invariant.stands in
    omega (arith, within, c.requires.few, c.loop-place-test.true)

pub line_of-requires-in-loop-place-clause-ends : goal.line_of-requires-in-loop-place-clause-ends
line_of-requires-in-loop-place-clause-ends c =
    let within : c.args.opened.end ≤ length c.args.tokens.now = top_within _ _ _ _ _ _ _ c.loop-place.invariant.stands in
    let end = ap (λ (f : Form). f.end) c.line_alone-form.ensures in
    omega (arith, within, end, c.in-Some.ensures.most, c.requires.few)

pub loop-place-preserved : goal.loop-place-preserved
loop-place-preserved c =
    record {
      stands =
          simple_turn _ _ _ _ _ _ _ _ _ _ c.line_alone-form.result c.loop-place.invariant.stands c.loop-place-test.true (c.in-Some.ensures.form c.args.braces.now) c.line_alone-form.ensures
          c.in-Some.ensures.least c.in-Some.ensures.most c.in-Some.ensures.block c.line_of-in-loop-place.ensures c.in_ok-push-2.ensures;
      same = c.loop-place.invariant.same;
      up = omega (arith, c.loop-place.invariant.up, c.in-Some.ensures.least);
    }

-- ## Any other line, and the end of the list

pub form_of-form-requires-clause-list : goal.form_of-form-requires-clause-list
form_of-form-requires-clause-list c = top_within _ _ _ _ _ _ _ c.loop-place.invariant.stands

pub form_of-form-requires-clause-low : goal.form_of-form-requires-clause-low
form_of-form-requires-clause-low c = c.loop-place.invariant.stands.fits.1.0

pub form_of-form-requires-clause-case_low : goal.form_of-form-requires-clause-case_low
form_of-form-requires-clause-case_low c = c.loop-place.invariant.stands.fits.1.1.0

pub form_of-form-requires-clause-start_low : goal.form_of-form-requires-clause-start_low
form_of-form-requires-clause-start_low c = c.loop-place.invariant.stands.low

pub take_line-requires-clause-stands : goal.take_line-requires-clause-stands
take_line-requires-clause-stands c = c.loop-place.invariant.stands

pub take_line-requires-clause-form : goal.take_line-requires-clause-form
take_line-requires-clause-form c = sym c.form_of-form.ensures.same

pub take_line-requires-clause-list : goal.take_line-requires-clause-list
take_line-requires-clause-list c = top_within _ _ _ _ _ _ _ c.loop-place.invariant.stands

pub line_of-requires-clause-begins : goal.line_of-requires-clause-begins
line_of-requires-clause-begins c =
    let within : c.args.opened.end ≤ length c.args.tokens.now = top_within _ _ _ _ _ _ _ c.loop-place.invariant.stands in
    omega (arith, within, c.requires.few, c.loop-place-test.true)

pub line_of-requires-clause-ends : goal.line_of-requires-clause-ends
line_of-requires-clause-ends c =
    let f = c.form_of-form.result in
    let within : c.args.opened.end ≤ length c.args.tokens.now = top_within _ _ _ _ _ _ _ c.loop-place.invariant.stands in
    let low : f.end ≤ c.args.opened.end = ends_low c.loop-place.place.at c.args.opened f f.next refl c.form_of-form.ensures.stays in
    omega (arith, within, low, c.requires.few)

pub loop-place-preserved-in_default : goal.loop-place-preserved-in_default
loop-place-preserved-in_default c =
    let f = c.form_of-form.result in
    let up : c.loop-place.place.at < f.end = stays_up c.loop-place.place.at c.args.opened f f.next c.in-Some-start_behind.start refl c.form_of-form.ensures.stays c.in-Some-start_behind.ensures in
    record {
      stands =
          stays_turn _ _ _ _ _ _ _ _ _ _ f f.next c.loop-place.invariant.stands c.loop-place-test.true (sym c.form_of-form.ensures.same) refl c.form_of-form.ensures.stays c.in-Some-start_behind.ensures c.line_of.ensures
          c.in_ok-push.ensures;
      same = c.loop-place.invariant.same;
      up = omega (arith, c.loop-place.invariant.up, up);
    }

pub returns-in_default-start_behind-clause-stands : goal.returns-in_default-start_behind-clause-stands
returns-in_default-start_behind-clause-stands c = c.take_line.ensures.stands

pub returns-in_default-start_behind-clause-up : goal.returns-in_default-start_behind-clause-up
returns-in_default-start_behind-clause-up c =
    turned c.take_line.result _ _ _ _ _ _ _ c.loop-place.invariant.up (ap length c.loop-place.invariant.same) c.loop-place-test.true (top_within _ _ _ _ _ _ _ c.loop-place.invariant.stands) c.take_line.ensures.up

pub returns-clause-stands : goal.returns-clause-stands
returns-clause-stands c = c.leave_list.ensures.stands c.args.braces.now c.args.tokens.now c.loop-place.out c.loop-place.invariant.stands

pub returns-clause-up : goal.returns-clause-up
returns-clause-up c =
    let stays = c.leave_list.ensures.stays c.args.braces.now c.args.tokens.now c.loop-place.out c.loop-place.invariant.stands in
    omega (arith, c.loop-place.invariant.up, ap length c.loop-place.invariant.same, c.leave_list.ensures.fewer, stays)
