use Rattle.std.proofs.Common.{arith, length, ap}
use Rattle.style_config.proofs.Numbers.{line_was_read, line_was_passed, all_was_read}
use Rattle.style_config.proofs.line.lines_of.Goals.{in-Some-line_of+in_ok-push, in_default}
use Rattle.style_config.proofs.line.lines_of.Goals as goal

pub loop-line-preserved : goal.loop-line-preserved
loop-line-preserved c = record {
  can_next = tt;
  is_finite = tt;
  lines = elim c.match-line_of.branch [
    | in-Some-line_of+in_ok-push w ↦ rw w.lines-is (line_was_read _ _ _ _ _ _ _ _ c.loop-line.invariant.lines c.in-Some.ensures.steps w.in-Some-line_of.ensures w.in_ok-push.ensures.items)
    | in_default w ↦ rw w.lines-is (line_was_passed _ _ _ _ _ _ c.loop-line.invariant.lines c.in-Some.ensures.steps w.in_default.ensures)
  ];
  room = omega (arith, c.loop-line.invariant.room, ap length c.in-Some.ensures.steps);
}

pub returns : goal.returns
returns c = all_was_read _ _ _ _ c.loop-line.invariant.lines c.in-None.ensures.steps.0
