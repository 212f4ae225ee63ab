use Rattle.std.proofs.Common.{◌≡◌, ◌∙◌, ◌+◌, true, false, reverse, sym, rules, arith}
use Rattle.std.specs.Prelude.{if◌then◌else◌}
use Rattle.token_classes.specs.Classes.{is_opener, is_open_brace}
use Rattle.part_walk.proofs.Failed.{no_value}
use Rattle.part_walk.proofs.Waits.{closer_waits, more_before, opener_counts, opener_small, opener_waits, pushed_before, reverse_last}
use Rattle.part_walk.proofs.brackets.pass_bracket.Goals as goal

pub returns-in_err-push_waiting : goal.returns-in_err-push_waiting
returns-in_err-push_waiting c =
    let result = c.from_residual.result in
    let err = c.from_residual.ensures.0 in
    record { waiting = no_value result _ err; count = no_value result _ err; small = no_value result _ err; before = no_value result _ err }

pub returns-in_ok-push_waiting : goal.returns-in_ok-push_waiting
returns-in_ok-push_waiting c =
    let class = c.args.class in
    let opens : is_opener class ≡ true = sym c.is_opener.ensures ∙ c.if-is_opener.true in
    let pushed = reverse_last _ _ _ c.in_ok-push_waiting.ensures in
    let braces : c.if-is_open_brace.braces ≡ (if is_open_brace class then c.args.braces.now + 1 else c.args.braces.now) = search rules in
    record {
      waiting = pushed ∙ opener_waits class c.args.place (reverse c.args.waiting.now.items) opens;
      count = opener_counts class _ _ _ _ _ pushed c.requires.count braces;
      small = opener_small (is_open_brace class) _ _ c.args.id.0 braces c.requires.small;
      before = pushed_before (c.args.id.0 + 2) _ _ _ (omega (arith, c.requires.low)) c.in_ok-push_waiting.ensures (more_before (c.args.id.0 + 1) (c.args.id.0 + 2) _ (omega arith) c.requires.before);
    }

pub returns-in_err-waiting_step : goal.returns-in_err-waiting_step
returns-in_err-waiting_step c =
    let result = c.from_residual-in_err-waiting_step.result in
    let err = c.from_residual-in_err-waiting_step.ensures.0 in
    record { waiting = no_value result _ err; count = no_value result _ err; small = no_value result _ err; before = no_value result _ err }

pub returns-in_ok-waiting_step : goal.returns-in_ok-waiting_step
returns-in_ok-waiting_step c =
    let closes : is_opener c.args.class ≡ false = sym c.is_opener.ensures ∙ c.if-is_opener.false in
    record {
      waiting = closer_waits c.args.class c.args.place (c.args.id.0 + 1) (reverse c.args.waiting.now.items) _ _ closes c.in_ok-waiting_step.ensures.step;
      count = c.in_ok-waiting_step.ensures.count;
      small = omega (arith, c.in_ok-waiting_step.ensures.small);
      before = more_before (c.args.id.0 + 1 + 1) (c.args.id.0 + 2) _ (omega arith) c.in_ok-waiting_step.ensures.before;
    }
