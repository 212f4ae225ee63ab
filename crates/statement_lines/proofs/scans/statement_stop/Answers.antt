use Rattle.std.proofs.Common.{◌∙◌, ap, arith, sym}
use Rattle.token_classes.specs.Classes.{is_assigning, is_open_brace, is_opener, is_semicolon}
use Rattle.statement_lines.proofs.Known.{known, le_far}
use Rattle.statement_lines.proofs.ScanLemmas.{still_step, stop_step}
use Rattle.statement_lines.proofs.scans.statement_stop.Goals as goal

pub loop-place-preserved-then-is_still : goal.loop-place-preserved-then-is_still
loop-place-preserved-then-is_still c =
    let inv = c.loop-place.invariant in
    let still = c.is_still.ensures in
    let yes = c.if-is_still.true in
    let class = sym c.class_at-class.ensures in
    record {
      same = still_step inv.same.0 _ _ _ _ _ c.loop-place-test.true inv.same.1.0 (ap is_semicolon class ∙ still.semicolon yes) (ap is_opener class ∙ still.opener yes) (ap is_open_brace class ∙ still.brace yes)
          (ap is_assigning class ∙ still.assigning yes) inv.same.1.1;
      least = omega (arith, inv.least);
      most = omega (arith, c.loop-place-test.true);
    }

pub loop-place-preserved : goal.loop-place-preserved
loop-place-preserved c =
    let inv = c.loop-place.invariant in
    let semi = known is_semicolon _ _ _ _ c.class_at-class.ensures c.is_semicolon.ensures c.if-is_semicolon.false in
    let opens = sym c.opens_block.ensures ∙ c.if-opens_block.false in
    record {
      same = stop_step inv.same.0 _ _ _ _ _ _ _ c.loop-place-test.true c.step_over-place.ensures.least inv.same.1.0 semi opens c.step_over-place.ensures.same c.assigns-assigned.ensures inv.same.1.1;
      least = le_far _ _ _ inv.least c.step_over-place.ensures.least;
      most = c.step_over-place.ensures.most;
    }
