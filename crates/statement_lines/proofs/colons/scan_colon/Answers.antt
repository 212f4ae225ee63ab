use Rattle.std.proofs.Common.{◌∙◌, arith}
use Rattle.token_classes.specs.Classes.{is_question, is_colon}
use Rattle.statement_lines.proofs.ColonLemmas.{scan_question, scan_answer, scan_other}
use Rattle.statement_lines.proofs.Known.{known, le_far, less_next, lt_far, lt_next, next_both, next_le}
use Rattle.statement_lines.proofs.colons.scan_colon.Goals as goal

pub loop-place-preserved-then-is_question : goal.loop-place-preserved-then-is_question
loop-place-preserved-then-is_question c =
    let q = known is_question _ _ _ _ c.class_at-class.ensures c.is_question.ensures c.if-is_question.true in
    record {
      same = scan_question c.args.tokens.now c.args.end c.loop-place.place c.loop-place.asked c.loop-place-test.true q ∙ c.loop-place.invariant.same;
      least = lt_next _ _ c.loop-place.invariant.least;
      most = next_le _ _ c.loop-place-test.true;
      few = next_both _ _ c.loop-place.invariant.few;
    }

pub loop-place-preserved-then-not-is_colon : goal.loop-place-preserved-then-not-is_colon
loop-place-preserved-then-not-is_colon c =
    let q = known is_question _ _ _ _ c.class_at-class.ensures c.is_question.ensures c.if-is_question.false in
    let colon = known is_colon _ _ _ _ c.class_at-class.ensures c.is_colon.ensures c.if-not-is_colon.true in
    record {
      same = scan_other c.args.tokens.now c.args.end c.loop-place.place c.step_over-place.result c.loop-place.asked c.loop-place-test.true q colon c.step_over-place.ensures.same ∙ c.loop-place.invariant.same;
      least = lt_far _ _ _ c.loop-place.invariant.least c.step_over-place.ensures.least;
      most = c.step_over-place.ensures.most;
      few = le_far _ _ _ c.loop-place.invariant.few c.step_over-place.ensures.least;
    }

pub loop-place-preserved : goal.loop-place-preserved
loop-place-preserved c =
    let q = known is_question _ _ _ _ c.class_at-class.ensures c.is_question.ensures c.if-is_question.false in
    let colon = known is_colon _ _ _ _ c.class_at-class.ensures c.is_colon.ensures c.if-not-is_colon.false in
    record {
      same = scan_answer c.args.tokens.now c.args.end c.loop-place.place c.loop-place.asked c.loop-place-test.true q colon (omega (arith, c.if-asked-eq0.false)) ∙ c.loop-place.invariant.same;
      least = lt_next _ _ c.loop-place.invariant.least;
      most = next_le _ _ c.loop-place-test.true;
      few = less_next _ _ c.loop-place.invariant.few;
    }
