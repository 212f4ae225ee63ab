use Rattle.std.proofs.Common.{◌∙◌, arith}
use Rattle.style_config.proofs.Documents.{is_for_c_said, is_for_c_unsaid, is_for_c_by_default}
use Rattle.style_config.proofs.document.is_for_c.Goals as goal

pub returns-in-Some : goal.returns-in-Some
returns-in-Some c = c.is_language_of_c.ensures ∙ is_for_c_said c.args.document.now c.loop-line.line-index _ _ _ (omega (arith, c.loop-line-test.true)) c.in-Some.ensures c.loop-line.invariant

pub loop-line-preserved : goal.loop-line-preserved
loop-line-preserved c = is_for_c_unsaid c.args.document.now c.loop-line.line-index _ _ (omega (arith, c.loop-line-test.true)) c.in_default.ensures c.loop-line.invariant

pub returns : goal.returns
returns c = is_for_c_by_default c.args.document.now c.loop-line.line-index _ (omega (arith, c.loop-line-test.false)) c.loop-line.invariant
