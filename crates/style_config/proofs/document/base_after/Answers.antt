use Rattle.std.proofs.Common.{arith}
use Rattle.style_config.proofs.Documents.{base_after_line, base_after_all}
use Rattle.style_config.proofs.document.base_after.Goals as goal

pub loop-line-preserved : goal.loop-line-preserved
loop-line-preserved c = record {
  base = base_after_line _ _ _ c.args.document.now c.loop-line.line-index _ _ (omega (arith, c.loop-line-test.true)) c.value_at.ensures c.based_on-style.ensures.style c.loop-line.invariant.base;
  range = λ before. c.based_on-style.ensures.range (c.loop-line.invariant.range before);
}

pub returns-clause-style : goal.returns-clause-style
returns-clause-style c = base_after_all _ _ c.args.document.now c.loop-line.line-index (omega (arith, c.loop-line-test.false)) c.loop-line.invariant.base
