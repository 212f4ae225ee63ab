use Rattle.std.proofs.Common.{arith}
use Rattle.style_config.proofs.Effects.{base_of_document, base_of_all}
use Rattle.style_config.proofs.whole.base_of.Goals as goal

pub loop-document-preserved : goal.loop-document-preserved
loop-document-preserved c = record {
  base = base_of_document _ _ _ c.args.documents.now c.loop-document.document-index _ (omega (arith, c.loop-document-test.true)) c.base_after-style.ensures.style c.loop-document.invariant.base;
  range = λ before. c.base_after-style.ensures.range (c.loop-document.invariant.range before);
}

pub returns-clause-style : goal.returns-clause-style
returns-clause-style c = base_of_all _ _ c.args.documents.now c.loop-document.document-index (omega (arith, c.loop-document-test.false)) c.loop-document.invariant.base
