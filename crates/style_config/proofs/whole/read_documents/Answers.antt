use Rattle.std.proofs.Common.{arith}
use Rattle.std.proofs.lemmas.Result.{err_from_is_err_and}
use Rattle.style_config.proofs.Effects.{Gives_fault, document_was_read, document_is_at_fault, documents_were_read}
use Rattle.style_config.proofs.whole.read_documents.Goals as goal

pub returns-in_err-style-clause-read : goal.returns-in_err-style-clause-read
returns-in_err-style-clause-read c =
    let p = err_from_is_err_and c.from_residual.result c.from_residual.ensures.1 in
    rw (p.1, p.2) (Gives_fault _ _ _ _ _ c.in_err-style.ensures.read
    (document_is_at_fault _ c.args.documents.now c.loop-document.document-index _ _ _ (omega (arith, c.loop-document-test.true)) c.loop-document.invariant.read))

pub loop-document-preserved : goal.loop-document-preserved
loop-document-preserved c = record {
  read = document_was_read _ _ c.args.documents.now c.loop-document.document-index _ _ (omega (arith, c.loop-document-test.true)) c.in_ok-style.ensures.read c.loop-document.invariant.read;
  range = λ before. c.in_ok-style.ensures.range (c.loop-document.invariant.range before);
}

pub returns-clause-read : goal.returns-clause-read
returns-clause-read c = documents_were_read _ c.args.documents.now c.loop-document.document-index _ (omega (arith, c.loop-document-test.false)) c.loop-document.invariant.read
