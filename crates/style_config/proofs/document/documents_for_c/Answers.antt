use Rattle.std.proofs.Common.{◌≡◌, ◌<◌, ◌-◌, ◌∙◌, ap, arith, refl, length, take, drop, length-drop}
use Rattle.std.proofs.lemmas.List.{take_rest}
use Rattle.style_config.proofs.Marks.{last_document, next_document}
use Rattle.style_config.proofs.document.documents_for_c.Goals as goal

pub returns-then-len-rest : goal.returns-then-len-rest
returns-then-len-rest c =
    last_document c.loop-documents.documents.items _ c.args.lines.now _ _ c.loop-documents.start c.document_len-len.result _ (take_rest c.args.lines.now c.loop-documents.start) refl c.document_len-len.ensures.len c.if-len-rest.true c.loop-documents.invariant.1 c.in_ok-keep_for_c.ensures

pub loop-documents-preserved : goal.loop-documents-preserved
loop-documents-preserved c =
    let all : length (take (length c.args.lines.now - c.loop-documents.start) (drop c.loop-documents.start c.args.lines.now)) ≡ length c.args.lines.now - c.loop-documents.start =
    ap length (take_rest c.args.lines.now c.loop-documents.start) ∙ length-drop c.loop-documents.start c.args.lines.now in
    let within : c.document_len-len.result < length (take (length c.args.lines.now - c.loop-documents.start) (drop c.loop-documents.start c.args.lines.now)) =
    omega (arith, c.document_len-len.ensures.within, c.if-len-rest.false) in (
      omega (arith, within, all, c.loop-documents.invariant.0),
      next_document c.loop-documents.documents.items _ c.args.lines.now _ _ c.loop-documents.start c.document_len-len.result _ (take_rest c.args.lines.now c.loop-documents.start) refl c.document_len-len.ensures.len within c.loop-documents.invariant.1 c.in_ok-keep_for_c.ensures,
    )
