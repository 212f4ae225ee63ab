use Rattle.std.proofs.Common.{◌≡◌, drop}
use Rattle.style_config.specs.Lines.{document_text, is_for_c}
use Rattle.style_config.proofs.document.is_for_c.Given as goal

abbrev pub invariant-loop-line : goal.invariant-loop-line
invariant-loop-line l = is_for_c (document_text (drop l.line-index l.document)) ≡ is_for_c (document_text l.document)
