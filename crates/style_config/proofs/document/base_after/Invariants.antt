use Rattle.std.proofs.Common.{◌≡◌, drop}
use Rattle.style_table.specs.Range.{IsInRange}
use Rattle.style_config.specs.Lines.{document_text, base_after}
use Rattle.style_config.proofs.document.base_after.Given as goal

abbrev pub invariant-loop-line : goal.invariant-loop-line
invariant-loop-line l = record {
  base : base_after l.style (document_text (drop l.line-index l.document)) ≡ base_after l.initial.style (document_text l.document);
  range : IsInRange l.initial.style → IsInRange l.style;
}
