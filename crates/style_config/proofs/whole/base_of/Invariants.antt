use Rattle.std.proofs.Common.{◌≡◌, drop}
use Rattle.style_table.specs.Range.{IsInRange}
use Rattle.style_config.specs.Lines.{documents_text, base_of}
use Rattle.style_config.proofs.whole.base_of.Given as goal

abbrev pub invariant-loop-document : goal.invariant-loop-document
invariant-loop-document l = record {
  base : base_of l.style (documents_text (drop l.document-index l.documents)) ≡ base_of l.initial.style (documents_text l.documents);
  range : IsInRange l.initial.style → IsInRange l.style;
}
