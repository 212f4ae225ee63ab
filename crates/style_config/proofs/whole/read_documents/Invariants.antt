use Rattle.std.proofs.Common.{◌≡◌, drop}
use Rattle.style_table.specs.Range.{IsInRange}
use Rattle.style_config.specs.Lines.{documents_text}
use Rattle.style_config.specs.Reading.{read_documents}
use Rattle.style_config.proofs.whole.read_documents.Given as goal

abbrev pub invariant-loop-document : goal.invariant-loop-document
invariant-loop-document l = record {
  read : read_documents (record { style = l.style; skipped = l.skipped.items }) (documents_text (drop l.document-index l.documents))
      ≡ read_documents (record { style = l.initial.style; skipped = l.initial.skipped.items }) (documents_text l.documents);
  range : IsInRange l.initial.style → IsInRange l.style;
}
