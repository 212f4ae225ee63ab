use Rattle.std.proofs.Common.{◌≡◌, ◌≤◌, ◌-◌, drop, length, []}
use Rattle.style_table.specs.Range.{IsInRange}
use Rattle.style_config.specs.Lines.{document_text}
use Rattle.style_config.specs.Entries.{items_from, items_of}
use Rattle.style_config.specs.Reading.{read_items, key_paths}
use Rattle.style_config.proofs.whole.read_document.Given as goal

abbrev pub invariant-loop-at : goal.invariant-loop-at
invariant-loop-at l = record {
  within : l.at ≤ length l.document;
  read : read_items (key_paths l.seen) (record { style = l.style; skipped = l.skipped.items }) (items_from l.owner (document_text (drop l.at l.document)))
      ≡ read_items [] (record { style = l.initial.style; skipped = l.initial.skipped.items }) (items_of (document_text l.document));
  range : IsInRange l.initial.style → IsInRange l.style;
}

abbrev pub decreases-loop-at : goal.decreases-loop-at
decreases-loop-at l = length l.document - l.at
