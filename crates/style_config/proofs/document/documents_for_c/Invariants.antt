use Rattle.std.proofs.Common.{◌≡◌, ◌≤◌, ◌++◌, ◌+◌, ◌-◌, length, drop}
use Rattle.style_config.specs.Lines.{document_text, documents_text, documents_for_c}
use Rattle.style_config.proofs.document.documents_for_c.Given as goal

abbrev pub invariant-loop-documents : goal.invariant-loop-documents
invariant-loop-documents l = (l.start ≤ length l.lines)
    × (documents_text l.documents.items ++ documents_for_c (document_text (drop l.start l.lines)) ≡ documents_for_c (document_text l.lines))

abbrev pub decreases-loop-documents : goal.decreases-loop-documents
decreases-loop-documents l = (length l.lines + 1) - l.start
