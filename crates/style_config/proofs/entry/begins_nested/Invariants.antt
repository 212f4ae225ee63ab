use Rattle.std.proofs.Common.{◌≡◌, drop}
use Rattle.style_config.specs.Entries.{begins_nested}
use Rattle.style_config.specs.Lines.{document_text}
use Rattle.style_config.proofs.entry.begins_nested.Given as goal

abbrev pub invariant-loop-line : goal.invariant-loop-line
invariant-loop-line l = begins_nested (document_text (drop l.line-index l.lines)) ≡ begins_nested (document_text l.lines)
