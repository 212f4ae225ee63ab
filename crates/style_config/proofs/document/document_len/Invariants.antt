use Rattle.std.proofs.Common.{◌≡◌, ◌+◌, ◌-◌, ◌≤◌, length, drop}
use Rattle.std.specs.List.{position_or_len}
use Rattle.style_config.specs.Lines.{document_text, is_marker}
use Rattle.style_config.proofs.document.document_len.Given as goal

abbrev pub invariant-loop-at : goal.invariant-loop-at
invariant-loop-at l = (l.at ≤ length l.lines)
    × (l.at + position_or_len (λ line. is_marker line.line) (document_text (drop l.at l.lines)) ≡ position_or_len (λ line. is_marker line.line) (document_text l.lines))

abbrev pub decreases-loop-at : goal.decreases-loop-at
decreases-loop-at l = length l.lines - l.at
