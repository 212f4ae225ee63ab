use Rattle.std.proofs.Common.{◌≡◌, length}
use Rattle.std.specs.List.{list_any}
use Rattle.c_chars.specs.Characters.{bytes_of}
use Rattle.c_grammar.specs.Grammar.{is_new_line}
use Rattle.c_grammar.specs.Rewritten.{read_alone}
use Rattle.replacements.proofs.reading.has_new_line.Given as goal

abbrev pub invariant-loop-character : goal.invariant-loop-character
invariant-loop-character l = list_any is_new_line (bytes_of l.chars.chars) ≡ list_any is_new_line (read_alone l.fn.dialect l.fn.gap)

abbrev pub decreases-loop-character : goal.decreases-loop-character
decreases-loop-character l = length l.chars.chars
