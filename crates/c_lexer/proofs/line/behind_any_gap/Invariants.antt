use Rattle.std.proofs.Common.{◌≡◌, ◌+◌, ◌≤◌, ◌||◌, length}
use Rattle.std.specs.List.{prefix_len}
use Rattle.c_chars.specs.Characters.{bytes_of}
use Rattle.c_chars.specs.Coming.{behind}
use Rattle.c_grammar.specs.Grammar.{is_white, is_new_line}
use Rattle.c_grammar.specs.Place.{IsSpanned}
use Rattle.c_lexer.specs.Reading.{new_lines, bytes_in, first_gap}
use Rattle.c_lexer.proofs.line.behind_any_gap.Given as goal

abbrev pub invariant-loop-character : goal.invariant-loop-character
invariant-loop-character l = record {
  spans : IsSpanned l.rest;
  few_lines : l.lines ≤ l.rest.at;
  few_bytes : l.bytes ≤ l.rest.at;
  lines_are : l.lines + new_lines (first_gap l.rest.chars) ≡ new_lines (first_gap l.text.chars);
  bytes_are : l.bytes + bytes_in (first_gap l.rest.chars) ≡ bytes_in (first_gap l.text.chars);
  rest_is : behind l.rest (prefix_len (λ x. is_white x || is_new_line x) (bytes_of l.rest.chars)) ≡ behind l.text (prefix_len (λ x. is_white x || is_new_line x) (bytes_of l.text.chars));
}

abbrev pub decreases-loop-character : goal.decreases-loop-character
decreases-loop-character l = length l.rest.chars
