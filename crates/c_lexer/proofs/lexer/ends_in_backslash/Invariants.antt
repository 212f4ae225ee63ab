use Rattle.std.proofs.Common.{◌≡◌, ◌≤◌, ℕ, length, take}
use Rattle.c_chars.specs.Coming.{behind}
use Rattle.c_grammar.specs.Place.{IsSpanned}
use Rattle.c_lexer.specs.Reading.{ends_in_backslash}
use Rattle.c_lexer.proofs.Backslashes.{IsWalked}
use Rattle.c_lexer.proofs.lexer.ends_in_backslash.Given as goal

abbrev pub invariant-loop-ahead : goal.invariant-loop-ahead
invariant-loop-ahead l = record {
  spans : IsSpanned l.ahead;
  walked : (n : ℕ) → n ≤ length l.chars.chars → l.left ≡ behind l.chars n → IsWalked l.ahead l.left l.back (ends_in_backslash (take n l.chars.chars));
}

abbrev pub decreases-loop-ahead : goal.decreases-loop-ahead
decreases-loop-ahead l = length l.ahead.chars
