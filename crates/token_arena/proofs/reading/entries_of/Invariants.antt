use Rattle.std.proofs.Common.{◌≡◌, length}
use Rattle.token_arena.specs.Entries.{comments_kept, kept_by_all}
use Rattle.token_arena.specs.Hashes.{hashes_from}
use Rattle.token_arena.proofs.KeptLemmas.{IsKeptUpTo}
use Rattle.token_arena.proofs.reading.entries_of.Given as goal

abbrev pub invariant-loop-lexeme : goal.invariant-loop-lexeme
invariant-loop-lexeme l = record {
  text_stays : l.lexer.text ≡ l.text;
  dialect_stays : l.lexer.dialect ≡ l.fn.dialect;
  kept : IsKeptUpTo l.fn.dialect l.text l.lexer.left l.entries.items l.lexer.at;
  remarks : l.comments.items ≡ comments_kept 0 l.entries.items;
  marks : l.hashes.items ≡ hashes_from 0 (kept_by_all l.text l.entries.items);
}

abbrev pub decreases-loop-lexeme : goal.decreases-loop-lexeme
decreases-loop-lexeme l = length l.lexer.left.chars
