use Rattle.std.proofs.Common.{◌≡◌, length}
use Rattle.pp_items.specs.Reading.{IsReaderOf}
use Rattle.pp_items.proofs.Follows.{IsCutSoFar}
use Rattle.pp_items.proofs.sections.sections_of.Given as goal

abbrev pub invariant-loop-lexeme : goal.invariant-loop-lexeme
invariant-loop-lexeme l = record {
  text_stays : l.lexer.text ≡ l.text;
  dialect_stays : l.lexer.dialect ≡ l.fn.dialect;
  reader : IsReaderOf l.text l.reader;
  chars : l.reader.chars.chars ≡ l.lexer.left.chars;
  cut : IsCutSoFar l.fn.dialect l.text l.lexer.left l.reader.after_comment l.cutter;
}

abbrev pub decreases-loop-lexeme : goal.decreases-loop-lexeme
decreases-loop-lexeme l = length l.lexer.left.chars
