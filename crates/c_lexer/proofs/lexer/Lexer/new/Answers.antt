use Rattle.std.proofs.Common.{sym, ap, subst}
use Rattle.c_lexer.specs.Reading.{AreRaw, AreSlashed}
use Rattle.c_lexer.proofs.Backslashes.{text_slashed}
use Rattle.c_lexer.proofs.PlainBytes.{text_raw}
use Rattle.c_lexer.proofs.lexer.Lexer.new.Goals as goal

pub invariant_of-result : goal.invariant_of-result
invariant_of-result c = (
  record { dialect_is = ap (λ z. z.dialect) c.new.ensures.coming; spans = c.new.ensures.spans },
  subst (AreSlashed c.args.text.now) (sym (ap (λ z. z.chars) c.new.ensures.coming)) (text_slashed c.args.text.now c.args.dialect),
  subst (AreRaw c.args.text.now) (sym (ap (λ z. z.chars) c.new.ensures.coming)) (text_raw c.args.text.now c.args.dialect),
)
