use Rattle.std.proofs.Common.{◌∙◌, subst, sym}
use Rattle.c_chars.specs.Coming.{AreBytesPassed}
use Rattle.item_kinds.specs.declared.ItemKind.TheVariants.{Punct}
use Rattle.c_lexer.specs.Cut.{IsCutOff}
use Rattle.c_lexer.specs.Reading.{is_own_byte}
use Rattle.c_lexer.proofs.PlainBytes.{lone_item, none_passed}
use Rattle.c_lexer.proofs.Plains.{lone_off}
use Rattle.c_lexer.proofs.cut.cut_plain.Goals as goal

pub returns-then-is_lone_mark-clause-off : goal.returns-then-is_lone_mark-clause-off
returns-then-is_lone_mark-clause-off c =
    subst (λ z. IsCutOff c.args.begun.now.text z Punct) (sym c.ahead.ensures)
    (lone_off c.args.begun.now.text c.args.begun.now.behind c.args.dialect c.args.begun.now.first c.requires.dialect c.requires.begun (sym c.is_lone_mark.ensures ∙ c.if-is_lone_mark.true))

pub returns-then-is_lone_mark-clause-plain : goal.returns-then-is_lone_mark-clause-plain
returns-then-is_lone_mark-clause-plain c = record {
  first_is = lone_item c.args.begun.now.first.byte (sym c.is_lone_mark.ensures ∙ c.if-is_lone_mark.true);
  rest_are = subst (λ z. AreBytesPassed is_own_byte c.args.begun.now.behind z) (sym c.ahead.ensures) (none_passed is_own_byte c.args.begun.now.behind);
}
