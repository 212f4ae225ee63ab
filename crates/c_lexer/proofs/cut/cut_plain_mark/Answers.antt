use Rattle.std.proofs.Common.{◌∙◌, ◌+◌, ap, subst, sym}
use Rattle.std.specs.Prelude.{slice_get}
use Rattle.c_chars.specs.Coming.{AreBytesPassed, behind}
use Rattle.item_kinds.specs.declared.ItemKind.TheVariants.{Punct}
use Rattle.c_lexer.specs.Cut.{IsCutOff}
use Rattle.c_lexer.specs.Reading.{is_own_byte}
use Rattle.c_lexer.proofs.PlainBytes.{long_mark, mark_item, next_one, none_passed, second_item}
use Rattle.c_lexer.proofs.Plains.{alone_off, ended_off, pair_off}
use Rattle.c_lexer.proofs.cut.cut_plain_mark.Goals as goal

pub returns-then-is_pair-clause-off : goal.returns-then-is_pair-clause-off
returns-then-is_pair-clause-off c =
    pair_off c.args.begun.now.text c.args.begun.now.behind c.behind.result c.args.dialect c.args.begun.now.first c.in-Some.second c.requires.dialect c.requires.begun
    (sym (ap (λ z. slice_get z.chars 0) c.ahead-left.ensures) ∙ c.in-Some.ensures.some) (long_mark c.args.begun.now.first.byte (sym c.begins_long.ensures ∙ c.if-not-begins_long.false)) (sym c.is_pair.ensures ∙ c.if-is_pair.true)
    (c.behind.ensures ∙ ap (λ z. behind z 1) c.ahead-left.ensures)

pub returns-then-is_pair-clause-plain : goal.returns-then-is_pair-clause-plain
returns-then-is_pair-clause-plain c =
    let at_is = ap (λ z. z.at) c.ahead-left.ensures in
    record {
      first_is = mark_item c.args.begun.now.first.byte (sym c.begins_long.ensures ∙ c.if-not-begins_long.false);
      rest_are = next_one is_own_byte c.args.begun.now.behind c.behind.result c.in-Some.second (sym (ap (λ z. slice_get z.chars 0) c.ahead-left.ensures) ∙ c.in-Some.ensures.some)
          (c.in-Some.ensures.plain.0 ∙ at_is) (c.in-Some.ensures.plain.1 ∙ ap (λ k. k + 1) at_is)
          (second_item c.args.begun.now.first.byte c.in-Some.second.byte (sym c.is_pair.ensures ∙ c.if-is_pair.true)) (c.behind.ensures ∙ ap (λ z. behind z 1) c.ahead-left.ensures);
    }

pub returns-then-ends_mark-clause-off : goal.returns-then-ends_mark-clause-off
returns-then-ends_mark-clause-off c =
    subst (λ z. IsCutOff c.args.begun.now.text z Punct) (sym c.ahead-left.ensures)
    (ended_off c.args.begun.now.text c.args.begun.now.behind c.args.dialect c.args.begun.now.first c.in-Some.second c.requires.dialect c.requires.begun
    (sym (ap (λ z. slice_get z.chars 0) c.ahead-left.ensures) ∙ c.in-Some.ensures.some) (long_mark c.args.begun.now.first.byte (sym c.begins_long.ensures ∙ c.if-not-begins_long.false)) (sym c.ends_mark.ensures ∙ c.if-ends_mark.true))

pub returns-then-ends_mark-clause-plain : goal.returns-then-ends_mark-clause-plain
returns-then-ends_mark-clause-plain c = record {
  first_is = mark_item c.args.begun.now.first.byte (sym c.begins_long.ensures ∙ c.if-not-begins_long.false);
  rest_are = subst (λ z. AreBytesPassed is_own_byte c.args.begun.now.behind z) (sym c.ahead-left.ensures) (none_passed is_own_byte c.args.begun.now.behind);
}

pub returns-then-is_shift-clause-off : goal.returns-then-is_shift-clause-off
returns-then-is_shift-clause-off c = c.cut_plain_shift.ensures.off

pub returns-then-is_alone-clause-off : goal.returns-then-is_alone-clause-off
returns-then-is_alone-clause-off c =
    subst (λ z. IsCutOff c.args.begun.now.text z Punct) (sym c.ahead-left.ensures)
    (alone_off c.args.begun.now.text c.args.begun.now.behind c.args.dialect c.args.begun.now.first c.in-Some.second c.requires.dialect c.requires.begun
    (sym (ap (λ z. slice_get z.chars 0) c.ahead-left.ensures) ∙ c.in-Some.ensures.some) (long_mark c.args.begun.now.first.byte (sym c.begins_long.ensures ∙ c.if-not-begins_long.false)) (sym c.is_alone.ensures ∙ c.if-is_alone.true))

pub returns-then-is_alone-clause-plain : goal.returns-then-is_alone-clause-plain
returns-then-is_alone-clause-plain c = record {
  first_is = mark_item c.args.begun.now.first.byte (sym c.begins_long.ensures ∙ c.if-not-begins_long.false);
  rest_are = subst (λ z. AreBytesPassed is_own_byte c.args.begun.now.behind z) (sym c.ahead-left.ensures) (none_passed is_own_byte c.args.begun.now.behind);
}
