use Rattle.std.proofs.Common.{◌≡◌, ◌∙◌, sym, subst}
use Rattle.std.specs.Prelude.{Some, None, slice_get}
use Rattle.std.specs.Str.{chars}
use Rattle.c_grammar.proofs.OneChar.{not_utf8, no_first, low_first, more_than_one, one_there}
use Rattle.c_grammar.proofs.utf8.only_char.Goals as goal

pub returns-in_default : goal.returns-in_default
returns-in_default c = not_utf8 c.args.bytes.now c.in_default.ensures.cases.0

pub returns-in_default-next : goal.returns-in_default-next
returns-in_default-next c =
    no_first c.args.bytes.now (subst (λ z. None ≡ slice_get (chars z) 0) (c.chars-chars.ensures.rest ∙ c.in-Ok.ensures.cases.0) c.in_default-next.ensures.steps.2)

pub returns-then-character-lt128 : goal.returns-then-character-lt128
returns-then-character-lt128 c =
    low_first c.args.bytes.now c.in-Some.character (subst (λ z. Some c.in-Some.character ≡ slice_get (chars z) 0) (c.chars-chars.ensures.rest ∙ c.in-Ok.ensures.cases.0) c.in-Some.ensures.steps.2) c.if-character-lt128.true

pub returns-in-Some-next : goal.returns-in-Some-next
returns-in-Some-next c =
    let same = c.chars-chars.ensures.rest ∙ c.in-Ok.ensures.cases.0 in
    more_than_one c.args.bytes.now c.next.new.self.rest.now c.in-Some.character c.in-Some-next.field-0 c.in-Ok.ensures.cases.1 (sym same ∙ c.in-Some.ensures.steps.0)
    (subst (λ z. Some c.in-Some.character ≡ slice_get (chars z) 0) same c.in-Some.ensures.steps.2) c.in-Some-next.ensures.steps.2

pub returns-in-None : goal.returns-in-None
returns-in-None c =
    let same = c.chars-chars.ensures.rest ∙ c.in-Ok.ensures.cases.0 in
    one_there c.args.bytes.now c.next.new.self.rest.now c.in-Some.character c.in-Ok.ensures.cases.1 (sym same ∙ c.in-Some.ensures.steps.0) c.in-None.ensures.steps.0.0 c.if-character-lt128.false
