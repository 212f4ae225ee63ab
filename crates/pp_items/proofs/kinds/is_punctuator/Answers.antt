use Rattle.std.proofs.Common.{◌∙◌, ◌||◌, sym, ap}
use Rattle.std.specs.List.{list_any}
use Rattle.c_grammar.specs.Grammar.{is_punctuator, punctuators, common_punctuators, is_same}
use Rattle.pp_items.proofs.kinds.is_punctuator.Goals as goal

pub returns-in-C11 : goal.returns-in-C11
unfolding is_punctuator punctuators
returns-in-C11 c = c.is_in.ensures ∙ ap (λ d. is_punctuator d c.args.text.now) (sym c.in-C11.is)

pub returns-else-is_spelled : goal.returns-else-is_spelled
unfolding is_punctuator punctuators
returns-else-is_spelled c =
    c.is_in-else-is_spelled.ensures
    ∙ (ap (λ b. b || list_any (is_same c.args.text.now) common_punctuators) (sym (sym c.is_spelled.ensures ∙ c.if-is_spelled.false)) ∙ ap (λ d. is_punctuator d c.args.text.now) (sym c.in-C23.is))
