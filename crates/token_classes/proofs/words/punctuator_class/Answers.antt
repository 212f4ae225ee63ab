use Rattle.std.proofs.Common.{◌∙◌, ℕ, length, get_or, refl}
use Rattle.token_classes.specs.declared.class.TokenClass.TheVariants.{Other}
use Rattle.token_classes.proofs.WordLemmas.{some_first, mark_class_begins}
use Rattle.token_classes.proofs.words.punctuator_class.Goals as goal

pub returns : goal.returns
returns c =
    let spelled = c.args.spelled.now in
    let first : ℕ = get_or spelled 0 0 in
    c.listed_mark.ensures
    ∙ mark_class_begins first spelled Other (some_first (length spelled) c.is_empty.result c.is_empty.ensures c.if-is_empty.false) refl
