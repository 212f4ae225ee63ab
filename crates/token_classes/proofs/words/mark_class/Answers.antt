use Rattle.std.proofs.Common.{◌∙◌, ◌∷◌, [], arith, ap, refl, get_or}
use Rattle.token_classes.specs.Words.{class_in, punctuators}
use Rattle.token_classes.specs.declared.class.TokenClass.TheVariants.{Other}
use Rattle.token_classes.specs.declared.words.TheConstants.{CLASS_OF_MARK, MARK_CLASSES}
use Rattle.token_classes.proofs.ListedLemmas.{each_below, place_told}
use Rattle.token_classes.proofs.words.mark_class.Goals as goal

pub class_at-requires : goal.class_at-requires
class_at-requires c =
    let few = each_below 21 c.args.mark CLASS_OF_MARK refl in
    omega (arith, few, c.place_of_mark.ensures)

pub returns : goal.returns
returns c =
    c.class_at.ensures
    ∙ (ap (λ place. get_or MARK_CLASSES place Other) c.place_of_mark.ensures
    ∙ place_told (λ b. class_in punctuators (b ∷ []) Other) CLASS_OF_MARK MARK_CLASSES c.args.mark (omega (arith, c.ranges.mark.fits)) refl refl)
