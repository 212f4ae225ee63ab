use Rattle.std.proofs.Common.{◌∙◌, refl, arith, ap, sym}
use Rattle.token_classes.specs.Words.{class_in, punctuators}
use Rattle.token_classes.specs.declared.class.TokenClass.TheVariants.{Other}
use Rattle.item_classes.proofs.Spellings.{reads_itself, reads_one}
use Rattle.item_classes.proofs.viewed.class_of_punctuator.Goals as goal

pub returns-in-len1 : goal.returns-in-len1
returns-in-len1 c =
    let alone = reads_one c.args.dialect c.args.raw.now _ (omega (arith, c.in-len1.len_at_least)) (omega (arith, c.in-len1.len_below)) refl in
    c.mark_class.ensures ∙ ap (λ s. class_in punctuators s Other) (sym alone)

pub returns-then-itself : goal.returns-then-itself
returns-then-itself c = c.punctuator_class.ensures ∙ ap (λ s. class_in punctuators s Other) (sym (reads_itself c.args.dialect c.args.raw.now (c.requires c.if-itself.true)))
