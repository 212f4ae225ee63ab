use Rattle.std.proofs.Common.{◌∙◌, ◌++◌, List, [], ◌∷◌, ap}
use Rattle.token_classes.specs.declared.pairing.Opener.{Opener}
use Rattle.token_classes.specs.declared.class.TokenClass.TheVariants.{OpenBrace}
use Rattle.part_walk.proofs.Waits.{braces_more}
use Rattle.part_walk.proofs.brackets.begin_bodies.Goals as goal

pub loop-preserved : goal.loop-preserved
loop-preserved c =
    c.in_ok-push.ensures.items
    ∙ (ap (λ (os : List Opener). os ++ record { place = 0; kind = OpenBrace } ∷ []) c.loop.invariant ∙ braces_more c.in-Some.place.heads.now c.loop.index c.loop-test.true)
