use Rattle.std.proofs.Common.{◌∙◌, refl, sym}
use Rattle.token_classes.specs.declared.class.TokenClass.TheVariants.{OpenBrace}
use Rattle.part_walk.proofs.Heads.{opened_so}
use Rattle.part_walk.proofs.bodies.opened_head.Goals as goal

pub returns : goal.returns
returns c =
    let kind_is = sym c.body_kind.ensures ∙ c.in_ok-kind.was in
    opened_so c.args.walk.now c.args.around c.args.bodies.now c.args.id.0 OpenBrace c.in_ok-kind.kind _ _ _ refl kind_is c.begun_before-begun.ensures c.heads_len.ensures c.head_from.ensures
