use Rattle.std.proofs.Common.{◌∙◌, arith, sym}
use Rattle.token_classes.specs.declared.class.TokenClass.TheVariants.{If}
use Rattle.view_parts.proofs.OpenGroups.{flat_closes}
use Rattle.view_parts.proofs.groups.flat_group_len.Goals as goal

pub returns-clause-closes : goal.returns-clause-closes
returns-clause-closes c =
    flat_closes c.args.opener c.args.classes.now c.quiet_len-next.result If (omega (arith, c.if-next-most.false, c.requires.most)) c.quiet_len-next.ensures.quiet (sym c.closes_group.ensures ∙ c.if-not-closes_group.false)
