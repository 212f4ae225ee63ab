use Rattle.std.proofs.Common.{◌∙◌, not, ap}
use Rattle.layout_tables.specs.Spaces.{one_if}
use Rattle.layout_tables.proofs.Groups.{groups_tell}
use Rattle.layout_tables.proofs.spacing.RowBlanks.of.Goals as goal

pub returns : goal.returns
returns c =
    groups_tell c.args.style.now c.one_if.result c.one_if-2.result c.one_if-3.result c.one_if-4.result c.one_if-5.result
    (λ h. c.one_if.ensures)
    (λ h. c.one_if-2.ensures ∙ ap (λ b. one_if (not b)) c.is_never.ensures)
    (λ h. c.one_if-3.ensures ∙ ap one_if c.is_always.ensures)
    (λ h. c.one_if-4.ensures)
    (λ h. c.one_if-5.ensures ∙ ap (λ b. one_if (not b)) c.is_right.ensures)
