use Rattle.std.proofs.Common.{◌∙◌}
use Rattle.token_arena.specs.Entries.{told_by}
use Rattle.view_tokens.proofs.Items.{touched}
use Rattle.view_tokens.proofs.made.touches_any.Goals as goal

pub returns : goal.returns
returns c =
    c.may_touch.ensures
    ∙ touched c.args.arena.now c.args.id c.dialect.result (told_by c.item_within-left.result) (told_by c.item_within-token.result) c.requires.some c.dialect.ensures c.item_within-left.ensures.is c.item_within-token.ensures.is
