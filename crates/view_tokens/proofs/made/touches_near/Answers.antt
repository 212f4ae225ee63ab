use Rattle.std.proofs.Common.{◌∙◌, ◌<◌, arith}
use Rattle.token_arena.specs.Entries.{told_by}
use Rattle.view_tokens.proofs.Items.{touched}
use Rattle.view_tokens.proofs.made.touches_near.Goals as goal

pub returns-in-Some : goal.returns-in-Some
returns-in-Some c =
    let some : 0 < c.args.id = omega (arith, c.if-id-eq0.false) in
    c.in-Some.ensures
    ∙ touched c.args.arena.now c.args.id c.dialect.result (told_by c.item_within-left.result) (told_by c.item_within-token.result) some c.dialect.ensures c.item_within-left.ensures.is c.item_within-token.ensures.is
