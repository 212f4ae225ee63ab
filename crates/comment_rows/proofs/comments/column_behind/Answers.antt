use Rattle.std.proofs.Common.{◌∙◌, sym}
use Rattle.comment_rows.proofs.BehindTokens.{by_decided}
use Rattle.comment_rows.proofs.comments.column_behind.Goals as goal

pub returns-in-Some : goal.returns-in-Some
returns-in-Some c =
    by_decided c.args.style.now c.args.plan.now c.args.tokens.now c.args.token.now c.in-Some.slot c.args.place c.end_of.result c.requires.token (sym c.slot.ensures ∙ c.in-Some.is) c.end_of.ensures
