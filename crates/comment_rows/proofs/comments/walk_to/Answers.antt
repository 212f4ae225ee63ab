use Rattle.std.proofs.Common.{◌∙◌, ◌+◌, ap, arith}
use Rattle.line_tokens.specs.Columns.{end_of}
use Rattle.comment_rows.specs.Comments.{start_by}
use Rattle.comment_rows.proofs.BehindTokens.{one_behind}
use Rattle.comment_rows.proofs.comments.walk_to.Goals as goal

pub loop-at-preserved : goal.loop-at-preserved
loop-at-preserved c =
    let left = c.token_at-left.result.now in
    let token = c.token_at-token.result.now in
    one_behind c.args.style.now c.args.plan.now c.args.tokens.now c.in_ok-between.between.now c.args.known.place (c.args.place + 1) c.loop-at.at c.loop-at.column c.end_of-column.result left token
    c.in_ok-between.ensures c.token_at-left.ensures c.token_at-token.ensures (omega (arith, c.loop-at-test.true, c.requires.order)) c.loop-at.invariant
    (c.end_of-column.ensures ∙ ap (λ start. end_of token start) (c.start_by-start.ensures ∙ ap (λ slot. start_by c.args.style.now left c.loop-at.column token slot) c.slot.ensures))
