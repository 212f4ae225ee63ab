use Rattle.std.proofs.Common.{◌∙◌, ap, ◌+◌, sym, arith}
use Rattle.line_tokens.specs.Roles.{is_trailing}
use Rattle.comment_rows.proofs.Others.{others_more}
use Rattle.comment_rows.proofs.trailing.are_eight_others.Goals as goal

pub loop-next-preserved : goal.loop-next-preserved
loop-next-preserved c = λ i d low high.
    others_more c.args.tokens.now c.args.first (c.args.first + c.loop-next.next) (λ d. ap (λ r. is_trailing r) (sym (c.role.ensures d)) ∙ (sym c.is_trailing.ensures ∙ c.if-is_trailing.false)) c.loop-next.invariant i d low (omega (arith, high))
