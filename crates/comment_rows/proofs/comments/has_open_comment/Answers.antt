use Rattle.std.proofs.Common.{◌+◌, arith, subst}
use Rattle.std.specs.Prelude.{IsSome}
use Rattle.line_tokens.specs.Tokens.{no_token}
use Rattle.replacements.specs.Decisions.{slot_of}
use Rattle.comment_rows.proofs.Others.{none_open, one_decided}
use Rattle.comment_rows.proofs.comments.has_open_comment.Goals as goal

pub loop-at-init : goal.loop-at-init
loop-at-init c =
    let first = c.next_trailing-at.ensures in
    record {
      within = first.within;
      decided = none_open c.args.plan.now c.args.tokens.now 0 c.next_trailing-at.result (λ i d high. absurd (omega (arith, high))) first.others;
    }

pub is_decided-requires : goal.is_decided-requires
is_decided-requires c = omega (arith, c.id.ensures no_token, c.requires c.loop-at.at no_token (omega (arith, c.loop-at-test.true, c.len.ensures)))

pub loop-at-preserved : goal.loop-at-preserved
loop-at-preserved c =
    let v = c.loop-at.invariant in
    let at = c.loop-at.at in
    let next = c.next_trailing-at-in-loop-at.ensures in
    record {
      within = next.within;
      decided = none_open c.args.plan.now c.args.tokens.now (at + 1) c.next_trailing-at-in-loop-at.result
          (one_decided c.args.plan.now c.args.tokens.now at (λ d. subst (λ n. IsSome (slot_of c.args.plan.now n)) (c.id.ensures d) (c.is_decided.ensures.0 c.if-not-is_decided.false)) v.decided) next.others;
    }
