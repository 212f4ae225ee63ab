use Rattle.std.proofs.Common.{◌∙◌, ap, sym, arith}
use Rattle.line_tokens.specs.Roles.{is_trailing}
use Rattle.comment_rows.proofs.Others.{others_more}
use Rattle.comment_rows.proofs.trailing.next_trailing.Goals as goal

pub loop-at-preserved : goal.loop-at-preserved
loop-at-preserved c =
    let v = c.loop-at.invariant in
    record {
      later = omega (arith, v.later);
      within = omega (arith, c.loop-at-test.true);
      others = others_more c.args.tokens.now c.args.from c.loop-at.at (λ d. ap (λ r. is_trailing r) (sym (c.role.ensures d)) ∙ (sym c.is_trailing.ensures ∙ c.if-is_trailing.false)) v.others;
    }
