use Rattle.std.proofs.Common.{◌≡◌, ◌∙◌, ◌+◌, ◌<◌, ◌++◌, List, ap, arith, get_or, length, sym}
use Rattle.std.proofs.lemmas.Bool.{eqb-false}
use Rattle.line_tokens.specs.Columns.{end_of}
use Rattle.line_tokens.specs.Tokens.{no_token}
use Rattle.comment_rows.specs.Comments.{first_start}
use Rattle.comment_rows.specs.declared.comments.Comment.{Comment}
use Rattle.comment_rows.proofs.BehindTokens.{comments_begun, comments_from, found_more, none_between}
use Rattle.comment_rows.proofs.comments.comments_in.Goals as goal

pub loop-at-init : goal.loop-at-init
loop-at-init c =
    let style = c.args.style.now in
    let plan = c.args.plan.now in
    let tokens = c.args.tokens.now in
    let token = c.at-first.result in
    let first = c.next_trailing-at.ensures in
    let at = c.next_trailing-at.result in
    let same : get_or tokens 0 no_token ≡ token = sym (c.at-first.ensures no_token) in
    let some : 0 < length tokens = omega (arith, eqb-false (length tokens) 0 (sym c.is_empty.ensures ∙ c.if-is_empty.false)) in
    record {
      from = first.later;
      within = first.within;
      found = first.found;
      order = omega (arith, first.later);
      known = rw same (c.end_of.ensures ∙ ap (λ start. end_of token start) (c.first_start.ensures ∙ ap first_start c.slot.ensures));
      kept = ap (λ (items : List Comment). items ++ comments_from style plan tokens at) c.new-comments.ensures.items
          ∙ (none_between style plan tokens 1 at (omega arith) first.later first.within first.others ∙ comments_begun style plan tokens some);
    }

pub loop-at-preserved : goal.loop-at-preserved
loop-at-preserved c =
    let style = c.args.style.now in
    let plan = c.args.plan.now in
    let tokens = c.args.tokens.now in
    let v = c.loop-at.invariant in
    let at = c.loop-at.at in
    let made = c.in_ok-comment.ensures in
    let next = c.next_trailing-at-in-loop-at.ensures in
    let on = c.next_trailing-at-in-loop-at.result in
    let below : at < length tokens = omega (arith, c.loop-at-test.true, c.len.ensures) in
    let items : List Comment = c.push.new.self.items in
    record {
      from = omega (arith, v.from, next.later);
      within = next.within;
      found = next.found;
      order = omega (arith, made.order, next.later);
      known = made.known;
      kept = ap (λ (later : List Comment). items ++ later) (none_between style plan tokens (at + 1) on (omega arith) next.later next.within next.others)
          ∙ (found_more style plan tokens at c.loop-at.comments.items items c.in_ok-comment.comment v.from below (v.found below no_token) made.comment c.in_ok-push.ensures.items ∙ v.kept);
    }
