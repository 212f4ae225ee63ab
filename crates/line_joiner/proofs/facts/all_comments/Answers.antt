use Rattle.std.proofs.Common.{◌∙◌, ap, sym}
use Rattle.line_tokens.specs.Tokens.{no_token}
use Rattle.line_joiner.specs.Facts.{is_comment_role}
use Rattle.line_joiner.proofs.Ranges.{behind_comment, no_comment}
use Rattle.line_joiner.proofs.facts.all_comments.Goals as goal

pub returns-then-not-is_comment_role : goal.returns-then-not-is_comment_role
returns-then-not-is_comment_role c =
    let other = ap is_comment_role (sym (c.role.ensures no_token)) ∙ (sym c.is_comment_role.ensures ∙ c.if-not-is_comment_role.true) in
    sym (no_comment c.args.tokens.now no_token c.loop-at.at c.args.end c.loop-at-test.true c.requires other) ∙ c.loop-at.invariant

pub loop-at-preserved : goal.loop-at-preserved
loop-at-preserved c =
    let comment = ap is_comment_role (sym (c.role.ensures no_token)) ∙ (sym c.is_comment_role.ensures ∙ c.if-not-is_comment_role.false) in
    sym (behind_comment c.args.tokens.now no_token c.loop-at.at c.args.end c.loop-at-test.true c.requires comment) ∙ c.loop-at.invariant
