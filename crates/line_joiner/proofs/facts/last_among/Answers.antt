use Rattle.std.proofs.Common.{◌∙◌, ap, arith, sym}
use Rattle.line_tokens.specs.Tokens.{no_token}
use Rattle.line_joiner.specs.Facts.{is_comment_role}
use Rattle.line_joiner.proofs.Ranges.{before_comment, last_there}
use Rattle.line_joiner.proofs.facts.last_among.Goals as goal

pub returns-then-not-is_comment_role : goal.returns-then-not-is_comment_role
returns-then-not-is_comment_role c =
    let other = ap is_comment_role (sym (c.role-role.ensures no_token)) ∙ (sym c.is_comment_role.ensures ∙ c.if-not-is_comment_role.true) in
    c.role-role.ensures no_token
    ∙ (sym (last_there c.args.tokens.now no_token c.args.first c.loop-at.at (omega (arith, c.loop-at-test.true)) (omega (arith, c.requires.within, c.loop-at.auto.at)) other) ∙ c.loop-at.invariant)

pub loop-at-preserved : goal.loop-at-preserved
loop-at-preserved c =
    let comment = ap is_comment_role (sym (c.role-role.ensures no_token)) ∙ (sym c.is_comment_role.ensures ∙ c.if-not-is_comment_role.false) in
    sym (before_comment c.args.tokens.now no_token c.args.first c.loop-at.at (omega (arith, c.loop-at-test.true)) (omega (arith, c.requires.within, c.loop-at.auto.at)) comment) ∙ c.loop-at.invariant
