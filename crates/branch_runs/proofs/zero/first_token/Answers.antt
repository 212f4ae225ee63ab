use Rattle.std.proofs.Common.{arith, ◌∙◌}
use Rattle.token_arena.specs.Entries.{told_by}
use Rattle.branch_runs.proofs.ZeroLemmas.{token_here, comment_here}
use Rattle.branch_runs.proofs.zero.first_token.Goals as goal

pub returns-then-not-is_comment : goal.returns-then-not-is_comment
returns-then-not-is_comment c = record {
  after = c.loop-at.auto.at;
  within = c.loop-at-test.true;
  rest =
      c.loop-at.invariant
      ∙ token_here c.args.arena.now.tokens c.loop-at.at c.args.end (told_by c.get-token.result) c.loop-at-test.true c.get-token.ensures (grind (arith, c.if-not-is_comment.true, c.is_comment.ensures));
}

pub loop-at-preserved : goal.loop-at-preserved
loop-at-preserved c =
    c.loop-at.invariant
    ∙ comment_here c.args.arena.now.tokens c.loop-at.at c.args.end (told_by c.get-token.result) c.loop-at-test.true c.get-token.ensures (grind (arith, c.if-not-is_comment.false, c.is_comment.ensures))
