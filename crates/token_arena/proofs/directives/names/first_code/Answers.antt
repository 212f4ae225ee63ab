use Rattle.std.proofs.Common.{◌∙◌, sym, arith}
use Rattle.token_arena.specs.Entries.{told_by}
use Rattle.token_arena.proofs.Codes.{code_here, code_later}
use Rattle.token_arena.proofs.directives.names.first_code.Goals as goal

pub returns-then-not-is_comment : goal.returns-then-not-is_comment
returns-then-not-is_comment c =
    (omega arith, omega arith, c.loop-at.invariant ∙ code_here c.args.arena.now.tokens c.loop-at.at c.args.end (told_by c.get-token.result) (omega arith) c.get-token.ensures (sym c.is_comment.ensures ∙ c.if-not-is_comment.true))

pub loop-at-preserved : goal.loop-at-preserved
loop-at-preserved c =
    c.loop-at.invariant ∙ code_later c.args.arena.now.tokens c.loop-at.at c.args.end (told_by c.get-token.result) (omega arith) c.get-token.ensures (sym c.is_comment.ensures ∙ c.if-not-is_comment.false)
