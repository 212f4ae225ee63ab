use Rattle.std.proofs.Common.{◌∙◌, ℕ, ap, arith}
use Rattle.token_classes.specs.Classes.{is_question, is_colon}
use Rattle.statement_lines.specs.Forms.{step_over}
use Rattle.statement_lines.proofs.ColonLemmas.{question_near, question_far, other_at}
use Rattle.statement_lines.proofs.Known.{known}
use Rattle.statement_lines.proofs.colons.colon_from.Goals as goal

pub returns-then-answer-count : goal.returns-then-answer-count
returns-then-answer-count c =
    question_near c.args.tokens.now c.args.colons.now c.args.place c.requires.behind c.requires.here
    (known is_question _ _ _ _ c.class_at-class.ensures c.is_question.ensures c.if-is_question.true) (omega (arith, c.if-answer-count.true, c.count-count.ensures))

pub returns-else-answer-count : goal.returns-else-answer-count
returns-else-answer-count c =
    c.count-count.ensures
    ∙ question_far c.args.tokens.now c.args.colons.now c.args.place c.requires.behind c.requires.here
    (known is_question _ _ _ _ c.class_at-class.ensures c.is_question.ensures c.if-is_question.true) (omega (arith, c.if-answer-count.false, c.count-count.ensures))

pub returns-else-is_colon : goal.returns-else-is_colon
returns-else-is_colon c =
    other_at c.args.tokens.now c.args.colons.now c.args.place c.step_over.result c.requires.behind c.requires.here
    (known is_question _ _ _ _ c.class_at-class.ensures c.is_question.ensures c.if-is_question.false)
    (known is_colon _ _ _ _ c.class_at-class.ensures c.is_colon.ensures c.if-is_colon.false)
    (c.step_over.ensures.same ∙ ap (λ (n : ℕ). step_over c.args.tokens.now n c.args.place) c.count-count.ensures)
