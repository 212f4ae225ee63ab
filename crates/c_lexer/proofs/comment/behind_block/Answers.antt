use Rattle.std.proofs.Common.{◌∙◌, sym}
use Rattle.c_lexer.proofs.Passing.{block_next}
use Rattle.c_lexer.proofs.comment.behind_block.Goals as goal

pub loop-character-preserved : goal.loop-character-preserved
loop-character-preserved c =
    let step = block_next c.loop-character.rest c.next.new.self c.in-Some.character c.loop-character.star c.in-Some.ensures.some.0 c.in-Some.ensures.some.1 c.next.ensures.dialect (sym c.ends_block.ensures ∙ c.if-ends_block.false) in
    let passed = c.pass_within_block-in-Some.ensures in
    (passed.closes ∙ (sym step.0 ∙ c.loop-character.invariant.0), passed.rest ∙ (sym step.1 ∙ c.loop-character.invariant.1))
