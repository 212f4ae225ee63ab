use Rattle.std.proofs.Common.{◌≡◌, Bool, subst, sym}
use Rattle.c_chars.specs.Characters.{bytes_of, is_comment_byte}
use Rattle.c_chars.specs.Coming.{behind}
use Rattle.c_lexer.specs.Comment.{closes_block, block_len}
use Rattle.c_lexer.proofs.Passing.{passed_block, fewer_left}
use Rattle.c_lexer.proofs.comment.pass_within_block.Goals as goal

pub returns-then-not-star-clause-closes : goal.returns-then-not-star-clause-closes
returns-then-not-star-clause-closes c =
    subst (λ (b : Bool). closes_block b (bytes_of c.pass_comment.new.self.chars) ≡ closes_block b (bytes_of c.args.chars.now.chars)) (sym c.if-not-star.true)
    (passed_block c.args.chars.now c.pass_comment.new.self c.pass_comment.ensures).0

pub returns-then-not-star-clause-rest : goal.returns-then-not-star-clause-rest
returns-then-not-star-clause-rest c =
    subst
    (λ (b : Bool). behind c.pass_comment.new.self (block_len b (bytes_of c.pass_comment.new.self.chars)) ≡ behind c.args.chars.now (block_len b (bytes_of c.args.chars.now.chars)))
    (sym c.if-not-star.true) (passed_block c.args.chars.now c.pass_comment.new.self c.pass_comment.ensures).1

pub returns-then-not-star-clause-fewer : goal.returns-then-not-star-clause-fewer
returns-then-not-star-clause-fewer c = fewer_left is_comment_byte c.args.chars.now c.pass_comment.new.self c.pass_comment.ensures
