use Rattle.std.proofs.lemmas.Bool.{ne_eqb}
use Rattle.c_lexer.proofs.Passing.{passed_line, fewer_words}
use Rattle.c_lexer.proofs.comment.pass_within_line.Goals as goal

pub returns-then-last-ne92-clause-rest : goal.returns-then-last-ne92-clause-rest
returns-then-last-ne92-clause-rest c = passed_line c.args.last c.args.chars.now c.pass_words.new.self (ne_eqb c.args.last 92 c.if-last-ne92.true) c.pass_words.ensures

pub returns-then-last-ne92-clause-fewer : goal.returns-then-last-ne92-clause-fewer
returns-then-last-ne92-clause-fewer c = fewer_words c.args.chars.now c.pass_words.new.self c.pass_words.ensures
