use Rattle.std.proofs.Common.{false, sym, take, subst, arith}
use Rattle.c_grammar.specs.Place.{IsSpanned}
use Rattle.c_lexer.specs.Reading.{ends_in_backslash}
use Rattle.c_lexer.proofs.Backslashes.{IsWalked, walk_begun, walk_step, walk_done}
use Rattle.c_lexer.proofs.Gaps.{one_on}
use Rattle.c_lexer.proofs.lexer.ends_in_backslash.Goals as goal

pub loop-ahead-init : goal.loop-ahead-init
loop-ahead-init c = record {
  spans = subst IsSpanned (sym c.ahead-ahead.ensures) c.requires;
  walked = λ n within e. subst (λ x. IsWalked x c.args.left.now false (ends_in_backslash (take n c.args.chars.now.chars))) (sym c.ahead-ahead.ensures) (walk_begun c.args.chars.now c.args.left.now n within e);
}

pub loop-ahead-preserved : goal.loop-ahead-preserved
loop-ahead-preserved c =
    let some = c.in-Some.ensures.some in
    record {
      spans = (one_on c.loop-ahead.ahead c.next.new.self c.in-Some.character some.0 some.1 c.loop-ahead.invariant.spans).spans;
      walked = λ n within e. walk_step c.loop-ahead.ahead c.next.new.self c.args.left.now c.in-Some.character c.loop-ahead.back _ some.0 some.1 c.in-Some.ensures.dialect (omega (arith, c.loop-ahead-test.true, c.at.ensures, c.at-in-loop-ahead.ensures)) (c.loop-ahead.invariant.walked n within e);
    }

pub returns-after-loop-ahead : goal.returns-after-loop-ahead
returns-after-loop-ahead c = λ n within e. walk_done c.loop-ahead.ahead c.args.left.now c.loop-ahead.back _ c.loop-ahead.invariant.spans (omega (arith, c.loop-ahead-test.false, c.at.ensures, c.at-in-loop-ahead.ensures)) (c.loop-ahead.invariant.walked n within e)
