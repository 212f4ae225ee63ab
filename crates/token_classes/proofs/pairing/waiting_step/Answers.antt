use Rattle.std.proofs.Common.{◌∙◌, arith, refl, reverse, sym}
use Rattle.token_classes.specs.Partners.{is_round, is_square}
use Rattle.token_classes.proofs.BracketLemmas.{taken, nearest_low, topmost_low, more, pushed, other_step}
use Rattle.token_classes.proofs.pairing.waiting_step.Goals as goal

pub returns-then-opens-clause-before : goal.returns-then-opens-clause-before
returns-then-opens-clause-before c = pushed c.args.place _ _ _ refl c.in_ok-push_opener.ensures.items c.requires.before

pub returns-in-CloseRound-clause-before : goal.returns-in-CloseRound-clause-before
returns-in-CloseRound-clause-before c =
    more _ _ (taken c.args.place _ _ _ _ (topmost_low is_round c.args.place (reverse c.args.stack.now.items)) c.take_round.ensures.some c.take_round.ensures.same c.requires.before).before

pub returns-in-CloseSquare-clause-before : goal.returns-in-CloseSquare-clause-before
returns-in-CloseSquare-clause-before c =
    more _ _ (taken c.args.place _ _ _ _ (topmost_low is_square c.args.place (reverse c.args.stack.now.items)) c.take_square.ensures.some c.take_square.ensures.same c.requires.before).before

pub returns-in-CloseBrace-clause-opener : goal.returns-in-CloseBrace-clause-opener
returns-in-CloseBrace-clause-opener c =
    (taken c.args.place _ _ _ _ (nearest_low c.args.place (reverse c.args.stack.now.items)) c.take_brace.ensures.some c.take_brace.ensures.same c.requires.before).opener

pub returns-in-CloseBrace-clause-before : goal.returns-in-CloseBrace-clause-before
returns-in-CloseBrace-clause-before c =
    more _ _ (taken c.args.place _ _ _ _ (nearest_low c.args.place (reverse c.args.stack.now.items)) c.take_brace.ensures.some c.take_brace.ensures.same c.requires.before).before

pub returns-in_default : goal.returns-in_default
returns-in_default c = record {
  step = λ partners. other_step c.args.class _ _ (sym c.opens.ensures ∙ c.if-opens.false) c.in_default.not-CloseRound c.in_default.not-CloseSquare c.in_default.not-CloseBrace;
  opener = λ x e. cc;
  count = c.requires.count;
  small = let q = c.requires.small in omega arith;
  before = more _ _ c.requires.before;
}

pub returns-then-not-is_bracket-clause-before : goal.returns-then-not-is_bracket-clause-before
returns-then-not-is_bracket-clause-before c = more _ _ c.requires.before
