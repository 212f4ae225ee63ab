use Rattle.std.proofs.Common.{◌≡◌, arith, length}
use Rattle.statement_lines.proofs.TurnLemmas.{all_read, at_start, less_left, stands_within}
use Rattle.statement_lines.proofs.tree.tree_lines.Goals as goal

pub loop-opened-init : goal.loop-opened-init
loop-opened-init c = at_start _ _ _ _ _ _ c.within-out.ensures c.in_ok-stack.ensures.items c.whole_file.ensures c.in_ok-push_open.ensures.items

pub turn-requires-clause-stands : goal.turn-requires-clause-stands
turn-requires-clause-stands c = stands_within _ _ _ _ _ _ _ _ c.in-Some.ensures.items c.loop-opened.invariant

pub loop-opened-smaller : goal.loop-opened-smaller
loop-opened-smaller c = less_left _ _ _ _ _ c.in-Some.ensures.items c.in_ok-place.ensures.up

pub loop-opened-preserved : goal.loop-opened-preserved
loop-opened-preserved c = c.in_ok-place.ensures.stands

pub returns-clause-same : goal.returns-clause-same
returns-clause-same c =
    let none : length c.loop-opened.stack.items ≡ 0 = omega (arith, c.in_default.ensures.cases.0, c.loop-opened.stack.ok.0) in
    all_read _ _ _ _ _ _ none c.loop-opened.invariant
