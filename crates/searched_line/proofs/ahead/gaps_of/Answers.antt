use Rattle.std.proofs.Common.{◌+◌, ◌-◌, List, length, arith, sym, subst}
use Rattle.searched_line.specs.Ahead.{HaveStretches}
use Rattle.searched_line.specs.Rules.{HaveGaps}
use Rattle.searched_line.specs.Searched.{line_of}
use Rattle.searched_line.specs.declared.ahead.GapAhead.{GapAhead}
use Rattle.searched_line.specs.declared.ahead.Stretch.{Stretch}
use Rattle.searched_line.proofs.AheadTable.{AreStretched, first_stretched, one_more_stretched, all_stretched}
use Rattle.searched_line.proofs.Ruling.{none_told, one_more_told, all_told}
use Rattle.searched_line.proofs.ahead.gaps_of.Goals as goal

pub loop-left-init : goal.loop-left-init
loop-left-init c = record {
  stretched = λ column. first_stretched (line_of c.args.style.now column c.args.tokens.now c.args.fixed.now) _ _ _ _ c.in_ok-gaps.ensures.items c.no_gap.ensures c.no_stretch-next.ensures c.push_reserved.ensures.items;
  told = none_told _ _ _ _ _ _ c.in_ok-gaps.ensures.items c.push_reserved.ensures.items;
  room = omega (arith, c.in_ok-gaps.ensures.capacity, c.push_reserved.ensures.capacity);
}

pub loop-left-preserved : goal.loop-left-preserved
loop-left-preserved c = record {
  stretched = λ column. subst (λ (next : Stretch). AreStretched (line_of c.args.style.now column c.args.tokens.now c.args.fixed.now) c.push_reserved-in-loop-left.new.self.items next (c.loop-left.left + 1)) (sym c.stretch-next.ensures)
      (one_more_stretched (line_of c.args.style.now column c.args.tokens.now c.args.fixed.now) _ _ c.loop-left.left (length c.args.tokens.now - 1 - c.loop-left.left) _ _ _ _ _ (c.loop-left.invariant.stretched column) (omega arith) (omega (arith, c.loop-left-test.true)) (omega (arith, c.loop-left-test.true, c.requires.some)) c.gap_ahead-gap.ensures.gap.rules
      c.token_at-beside.ensures c.token_at-token.ensures c.decision_of.ensures c.gap_ahead-gap.ensures.stretch c.push_reserved-in-loop-left.ensures.items);
  told = one_more_told _ _ _ _ _ c.loop-left.left (length c.args.tokens.now - 1 - c.loop-left.left) _ _ _ _ c.loop-left.invariant.told (omega arith) (omega (arith, c.loop-left-test.true)) (omega (arith, c.loop-left-test.true, c.requires.some)) c.token_at-beside.ensures c.token_at-token.ensures c.decision_of.ensures c.gap_ahead-gap.ensures.gap c.push_reserved-in-loop-left.ensures.items;
  room = omega (arith, c.loop-left.invariant.room, c.push_reserved-in-loop-left.ensures.capacity);
}

pub returns-clause-gaps : goal.returns-clause-gaps
returns-clause-gaps c =
    let told : HaveGaps c.args.style.now c.args.tokens.now c.args.fixed.now _ = all_told _ _ _ _ _ _ c.loop-left.left c.loop-left.invariant.told (omega (arith, c.loop-left-test.false, c.loop-left.auto.left-end, c.requires.some)) c.push_reserved-2.ensures.items in
    subst (λ (gaps : List GapAhead). HaveGaps c.args.style.now c.args.tokens.now c.args.fixed.now gaps) (sym c.into_bump_slice.ensures) told

pub returns-clause-stretches : goal.returns-clause-stretches
returns-clause-stretches c = λ column.
    let made : HaveStretches (line_of c.args.style.now column c.args.tokens.now c.args.fixed.now) _ = all_stretched (line_of c.args.style.now column c.args.tokens.now c.args.fixed.now) _ _ _ _ c.loop-left.left (c.loop-left.invariant.stretched column) (omega (arith, c.loop-left-test.false, c.loop-left.auto.left-end, c.requires.some)) c.no_gap-2.ensures c.push_reserved-2.ensures.items in
    subst (λ (gaps : List GapAhead). HaveStretches (line_of c.args.style.now column c.args.tokens.now c.args.fixed.now) gaps) (sym c.into_bump_slice.ensures) made
