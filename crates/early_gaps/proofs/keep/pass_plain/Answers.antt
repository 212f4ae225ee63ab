use Rattle.std.proofs.Common.{◌≡◌, ◌<◌, arith, subst}
use Rattle.early_gaps.specs.Kept.{IsBehind}
use Rattle.early_gaps.proofs.Staying.{one_passed, passed_up_to}
use Rattle.early_gaps.proofs.keep.pass_plain.Goals as goal

pub loop-at-preserved : goal.loop-at-preserved
loop-at-preserved c =
    let v = c.loop-at.invariant in
    record {
      later = omega (arith, v.later);
      within = omega (arith, c.loop-at-test.true, c.len-count.ensures.count);
      passed = one_passed c.args.arena.now c.args.frozen.now c.args.place c.loop-at.at _ c.is_marked.ensures v.passed (c.passes.ensures c.if-not-passes.false);
    }

pub returns-then-not-passes-clause-behind : goal.returns-then-not-passes-clause-behind
returns-then-not-passes-clause-behind c =
    let v = c.loop-at.invariant in
    (passed_up_to c.args.arena.now c.args.frozen.now c.args.place c.loop-at.at c.args.behind v.later (c.is_plain.ensures c.if-not-is_plain.false) c.requires.behind v.passed).0

pub returns-then-not-passes-clause-none : goal.returns-then-not-passes-clause-none
returns-then-not-passes-clause-none c =
    let v = c.loop-at.invariant in
    (passed_up_to c.args.arena.now c.args.frozen.now c.args.place c.loop-at.at c.args.behind v.later (c.is_plain.ensures c.if-not-is_plain.false) c.requires.behind v.passed).1

pub returns-clause-behind : goal.returns-clause-behind
returns-clause-behind c =
    let v = c.loop-at.invariant in
    let all : c.loop-at.at ≡ c.len-count.result = omega (arith, v.within, c.loop-at-test.false, c.len-count.ensures.count) in
    subst (λ n. IsBehind c.args.arena.now n c.args.behind) all
    (passed_up_to c.args.arena.now c.args.frozen.now c.args.place c.loop-at.at c.args.behind v.later (c.is_plain.ensures c.if-not-is_plain.false) c.requires.behind v.passed).0

pub returns-clause-none : goal.returns-clause-none
returns-clause-none c = λ k low high.
    let v = c.loop-at.invariant in
    let below : k < c.loop-at.at = omega (arith, high, v.within, c.loop-at-test.false, c.len-count.ensures.count) in
    (passed_up_to c.args.arena.now c.args.frozen.now c.args.place c.loop-at.at c.args.behind v.later (c.is_plain.ensures c.if-not-is_plain.false) c.requires.behind v.passed).1 k low below
