use Rattle.std.proofs.Common.{◌<◌, ◌≤◌, ◌+◌, ◌-◌, ◌/◌, subst, arith}
use Rattle.branch_runs.specs.Visible.{text_at}
use Rattle.branch_runs.proofs.Inside.{ends_ascend}
use Rattle.branch_runs.proofs.window.first_behind.Goals as goal

pub loop-low-preserved-then-text-item : goal.loop-low-preserved-then-text-item
loop-low-preserved-then-text-item c =
    let i = c.loop-low.invariant in
    let mid = c.loop-low.low + (c.loop-low.high - c.loop-low.low) / 2 in
    let here : (text_at c.args.texts.now mid).end ≤ c.args.item = subst (λ t. t.end ≤ c.args.item) c.text.ensures c.if-text-item.true in
    let below : mid < c.loop-low.high = omega (arith, c.loop-low-test.true) in
    record {
      order = omega (arith, below);
      within = i.within;
      before = λ k low. omega (arith, ends_ascend c.args.texts.now 0 k mid c.requires (omega (arith, low)) (omega (arith, below, i.within)), here);
      behind = i.behind;
    }

pub loop-low-preserved : goal.loop-low-preserved
loop-low-preserved c =
    let i = c.loop-low.invariant in
    let mid = c.loop-low.low + (c.loop-low.high - c.loop-low.low) / 2 in
    let test : c.args.item < c.text.result.end = omega (arith, c.if-text-item.false) in
    let here : c.args.item < (text_at c.args.texts.now mid).end = subst (λ t. c.args.item < t.end) c.text.ensures test in
    let below : mid < c.loop-low.high = omega (arith, c.loop-low-test.true) in
    record {
      order = omega arith;
      within = omega (arith, below, i.within);
      before = i.before;
      behind = λ k from within. omega (arith, ends_ascend c.args.texts.now 0 mid k c.requires from within, here);
    }
