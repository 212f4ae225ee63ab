use Rattle.std.proofs.Common.{◌≡◌, ℕ, ◌<◌, ◌+◌, ◌-◌, ◌/◌, sym, subst, arith, length, get_or}
use Rattle.statement_lines.proofs.TokenLemmas.{before_middle, place_behind}
use Rattle.statement_lines.proofs.token.place_of.Goals as goal

pub loop-low-preserved-then-comments-middle : goal.loop-low-preserved-then-comments-middle
loop-low-preserved-then-comments-middle c =
    let cs = c.args.comments.now in
    let middle = c.loop-low.low + (c.loop-low.high - c.loop-low.low) / 2 in
    let lt : middle < length cs = omega (arith, c.loop-low-test.true, c.loop-low.invariant.most) in
    record {
      range = omega (arith, c.loop-low-test.true);
      most = c.loop-low.invariant.most;
      before = before_middle cs c.args.number middle 0 _ c.requires.order lt c.if-comments-middle.true;
      behind = c.loop-low.invariant.behind;
    }

pub returns : goal.returns
returns c =
    let cs = c.args.comments.now in
    let same : c.loop-low.high ≡ c.loop-low.low = omega (arith, c.loop-low.invariant.range, c.loop-low-test.false) in
    let P : ℕ → Type 0 = λ j. c.args.number + j < get_or cs j 0 in
    sym (place_behind cs c.args.number c.loop-low.low 0 (omega (arith, same, c.loop-low.invariant.most)) c.loop-low.invariant.before
    (λ h. subst P same (c.loop-low.invariant.behind (omega (arith, same, h)))))
