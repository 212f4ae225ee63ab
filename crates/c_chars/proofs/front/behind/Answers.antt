use Rattle.std.proofs.Common.{◌≡◌, ◌∙◌, ◌+◌, ◌-◌, sym, ap, arith}
use Rattle.c_chars.specs.Coming.{behind}
use Rattle.c_chars.proofs.Steps.{behind_next}
use Rattle.c_chars.proofs.front.behind.Goals as goal

pub loop-preserved : goal.loop-preserved
loop-preserved c =
    let left : c.args.count - c.loop.counter ≡ 1 + (c.args.count - (c.loop.counter + 1)) = omega arith in (
      omega arith,
      sym (ap (λ n. behind c.loop.rest n) left ∙ behind_next c.loop.rest c.next.new.self c.in-Some.field-0 (c.args.count - (c.loop.counter + 1)) c.in-Some.ensures.some.0 c.in-Some.ensures.some.1 c.next.ensures.dialect) ∙ c.loop.invariant.1,
    )
