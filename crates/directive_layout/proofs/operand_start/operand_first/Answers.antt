use Rattle.std.proofs.Common.{◌≡◌, ◌∙◌, ◌+◌, ◌-◌, true, false, slice_get, sym, ap, arith}
use Rattle.token_arena.specs.Entries.{told_by}
use Rattle.directive_layout.specs.Parts.{next_part}
use Rattle.directive_layout.proofs.Laid.{directive_bounds, operand_begins, operand_step, operand_end}
use Rattle.directive_layout.proofs.operand_start.operand_first.Goals as goal

pub get-left-requires : goal.get-left-requires
get-left-requires c =
    let bounds = directive_bounds c.args.arena.now c.args.dir.now c.requires in
    omega (arith, bounds.0, bounds.1)

pub overflow_step-place : goal.overflow_step-place
overflow_step-place c =
    let bounds = directive_bounds c.args.arena.now c.args.dir.now c.requires in
    omega (arith, bounds.1, c.len-count.ensures.most, c.len-count.ensures.count)

pub loop-place-init : goal.loop-place-init
loop-place-init c =
    let arena = c.args.arena.now in
    let dir = c.args.dir.now in
    let first = dir.first in
    record {
      some = omega arith;
      left = let back : first ≡ first + 1 - 1 = omega arith in ap (λ n. slice_get arena.tokens n) (sym back) ∙ c.get-left.ensures;
      rest = operand_begins arena dir (told_by c.get-left.result) c.first_part-part.result c.get-left.ensures c.first_part-part.ensures;
    }

pub get-token-requires : goal.get-token-requires
get-token-requires c =
    let bounds = directive_bounds c.args.arena.now c.args.dir.now c.requires in
    omega (arith, bounds.1, c.loop-place-test.true)

pub returns-then-is_operand-clause-is : goal.returns-then-is_operand-clause-is
returns-then-is_operand-clause-is c =
    let arena = c.args.arena.now in
    let place = c.loop-place.place in
    let left = told_by c.loop-place.left in
    let token = told_by c.get-token.result in
    sym (operand_step arena place c.args.dir.now.end c.loop-place.part c.next_part-part.result left token true c.get-token.ensures c.loop-place-test.true
    (c.next_part-part.ensures ∙ ap (λ d. next_part d c.loop-place.part left token) c.dialect-dialect.ensures) (sym c.is_operand.ensures ∙ c.if-is_operand.true))
    ∙ c.loop-place.invariant.rest

pub loop-place-preserved : goal.loop-place-preserved
loop-place-preserved c =
    let arena = c.args.arena.now in
    let place = c.loop-place.place in
    let left = told_by c.loop-place.left in
    let token = told_by c.get-token.result in
    record {
      some = omega arith;
      left = let back : place ≡ place + 1 - 1 = omega arith in ap (λ n. slice_get arena.tokens n) (sym back) ∙ c.get-token.ensures;
      rest = sym (operand_step arena place c.args.dir.now.end c.loop-place.part c.next_part-part.result left token false c.get-token.ensures c.loop-place-test.true
          (c.next_part-part.ensures ∙ ap (λ d. next_part d c.loop-place.part left token) c.dialect-dialect.ensures) (sym c.is_operand.ensures ∙ c.if-is_operand.false))
          ∙ c.loop-place.invariant.rest;
    }

pub returns-clause-is : goal.returns-clause-is
returns-clause-is c =
    let arena = c.args.arena.now in
    let dir = c.args.dir.now in
    let bounds = directive_bounds arena dir c.requires in
    let at_end : c.loop-place.place ≡ dir.end = omega (arith, bounds.0, c.loop-place-test.false, c.loop-place.auto.place-end) in
    sym (operand_end arena c.loop-place.place dir.end c.loop-place.part (told_by c.loop-place.left) at_end) ∙ c.loop-place.invariant.rest

pub returns-clause-after : goal.returns-clause-after
returns-clause-after c =
    let bounds = directive_bounds c.args.arena.now c.args.dir.now c.requires in
    omega (arith, bounds.0)
