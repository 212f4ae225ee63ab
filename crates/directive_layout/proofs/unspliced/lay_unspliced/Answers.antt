use Rattle.std.proofs.Common.{◌≡◌, ◌∙◌, ◌+◌, ◌-◌, sym, ap, arith, refl, slice_get}
use Rattle.c_chars.specs.Characters.{mark_len}
use Rattle.token_arena.specs.Entries.{told_by}
use Rattle.directive_layout.specs.Laid.{is_operand}
use Rattle.directive_layout.proofs.Alike.{plain, none_here, first_unspliced, next_unspliced, first_head, counted_first, counted_none, operand_of}
use Rattle.directive_layout.proofs.Laid.{raw_fits}
use Rattle.directive_layout.proofs.unspliced.lay_unspliced.Goals as goal

pub loop-place-init : goal.loop-place-init
loop-place-init c =
    let arena = c.args.arena.now in
    let first = c.args.first in
    let left = told_by c.get-left.result in
    record {
      len = c.decide.ensures.len;
      some = omega arith;
      head = ap is_operand c.first_part-part.ensures ∙ first_head left;
      left = let back : first ≡ first + 1 - 1 = omega arith in ap (λ n. slice_get arena.tokens n) (sym back) ∙ c.get-left.ensures;
      unspliced = c.requires.unspliced;
      rest = first_unspliced c.args.style.now arena c.args.depth c.args.staying c.args.toks.now first c.args.end left c.args.plan.now c.decide.new.self c.first_decision-decision.result c.first_part-part.result c.get-left.ensures
          c.requires.unspliced c.decide.ensures.plan c.first_decision-decision.ensures c.first_part-part.ensures;
    }

pub head_decision-decision-requires-clause-unspliced :
    goal.head_decision-decision-requires-clause-unspliced
head_decision-decision-requires-clause-unspliced c =
    (none_here c.args.arena.now c.loop-place.place c.args.end (told_by c.get-token.result) c.get-token.ensures c.loop-place-test.true c.loop-place.invariant.unspliced).0

pub head_decision-decision-requires-clause-left : goal.head_decision-decision-requires-clause-left
head_decision-decision-requires-clause-left c =
    let arena = c.args.arena.now in
    let fits = raw_fits arena.text (mark_len arena.text) arena.tokens (c.loop-place.place - 1) (told_by c.loop-place.left) c.len-count.ensures.stand c.loop-place.invariant.left in
    omega (arith, fits, c.len-count.ensures.fits)

pub head_decision-decision-requires-clause-right :
    goal.head_decision-decision-requires-clause-right
head_decision-decision-requires-clause-right c =
    let arena = c.args.arena.now in
    let fits = raw_fits arena.text (mark_len arena.text) arena.tokens c.loop-place.place (told_by c.get-token.result) c.len-count.ensures.stand c.get-token.ensures in
    omega (arith, fits, c.len-count.ensures.fits)

pub lay_operand-requires-clause-unspliced : goal.lay_operand-requires-clause-unspliced
lay_operand-requires-clause-unspliced c =
    (none_here c.args.arena.now c.loop-place.place c.args.end (told_by c.get-token.result) c.get-token.ensures c.loop-place-test.true c.loop-place.invariant.unspliced).1

pub returns-then-is_operand-clause-plan : goal.returns-then-is_operand-clause-plan
returns-then-is_operand-clause-plan c =
    let arena = c.args.arena.now in
    let v = c.loop-place.invariant in
    let part = c.loop-place.part in
    let next = c.next_part-part.result in
    let token = told_by c.get-token.result in
    let operand = sym c.is_operand.ensures ∙ c.if-is_operand.true in
    c.lay_operand.ensures.plan c.args.depth 0 (plain next 1) token (operand_of next operand) refl c.get-token.ensures
    ∙ next_unspliced c.args.style.now arena c.dialect-dialect.result c.args.depth c.args.staying c.args.toks.now 0 c.loop-place.place c.args.end part next 0 1 (told_by c.loop-place.left) token c.loop-place.plan c.decide-in-loop-place.new.self c.head_decision-decision.result
    c.get-token.ensures c.loop-place-test.true c.dialect-dialect.ensures v.unspliced c.decide-in-loop-place.ensures.plan (c.head_decision-decision.ensures c.args.toks.now 0 (plain part 0) refl) c.next_part-part.ensures (counted_first next operand)
    ∙ v.rest

pub loop-place-preserved : goal.loop-place-preserved
loop-place-preserved c =
    let arena = c.args.arena.now in
    let place = c.loop-place.place in
    let v = c.loop-place.invariant in
    let part = c.loop-place.part in
    let next = c.next_part-part.result in
    let token = told_by c.get-token.result in
    let head = sym c.is_operand.ensures ∙ c.if-is_operand.false in
    let behind = none_here arena place c.args.end token c.get-token.ensures c.loop-place-test.true v.unspliced in
    record {
      len = c.decide-in-loop-place.ensures.len ∙ v.len;
      some = omega arith;
      head = head;
      left = let back : place ≡ place + 1 - 1 = omega arith in ap (λ n. slice_get arena.tokens n) (sym back) ∙ c.get-token.ensures;
      unspliced = behind.1;
      rest = next_unspliced c.args.style.now arena c.dialect-dialect.result c.args.depth c.args.staying c.args.toks.now 0 place c.args.end part next 0 0 (told_by c.loop-place.left) token c.loop-place.plan c.decide-in-loop-place.new.self c.head_decision-decision.result
          c.get-token.ensures c.loop-place-test.true c.dialect-dialect.ensures v.unspliced c.decide-in-loop-place.ensures.plan (c.head_decision-decision.ensures c.args.toks.now 0 (plain part 0) refl) c.next_part-part.ensures (counted_none next head)
          ∙ v.rest;
    }
