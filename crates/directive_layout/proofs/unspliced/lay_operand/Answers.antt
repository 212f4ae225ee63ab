use Rattle.std.proofs.Common.{◌≡◌, ◌∙◌, ◌+◌, ◌-◌, refl, sym, ap, arith, slice_get}
use Rattle.c_chars.specs.Characters.{mark_len}
use Rattle.replacements.specs.Decisions.{decided_all}
use Rattle.token_arena.specs.Entries.{told_by}
use Rattle.directive_layout.specs.declared.part.HeadPart.TheVariants.{Operand}
use Rattle.directive_layout.proofs.Alike.{plain, none_here, operand_begun, next_unspliced}
use Rattle.directive_layout.proofs.Laid.{raw_fits}
use Rattle.directive_layout.proofs.unspliced.lay_operand.Goals as goal

pub loop-place-init : goal.loop-place-init
loop-place-init c =
    let arena = c.args.arena.now in
    let first = c.args.first in
    record {
      len = refl;
      after = omega arith;
      left = let back : first ≡ first + 1 - 1 = omega arith in ap (λ n. slice_get arena.tokens n) (sym back) ∙ c.get-left.ensures;
      unspliced = c.requires.unspliced;
      rest = λ depth longest walk left part index is.
          ap (decided_all c.args.plan.now) (operand_begun c.args.style.now arena depth c.args.staying c.args.toks.now longest first c.args.end walk left (told_by c.get-left.result) c.requires.unspliced part index is c.get-left.ensures);
    }

pub operand_decision-decision-requires-clause-unspliced :
    goal.operand_decision-decision-requires-clause-unspliced
operand_decision-decision-requires-clause-unspliced c =
    (none_here c.args.arena.now c.loop-place.place c.args.end (told_by c.get-token.result) c.get-token.ensures c.loop-place-test.true c.loop-place.invariant.unspliced).0

pub operand_decision-decision-requires-clause-left :
    goal.operand_decision-decision-requires-clause-left
operand_decision-decision-requires-clause-left c =
    let arena = c.args.arena.now in
    let fits = raw_fits arena.text (mark_len arena.text) arena.tokens (c.loop-place.place - 1) (told_by c.loop-place.left) c.len-count.ensures.stand c.loop-place.invariant.left in
    omega (arith, fits, c.len-count.ensures.fits)

pub operand_decision-decision-requires-clause-right :
    goal.operand_decision-decision-requires-clause-right
operand_decision-decision-requires-clause-right c =
    let arena = c.args.arena.now in
    let fits = raw_fits arena.text (mark_len arena.text) arena.tokens c.loop-place.place (told_by c.get-token.result) c.len-count.ensures.stand c.get-token.ensures in
    omega (arith, fits, c.len-count.ensures.fits)

pub loop-place-preserved : goal.loop-place-preserved
loop-place-preserved c =
    let arena = c.args.arena.now in
    let first = c.args.first in
    let place = c.loop-place.place in
    let v = c.loop-place.invariant in
    let left = told_by c.loop-place.left in
    let token = told_by c.get-token.result in
    let index = place - first in
    let more : place + 1 - first ≡ index + 1 = omega (arith, v.after) in
    let behind = none_here arena place c.args.end token c.get-token.ensures c.loop-place-test.true v.unspliced in
    record {
      len = c.decide.ensures.len ∙ v.len;
      after = omega (arith, v.after);
      left = let back : place ≡ place + 1 - 1 = omega arith in ap (λ n. slice_get arena.tokens n) (sym back) ∙ c.get-token.ensures;
      unspliced = behind.1;
      rest = λ depth longest walk before part number is.
          next_unspliced c.args.style.now arena c.dialect-dialect.result depth c.args.staying c.args.toks.now longest place c.args.end Operand Operand index (place + 1 - first) left token c.loop-place.plan c.decide.new.self c.operand_decision-decision.result
          c.get-token.ensures c.loop-place-test.true c.dialect-dialect.ensures v.unspliced c.decide.ensures.plan (c.operand_decision-decision.ensures depth longest (plain Operand index) refl refl) refl more
          ∙ v.rest depth longest walk before part number is;
    }
