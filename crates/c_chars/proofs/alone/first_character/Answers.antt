use Rattle.std.proofs.Common.{◌∙◌, sym, arith}
use Rattle.std.proofs.lemmas.Bool.{eqb-true, ne_eqb}
use Rattle.c_chars.proofs.Moved.{found_kept, found_last, found_none, found_plain, passed_more}
use Rattle.c_chars.proofs.alone.first_character.Goals as goal

pub returns-then-byte-ne92-clause-first : goal.returns-then-byte-ne92-clause-first
returns-then-byte-ne92-clause-first c =
    found_plain c.args.dialect c.args.bytes.now c.loop-rest.rest.now c.split_at.result.1.now c.loop-rest.before c.unit-byte.result.0 c.unit-byte.result.1 c.loop-rest.invariant.passed c.unit-byte.ensures.unit c.split_at.ensures.back
    (ne_eqb c.unit-byte.result.0 92 c.if-byte-ne92.true)

pub returns-then-is_empty-clause-first : goal.returns-then-is_empty-clause-first
returns-then-is_empty-clause-first c =
    found_last c.args.dialect c.args.bytes.now c.loop-rest.rest.now c.split_at.result.1.now c.loop-rest.before c.unit-byte.result.0 c.unit-byte.result.1 c.loop-rest.invariant.passed c.unit-byte.ensures.unit c.split_at.ensures.back
    (eqb-true _ 0 (sym c.is_empty-in-loop-rest.ensures ∙ c.if-is_empty.true))

pub returns-then-next-ne10-clause-first : goal.returns-then-next-ne10-clause-first
returns-then-next-ne10-clause-first c =
    found_kept c.args.dialect c.args.bytes.now c.loop-rest.rest.now c.split_at.result.1.now c.loop-rest.before c.unit-byte.result.0 c.unit-byte.result.1 c.unit-next.result.0 c.unit-next.result.1 c.loop-rest.invariant.passed
    c.unit-byte.ensures.unit c.split_at.ensures.back c.unit-next.ensures.unit (ne_eqb c.unit-next.result.0 10 c.if-next-ne10.true)

pub loop-rest-preserved : goal.loop-rest-preserved
loop-rest-preserved c = record {
  passed =
      passed_more c.args.dialect c.args.bytes.now c.loop-rest.rest.now c.split_at.result.1.now c.split_at-in-loop-rest.result.1.now c.loop-rest.before c.unit-byte.result.0 c.unit-byte.result.1 c.unit-next.result.0 c.unit-next.result.1
      c.loop-rest.invariant.passed c.unit-byte.ensures.unit c.split_at.ensures.back c.unit-next.ensures.unit c.split_at-in-loop-rest.ensures.back c.if-byte-ne92.false c.if-next-ne10.false;
  count = omega (arith, c.loop-rest.invariant.count, c.split_at.ensures.back_len, c.split_at-in-loop-rest.ensures.back_len);
}

pub returns-clause-none : goal.returns-clause-none
returns-clause-none c = found_none c.args.dialect c.args.bytes.now c.loop-rest.rest.now c.loop-rest.before c.loop-rest.invariant.passed (eqb-true _ 0 (sym c.is_empty.ensures ∙ c.loop-rest-test.false))
