use Rattle.std.proofs.Common.{sym, ◌∙◌}
use Rattle.pp_directives.proofs.LineNumbers.{beyond}
use Rattle.pp_directives.proofs.lines.digits_value.Goals as goal

pub returns-then-number-gt-MAX_LINE : goal.returns-then-number-gt-MAX_LINE
returns-then-number-gt-MAX_LINE c =
    let digit = sym c.is_ascii_digit.ensures.value ∙ c.if-not-is_ascii_digit.false in
    sym (beyond c.args.text.now c.loop-byte.byte-index c.loop-byte.number c.from.result c.loop-byte-test.true digit c.from.ensures c.if-number-gt-MAX_LINE.true) ∙ c.loop-byte.invariant.same
