use Rattle.std.proofs.Common.{◌∙◌, ◌||◌, ◌+◌, sym, ap, subst, arith}
use Rattle.std.specs.List.{prefix_len}
use Rattle.c_chars.specs.Characters.{bytes_of}
use Rattle.c_chars.specs.Coming.{behind}
use Rattle.c_grammar.specs.Grammar.{is_white, is_new_line}
use Rattle.c_grammar.specs.Touch.{starts}
use Rattle.c_grammar.specs.Place.{IsSpanned}
use Rattle.c_lexer.specs.Reading.{new_lines, bytes_in, first_gap}
use Rattle.c_lexer.proofs.Gaps.{at_most_one, bytes_step, gap_ended, lines_step, one_on, spaces_on}
use Rattle.c_lexer.proofs.Passing.{prefix_next}
use Rattle.c_lexer.proofs.line.begin_plain.Goals as goal

pub loop-first-init : goal.loop-first-init
loop-first-init c =
    let same = c.ahead-rest.ensures in
    let passed = c.pass_space.ensures.passed in
    let on = spaces_on c.ahead-rest.result c.pass_space.new.self c.pass_space.result passed (subst IsSpanned (sym same) c.requires) in
    let at_is = passed.at_is in
    let same_at = ap (λ z. z.at) same in
    let line = ap (λ z. new_lines (first_gap z.chars)) same in
    let byte = ap (λ z. bytes_in (first_gap z.chars)) same in
    record {
      behind_is = c.ahead-behind.ensures;
      spans = on.spans;
      few_lines = omega arith;
      later = omega (arith, at_is, same_at);
      fits = c.pass_space.ensures.fits;
      lines_are = omega (arith, on.lines, line);
      bytes_are = omega (arith, on.bytes, byte, at_is, same_at);
      rest_is = sym on.rest ∙ ap (λ z. behind z (prefix_len (λ x. is_white x || is_new_line x) (bytes_of z.chars))) same;
    }

pub loop-first-preserved : goal.loop-first-preserved
loop-first-preserved c =
    let some = c.in-Some.ensures.some in
    let plain = c.in-Some.ensures.plain in
    let before = c.loop-first.rest in
    let between = c.next_plain.new.self in
    let chars = sym (ap (λ z. z.chars) c.loop-first.invariant.behind_is) ∙ some.0 in
    let dialect = c.next_plain.ensures.dialect ∙ ap (λ z. z.dialect) c.loop-first.invariant.behind_is in
    let before_at = ap (λ z. z.at) c.loop-first.invariant.behind_is in
    let blank = sym c.is_blank.ensures ∙ c.if-not-is_blank.false in
    let next = one_on before between c.in-Some.first chars some.1 c.loop-first.invariant.spans in
    let next_at = some.1 in
    let one = c.lines_of-lines.ensures in
    let few = at_most_one (is_new_line c.in-Some.first.byte) in
    let line = lines_step before between c.in-Some.first chars blank in
    let byte = bytes_step before between c.in-Some.first chars blank in
    let passed = c.pass_spaces.ensures.passed in
    let on = spaces_on between c.pass_spaces.new.self c.pass_spaces.result passed next.spans in
    let far = passed.at_is in
    let same = c.ahead-rest-in-Some.ensures in
    let at_is = ap (λ z. z.at) same in
    let line_is = ap (λ z. new_lines (first_gap z.chars)) same in
    let byte_is = ap (λ z. bytes_in (first_gap z.chars)) same in
    record {
      behind_is = sym same;
      spans = subst IsSpanned (sym same) on.spans;
      few_lines = omega (arith, one, few, at_is, far, next_at, next.later, next.some, c.loop-first.invariant.few_lines);
      later = omega (arith, at_is, far, next_at, next.later, next.some, c.loop-first.invariant.later);
      fits = omega (arith, at_is, c.pass_spaces.ensures.fits);
      lines_are = omega (arith, one, line, on.lines, line_is, c.loop-first.invariant.lines_are);
      bytes_are = omega (arith, byte, on.bytes, byte_is, at_is, far, next_at, before_at, plain.0, plain.1, c.loop-first.invariant.later, c.loop-first.invariant.bytes_are);
      rest_is = ap (λ z. behind z (prefix_len (λ x. is_white x || is_new_line x) (bytes_of z.chars))) same
          ∙ (sym on.rest
          ∙ (sym (prefix_next (λ x. is_white x || is_new_line x) before between c.in-Some.first chars some.1 dialect blank) ∙ c.loop-first.invariant.rest_is));
    }

pub returns-then-not-is_blank-clause-gap : goal.returns-then-not-is_blank-clause-gap
returns-then-not-is_blank-clause-gap c =
    let chars = sym (ap (λ z. z.chars) c.loop-first.invariant.behind_is) ∙ c.in-Some.ensures.some.0 in
    let stops = ap (λ s. starts (λ x. is_white x || is_new_line x) (bytes_of s)) chars ∙ (sym c.is_blank.ensures ∙ c.if-not-is_blank.true) in
    let invariant = c.loop-first.invariant in
    let at_is = ap (λ z. z.at) invariant.behind_is in
    gap_ended c.args.text.now c.loop-first.rest c.loop-first.lines _ stops invariant.lines_are (omega (arith, at_is, c.in-Some.ensures.plain.0, c.at.ensures, invariant.later, invariant.fits, invariant.bytes_are)) invariant.rest_is

pub returns-then-not-is_blank-clause-begun : goal.returns-then-not-is_blank-clause-begun
returns-then-not-is_blank-clause-begun c = record {
  chars_are = sym (ap (λ z. z.chars) c.loop-first.invariant.behind_is) ∙ c.in-Some.ensures.some.0;
  at_is = c.in-Some.ensures.some.1;
  dialect_is = c.next_plain.ensures.dialect ∙ ap (λ z. z.dialect) c.loop-first.invariant.behind_is;
}

pub returns-then-not-is_blank-clause-plain : goal.returns-then-not-is_blank-clause-plain
returns-then-not-is_blank-clause-plain c =
    let at_is = ap (λ z. z.at) c.loop-first.invariant.behind_is in
    (c.in-Some.ensures.plain.0 ∙ at_is, c.in-Some.ensures.plain.1 ∙ ap (λ k. k + 1) at_is)

pub returns-then-not-is_blank-clause-at : goal.returns-then-not-is_blank-clause-at
returns-then-not-is_blank-clause-at c =
    let at_is = ap (λ z. z.at) c.loop-first.invariant.behind_is in
    omega (arith, at_is, c.in-Some.ensures.plain.0, c.at.ensures, c.loop-first.invariant.later, c.loop-first.invariant.fits)
