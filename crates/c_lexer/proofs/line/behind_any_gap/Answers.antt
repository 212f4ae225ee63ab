use Rattle.std.proofs.Common.{◌∙◌, ◌||◌, sym, ap, subst, arith}
use Rattle.std.specs.List.{prefix_len}
use Rattle.c_chars.specs.Characters.{bytes_of}
use Rattle.c_chars.specs.Coming.{behind}
use Rattle.c_grammar.specs.Grammar.{is_white, is_new_line}
use Rattle.c_grammar.specs.Place.{IsSpanned}
use Rattle.c_lexer.specs.Reading.{new_lines, bytes_in, first_gap}
use Rattle.c_lexer.proofs.Gaps.{lines_step, bytes_step, one_on, at_most_one, spaces_on}
use Rattle.c_lexer.proofs.Passing.{prefix_next}
use Rattle.c_lexer.proofs.line.behind_any_gap.Goals as goal

pub loop-character-init : goal.loop-character-init
loop-character-init c =
    let same = c.ahead-rest.ensures in
    let passed = c.pass_spaces-bytes.ensures.passed in
    let on = spaces_on c.ahead-rest.result c.pass_spaces-bytes.new.self c.pass_spaces-bytes.result passed (subst IsSpanned (sym same) c.requires) in
    let at_is = passed.at_is in
    let line = ap (λ z. new_lines (first_gap z.chars)) same in
    let byte = ap (λ z. bytes_in (first_gap z.chars)) same in
    record {
      spans = on.spans;
      few_lines = omega arith;
      few_bytes = omega (arith, at_is);
      lines_are = omega (arith, on.lines, line);
      bytes_are = omega (arith, on.bytes, byte);
      rest_is = sym on.rest ∙ ap (λ z. behind z (prefix_len (λ x. is_white x || is_new_line x) (bytes_of z.chars))) same;
    }

pub loop-character-preserved : goal.loop-character-preserved
loop-character-preserved c =
    let some = c.in-Some.ensures.some in
    let next = one_on c.loop-character.rest c.next_blank.new.chars c.in-Some.character some.0 some.1 c.loop-character.invariant.spans in
    let next_at = some.1 in
    let one = c.lines_of-lines.ensures in
    let few = at_most_one (is_new_line c.in-Some.character.byte) in
    let line = lines_step c.loop-character.rest c.next_blank.new.chars c.in-Some.character some.0 some.2 in
    let byte = bytes_step c.loop-character.rest c.next_blank.new.chars c.in-Some.character some.0 some.2 in
    let passed = c.pass_spaces-bytes-in-Some.ensures.passed in
    let on = spaces_on c.next_blank.new.chars c.pass_spaces-bytes-in-Some.new.self c.pass_spaces-bytes-in-Some.result passed next.spans in
    let at_is = passed.at_is in
    record {
      spans = on.spans;
      few_lines = omega (arith, one, few, at_is, next_at, next.later, next.some, c.loop-character.invariant.few_lines);
      few_bytes = omega (arith, at_is, next_at, next.later, next.some, c.loop-character.invariant.few_bytes);
      lines_are = omega (arith, one, line, on.lines, c.loop-character.invariant.lines_are);
      bytes_are = omega (arith, byte, on.bytes, c.loop-character.invariant.bytes_are);
      rest_is = sym on.rest
          ∙ (sym (prefix_next (λ x. is_white x || is_new_line x) c.loop-character.rest c.next_blank.new.chars c.in-Some.character some.0 some.1 c.next_blank.ensures.dialect some.2) ∙ c.loop-character.invariant.rest_is);
    }
