use Rattle.std.proofs.Common.{◌==◌, ◌∙◌, ◌+◌, ◌-◌, false, not, refl, sym, subst, ap, arith, length, take, drop}
use Rattle.std.specs.Prelude.{slice_get}
use Rattle.std.specs.Int.{is_in_range}
use Rattle.std.specs.List.{list_all}
use Rattle.c_chars.specs.Characters.{is_plain}
use Rattle.c_grammar.specs.Place.{place_of}
use Rattle.c_lexer.specs.Reading.{Reading, IsNextItem, IsNextLexeme}
use Rattle.c_lexer.specs.declared.item.Lexeme.{Lexeme}
use Rattle.c_lexer.proofs.Backslashes.{slashed_rest}
use Rattle.c_lexer.proofs.Gaps.{gap_lines}
use Rattle.c_lexer.proofs.Lexemes.{lexeme_there}
use Rattle.c_lexer.proofs.PlainBytes.{item_plain, item_printable, items_told, raw_each, raw_rest}
use Rattle.c_lexer.proofs.NextItems.{spanned, gap_of, at_rest, bounds, length-between, next_there}
use Rattle.c_lexer.proofs.lexer.Lexer.next_plain_lexeme.Goals as goal

pub place_begun-requires-clause-dialect : goal.place_begun-requires-clause-dialect
place_begun-requires-clause-dialect c =
    let rest = at_rest c.self.inside.text.now c.self.inside.dialect c.self.inside.chars c.in-Some.begun.text (gap_of c.self.inside.chars) c.self.invariant.0 c.in-Some.ensures.gap.rest_is in
    sym rest.dialect_is

pub between-raw-requires-clause-order : goal.between-raw-requires-clause-order
between-raw-requires-clause-order c =
    let rest = at_rest c.self.inside.text.now c.self.inside.dialect c.self.inside.chars c.in-Some.begun.text (gap_of c.self.inside.chars) c.self.invariant.0 c.in-Some.ensures.gap.rest_is in
    rw c.at.ensures (bounds c.self.inside.text.now c.self.inside.dialect (place_of c.past_gap-standing.result) c.in-Some.begun.text c.in-Some-place_begun.placed.left c.in-Some-place_begun.placed.kind c.in-Some.begun.first rest (ap (λ z. slice_get z 0) c.in-Some.ensures.begun.chars_are) c.in-Some-place_begun.ensures.next).0

pub between-raw-requires-clause-within : goal.between-raw-requires-clause-within
between-raw-requires-clause-within c =
    let rest = at_rest c.self.inside.text.now c.self.inside.dialect c.self.inside.chars c.in-Some.begun.text (gap_of c.self.inside.chars) c.self.invariant.0 c.in-Some.ensures.gap.rest_is in
    rw c.at.ensures (bounds c.self.inside.text.now c.self.inside.dialect (place_of c.past_gap-standing.result) c.in-Some.begun.text c.in-Some-place_begun.placed.left c.in-Some-place_begun.placed.kind c.in-Some.begun.first rest (ap (λ z. slice_get z 0) c.in-Some.ensures.begun.chars_are) c.in-Some-place_begun.ensures.next).1

pub invariant_of-self : goal.invariant_of-self
invariant_of-self c =
    let rest = at_rest c.self.inside.text.now c.self.inside.dialect c.self.inside.chars c.in-Some.begun.text (gap_of c.self.inside.chars) c.self.invariant.0 c.in-Some.ensures.gap.rest_is in (
      at_rest c.self.inside.text.now c.self.inside.dialect c.in-Some.begun.text c.in-Some-place_begun.placed.left c.in-Some-place_begun.ensures.next.n rest c.in-Some-place_begun.ensures.next.left_is,
      slashed_rest c.self.inside.text.now c.in-Some.begun.text c.in-Some-place_begun.placed.left c.in-Some-place_begun.ensures.next.n
          (slashed_rest c.self.inside.text.now c.self.inside.chars c.in-Some.begun.text (gap_of c.self.inside.chars) c.self.invariant.1 c.in-Some.ensures.gap.rest_is) c.in-Some-place_begun.ensures.next.left_is,
      raw_rest c.self.inside.text.now c.in-Some.begun.text c.in-Some-place_begun.placed.left c.in-Some-place_begun.ensures.next.n
          (raw_rest c.self.inside.text.now c.self.inside.chars c.in-Some.begun.text (gap_of c.self.inside.chars) c.self.invariant.2 c.in-Some.ensures.gap.rest_is) c.in-Some-place_begun.ensures.next.left_is,
    )

pub returns-clause-some : goal.returns-clause-some
returns-clause-some c =
    let old : Reading = record { text = c.self.inside.text.now; dialect = c.self.inside.dialect; left = record { place = place_of c.self.inside.standing; chars = c.self.inside.chars.chars }; at = c.self.inside.chars.at } in
    let new : Reading = record { text = c.self.inside.text.now; dialect = c.self.inside.dialect; left = record { place = place_of c.in-Some-place_begun.placed.past; chars = c.in-Some-place_begun.placed.left.chars }; at = c.in-Some-place_begun.placed.left.at } in
    let gap = c.in-Some.ensures.gap in
    let rest = at_rest c.self.inside.text.now c.self.inside.dialect c.self.inside.chars c.in-Some.begun.text (gap_of c.self.inside.chars) c.self.invariant.0 gap.rest_is in
    let told = items_told c.in-Some.begun.text c.in-Some.begun.behind c.in-Some-place_begun.placed.left c.in-Some.begun.first (spanned c.self.inside.text.now c.self.inside.dialect c.in-Some.begun.text rest)
    c.in-Some.ensures.begun.chars_are c.in-Some.ensures.begun.at_is c.in-Some.ensures.plain.0 c.in-Some.ensures.plain.1 c.in-Some-place_begun.ensures.plain in
    let new_line = ap (λ k. not (k == 0)) gap.lines_are ∙ gap_lines c.self.inside.chars.chars in
    let next : IsNextItem old new c.in-Some-place_begun.placed.kind c.in-Some.begun.first.from c.between-raw.result.now =
    next_there c.self.inside.text.now c.self.inside.dialect (place_of c.self.inside.standing) (place_of c.past_gap-standing.result) (place_of c.in-Some-place_begun.placed.past)
    c.self.inside.chars c.in-Some.begun.text c.in-Some-place_begun.placed.left (not (c.in-Some.begun.lines == 0)) c.in-Some.begun.first c.in-Some-place_begun.placed.kind c.between-raw.result.now c.self.invariant.0
    new_line gap.rest_is (ap (λ z. slice_get z 0) c.in-Some.ensures.begun.chars_are) c.past_gap-standing.ensures c.in-Some-place_begun.ensures.next
    c.in-Some-place_begun.ensures.past
    (c.between-raw.ensures ∙ ap (λ k. take (k - c.in-Some.begun.first.from) (drop c.in-Some.begun.first.from c.self.inside.text.now)) c.at.ensures) in
    let lexeme : Lexeme = record {
      item = record { kind = c.in-Some-place_begun.placed.kind; raw = c.between-raw.result; start = c.in-Some.begun.first.from };
      lines = c.in-Some.begun.lines;
      bytes = c.in-Some.begun.bytes;
      white = not (c.in-Some.begun.bytes == 0);
      back = false;
    } in
    subst (λ v. IsNextLexeme v new lexeme) c.self.view_is
    (lexeme_there old new c.self.inside.chars c.in-Some.begun.text c.in-Some-place_begun.placed.left (place_of c.past_gap-standing.result) c.in-Some-place_begun.placed.kind lexeme c.self.invariant.0 refl gap.rest_is
    c.in-Some-place_begun.ensures.next refl gap.lines_are gap.bytes_are refl (λ n within e. sym (told n within e)) next)

pub returns-clause-gap : goal.returns-clause-gap
returns-clause-gap c = c.in-Some.ensures.plain.0 ∙ (c.in-Some.ensures.at ∙ ap (λ r. r.at + c.in-Some.begun.bytes) c.self.view_is)

pub returns-clause-behind : goal.returns-clause-behind
returns-clause-behind c =
    let rest = at_rest c.self.inside.text.now c.self.inside.dialect c.self.inside.chars c.in-Some.begun.text (gap_of c.self.inside.chars) c.self.invariant.0 c.in-Some.ensures.gap.rest_is in
    let within =
    bounds c.self.inside.text.now c.self.inside.dialect (place_of c.past_gap-standing.result) c.in-Some.begun.text c.in-Some-place_begun.placed.left c.in-Some-place_begun.placed.kind c.in-Some.begun.first rest (ap (λ z. slice_get z 0) c.in-Some.ensures.begun.chars_are) c.in-Some-place_begun.ensures.next in
    let len = length-between c.in-Some.begun.first.from c.in-Some-place_begun.placed.left.at c.self.inside.text.now within.0 within.1 in
    let same = ap length (c.between-raw.ensures ∙ ap (λ k. take (k - c.in-Some.begun.first.from) (drop c.in-Some.begun.first.from c.self.inside.text.now)) c.at.ensures) in
    omega (arith, len, same, within.0)

pub returns-clause-plain : goal.returns-clause-plain
returns-clause-plain c =
    let rest = at_rest c.self.inside.text.now c.self.inside.dialect c.self.inside.chars c.in-Some.begun.text (gap_of c.self.inside.chars) c.self.invariant.0 c.in-Some.ensures.gap.rest_is in
    let within =
    (bounds c.self.inside.text.now c.self.inside.dialect (place_of c.past_gap-standing.result) c.in-Some.begun.text c.in-Some-place_begun.placed.left c.in-Some-place_begun.placed.kind c.in-Some.begun.first rest (ap (λ z. slice_get z 0) c.in-Some.ensures.begun.chars_are) c.in-Some-place_begun.ensures.next).1 in
    let raw = raw_rest c.self.inside.text.now c.self.inside.chars c.in-Some.begun.text (gap_of c.self.inside.chars) c.self.invariant.2 c.in-Some.ensures.gap.rest_is in
    ap (list_all (is_in_range 0x20 0x7E)) (c.between-raw.ensures ∙ ap (λ k. take (k - c.in-Some.begun.first.from) (drop c.in-Some.begun.first.from c.self.inside.text.now)) c.at.ensures)
    ∙ raw_each (is_in_range 0x20 0x7E) c.self.inside.text.now c.in-Some.begun.text c.in-Some.begun.behind c.in-Some-place_begun.placed.left c.in-Some.begun.first raw within c.in-Some.ensures.begun.chars_are c.in-Some.ensures.begun.at_is
    c.in-Some.ensures.plain.0 c.in-Some.ensures.plain.1 c.in-Some-place_begun.ensures.plain item_printable

pub returns-clause-itself : goal.returns-clause-itself
returns-clause-itself c =
    let rest = at_rest c.self.inside.text.now c.self.inside.dialect c.self.inside.chars c.in-Some.begun.text (gap_of c.self.inside.chars) c.self.invariant.0 c.in-Some.ensures.gap.rest_is in
    let within =
    (bounds c.self.inside.text.now c.self.inside.dialect (place_of c.past_gap-standing.result) c.in-Some.begun.text c.in-Some-place_begun.placed.left c.in-Some-place_begun.placed.kind c.in-Some.begun.first rest (ap (λ z. slice_get z 0) c.in-Some.ensures.begun.chars_are) c.in-Some-place_begun.ensures.next).1 in
    let raw = raw_rest c.self.inside.text.now c.self.inside.chars c.in-Some.begun.text (gap_of c.self.inside.chars) c.self.invariant.2 c.in-Some.ensures.gap.rest_is in
    ap (list_all is_plain) (c.between-raw.ensures ∙ ap (λ k. take (k - c.in-Some.begun.first.from) (drop c.in-Some.begun.first.from c.self.inside.text.now)) c.at.ensures)
    ∙ raw_each is_plain c.self.inside.text.now c.in-Some.begun.text c.in-Some.begun.behind c.in-Some-place_begun.placed.left c.in-Some.begun.first raw within c.in-Some.ensures.begun.chars_are c.in-Some.ensures.begun.at_is
    c.in-Some.ensures.plain.0 c.in-Some.ensures.plain.1 c.in-Some-place_begun.ensures.plain item_plain

pub place_begun-requires-clause-spans : goal.place_begun-requires-clause-spans
place_begun-requires-clause-spans c =
    spanned c.self.inside.text.now c.self.inside.dialect c.in-Some.begun.text
    (at_rest c.self.inside.text.now c.self.inside.dialect c.self.inside.chars c.in-Some.begun.text (gap_of c.self.inside.chars) c.self.invariant.0 c.in-Some.ensures.gap.rest_is)
