use Rattle.std.proofs.Common.{◌==◌, ◌∙◌, ◌-◌, not, refl, sym, subst, ap, arith, length, take, drop}
use Rattle.std.specs.Prelude.{IsTrue}
use Rattle.c_chars.specs.Characters.{bytes_of}
use Rattle.c_grammar.specs.Items.{is_gap}
use Rattle.c_lexer.specs.Fault.{IsFault}
use Rattle.c_grammar.specs.Place.{place_of}
use Rattle.c_lexer.specs.Reading.{Reading, IsNextItem, IsNextLexeme}
use Rattle.c_lexer.specs.declared.item.Lexeme.{Lexeme}
use Rattle.c_lexer.proofs.Backslashes.{slashed_rest}
use Rattle.c_lexer.proofs.FirstBytes.{first_there}
use Rattle.c_lexer.proofs.Gaps.{gap_lines}
use Rattle.c_lexer.proofs.Lexemes.{lexeme_there, some_before}
use Rattle.c_lexer.proofs.NextItems.{gap_of, at_rest, spanned, begins_item, only_gap, bounds, fault_there, length-between, next_there}
use Rattle.c_lexer.proofs.PlainBytes.{raw_rest}
use Rattle.c_lexer.proofs.lexer.Lexer.next_any.Goals as goal

pub returns-in_default-clause-some : goal.returns-in_default-clause-some
returns-in_default-clause-some c =
    subst (λ v. IsTrue (is_gap (bytes_of v.left.chars))) c.self.view_is
    (only_gap c.self.inside.chars c.behind_gap-gap.result.rest c.behind_gap-gap.ensures.rest (sym c.peek.ensures ∙ c.in_default.is))

pub cut_next-requires-clause-dialect : goal.cut_next-requires-clause-dialect
cut_next-requires-clause-dialect c =
    sym (at_rest c.self.inside.text.now c.self.inside.dialect c.self.inside.chars c.behind_gap-gap.result.rest (gap_of c.self.inside.chars) c.self.invariant.0 c.behind_gap-gap.ensures.rest).dialect_is

pub cut_next-requires-clause-first : goal.cut_next-requires-clause-first
cut_next-requires-clause-first c = first_there c.behind_gap-gap.result.rest.chars c.in-Some.first (sym c.peek.ensures ∙ c.in-Some.is)

pub cut_next-requires-clause-begins : goal.cut_next-requires-clause-begins
cut_next-requires-clause-begins c = begins_item c.self.inside.chars c.behind_gap-gap.result.rest c.behind_gap-gap.ensures.rest

pub between-raw-requires-clause-order : goal.between-raw-requires-clause-order
between-raw-requires-clause-order c =
    let rest = at_rest c.self.inside.text.now c.self.inside.dialect c.self.inside.chars c.behind_gap-gap.result.rest (gap_of c.self.inside.chars) c.self.invariant.0 c.behind_gap-gap.ensures.rest in
    rw c.at.ensures (bounds c.self.inside.text.now c.self.inside.dialect (place_of c.past_gap-standing.result) c.behind_gap-gap.result.rest c.in-Ok.left c.in-Ok.kind c.in-Some.first rest (sym c.peek.ensures ∙ c.in-Some.is) c.in-Ok.ensures).0

pub between-raw-requires-clause-within : goal.between-raw-requires-clause-within
between-raw-requires-clause-within c =
    let rest = at_rest c.self.inside.text.now c.self.inside.dialect c.self.inside.chars c.behind_gap-gap.result.rest (gap_of c.self.inside.chars) c.self.invariant.0 c.behind_gap-gap.ensures.rest in
    rw c.at.ensures (bounds c.self.inside.text.now c.self.inside.dialect (place_of c.past_gap-standing.result) c.behind_gap-gap.result.rest c.in-Ok.left c.in-Ok.kind c.in-Some.first rest (sym c.peek.ensures ∙ c.in-Some.is) c.in-Ok.ensures).1

pub past_item-self-inside-requires : goal.past_item-self-inside-requires
past_item-self-inside-requires c =
    spanned c.self.inside.text.now c.self.inside.dialect c.behind_gap-gap.result.rest
    (at_rest c.self.inside.text.now c.self.inside.dialect c.self.inside.chars c.behind_gap-gap.result.rest (gap_of c.self.inside.chars) c.self.invariant.0 c.behind_gap-gap.ensures.rest)

pub is_backslash_last-back-requires-clause-some : goal.is_backslash_last-back-requires-clause-some
is_backslash_last-back-requires-clause-some c =
    let rest = at_rest c.self.inside.text.now c.self.inside.dialect c.self.inside.chars c.behind_gap-gap.result.rest (gap_of c.self.inside.chars) c.self.invariant.0 c.behind_gap-gap.ensures.rest in
    some_before c.self.inside.text.now c.self.inside.dialect (place_of c.past_gap-standing.result) c.behind_gap-gap.result.rest c.in-Ok.left c.in-Ok.kind rest c.in-Ok.ensures

pub is_backslash_last-back-requires-clause-within : goal.is_backslash_last-back-requires-clause-within
is_backslash_last-back-requires-clause-within c =
    let rest = at_rest c.self.inside.text.now c.self.inside.dialect c.self.inside.chars c.behind_gap-gap.result.rest (gap_of c.self.inside.chars) c.self.invariant.0 c.behind_gap-gap.ensures.rest in
    (bounds c.self.inside.text.now c.self.inside.dialect (place_of c.past_gap-standing.result) c.behind_gap-gap.result.rest c.in-Ok.left c.in-Ok.kind c.in-Some.first rest (sym c.peek.ensures ∙ c.in-Some.is) c.in-Ok.ensures).1

pub is_backslash_last-back-requires-clause-spans : goal.is_backslash_last-back-requires-clause-spans
is_backslash_last-back-requires-clause-spans c =
    spanned c.self.inside.text.now c.self.inside.dialect c.behind_gap-gap.result.rest
    (at_rest c.self.inside.text.now c.self.inside.dialect c.self.inside.chars c.behind_gap-gap.result.rest (gap_of c.self.inside.chars) c.self.invariant.0 c.behind_gap-gap.ensures.rest)

pub is_backslash_last-back-requires-clause-slashed : goal.is_backslash_last-back-requires-clause-slashed
is_backslash_last-back-requires-clause-slashed c =
    slashed_rest c.self.inside.text.now c.self.inside.chars c.behind_gap-gap.result.rest (gap_of c.self.inside.chars) c.self.invariant.1 c.behind_gap-gap.ensures.rest

pub invariant_of-self : goal.invariant_of-self
invariant_of-self c = (
  at_rest c.self.inside.text.now c.self.inside.dialect c.behind_gap-gap.result.rest c.in-Ok.left c.in-Ok.ensures.n
      (at_rest c.self.inside.text.now c.self.inside.dialect c.self.inside.chars c.behind_gap-gap.result.rest (gap_of c.self.inside.chars) c.self.invariant.0 c.behind_gap-gap.ensures.rest) c.in-Ok.ensures.left_is,
  slashed_rest c.self.inside.text.now c.behind_gap-gap.result.rest c.in-Ok.left c.in-Ok.ensures.n
      (slashed_rest c.self.inside.text.now c.self.inside.chars c.behind_gap-gap.result.rest (gap_of c.self.inside.chars) c.self.invariant.1 c.behind_gap-gap.ensures.rest) c.in-Ok.ensures.left_is,
  raw_rest c.self.inside.text.now c.behind_gap-gap.result.rest c.in-Ok.left c.in-Ok.ensures.n
      (raw_rest c.self.inside.text.now c.self.inside.chars c.behind_gap-gap.result.rest (gap_of c.self.inside.chars) c.self.invariant.2 c.behind_gap-gap.ensures.rest) c.in-Ok.ensures.left_is,
)

pub returns-in-Ok-clause-some : goal.returns-in-Ok-clause-some
returns-in-Ok-clause-some c =
    let old : Reading = record { text = c.self.inside.text.now; dialect = c.self.inside.dialect; left = record { place = place_of c.self.inside.standing; chars = c.self.inside.chars.chars }; at = c.self.inside.chars.at } in
    let new : Reading = record { text = c.self.inside.text.now; dialect = c.self.inside.dialect; left = record { place = place_of c.past_item-self-inside.result; chars = c.in-Ok.left.chars }; at = c.in-Ok.left.at } in
    let new_line = ap (λ k. not (k == 0)) c.behind_gap-gap.ensures.lines ∙ gap_lines c.self.inside.chars.chars in
    let next : IsNextItem old new c.in-Ok.kind c.in-Some.first.from c.between-raw.result.now =
    next_there c.self.inside.text.now c.self.inside.dialect (place_of c.self.inside.standing) (place_of c.past_gap-standing.result) (place_of c.past_item-self-inside.result)
    c.self.inside.chars c.behind_gap-gap.result.rest c.in-Ok.left (not (c.behind_gap-gap.result.lines == 0)) c.in-Some.first c.in-Ok.kind c.between-raw.result.now c.self.invariant.0
    new_line c.behind_gap-gap.ensures.rest (sym c.peek.ensures ∙ c.in-Some.is) c.past_gap-standing.ensures c.in-Ok.ensures c.past_item-self-inside.ensures
    (c.between-raw.ensures ∙ ap (λ k. take (k - c.in-Some.first.from) (drop c.in-Some.first.from c.self.inside.text.now)) c.at.ensures) in
    let lexeme : Lexeme = record {
      item = record { kind = c.in-Ok.kind; raw = c.between-raw.result; start = c.in-Some.first.from };
      lines = c.behind_gap-gap.result.lines;
      bytes = c.behind_gap-gap.result.bytes;
      white = not (c.behind_gap-gap.result.bytes == 0);
      back = c.is_backslash_last-back.result;
    } in
    subst (λ v. IsNextLexeme v new lexeme) c.self.view_is
    (lexeme_there old new c.self.inside.chars c.behind_gap-gap.result.rest c.in-Ok.left (place_of c.past_gap-standing.result) c.in-Ok.kind lexeme c.self.invariant.0 refl c.behind_gap-gap.ensures.rest
    c.in-Ok.ensures refl c.behind_gap-gap.ensures.lines c.behind_gap-gap.ensures.bytes refl c.is_backslash_last-back.ensures next)

pub returns-in-Ok-clause-behind : goal.returns-in-Ok-clause-behind
returns-in-Ok-clause-behind c =
    let rest = at_rest c.self.inside.text.now c.self.inside.dialect c.self.inside.chars c.behind_gap-gap.result.rest (gap_of c.self.inside.chars) c.self.invariant.0 c.behind_gap-gap.ensures.rest in
    let within =
    bounds c.self.inside.text.now c.self.inside.dialect (place_of c.past_gap-standing.result) c.behind_gap-gap.result.rest c.in-Ok.left c.in-Ok.kind c.in-Some.first rest (sym c.peek.ensures ∙ c.in-Some.is) c.in-Ok.ensures in
    let len = length-between c.in-Some.first.from c.in-Ok.left.at c.self.inside.text.now within.0 within.1 in
    let same = ap length (c.between-raw.ensures ∙ ap (λ k. take (k - c.in-Some.first.from) (drop c.in-Some.first.from c.self.inside.text.now)) c.at.ensures) in
    omega (arith, len, same, within.0)

pub returns-in-Err-clause-fault : goal.returns-in-Err-clause-fault
returns-in-Err-clause-fault c =
    subst (λ v. IsFault v c.fault_of.result) c.self.view_is
    (subst (λ f. IsFault (record { text = c.self.inside.text.now; dialect = c.self.inside.dialect; left = record { place = place_of c.self.inside.standing; chars = c.self.inside.chars.chars }; at = c.self.inside.chars.at }) f) (sym c.fault_of.ensures)
    (fault_there c.self.inside.text.now c.self.inside.dialect (place_of c.self.inside.standing) c.self.inside.chars c.behind_gap-gap.result.rest c.in-Some.first c.in-Err.stop c.self.invariant.0
    c.behind_gap-gap.ensures.rest (sym c.peek.ensures ∙ c.in-Some.is) c.in-Err.ensures))
