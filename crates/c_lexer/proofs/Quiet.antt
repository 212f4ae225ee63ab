-- Literals and comments of quiet bytes, cut off where plain ones end them.
use Rattle.std.proofs.Common.{◌≡◌, ◌==◌, ◌&&◌, ◌∙◌, Bool, true, false, ℕ, suc, ◌+◌, List, [], ◌∷◌, ◌++◌, length, get_or, nat_eq, nat_le, refl, sym, ap, append_assoc, arith}
use Rattle.std.specs.Prelude.{Some, slice_get}
use Rattle.std.specs.List.{list_all, starts_with}
use Rattle.std.proofs.lemmas.Bool.{and_from, and_parts, eq-eqb, ne_eqb}
use Rattle.std.proofs.lemmas.Bool.Decides.{nat_tests}
use Rattle.std.proofs.lemmas.List.{length-append}
use Rattle.c_chars.specs.Characters.{bytes_of, placed, is_comment_byte, is_comment_ink, is_ink_byte, is_quiet_byte, is_quiet_comment, is_space_byte, is_text_byte}
use Rattle.c_chars.specs.Coming.{Coming, AreBytesPassed, ArePassed, AreWordsPassed, behind}
use Rattle.c_chars.specs.declared.LogicalChar.{LogicalChar}
use Rattle.c_chars.proofs.Steps.{behind_next}
use Rattle.c_grammar.specs.Bytes.{is_quote_mark}
use Rattle.c_grammar.specs.Grammar.{is_new_line}
use Rattle.c_grammar.proofs.Lists.{all_append}
use Rattle.item_kinds.specs.declared.ItemKind.TheVariants.{BlockComment, CharConst, LineComment, StringLit}
use Rattle.c_lexer.specs.Comment.{block_len, closes_block, line_len}
use Rattle.c_lexer.specs.Cut.{IsCutOff}
use Rattle.c_lexer.specs.Quote.{closes_quote, quote_len}
use Rattle.c_lexer.specs.Reading.{AreOwnBytes, IsBegun, is_own_byte}
use Rattle.c_lexer.proofs.CutOffs.{behind_again, block_off, line_off}
use Rattle.c_lexer.proofs.MarksOff.{char_there, string_there}
use Rattle.c_lexer.proofs.Passing.{block_next, first_is, passed_block, passed_line, passed_quote}
use Rattle.c_lexer.proofs.PlainBytes.{each, next_one, next_passed, none_passed, one_passed}
use Rattle.c_lexer.proofs.Plains.{begun_first, no_pair, one_behind}

-- Bytes.

quiet_text : (b : ℕ) → is_quiet_byte b ≡ true → is_text_byte b ≡ true
unfolding is_quiet_byte
quiet_text b h = (and_parts (is_text_byte b) (nat_le 32 b && nat_le b 126) h).0

quiet_comment : (b : ℕ) → is_quiet_byte b ≡ true → is_comment_byte b ≡ true
unfolding is_quiet_byte is_text_byte is_ink_byte is_comment_byte is_comment_ink is_space_byte
quiet_comment b h = grind (arith, nat_tests)

quiet_own : (b : ℕ) → is_quiet_byte b ≡ true → is_own_byte b ≡ true
unfolding is_quiet_byte is_text_byte is_ink_byte is_space_byte is_own_byte
quiet_own b h = grind (arith, nat_tests)

quote_own : (q : ℕ) → is_quote_mark q ≡ true → is_own_byte q ≡ true
unfolding is_own_byte
quote_own q h = grind (arith, nat_tests)

quote_in_line : (q : ℕ) → is_quote_mark q ≡ true → is_new_line q ≡ false
unfolding is_new_line
quote_in_line q h = grind (arith, nat_tests)

own_byte : (b c : ℕ) → b ≡ c → is_own_byte c ≡ true → is_own_byte b ≡ true
own_byte b c same own = ap is_own_byte same ∙ own

-- Bytes that passed, one run behind another.

passed_as : (p q : ℕ → Bool) (x y : Coming) → ((b : ℕ) → p b ≡ true → q b ≡ true) → ArePassed p x y → ArePassed q x y
passed_as p q x y more r = record { n = r.n; within = r.within; all = each p q _ more r.all; new_is = r.new_is }

bytes_as : (p q : ℕ → Bool) (x y : Coming) → ((b : ℕ) → p b ≡ true → q b ≡ true) → AreBytesPassed p x y → AreBytesPassed q x y
bytes_as p q x y more r = record { bytes = r.bytes; all = each p q r.bytes more r.all; chars_are = r.chars_are; at_is = r.at_is }

placed_append : (at : ℕ) (a b : List ℕ) → placed at (a ++ b) ≡ placed at a ++ placed (at + length a) b
placed_append at [] b = let same : at + 0 ≡ at = omega arith in sym (ap (λ k. placed k b) same)
placed_append at (c ∷ a) b =
    let same : (at + 1) + length a ≡ at + suc (length a) = omega arith in
    ap (λ s. record { byte = c; from = at; to = at + 1 } ∷ s) (placed_append (at + 1) a b ∙ ap (λ k. placed (at + 1) a ++ placed k b) same)

passed_on : (p : ℕ → Bool) (x y z : Coming) → AreBytesPassed p x y → AreBytesPassed p y z → AreBytesPassed p x z
passed_on p x y z r t =
    let len = length-append r.bytes t.bytes in
    let first : y.at ≡ x.at + length r.bytes = r.at_is in
    let then : z.at ≡ y.at + length t.bytes = t.at_is in
    record {
      bytes = r.bytes ++ t.bytes;
      all = all_append p r.bytes t.bytes ∙ and_from (list_all p r.bytes) (list_all p t.bytes) r.all t.all;
      chars_are =
          r.chars_are
          ∙ (ap (λ s. placed x.at r.bytes ++ s) t.chars_are
          ∙ (sym (append_assoc (placed x.at r.bytes) (placed y.at t.bytes) z.chars)
          ∙ ap (λ s. s ++ z.chars) (ap (λ k. placed x.at r.bytes ++ placed k t.bytes) first ∙ sym (placed_append x.at r.bytes t.bytes))));
      at_is = omega (arith, len, first, then);
    }

-- The next character, a byte by itself.
pub record IsNextByte (x y : Coming) (c : LogicalChar) : Type 0 where
  pub chars_are : x.chars ≡ c ∷ y.chars
  pub at_is : y.at ≡ c.to
  pub dialect_is : y.dialect ≡ x.dialect
  pub from_is : c.from ≡ x.at
  pub to_is : c.to ≡ x.at + 1

one_more : (p : ℕ → Bool) (x y : Coming) (c : LogicalChar) → IsNextByte x y c → p c.byte ≡ true → AreBytesPassed p x y
one_more p x y c next holds = one_passed p x y y c next.chars_are next.at_is next.from_is next.to_is holds (none_passed p y)

-- Literals.

-- the quote that ends one
quote_shut : (q : ℕ) (x y : Coming) (c : LogicalChar) → is_quote_mark q ≡ true → c.byte ≡ q → IsNextByte x y c
    → (closes_quote q false (bytes_of x.chars) ≡ true) × (y ≡ behind x (quote_len q false (bytes_of x.chars)))
quote_shut q x y c mark is next =
    let line : is_new_line c.byte ≡ false = ap is_new_line is ∙ quote_in_line q mark in
    let same = eq-eqb c.byte q is in (
      ap (λ s. closes_quote q false (bytes_of s)) next.chars_are ∙ rw (line, same) refl,
      sym (ap (λ s. behind x (quote_len q false (bytes_of s))) next.chars_are ∙ rw (line, same) (behind_next x y c 0 next.chars_are next.at_is next.dialect_is)),
    )

quiet_closed : (q : ℕ) (z y left : Coming) (c : LogicalChar) → is_quote_mark q ≡ true → ArePassed is_quiet_byte z y → c.byte ≡ q → IsNextByte y left c
    → (closes_quote q false (bytes_of z.chars) ≡ true) × (left ≡ behind z (quote_len q false (bytes_of z.chars)))
quiet_closed q z y left c mark passed is next =
    let on = passed_quote q z y mark (passed_as is_quiet_byte is_text_byte z y quiet_text passed) in
    let shut = quote_shut q y left c mark is next in
    (sym on.0 ∙ shut.0, shut.1 ∙ on.1)

pub quiet_string : (x z y left : Coming) (f c : LogicalChar) → IsBegun x f z → is_quote_mark f.byte ≡ true → (f.byte ≡ 39 → ⊥) → ArePassed is_quiet_byte z y → c.byte ≡ f.byte → IsNextByte y left c
    → IsCutOff x left StringLit
quiet_string x z y left f c begun mark apart passed is next =
    let closed = quiet_closed f.byte z y left c mark passed is next in
    string_there x z left f.byte (begun_first x z f begun) mark apart (one_behind x z f begun) closed.1 closed.0

pub quiet_char : (x z y left : Coming) (f e c : LogicalChar) → IsBegun x f z → is_quote_mark f.byte ≡ true → f.byte ≡ 39 → slice_get z.chars 0 ≡ Some e → (e.byte ≡ 39 → ⊥)
    → ArePassed is_quiet_byte z y → c.byte ≡ f.byte → IsNextByte y left c → IsCutOff x left CharConst
quiet_char x z y left f e c begun mark is_char second some passed is next =
    let closed = quiet_closed f.byte z y left c mark passed is next in
    let other : (39 == e.byte) ≡ false = ne_eqb 39 e.byte (λ same. some (sym same)) in
    let single = no_pair 39 39 f.byte (bytes_of x.chars) (bytes_of z.chars) (ap bytes_of begun.chars_are) (first_is (λ b. 39 == b) z.chars e second ∙ other) in
    char_there x z left f.byte (begun_first x z f begun) is_char single (one_behind x z f begun) closed.1 closed.0

pub quiet_literal : (z y left : Coming) (f c : LogicalChar) → is_quote_mark f.byte ≡ true → AreBytesPassed is_quiet_byte z y → c.byte ≡ f.byte → IsNextByte y left c → AreOwnBytes f z left
quiet_literal z y left f c mark passed is next =
    let own = quote_own f.byte mark in
    record { first_is = own; rest_are = passed_on is_own_byte z y left (bytes_as is_quiet_byte is_own_byte z y quiet_own passed) (one_more is_own_byte y left c next (own_byte c.byte f.byte is own)) }

-- Block comments.

-- the slash that ends one, behind a star
block_shut : (x y : Coming) (c : LogicalChar) → c.byte ≡ 47 → IsNextByte x y c → (closes_block true (bytes_of x.chars) ≡ true) × (y ≡ behind x (block_len true (bytes_of x.chars)))
block_shut x y c is next =
    let same = eq-eqb c.byte 47 is in (
      ap (λ s. closes_block true (bytes_of s)) next.chars_are ∙ rw same refl,
      sym (ap (λ s. behind x (block_len true (bytes_of s))) next.chars_are ∙ rw same (behind_next x y c 0 next.chars_are next.at_is next.dialect_is)),
    )

-- The star and the slash that end one.
pub record IsBlockEnd (y left : Coming) : Type 0 where
  pub between : Coming
  pub star : LogicalChar
  pub slash : LogicalChar
  pub star_is : star.byte ≡ 42
  pub slash_is : slash.byte ≡ 47
  pub first : IsNextByte y between star
  pub second : IsNextByte between left slash

block_ends : (y left : Coming) → IsBlockEnd y left → (closes_block false (bytes_of y.chars) ≡ true) × (left ≡ behind y (block_len false (bytes_of y.chars)))
block_ends y left end =
    let starred : (end.star.byte == 42) ≡ true = eq-eqb end.star.byte 42 end.star_is in
    let step = block_next y end.between end.star false end.first.chars_are end.first.at_is end.first.dialect_is refl in
    let shut = block_shut end.between left end.slash end.slash_is end.second in (
      step.0 ∙ (ap (λ b. closes_block b (bytes_of end.between.chars)) starred ∙ shut.0),
      shut.1 ∙ sym (step.1 ∙ ap (λ b. behind end.between (block_len b (bytes_of end.between.chars))) starred),
    )

pub quiet_block : (x z t y left : Coming) (f c : LogicalChar) → IsBegun x f z → f.byte ≡ 47 → slice_get z.chars 0 ≡ Some c → c.byte ≡ 42 → t ≡ behind z 1 → ArePassed is_quiet_byte t y → IsBlockEnd y left
    → IsCutOff x left BlockComment
quiet_block x z t y left f c begun f_is second c_is t_is passed end =
    let slash = eq-eqb 47 f.byte (sym f_is) in
    let star = eq-eqb 42 c.byte (sym c_is) in
    let chars = begun.chars_are ∙ ap (λ s. f ∷ s) (next_passed z.dialect z.at z.chars c second).0 in
    let begins : starts_with nat_eq (bytes_of x.chars) (47 ∷ 42 ∷ []) ≡ true = ap (λ s. starts_with nat_eq (bytes_of s) (47 ∷ 42 ∷ [])) chars ∙ rw (slash, star) refl in
    let two : t ≡ behind x 2 = t_is ∙ (ap (λ w. behind w 1) (one_behind x z f begun) ∙ behind_again x 1 1) in
    let on = passed_block t y (passed_as is_quiet_byte is_comment_byte t y quiet_comment passed) in
    let ends = block_ends y left end in
    block_off x t (Some left) begins two (sym on.0 ∙ ends.0, ends.1 ∙ on.1)

pub quiet_comment_own : (z t y left : Coming) (f c : LogicalChar) → f.byte ≡ 47 → slice_get z.chars 0 ≡ Some c → c.from ≡ z.at → c.to ≡ z.at + 1 → c.byte ≡ 42 → t ≡ behind z 1
    → AreBytesPassed is_quiet_byte t y → IsBlockEnd y left → AreOwnBytes f z left
unfolding is_own_byte
quiet_comment_own z t y left f c f_is second from to c_is t_is passed end = record {
  first_is = own_byte f.byte 47 f_is refl;
  rest_are =
      passed_on is_own_byte z t left (next_one is_own_byte z t c second from to (own_byte c.byte 42 c_is refl) t_is)
      (passed_on is_own_byte t y left (bytes_as is_quiet_byte is_own_byte t y quiet_own passed)
      (passed_on is_own_byte y end.between left (one_more is_own_byte y end.between end.star end.first (own_byte end.star.byte 42 end.star_is refl))
      (one_more is_own_byte end.between left end.slash end.second (own_byte end.slash.byte 47 end.slash_is refl))));
}

-- Line comments.

line_own_byte : (b : ℕ) → is_quiet_comment b ≡ true → is_own_byte b ≡ true
unfolding is_quiet_comment is_comment_byte is_comment_ink is_space_byte is_own_byte
line_own_byte b h = grind (arith, nat_tests)

none_more : (s : List ℕ) → is_new_line (get_or s 0 0) ≡ true → line_len 47 s ≡ 0
none_more [] ends = refl
none_more (b ∷ s) ends = rw ends refl

pub quiet_line : (x z t y : Coming) (f c : LogicalChar) → IsBegun x f z → f.byte ≡ 47 → slice_get z.chars 0 ≡ Some c → c.byte ≡ 47 → t ≡ behind z 1 → AreWordsPassed t y → is_new_line (get_or (bytes_of y.chars) 0 0) ≡ true
    → IsCutOff x y LineComment
quiet_line x z t y f c begun f_is second c_is t_is passed ends =
    let slash = eq-eqb 47 f.byte (sym f_is) in
    let other = eq-eqb 47 c.byte (sym c_is) in
    let chars = begun.chars_are ∙ ap (λ s. f ∷ s) (next_passed z.dialect z.at z.chars c second).0 in
    let begins : starts_with nat_eq (bytes_of x.chars) (47 ∷ 47 ∷ []) ≡ true = ap (λ s. starts_with nat_eq (bytes_of s) (47 ∷ 47 ∷ [])) chars ∙ rw (slash, other) refl in
    let two : t ≡ behind x 2 = t_is ∙ (ap (λ w. behind w 1) (one_behind x z f begun) ∙ behind_again x 1 1) in
    let none : line_len 47 (bytes_of y.chars) ≡ 0 = none_more (bytes_of y.chars) ends in
    line_off x t y begins two (sym (ap (λ n. behind y n) none) ∙ passed_line 47 t y refl passed)

pub quiet_line_own : (z t y : Coming) (f c : LogicalChar) → f.byte ≡ 47 → slice_get z.chars 0 ≡ Some c → c.from ≡ z.at → c.to ≡ z.at + 1 → c.byte ≡ 47 → t ≡ behind z 1 → AreBytesPassed is_quiet_comment t y → AreOwnBytes f z y
unfolding is_own_byte
quiet_line_own z t y f c f_is second from to c_is t_is passed = record {
  first_is = own_byte f.byte 47 f_is refl;
  rest_are = passed_on is_own_byte z t y (next_one is_own_byte z t c second from to (own_byte c.byte 47 c_is refl) t_is) (bytes_as is_quiet_comment is_own_byte t y line_own_byte passed);
}
