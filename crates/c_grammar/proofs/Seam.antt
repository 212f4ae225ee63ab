-- Two items that may touch are read as they were when what stands between them is taken away: the left item.
use Rattle.std.proofs.Common.{◌≡◌, ◌==◌, ◌||◌, ◌&&◌, ℕ, Bool, true, false, List, [], ◌∷◌, ◌++◌, refl, inl, inr}
use Rattle.std.specs.Prelude.{codes}
use Rattle.std.specs.List.{list_any}
use Rattle.std.proofs.lemmas.Bool.{and_parts, or_cases, and_from, or_left, or_right, not-true, both_ways, or_parts}
use Rattle.c_grammar.specs.Grammar.{is_same, is_of, is_letter, is_digit, is_sign, is_exponent, is_string_prefix, Shape, Whole, Spells}
use Rattle.c_grammar.specs.Touch.{starts, ends, is_front, is_identifier, is_number, is_other_kind, is_literal, takes_line, word_by_word, prefix_by_quote, number_goes_on, point_by_number, punct_goes_on, trigraph_comes, may_touch}
use Rattle.c_chars.specs.declared.Dialect.{Dialect}
use Rattle.item_kinds.specs.declared.ItemKind.{ItemKind}
use Rattle.item_kinds.specs.declared.ItemKind.TheVariants.{Identifier, Number, CharConst, StringLit, Punct, HeaderName, StrayQuote, Other, BlockComment, LineComment}
use Rattle.c_grammar.proofs.Firsts.{can_begin, is_quote, is_letter_start, is_mark}
use Rattle.c_grammar.proofs.Classes.{not_of, letter_not_digit, letter_start_not_digit, digit_not_quote, digit_not_mark, other_is_none}
use Rattle.c_grammar.proofs.Words.{is_wordlike, wordlike_not_quote, wordlike_not_mark}
use Rattle.c_grammar.proofs.Sorts.{apart_at}
use Rattle.c_grammar.proofs.Goes.{identifier_goes, number_goes, punct_goes, touch_table, identifier_goes_on, number_goes_on_at, punct_goes_on_at}

-- What a true may_touch excludes.
pub record Touch (left : ItemKind) (l : List ℕ) (right : ItemKind) (r : List ℕ) : Type 0 where
  pub words : word_by_word left right r ≡ false
  pub prefix : prefix_by_quote left l r ≡ false
  pub number : number_goes_on left l r ≡ false
  pub point : point_by_number l right ≡ false
  pub punct : punct_goes_on left l r ≡ false
  pub trigraph : trigraph_comes l r ≡ false
  pub others : (is_other_kind left || is_other_kind right) ≡ false
  pub line : takes_line left ≡ false

pub touch_parts : (left : ItemKind) (l : List ℕ) (right : ItemKind) (r : List ℕ) → may_touch left l right r ≡ true → Touch left l right r
touch_parts left l right r h =
    let p8 = or_parts (word_by_word left right r || prefix_by_quote left l r || number_goes_on left l r || point_by_number l right || punct_goes_on left l r || trigraph_comes l r || (is_other_kind left || is_other_kind right)) (takes_line left) (not-true _ h) in
    let p7 = or_parts (word_by_word left right r || prefix_by_quote left l r || number_goes_on left l r || point_by_number l right || punct_goes_on left l r || trigraph_comes l r) (is_other_kind left || is_other_kind right) p8.0 in
    let p6 = or_parts (word_by_word left right r || prefix_by_quote left l r || number_goes_on left l r || point_by_number l right || punct_goes_on left l r) (trigraph_comes l r) p7.0 in
    let p5 = or_parts (word_by_word left right r || prefix_by_quote left l r || number_goes_on left l r || point_by_number l right) (punct_goes_on left l r) p6.0 in
    let p4 = or_parts (word_by_word left right r || prefix_by_quote left l r || number_goes_on left l r) (point_by_number l right) p5.0 in
    let p3 = or_parts (word_by_word left right r || prefix_by_quote left l r) (number_goes_on left l r) p4.0 in
    let p2 = or_parts (word_by_word left right r) (prefix_by_quote left l r) p3.0 in
    record { words = p2.0; prefix = p2.1; number = p3.1; point = p4.1; punct = p5.1; trigraph = p6.1; others = p7.1; line = p8.1 }

-- what an item may begin with, wherever it stands
abbrev pub item_begin : Dialect → ItemKind → ℕ → Bool
item_begin d HeaderName c = is_of (60 ∷ 34 ∷ []) c
item_begin d kind c = can_begin d (Whole kind) c

-- the right item begins with c, a character that stands in words
pub word_follows : (d : Dialect) (right : ItemKind) (c : ℕ) (r : List ℕ) → item_begin d right c ≡ true → is_wordlike c ≡ true → ((is_identifier right || is_number right || (is_literal right && starts is_letter (c ∷ r))) || is_other_kind right) ≡ true
unfolding is_wordlike is_letter is_digit
word_follows d Identifier c r h w = refl
word_follows d Number c r h w = refl
word_follows d CharConst c r h w = elim (or_cases (is_letter c) (c == 39) h) [ inl e ↦ rw e refl | inr e ↦ absurd (both_ways (c == 39) (apart_at is_wordlike c 39 w refl) e) ]
word_follows d StringLit c r h w = elim (or_cases (is_letter c) (c == 34) h) [ inl e ↦ rw e refl | inr e ↦ absurd (both_ways (c == 34) (apart_at is_wordlike c 34 w refl) e) ]
word_follows d Punct c r h w = absurd (both_ways (is_mark c) (wordlike_not_mark c w) h)
word_follows d HeaderName c r h w = absurd (both_ways (is_wordlike c) (not_of is_wordlike (60 ∷ 34 ∷ []) refl c h) w)
word_follows d StrayQuote c r h w = absurd (both_ways (is_quote c) (wordlike_not_quote c w) h)
word_follows d Other c r h w = refl
word_follows d BlockComment c r h w = absurd (both_ways (c == 47) (apart_at is_wordlike c 47 w refl) h)
word_follows d LineComment c r h w = absurd (both_ways (c == 47) (apart_at is_wordlike c 47 w refl) h)

-- so a word on the left doesn't touch it
pub no_word : (d : Dialect) (left : ItemKind) (l : List ℕ) (right : ItemKind) (c : ℕ) (r : List ℕ) → (is_identifier left || is_number left) ≡ true → item_begin d right c ≡ true → is_wordlike c ≡ true → Touch left l right (c ∷ r) → ⊥
no_word d left l right c r k b w t =
    elim (or_cases (is_identifier right || is_number right || (is_literal right && starts is_letter (c ∷ r))) (is_other_kind right) (word_follows d right c r b w)) [
      | inl e ↦ both_ways (word_by_word left right (c ∷ r)) t.words (and_from (is_identifier left || is_number left) (is_identifier right || is_number right || (is_literal right && starts is_letter (c ∷ r))) k e)
      | inr e ↦ both_ways (is_other_kind left || is_other_kind right) t.others (or_right (is_other_kind left) (is_other_kind right) e)
    ]

-- what an item that begins with a digit is
pub digit_begins : (d : Dialect) (right : ItemKind) (c : ℕ) → item_begin d right c ≡ true → is_digit c ≡ true → is_number right ≡ true
unfolding is_letter_start is_letter is_digit
digit_begins d Identifier c h w = absurd (both_ways (is_digit c) (letter_start_not_digit c h) w)
digit_begins d Number c h w = refl
digit_begins d CharConst c h w = elim (or_cases (is_letter c) (c == 39) h) [ inl e ↦ absurd (both_ways (is_digit c) (letter_not_digit c e) w) | inr e ↦ absurd (both_ways (c == 39) (apart_at is_digit c 39 w refl) e) ]
digit_begins d StringLit c h w = elim (or_cases (is_letter c) (c == 34) h) [ inl e ↦ absurd (both_ways (is_digit c) (letter_not_digit c e) w) | inr e ↦ absurd (both_ways (c == 34) (apart_at is_digit c 34 w refl) e) ]
digit_begins d Punct c h w = absurd (both_ways (is_mark c) (digit_not_mark c w) h)
digit_begins d HeaderName c h w = absurd (both_ways (is_digit c) (not_of is_digit (60 ∷ 34 ∷ []) refl c h) w)
digit_begins d StrayQuote c h w = absurd (both_ways (is_quote c) (digit_not_quote c w) h)
digit_begins d Other c h w = absurd (both_ways (is_digit c) (other_is_none d c h).digit w)
digit_begins d BlockComment c h w = absurd (both_ways (c == 47) (apart_at is_digit c 47 w refl) h)
digit_begins d LineComment c h w = absurd (both_ways (c == 47) (apart_at is_digit c 47 w refl) h)

-- The left item, for these three kinds, still is the longest before what begins with the right item.

abbrev pub is_code : ItemKind → Bool
is_code Identifier = true
is_code Number = true
is_code Punct = true
is_code _ = false

identifier_apart : (d : Dialect) (l : List ℕ) (right : ItemKind) (c : ℕ) (r : List ℕ) → item_begin d right c ≡ true → Touch Identifier l right (c ∷ r) → identifier_goes l c ≡ true → ⊥
unfolding is_quote
identifier_apart d l right c r i t h = elim (or_cases (is_wordlike c) (is_string_prefix l && is_quote c) h) [
  | inl e ↦ no_word d Identifier l right c r refl i e t
  | inr e ↦ both_ways (prefix_by_quote Identifier l (c ∷ r)) t.prefix e
]

number_apart : (d : Dialect) (l : List ℕ) (right : ItemKind) (c : ℕ) (r : List ℕ) → item_begin d right c ≡ true → Touch Number l right (c ∷ r) → number_goes l c ≡ true → ⊥
number_apart d l right c r i t h = elim (or_cases (is_wordlike c || is_of (codes ".'") c) (is_sign c && ends is_exponent l) h) [
  | inl e ↦ elim (or_cases (is_wordlike c) (is_of (codes ".'") c) e) [
    | inl f ↦ no_word d Number l right c r refl i f t
    | inr f ↦ both_ways (number_goes_on Number l (c ∷ r)) t.number (or_left (is_of (codes ".'") c) (is_sign c && ends is_exponent l) f)
  ]
  | inr e ↦ both_ways (number_goes_on Number l (c ∷ r)) t.number (or_right (is_of (codes ".'") c) (is_sign c && ends is_exponent l) e)
]

punct_apart : (d : Dialect) (l : List ℕ) (right : ItemKind) (c : ℕ) (r : List ℕ) → item_begin d right c ≡ true → Touch Punct l right (c ∷ r) → punct_goes l c ≡ true → ⊥
punct_apart d l right c r i t h = elim (or_cases (list_any (is_front (l ++ c ∷ [])) touch_table) (is_same l (46 ∷ []) && is_digit c) h) [
  | inl e ↦ both_ways (punct_goes_on Punct l (c ∷ r)) t.punct e
  | inr e ↦
      let parts = and_parts (is_same l (46 ∷ [])) (is_digit c) e in
      both_ways (point_by_number l right) t.point (and_from (is_same l (46 ∷ [])) (is_number right) parts.0 (digit_begins d right c i parts.1))
]

pub no_crossing : (d : Dialect) (left : ItemKind) (k : Shape) (l : List ℕ) (right : ItemKind) (c : ℕ) (r more : List ℕ) → is_code left ≡ true → Spells d (Whole left) l → Spells d k (l ++ c ∷ more) → item_begin d right c ≡ true → Touch left l right (c ∷ r) → ⊥
no_crossing d Identifier k l right c r more s g h i t = identifier_apart d l right c r i t (identifier_goes_on d k l c more g h)
no_crossing d Number k l right c r more s g h i t = number_apart d l right c r i t (number_goes_on_at d k l c more g h)
no_crossing d Punct k l right c r more s g h i t = punct_apart d l right c r i t (punct_goes_on_at d k l c more g h)
no_crossing d CharConst k l right c r more s g h i t = cc
no_crossing d StringLit k l right c r more s g h i t = cc
no_crossing d HeaderName k l right c r more s g h i t = cc
no_crossing d StrayQuote k l right c r more s g h i t = cc
no_crossing d Other k l right c r more s g h i t = cc
no_crossing d BlockComment k l right c r more s g h i t = cc
no_crossing d LineComment k l right c r more s g h i t = cc
