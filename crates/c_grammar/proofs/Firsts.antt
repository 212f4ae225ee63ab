-- The character that each kind of item begins with.
use Rattle.std.proofs.Common.{◌≡◌, ◌==◌, ◌||◌, ◌&&◌, ℕ, Bool, true, false, List, [], ◌∷◌, ◌++◌, length, refl, ◌∙◌, ap, inl, inr, ◌⊎◌, not, subst, arith}
use Rattle.std.specs.Prelude.{codes}
use Rattle.std.specs.List.{list_all}
use Rattle.std.proofs.lemmas.Bool.{and_parts, or_cases, or_left, or_right, eq-eqb, both_ways, false_from_ne_true, ne_eqb}
use Rattle.std.proofs.lemmas.Bool.Decides.{nat_tests}
use Rattle.c_grammar.specs.Grammar.{is_one, is_wide, is_other_unit, is_white, is_new_line, is_of, is_letter, is_digit, is_hex, is_universal_name, is_letter_unit, is_number_head, common_punctuators, punctuators, is_punctuator, is_char_prefix, is_string_prefix, is_other, Shape, Whole, Unended, Spells}
use Rattle.c_grammar.specs.Touch.{starts}
use Rattle.c_chars.specs.declared.Dialect.{Dialect}
use Rattle.c_chars.specs.declared.Dialect.TheVariants.{C11, C23}
use Rattle.item_kinds.specs.declared.ItemKind.TheVariants.{Identifier, Number, CharConst, StringLit, Punct, HeaderName, StrayQuote, Other, BlockComment, LineComment}
use Rattle.c_grammar.proofs.Lists.{in_table, none_of}
use Rattle.c_grammar.proofs.Wide.{is_high, AreHigh, high_first, wide_high}
use Rattle.unicode_ident.specs.Ident.{is_xid_start}

pub record Begins (p : ℕ → Bool) (s : List ℕ) : Type 0 where
  pub c : ℕ
  pub rest : List ℕ
  pub whole : s ≡ c ∷ rest
  pub passes : p c ≡ true

pub Begins-append : {p : ℕ → Bool} {s : List ℕ} (t : List ℕ) → Begins p s → Begins p (s ++ t)
Begins-append t b = let w = b.whole in record { c = b.c; rest = b.rest ++ t; whole = ap (λ x. x ++ t) w; passes = b.passes }

unfoldable pub is_quote : ℕ → Bool
is_quote c = is_of (codes "'\"") c

-- a backslash, or past ASCII
abbrev pub is_rare : ℕ → Bool
is_rare c = (c == 92) || is_high c

-- an identifier's first character
unfoldable pub is_letter_start : ℕ → Bool
is_letter_start c = is_letter c || is_rare c

unfoldable pub is_number_start : ℕ → Bool
is_number_start c = is_digit c || c == 46

unfoldable pub is_mark : ℕ → Bool
is_mark c = is_of (codes "[](){}.-+&*~!/%<>=^|?:;,#") c

-- what an identifier's unit is that isn't a letter
pub letter_cases : (u : List ℕ) → is_letter_unit u ≡ true → (is_one is_letter u ≡ true) ⊎ ((is_universal_name u ≡ true) ⊎ (is_wide is_xid_start u ≡ true))
unfolding is_letter_unit
letter_cases u h = elim (or_cases (is_one is_letter u) (is_universal_name u || is_wide is_xid_start u) h) [ inl e ↦ inl e | inr e ↦ inr (or_cases (is_universal_name u) (is_wide is_xid_start u) e) ]

one_begins : (u : List ℕ) → is_one is_letter u ≡ true → Begins is_letter_start u
unfolding is_letter_start
one_begins [] h = cc
one_begins (c ∷ []) h = record { c = c; rest = []; whole = refl; passes = or_left (is_letter c) (is_rare c) h }
one_begins (c ∷ e ∷ s) h = cc

name_begins : (u : List ℕ) → is_universal_name u ≡ true → Begins is_letter_start u
unfolding is_universal_name is_letter_start
name_begins [] h = cc
name_begins (c ∷ []) h = cc
name_begins (b ∷ k ∷ digits) h =
    let parts = and_parts (b == 92) (((k == 117) && (length digits == 4)) || ((k == 85) && (length digits == 8))) (and_parts _ (list_all is_hex digits) h).0 in
    record { c = b; rest = k ∷ digits; whole = refl; passes = or_right (is_letter b) (is_rare b) (or_left (b == 92) (is_high b) parts.0) }

pub high_begins : {p : ℕ → Bool} (u : List ℕ) → AreHigh u → ((c : ℕ) → is_high c ≡ true → p c ≡ true) → Begins p u
high_begins u h f = record { c = h.first; rest = h.second ∷ h.rest; whole = h.whole; passes = f h.first (high_first u h) }

pub high_letter_start : (c : ℕ) → is_high c ≡ true → is_letter_start c ≡ true
unfolding is_letter_start
high_letter_start c h = or_right (is_letter c) (is_rare c) (or_right (c == 92) (is_high c) h)

pub letter_begins : (u : List ℕ) → is_letter_unit u ≡ true → Begins is_letter_start u
letter_begins u h = elim (letter_cases u h) [
  | inl e ↦ one_begins u e
  | inr r ↦ elim r [ inl e ↦ name_begins u e | inr e ↦ high_begins u (wide_high is_xid_start u e) high_letter_start ]
]

pub number_begins : (u : List ℕ) → is_number_head u ≡ true → Begins is_number_start u
unfolding is_number_head is_number_start
number_begins [] h = cc
number_begins (c ∷ []) h = record { c = c; rest = []; whole = refl; passes = elim (or_cases (is_digit c) false h) [ inl e ↦ or_left (is_digit c) (c == 46) e | inr e ↦ cc ] }
number_begins (c ∷ e ∷ []) h = record { c = c; rest = e ∷ []; whole = refl; passes = or_right (is_digit c) (c == 46) (and_parts (c == 46) (is_digit e) h).0 }
number_begins (c ∷ e ∷ f ∷ s) h = cc

starts_begins : (p : ℕ → Bool) (s : List ℕ) → starts p s ≡ true → Begins p s
starts_begins p [] h = cc
starts_begins p (c ∷ s) h = record { c = c; rest = s; whole = refl; passes = h }

abbrev pub starts_or_empty : (ℕ → Bool) → List ℕ → Bool
starts_or_empty p [] = true
starts_or_empty p (c ∷ s) = p c

pub punct_begins : (d : Dialect) (s : List ℕ) → is_punctuator d s ≡ true → Begins is_mark s
unfolding is_punctuator punctuators is_mark
punct_begins C11 s h = starts_begins is_mark s (in_table (starts is_mark) common_punctuators refl s h)
punct_begins C23 s h = starts_begins is_mark s (in_table (starts is_mark) (codes "::" ∷ common_punctuators) refl s h)

pub char_prefix_letter : (d : Dialect) (p : List ℕ) → is_char_prefix d p ≡ true → starts_or_empty is_letter p ≡ true
unfolding is_char_prefix is_letter
char_prefix_letter C11 p h = in_table (starts_or_empty is_letter) ([] ∷ codes "L" ∷ codes "u" ∷ codes "U" ∷ []) refl p h
char_prefix_letter C23 p h = in_table (starts_or_empty is_letter) ([] ∷ codes "L" ∷ codes "u" ∷ codes "U" ∷ codes "u8" ∷ []) refl p h

pub string_prefix_letter : (p : List ℕ) → is_string_prefix p ≡ true → starts_or_empty is_letter p ≡ true
unfolding is_string_prefix is_letter
string_prefix_letter p h = in_table (starts_or_empty is_letter) ([] ∷ codes "L" ∷ codes "u" ∷ codes "U" ∷ codes "u8" ∷ []) refl p h

-- a quote, or a letter of a prefix
prefixed : (q : ℕ) (before rest : List ℕ) → starts_or_empty is_letter before ≡ true → Begins (λ c. is_letter c || c == q) (before ++ q ∷ rest)
prefixed q [] rest h = record { c = q; rest = rest; whole = refl; passes = or_right (is_letter q) (q == q) (eq-eqb q q refl) }
prefixed q (c ∷ before) rest h = record { c = c; rest = before ++ q ∷ rest; whole = refl; passes = or_left (is_letter c) (c == q) h }

abbrev pub can_begin : Dialect → Shape → ℕ → Bool
can_begin d (Whole Identifier) c = is_letter_start c
can_begin d (Whole Number) c = is_number_start c
can_begin d (Whole CharConst) c = is_letter c || c == 39
can_begin d (Whole StringLit) c = is_letter c || c == 34
can_begin d (Whole Punct) c = is_mark c
can_begin d (Whole HeaderName) c = false
can_begin d (Whole StrayQuote) c = is_quote c
can_begin d (Whole Other) c = is_other d c
can_begin d (Whole BlockComment) c = c == 47
can_begin d (Whole LineComment) c = c == 47
can_begin d Unended c = c == 47

-- no start of an identifier
abbrev pub not_start : ℕ → Bool
not_start c = not (is_xid_start c)

pub other_cases : (d : Dialect) (s : List ℕ) → is_other_unit d s ≡ true → (is_one (is_other d) s ≡ true) ⊎ (is_wide not_start s ≡ true)
unfolding is_other_unit
other_cases d s h = or_cases (is_one (is_other d) s) (is_wide not_start s) h

one_other : (d : Dialect) (s : List ℕ) → is_one (is_other d) s ≡ true → Begins (is_other d) s
one_other d [] h = cc
one_other d (c ∷ []) h = record { c = c; rest = []; whole = refl; passes = h }
one_other d (c ∷ e ∷ s) h = cc

pub high_not_mark : (c : ℕ) → is_high c ≡ true → is_mark c ≡ false
unfolding is_mark
high_not_mark c h = none_of is_high (codes "[](){}.-+&*~!/%<>=^|?:;,#") refl c h

pub high_not_quote : (c : ℕ) → is_high c ≡ true → is_quote c ≡ false
unfolding is_quote
high_not_quote c h = none_of is_high (codes "'\"") refl c h

pub high_not_letter : (c : ℕ) → is_high c ≡ true → is_letter c ≡ false
unfolding is_letter
high_not_letter c h = grind (arith, nat_tests)

high_not_digit : (c : ℕ) → is_high c ≡ true → is_digit c ≡ false
unfolding is_digit
high_not_digit c h = grind (arith, nat_tests)

-- a character past ASCII is no punctuator
high_no_punctuator : (d : Dialect) (c : ℕ) → is_high c ≡ true → is_punctuator d (c ∷ []) ≡ false
high_no_punctuator d c h = false_from_ne_true (is_punctuator d (c ∷ [])) (λ p.
    let b = punct_begins d (c ∷ []) p in
    let w = b.whole in
    let heads : b.c ≡ c = cc in
    both_ways (is_mark c) (high_not_mark c h) (subst (λ z. is_mark z ≡ true) heads b.passes))

pub high_other : (d : Dialect) (c : ℕ) → is_high c ≡ true → is_other d c ≡ true
unfolding is_other is_white is_new_line is_quote
high_other d c h =
    let white = none_of is_high (9 ∷ 11 ∷ 12 ∷ 13 ∷ 32 ∷ []) refl c h in
    let line : (c == 10) ≡ false = ne_eqb c 10 (λ e. both_ways (is_high 10) refl (subst (λ z. is_high z ≡ true) e h)) in
    let letter = high_not_letter c h in
    let digit = high_not_digit c h in
    let quote = high_not_quote c h in
    let punct = high_no_punctuator d c h in
    rw (white, line, letter, digit, quote, punct) refl

moved : {p : ℕ → Bool} (s t : List ℕ) → s ≡ t → Begins p t → Begins p s
moved s t e b = let w = b.whole in record { c = b.c; rest = b.rest; whole = e ∙ w; passes = b.passes }

pub begins : (d : Dialect) (k : Shape) (s : List ℕ) → Spells d k s → Begins (can_begin d k) s
unfolding is_quote
begins d (Whole Identifier) s h = moved s (h.head ++ h.tail) h.whole (Begins-append h.tail (letter_begins h.head h.begins))
begins d (Whole Number) s h = moved s (h.head ++ h.tail) h.whole (Begins-append h.tail (number_begins h.head h.begins))
begins d (Whole CharConst) s h = moved s (h.before ++ 39 ∷ (h.body ++ 39 ∷ [])) h.whole (prefixed 39 h.before (h.body ++ 39 ∷ []) (char_prefix_letter d h.before h.begins))
begins d (Whole StringLit) s h = moved s (h.before ++ 34 ∷ (h.body ++ 34 ∷ [])) h.whole (prefixed 34 h.before (h.body ++ 34 ∷ []) (string_prefix_letter h.before h.begins))
begins d (Whole Punct) s h = punct_begins d s h
begins d (Whole HeaderName) s h = absurd h
begins d (Whole StrayQuote) s (inl h) = record { c = h.quote; rest = h.body ++ h.last; whole = h.whole; passes = h.is_quote }
begins d (Whole StrayQuote) s (inr h) = record { c = 39; rest = 39 ∷ h.body; whole = h.whole; passes = refl }
begins d (Whole Other) s h = elim (other_cases d s h) [ inl e ↦ one_other d s e | inr e ↦ high_begins s (wide_high not_start s e) (high_other d) ]
begins d (Whole BlockComment) s h = record { c = 47; rest = 42 ∷ (h.body ++ 42 ∷ 47 ∷ []); whole = h.whole; passes = refl }
begins d (Whole LineComment) s h = record { c = 47; rest = 47 ∷ h.body; whole = h.whole; passes = refl }
begins d Unended s h = record { c = 47; rest = 42 ∷ h.body; whole = h.whole; passes = refl }
