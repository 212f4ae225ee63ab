-- The characters of words.
use Rattle.std.proofs.Common.{◌≡◌, ◌==◌, ◌||◌, ◌&&◌, ℕ, Bool, true, false, List, [], ◌∷◌, length, refl, arith, inl, inr}
use Rattle.std.specs.Prelude.{codes}
use Rattle.std.specs.List.{list_all}
use Rattle.std.proofs.lemmas.Bool.{and_parts, or_cases, and_from, or_left, or_right, eqb-true}
use Rattle.c_grammar.specs.Grammar.{is_wide, IsHeaded, is_one, is_letter, is_digit, is_hex, is_universal_name, is_letter_unit, is_word_unit, is_char_prefix, is_string_prefix}
use Rattle.c_chars.specs.declared.Dialect.{Dialect}
use Rattle.c_chars.specs.declared.Dialect.TheVariants.{C11, C23}
use Rattle.c_grammar.proofs.Lists.{in_table, all_append, units_all, one_all, all_weaken}
use Rattle.c_grammar.proofs.Firsts.{is_rare, letter_cases, high_letter_start, is_quote, is_letter_start, is_mark}
use Rattle.std.proofs.lemmas.Bool.Decides.{nat_tests}
use Rattle.c_grammar.proofs.Wide.{is_high, wide_high}
use Rattle.unicode_ident.specs.Ident.{is_xid_start, is_xid_continue}
use Rattle.c_grammar.proofs.Classes.{none_of}

-- a character that stands in identifiers
unfoldable pub is_wordlike : ℕ → Bool
is_wordlike c = is_letter c || is_digit c || is_rare c

pub letter_wordlike : (c : ℕ) → is_letter c ≡ true → is_wordlike c ≡ true
unfolding is_wordlike
letter_wordlike c h = rw h refl

pub digit_wordlike : (c : ℕ) → is_digit c ≡ true → is_wordlike c ≡ true
unfolding is_wordlike
digit_wordlike c h = or_left (is_letter c || is_digit c) (is_rare c) (or_right (is_letter c) (is_digit c) h)

pub letter_start_wordlike : (c : ℕ) → is_letter_start c ≡ true → is_wordlike c ≡ true
unfolding is_wordlike is_letter_start
letter_start_wordlike c h = elim (or_cases (is_letter c) (is_rare c) h) [
  | inl e ↦ letter_wordlike c e
  | inr e ↦ or_right (is_letter c || is_digit c) (is_rare c) e
]

hex_wordlike : (c : ℕ) → is_hex c ≡ true → is_wordlike c ≡ true
unfolding is_hex is_wordlike is_letter is_digit
hex_wordlike c h = grind (arith, nat_tests)

name_wordlike : (u : List ℕ) → is_universal_name u ≡ true → list_all is_wordlike u ≡ true
unfolding is_universal_name is_wordlike is_letter is_digit
name_wordlike [] h = refl
name_wordlike (b ∷ []) h = cc
name_wordlike (b ∷ k ∷ digits) h =
    let parts = and_parts ((b == 92) && (((k == 117) && (length digits == 4)) || ((k == 85) && (length digits == 8)))) (list_all is_hex digits) h in
    let front = and_parts (b == 92) (((k == 117) && (length digits == 4)) || ((k == 85) && (length digits == 8))) parts.0 in
    let b_is : b ≡ 92 = eqb-true b 92 front.0 in
    let k_is : is_wordlike k ≡ true = elim (or_cases ((k == 117) && (length digits == 4)) ((k == 85) && (length digits == 8)) front.1) [
      | inl e ↦ let is : k ≡ 117 = eqb-true k 117 (and_parts (k == 117) (length digits == 4) e).0 in rw is refl
      | inr e ↦ let is : k ≡ 85 = eqb-true k 85 (and_parts (k == 85) (length digits == 8) e).0 in rw is refl
    ] in
    let b_like : is_wordlike b ≡ true = rw b_is refl in
    and_from (is_wordlike b) (is_wordlike k && list_all is_wordlike digits) b_like
    (and_from (is_wordlike k) (list_all is_wordlike digits) k_is (all_weaken is_hex is_wordlike hex_wordlike digits parts.1))

pub high_wordlike : (c : ℕ) → is_high c ≡ true → is_wordlike c ≡ true
high_wordlike c h = letter_start_wordlike c (high_letter_start c h)

pub wide_wordlike : (p : ℕ → Bool) (u : List ℕ) → is_wide p u ≡ true → list_all is_wordlike u ≡ true
wide_wordlike p u h = all_weaken is_high is_wordlike high_wordlike u (wide_high p u h).high

pub letter_unit_wordlike : (u : List ℕ) → is_letter_unit u ≡ true → list_all is_wordlike u ≡ true
letter_unit_wordlike u h = elim (letter_cases u h) [
  | inl e ↦ one_all is_letter is_wordlike letter_wordlike u e
  | inr r ↦ elim r [ inl e ↦ name_wordlike u e | inr e ↦ wide_wordlike is_xid_start u e ]
]

pub word_unit_wordlike : (u : List ℕ) → is_word_unit u ≡ true → list_all is_wordlike u ≡ true
unfolding is_word_unit
word_unit_wordlike u h = elim (or_cases (is_one is_digit u) (is_letter_unit u || is_wide is_xid_continue u) h) [
  | inl e ↦ one_all is_digit is_wordlike digit_wordlike u e
  | inr r ↦ elim (or_cases (is_letter_unit u) (is_wide is_xid_continue u) r) [ inl e ↦ letter_unit_wordlike u e | inr e ↦ wide_wordlike is_xid_continue u e ]
]

-- every character of an identifier is one that stands in identifiers
pub identifier_wordlike : (s : List ℕ) → IsHeaded is_letter_unit is_word_unit s → list_all is_wordlike s ≡ true
identifier_wordlike s h =
    let w = h.whole in
    rw (w, all_append) (and_from _ _ (letter_unit_wordlike h.head h.begins) (units_all is_word_unit is_wordlike word_unit_wordlike h.tail h.goes_on))

pub char_prefix_wordlike : (d : Dialect) (p : List ℕ) → is_char_prefix d p ≡ true → list_all is_wordlike p ≡ true
unfolding is_char_prefix is_wordlike is_letter is_digit
char_prefix_wordlike C11 p h = in_table (list_all is_wordlike) ([] ∷ codes "L" ∷ codes "u" ∷ codes "U" ∷ []) refl p h
char_prefix_wordlike C23 p h = in_table (list_all is_wordlike) ([] ∷ codes "L" ∷ codes "u" ∷ codes "U" ∷ codes "u8" ∷ []) refl p h

pub string_prefix_wordlike : (p : List ℕ) → is_string_prefix p ≡ true → list_all is_wordlike p ≡ true
unfolding is_string_prefix is_wordlike is_letter is_digit
string_prefix_wordlike p h = in_table (list_all is_wordlike) ([] ∷ codes "L" ∷ codes "u" ∷ codes "U" ∷ codes "u8" ∷ []) refl p h

pub wordlike_not_quote : (c : ℕ) → is_wordlike c ≡ true → is_quote c ≡ false
unfolding is_quote is_wordlike is_letter is_digit
wordlike_not_quote c h = none_of is_wordlike (codes "'\"") refl c h

pub wordlike_not_mark : (c : ℕ) → is_wordlike c ≡ true → is_mark c ≡ false
unfolding is_mark is_wordlike is_letter is_digit
wordlike_not_mark c h = none_of is_wordlike (codes "[](){}.-+&*~!/%<>=^|?:;,#") refl c h
