-- Which classes of characters are apart.
use Rattle.std.proofs.Common.{◌≡◌, ◌==◌, ◌||◌, ℕ, true, false, [], ◌∷◌, refl, arith, inl, inr}
use Rattle.std.specs.Prelude.{codes}
use Rattle.std.specs.List.{list_any}
use Rattle.std.proofs.lemmas.Bool.{or_cases, eqb-true, not-true, both_ways, or_parts, false_from_ne_true}
use Rattle.std.proofs.lemmas.Bool.Decides.{nat_tests}
use Rattle.c_grammar.specs.Grammar.{is_same, is_of, is_letter, is_digit, is_white, is_new_line, is_other, is_punctuator, punctuators, common_punctuators}
use Rattle.c_chars.specs.declared.Dialect.{Dialect}
use Rattle.c_chars.specs.declared.Dialect.TheVariants.{C11, C23}
pub use Rattle.c_grammar.proofs.Lists.{not_of, none_of}
use Rattle.c_grammar.proofs.Wide.{is_high}
use Rattle.c_grammar.proofs.Lists.{of_table}
use Rattle.c_grammar.proofs.Firsts.{is_rare, is_quote, is_letter_start, is_mark}

pub letter_not_digit : (c : ℕ) → is_letter c ≡ true → is_digit c ≡ false
unfolding is_letter is_digit
letter_not_digit c h = grind (arith, nat_tests)

pub letter_start_not_digit : (c : ℕ) → is_letter_start c ≡ true → is_digit c ≡ false
unfolding is_letter_start is_digit
letter_start_not_digit c h = elim (or_cases (is_letter c) (is_rare c) h) [
  | inl e ↦ letter_not_digit c e
  | inr r ↦ elim (or_cases (c == 92) (is_high c) r) [ inl e ↦ let is : c ≡ 92 = eqb-true c 92 e in rw is refl | inr e ↦ grind (arith, nat_tests) ]
]

pub quote_not_letter_start : (c : ℕ) → is_quote c ≡ true → is_letter_start c ≡ false
unfolding is_quote is_letter_start is_letter
quote_not_letter_start c h = not_of is_letter_start (codes "'\"") refl c h

pub quote_not_digit : (c : ℕ) → is_quote c ≡ true → is_digit c ≡ false
unfolding is_quote is_digit
quote_not_digit c h = not_of is_digit (codes "'\"") refl c h

pub mark_not_letter_start : (c : ℕ) → is_mark c ≡ true → is_letter_start c ≡ false
unfolding is_mark is_letter_start is_letter
mark_not_letter_start c h = not_of is_letter_start (codes "[](){}.-+&*~!/%<>=^|?:;,#") refl c h

pub mark_not_quote : (c : ℕ) → is_mark c ≡ true → is_quote c ≡ false
unfolding is_mark is_quote
mark_not_quote c h = not_of is_quote (codes "[](){}.-+&*~!/%<>=^|?:;,#") refl c h

pub letter_start_not_quote : (c : ℕ) → is_letter_start c ≡ true → is_quote c ≡ false
unfolding is_quote is_letter_start is_letter
letter_start_not_quote c h = none_of is_letter_start (codes "'\"") refl c h

pub digit_not_quote : (c : ℕ) → is_digit c ≡ true → is_quote c ≡ false
unfolding is_quote is_digit
digit_not_quote c h = none_of is_digit (codes "'\"") refl c h

pub digit_not_mark : (c : ℕ) → is_digit c ≡ true → is_mark c ≡ false
unfolding is_mark is_digit
digit_not_mark c h = none_of is_digit (codes "[](){}.-+&*~!/%<>=^|?:;,#") refl c h

pub letter_start_not_mark : (c : ℕ) → is_letter_start c ≡ true → is_mark c ≡ false
unfolding is_mark is_letter_start is_letter
letter_start_not_mark c h = none_of is_letter_start (codes "[](){}.-+&*~!/%<>=^|?:;,#") refl c h

-- an Other's character
pub record IsNone (c : ℕ) : Type 0 where
  pub letter : is_letter c ≡ false
  pub digit : is_digit c ≡ false
  pub quote : is_quote c ≡ false

pub other_is_none : (d : Dialect) (c : ℕ) → is_other d c ≡ true → IsNone c
unfolding is_other is_quote
other_is_none d c h =
    let all = or_parts (is_white c || is_new_line c || is_letter c || is_digit c || is_of (codes "'\"") c) (is_punctuator d (c ∷ [])) (not-true _ h) in
    let first = or_parts (is_white c || is_new_line c || is_letter c || is_digit c) (is_of (codes "'\"") c) all.0 in
    let second = or_parts (is_white c || is_new_line c || is_letter c) (is_digit c) first.0 in
    let third = or_parts (is_white c || is_new_line c) (is_letter c) second.0 in
    record { letter = third.1; digit = second.1; quote = first.1 }

-- a mark is a punctuator, so no Other begins with one
pub mark_is_punctuator : (d : Dialect) (c : ℕ) → is_mark c ≡ true → is_punctuator d (c ∷ []) ≡ true
unfolding is_mark is_punctuator punctuators
mark_is_punctuator C11 c h = of_table (λ x. list_any (is_same (x ∷ [])) common_punctuators) (codes "[](){}.-+&*~!/%<>=^|?:;,#") refl c h
mark_is_punctuator C23 c h = of_table (λ x. list_any (is_same (x ∷ [])) (codes "::" ∷ common_punctuators)) (codes "[](){}.-+&*~!/%<>=^|?:;,#") refl c h

pub other_not_mark : (d : Dialect) (c : ℕ) → is_other d c ≡ true → is_mark c ≡ false
unfolding is_other
other_not_mark d c h =
    let all = or_parts (is_white c || is_new_line c || is_letter c || is_digit c || is_of (codes "'\"") c) (is_punctuator d (c ∷ [])) (not-true _ h) in
    false_from_ne_true (is_mark c) (λ m. both_ways (is_punctuator d (c ∷ [])) all.1 (mark_is_punctuator d c m))
