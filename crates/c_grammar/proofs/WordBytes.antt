-- Bytes of words, by the two definitions.
use Rattle.std.proofs.Common.{◌≡◌, ◌||◌, ◌∙◌, ℕ, true, sym, arith, inl, inr}
use Rattle.std.proofs.lemmas.Bool.{both_ways, cases_Bool, false_from_ne_true}
use Rattle.std.proofs.lemmas.Bool.Decides.{nat_tests}
use Rattle.c_chars.specs.Characters.{is_word_byte}
use Rattle.c_grammar.specs.Grammar.{is_letter, is_digit}

-- letters, digits, `_` and `$`
pub word_byte : (b : ℕ) → is_word_byte b ≡ true → (is_letter b || is_digit b) ≡ true
unfolding is_word_byte is_letter is_digit
word_byte b h = grind (arith, nat_tests)

byte_word : (b : ℕ) → (is_letter b || is_digit b) ≡ true → is_word_byte b ≡ true
unfolding is_word_byte is_letter is_digit
byte_word b h = grind (arith, nat_tests)

pub word_is : (b : ℕ) → is_word_byte b ≡ (is_letter b || is_digit b)
word_is b = elim (cases_Bool (is_word_byte b)) [
  | inl y ↦ y ∙ sym (word_byte b y)
  | inr n ↦ n ∙ sym (false_from_ne_true (is_letter b || is_digit b) (λ y. both_ways (is_word_byte b) n (byte_word b y)))
]
