-- A word of a single character is plain: each word of the language has more.
use Rattle.std.proofs.Common.{◌≡◌, ◌∙◌, ◌&&◌, ℕ, ◌<◌, ◌≤◌, nat_le, Bool, true, false, List, [], ◌∷◌, length, refl, ap, arith, bytes_eq}
use Rattle.std.proofs.lemmas.Bool.{and_parts, false_from_ne_true}
use Rattle.std.proofs.lemmas.Bool.Decides.{nat_tests}
use Rattle.std.proofs.lemmas.Grind.{common_steps}
use Rattle.std.proofs.lemmas.Slice.Eq.{bytes_eq-Decides}
use Rattle.token_classes.specs.declared.class.TokenClass.{TokenClass}
use Rattle.token_classes.specs.declared.class.TokenClass.TheVariants.{PlainWord}
use Rattle.token_classes.specs.Words.{call_words, class_in, named_class, statement_words, type_words, word_class}

-- each of these words has two characters or more
abbrev pub are_long : List (List ℕ × TokenClass) → Bool
are_long [] = true
are_long (row ∷ rows) = nat_le 2 (length row.0) && are_long rows

at_least : (n : ℕ) → nat_le 2 n ≡ true → 2 ≤ n
at_least n h = grind (arith, nat_tests)

shorter : (s word : List ℕ) → length s < length word → bytes_eq s word ≡ false
shorter s word less = false_from_ne_true _ (λ e. let same : length s ≡ length word = ap length ((bytes_eq-Decides s word).0 e) in absurd (omega (arith, less, same)))

none_short : (rows : List (List ℕ × TokenClass)) (s : List ℕ) (named : TokenClass) → length s < 2 → are_long rows ≡ true → class_in rows s named ≡ named
none_short [] s named short long = refl
none_short (row ∷ rows) s named short long =
    let parts = and_parts (nat_le 2 (length row.0)) (are_long rows) long in
    rw (shorter s row.0 (omega (arith, short, at_least (length row.0) parts.0))) (none_short rows s named short parts.1)

short_named : (s : List ℕ) → length s < 2 → named_class s ≡ PlainWord
short_named s short = grind (arith, common_steps)

pub short_word : (s : List ℕ) → length s < 2 → word_class s ≡ PlainWord
short_word s short =
    none_short statement_words s _ short refl ∙ (none_short call_words s _ short refl ∙ (none_short type_words s _ short refl ∙ short_named s short))
