-- Numbers of letters and digits, cut off where a plain byte behind them ends them.
use Rattle.std.proofs.Common.{◌≡◌, ◌==◌, ◌||◌, ◌∙◌, ◌≤◌, true, false, ℕ, zero, suc, List, [], ◌∷◌, drop, length, take, refl, sym, ap, subst, arith}
use Rattle.std.specs.Prelude.{Some, slice_get}
use Rattle.std.specs.List.{list_all}
use Rattle.std.proofs.lemmas.Bool.{and_parts, and_right, or_left, or_parts, not-true}
use Rattle.std.proofs.lemmas.Bool.Decides.{nat_tests}
use Rattle.unicode_ident.specs.Ident.{is_xid_continue}
use Rattle.c_chars.specs.Characters.{bytes_of, is_word_byte}
use Rattle.c_chars.specs.Coming.{Coming, ArePassed, behind, passed}
use Rattle.c_chars.specs.declared.Dialect.{Dialect}
use Rattle.c_chars.specs.declared.Dialect.TheVariants.{C11, C23}
use Rattle.c_chars.specs.declared.LogicalChar.{LogicalChar}
use Rattle.c_grammar.proofs.WordBytes.{word_byte}
use Rattle.c_grammar.specs.Grammar.{is_letter, is_digit, is_exponent, is_sign, is_number_unit}
use Rattle.c_grammar.specs.Touch.{starts}
use Rattle.item_kinds.specs.declared.ItemKind.TheVariants.{Number}
use Rattle.c_grammar.specs.Bytes.{is_beyond}
use Rattle.c_lexer.specs.Class.{ends_number}
use Rattle.c_lexer.specs.Cut.{IsCutOff}
use Rattle.c_lexer.specs.Reading.{IsBegun}
use Rattle.c_lexer.specs.Run.{begins_number}
use Rattle.c_lexer.specs.Unit.{IsRunOff, begins_pair, is_pair, is_single}
use Rattle.c_lexer.proofs.FirstBytes.{starts_so}
use Rattle.c_lexer.proofs.Numbers.{head_len}
use Rattle.c_lexer.proofs.Passing.{first_is}
use Rattle.c_lexer.proofs.Plains.{begun_first, next_bytes, one_behind}
use Rattle.c_lexer.proofs.Units.{number_greedy, number_some}
use Rattle.c_lexer.proofs.UnitsOff.{number_none, rare_none, run_at, run_off, single_off}
use Rattle.c_lexer.proofs.WordsOff.{number_off}

no_sign_pair : (d : Dialect) (c e : ℕ) → (c == 39) ≡ false → is_sign e ≡ false → is_pair d c e ≡ false
no_sign_pair C11 c e quote sign = rw (and_right (is_exponent c) (is_sign e) sign) refl
no_sign_pair C23 c e quote sign = rw (and_right (is_exponent c) (is_sign e) sign, quote) refl

no_exponent_pair : (d : Dialect) (c e : ℕ) → (c == 39) ≡ false → is_exponent c ≡ false → is_pair d c e ≡ false
no_exponent_pair C11 c e quote exponent = rw exponent refl
no_exponent_pair C23 c e quote exponent = rw (exponent, quote) refl

sign_pairs : (d : Dialect) (c : ℕ) (s : List ℕ) → (c == 39) ≡ false → starts is_sign s ≡ false → begins_pair d (c ∷ s) ≡ false
sign_pairs d c [] quote sign = refl
sign_pairs d c (e ∷ s) quote sign = no_sign_pair d c e quote sign

exponent_pairs : (d : Dialect) (c : ℕ) (s : List ℕ) → (c == 39) ≡ false → is_exponent c ≡ false → begins_pair d (c ∷ s) ≡ false
exponent_pairs d c [] quote exponent = refl
exponent_pairs d c (e ∷ s) quote exponent = no_exponent_pair d c e quote exponent

word_no_quote : (b : ℕ) → is_word_byte b ≡ true → (b == 39) ≡ false
unfolding is_word_byte
word_no_quote b h = grind (arith, nat_tests)

word_no_sign : (b : ℕ) → is_word_byte b ≡ true → is_sign b ≡ false
unfolding is_word_byte is_sign
word_no_sign b h = grind (arith, nat_tests)

other_no_exponent : (b : ℕ) → is_letter b ≡ false → is_exponent b ≡ false
unfolding is_letter is_exponent
other_no_exponent b h = grind (arith, nat_tests)

-- no sign comes next where one comes neither among the bytes that pass nor behind them
signless : (d : Dialect) (at n : ℕ) (s : List LogicalChar) → list_all is_word_byte (take n (bytes_of s)) ≡ true → starts is_sign (bytes_of (passed d at s n).chars) ≡ false → starts is_sign (bytes_of s) ≡ false
signless d at zero s all stops = stops
signless d at (suc n) [] all stops = refl
signless d at (suc n) (c ∷ s) all stops = word_no_sign c.byte (and_parts (is_word_byte c.byte) (list_all is_word_byte (take n (bytes_of s))) all).0

coming : Dialect → ℕ → List LogicalChar → Coming
coming d at s = record { dialect = d; at = at; chars = s }

-- the units of a number, each a letter or a digit, up to what ends it
units_passed : (d : Dialect) (at n : ℕ) (s : List LogicalChar) (left : Coming) → n ≤ length s → list_all is_word_byte (take n (bytes_of s)) ≡ true → left ≡ passed d at s n → starts is_sign (bytes_of left.chars) ≡ false
    → IsRunOff (is_number_unit d) left left → IsRunOff (is_number_unit d) (coming d at s) left
unfolding coming
units_passed d at zero s left within all left_is sign done = subst (λ z. IsRunOff (is_number_unit d) z left) left_is done
units_passed d at (suc n) [] left within all left_is sign done = absurd (omega arith)
units_passed d at (suc n) (c ∷ s) left within all left_is sign done =
    let parts = and_parts (is_word_byte c.byte) (list_all is_word_byte (take n (bytes_of s))) all in
    let single : is_single c.byte ≡ true = or_left (is_letter c.byte || is_digit c.byte) (c.byte == 46) (word_byte c.byte parts.0) in
    let apart = sign_pairs d c.byte (bytes_of s) (word_no_quote c.byte parts.0) (signless d c.to n s parts.1 (subst (λ z. starts is_sign (bytes_of z.chars) ≡ false) left_is sign)) in
    let unit = single_off d (coming d at (c ∷ s)) (coming d c.to s) apart single refl in
    run_off (is_number_unit d) (coming d at (c ∷ s)) (coming d c.to s) left (number_some d) (number_greedy d) unit (units_passed d c.to n s left (omega (arith, within)) parts.1 left_is sign done)

pub number_ended : (x y : Coming) (d : Dialect) (c : LogicalChar) → d ≡ x.dialect → ArePassed is_word_byte x y → slice_get y.chars 0 ≡ Some c → ends_number c.byte ≡ true → IsRunOff (is_number_unit d) x y
unfolding coming
number_ended x y d c same passed next ends =
    let parts = or_parts (is_single c.byte) (is_sign c.byte || (is_beyond c.byte || c.byte == 39)) (not-true _ ends) in
    let single = or_parts (is_letter c.byte || is_digit c.byte) (c.byte == 46) parts.0 in
    let word = or_parts (is_letter c.byte) (is_digit c.byte) single.0 in
    let far = or_parts (is_sign c.byte) (is_beyond c.byte || c.byte == 39) parts.1 in
    let quote = or_parts (is_beyond c.byte) (c.byte == 39) far.1 in
    let bytes : bytes_of y.chars ≡ c.byte ∷ drop 1 (bytes_of y.chars) = next_bytes y.chars c next in
    let apart : begins_pair d (bytes_of y.chars) ≡ false = ap (begins_pair d) bytes ∙ exponent_pairs d c.byte (drop 1 (bytes_of y.chars)) quote.1 (other_no_exponent c.byte word.0) in
    let none = number_none d (bytes_of y.chars) apart (first_is is_single y.chars c next ∙ parts.0) (rare_none is_xid_continue (bytes_of y.chars) (first_is is_beyond y.chars c next ∙ quote.0)) in
    let done = run_at (is_number_unit d) y none in
    subst (λ e. IsRunOff (is_number_unit e) x y) (sym same)
    (units_passed x.dialect x.at passed.n x.chars y passed.within passed.all passed.new_is (first_is is_sign y.chars c next ∙ far.0) (subst (λ e. IsRunOff (is_number_unit e) y y) same done))

pub digits_off : (x y left : Coming) (d : Dialect) (c : LogicalChar) → d ≡ x.dialect → IsBegun x c y → is_digit c.byte ≡ true → IsRunOff (is_number_unit d) y left → IsCutOff x left Number
digits_off x y left d c same begun digit run =
    let first = begun_first x y c begun in
    let starts_digit : starts is_digit (bytes_of x.chars) ≡ true = starts_so is_digit c.byte (bytes_of x.chars) true first digit in
    let number : begins_number (bytes_of x.chars) ≡ true = ap begins_number first.whole ∙ rw digit refl in
    let head : head_len (bytes_of x.chars) ≡ 1 = rw starts_digit refl in
    number_off x y left d same number (one_behind x y c begun ∙ ap (λ k. behind x k) (sym head)) run
