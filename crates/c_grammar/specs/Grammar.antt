-- What spells an item of each kind (C11 6.4), over lists of logical characters. A character past ASCII stands as its
-- bytes.
use Rattle.std.specs.Prelude.{◌≡◌, ◌≢◌, ◌==◌, ◌||◌, ◌&&◌, not, ℕ, Bool, true, false, List, [], ◌∷◌, ◌++◌, length}
use Rattle.std.specs.Prelude.{nat_le, IsTrue, IsFalse, codes, ◌⊎◌}
use Rattle.std.specs.List.{list_any, list_all}
use Rattle.std.specs.Str.{is_utf8, chars}
use Rattle.unicode_ident.specs.Ident.{is_xid_start, is_xid_continue}
use Rattle.c_chars.specs.declared.Dialect.{Dialect}
use Rattle.c_chars.specs.declared.Dialect.TheVariants.{C11, C23}
use Rattle.item_kinds.specs.declared.ItemKind.{ItemKind}
use Rattle.item_kinds.specs.declared.ItemKind.TheVariants.{Identifier, Number, CharConst, StringLit, Punct, HeaderName}
use Rattle.item_kinds.specs.declared.ItemKind.TheVariants.{StrayQuote, Other, BlockComment, LineComment}

-- Characters.

-- c is one of these
abbrev pub is_of : List ℕ → ℕ → Bool
is_of cs c = list_any (λ x. x == c) cs

-- the new-line character
unfoldable pub is_new_line : ℕ → Bool
is_new_line c = c == 10

-- white space other than a new-line: tab, vertical tab, form feed, a lone carriage return, blank
unfoldable pub is_white : ℕ → Bool
is_white c = is_of (9 ∷ 11 ∷ 12 ∷ 13 ∷ 32 ∷ []) c

-- a decimal digit
unfoldable pub is_digit : ℕ → Bool
is_digit c = nat_le 48 c && nat_le c 57

-- a nondigit of C11 6.4.2.1, and `$`
unfoldable pub is_letter : ℕ → Bool
is_letter c = (nat_le 65 c && nat_le c 90) || (nat_le 97 c && nat_le c 122) || c == 95 || c == 36

-- a hexadecimal digit
unfoldable pub is_hex : ℕ → Bool
is_hex c = is_digit c || (nat_le 65 c && nat_le c 70) || (nat_le 97 c && nat_le c 102)

-- `+` or `-`
unfoldable pub is_sign : ℕ → Bool
is_sign c = is_of (codes "+-") c

-- the letters that a sign may follow in a number
unfoldable pub is_exponent : ℕ → Bool
is_exponent c = is_of (codes "eEpP") c

-- Sequences. A unit is what stands for one character of a sequence.

-- a unit of one character
abbrev pub is_one : (ℕ → Bool) → List ℕ → Bool
is_one p (c ∷ []) = p c
is_one p [] = false
is_one p (c ∷ d ∷ s) = false

-- a unit of two characters
abbrev pub is_two : (ℕ → Bool) → (ℕ → Bool) → List ℕ → Bool
is_two p q (c ∷ d ∷ []) = p c && q d
is_two p q [] = false
is_two p q (c ∷ []) = false
is_two p q (c ∷ d ∷ e ∷ s) = false

-- the units, joined
abbrev pub joined : List (List ℕ) → List ℕ
joined [] = []
joined (u ∷ us) = u ++ joined us

-- a sequence of such units
pub record AreUnits (p : List ℕ → Bool) (s : List ℕ) : Type 0 where
  pub units : List (List ℕ)
  pub each : IsTrue (list_all p units)
  pub whole : s ≡ joined units

-- a first unit, and then a sequence of units
pub record IsHeaded (first more : List ℕ → Bool) (s : List ℕ) : Type 0 where
  pub head : List ℕ
  pub tail : List ℕ
  pub begins : IsTrue (first head)
  pub goes_on : AreUnits more tail
  pub whole : s ≡ head ++ tail

-- Identifiers, 6.4.2.1

-- these bytes are one character past ASCII, in UTF-8, and it passes
unfoldable pub is_wide : (ℕ → Bool) → List ℕ → Bool
is_wide p u = is_utf8 u && is_one (λ c. nat_le 128 c && p c) (chars u)

-- a universal character name: \u with four hexadecimal digits, \U with eight
unfoldable pub is_universal_name : List ℕ → Bool
is_universal_name [] = false
is_universal_name (b ∷ []) = false
is_universal_name (b ∷ k ∷ digits) =
    (b == 92) && (((k == 117) && (length digits == 4)) || ((k == 85) && (length digits == 8))) && list_all is_hex digits

-- a nondigit, a universal character name, or a character past ASCII that starts an identifier
unfoldable pub is_letter_unit : List ℕ → Bool
is_letter_unit u = is_one is_letter u || (is_universal_name u || is_wide is_xid_start u)

-- a digit, a letter, or a character past ASCII that continues an identifier
unfoldable pub is_word_unit : List ℕ → Bool
is_word_unit u = is_one is_digit u || (is_letter_unit u || is_wide is_xid_continue u)

-- Numbers, 6.4.8

-- a digit, or a point and a digit
unfoldable pub is_number_head : List ℕ → Bool
is_number_head u = is_one is_digit u || is_two (λ c. c == 46) is_digit u

-- C23 has digit separators
abbrev pub is_separated : Dialect → List ℕ → Bool
is_separated C11 u = false
is_separated C23 u =
    is_two (λ c. c == 39)
    (λ c. is_digit c || ((nat_le 65 c && nat_le c 90) || (nat_le 97 c && nat_le c 122) || c == 95)) u

-- what may stand behind the head: a letter or a digit, a point, an exponent with its sign, a separator with what it
-- separates
unfoldable pub is_number_unit : Dialect → List ℕ → Bool
is_number_unit d u = is_word_unit u || is_one (λ c. c == 46) u || is_two is_exponent is_sign u || is_separated d u

-- Punctuators, 6.4.6

-- the two lists are equal
abbrev pub is_same : List ℕ → List ℕ → Bool
is_same [] [] = true
is_same (x ∷ xs) (y ∷ ys) = (x == y) && is_same xs ys
is_same [] (y ∷ ys) = false
is_same (x ∷ xs) [] = false

-- the punctuators of C11, digraphs among them
abbrev pub common_punctuators : List (List ℕ)
common_punctuators =
    codes "[" ∷ codes "]" ∷ codes "(" ∷ codes ")" ∷ codes "{" ∷ codes "}" ∷ codes "." ∷ codes "->" ∷ codes "++"
    ∷ codes "--"
    ∷ codes "&" ∷ codes "*" ∷ codes "+" ∷ codes "-" ∷ codes "~" ∷ codes "!" ∷ codes "/" ∷ codes "%" ∷ codes "<<"
    ∷ codes ">>"
    ∷ codes "<" ∷ codes ">" ∷ codes "<=" ∷ codes ">=" ∷ codes "==" ∷ codes "!=" ∷ codes "^" ∷ codes "|" ∷ codes "&&"
    ∷ codes "||"
    ∷ codes "?" ∷ codes ":" ∷ codes ";" ∷ codes "..." ∷ codes "=" ∷ codes "*=" ∷ codes "/=" ∷ codes "%=" ∷ codes "+="
    ∷ codes "-="
    ∷ codes "<<=" ∷ codes ">>=" ∷ codes "&=" ∷ codes "^=" ∷ codes "|=" ∷ codes "," ∷ codes "#" ∷ codes "##"
    ∷ codes "<:" ∷ codes ":>" ∷ codes "<%" ∷ codes "%>" ∷ codes "%:" ∷ codes "%:%:" ∷ []

-- C23 has `::` besides
unfoldable pub punctuators : Dialect → List (List ℕ)
punctuators C11 = common_punctuators
punctuators C23 = codes "::" ∷ common_punctuators

-- one of the punctuators of the edition
unfoldable pub is_punctuator : Dialect → List ℕ → Bool
is_punctuator d s = list_any (is_same s) (punctuators d)

-- Character constants and string literals, 6.4.4.4 and 6.4.5

-- inside quotes a backslash and any next character but a new-line stand for one
unfoldable pub is_quoted_unit : ℕ → List ℕ → Bool
is_quoted_unit q u =
    is_one (λ c. not (c == q) && not (c == 92) && not (is_new_line c)) u
    || is_two (λ c. c == 92) (λ c. not (is_new_line c)) u

-- a prefix of a character constant, or none; C23 has `u8` besides
unfoldable pub is_char_prefix : Dialect → List ℕ → Bool
is_char_prefix C11 p = list_any (is_same p) ([] ∷ codes "L" ∷ codes "u" ∷ codes "U" ∷ [])
is_char_prefix C23 p = list_any (is_same p) ([] ∷ codes "L" ∷ codes "u" ∷ codes "U" ∷ codes "u8" ∷ [])

-- a prefix of a string literal, or none
unfoldable pub is_string_prefix : List ℕ → Bool
is_string_prefix p = list_any (is_same p) ([] ∷ codes "L" ∷ codes "u" ∷ codes "U" ∷ codes "u8" ∷ [])

-- a prefix, and the units between two quotes, where there may be none
pub record IsQuoted (prefix : List ℕ → Bool) (q : ℕ) (may_be_empty : Bool) (s : List ℕ) : Type 0 where
  pub before : List ℕ
  pub body : List ℕ
  pub begins : IsTrue (prefix before)
  pub not_empty : IsTrue (may_be_empty || not (is_same body []))
  pub inside : AreUnits (is_quoted_unit q) body
  pub whole : s ≡ before ++ q ∷ (body ++ q ∷ [])

-- A quote that isn't closed: the units behind it, and a last backslash behind which nothing stands.
pub record IsUnclosed (s : List ℕ) : Type 0 where
  pub quote : ℕ
  pub body : List ℕ
  pub last : List ℕ
  pub is_quote : IsTrue (is_of (codes "'\"") quote)
  pub inside : AreUnits (is_quoted_unit quote) body
  pub ends : IsTrue (is_same last [] || is_same last (92 ∷ []))
  pub whole : s ≡ quote ∷ (body ++ last)

-- two apostrophes, and what stands behind them in the line
pub record IsEmptyQuotes (s : List ℕ) : Type 0 where
  pub body : List ℕ
  pub in_line : IsTrue (list_all (λ c. not (is_new_line c)) body)
  pub whole : s ≡ 39 ∷ 39 ∷ body

-- Comments, 6.4.9

-- `*/` stands in it
abbrev pub has_end : List ℕ → Bool
has_end [] = false
has_end (c ∷ []) = false
has_end (c ∷ d ∷ s) = ((c == 42) && (d == 47)) || has_end (d ∷ s)

-- `/*` through the first `*/`
pub record IsBlock (s : List ℕ) : Type 0 where
  pub body : List ℕ
  pub first_end : IsFalse (has_end (body ++ 42 ∷ []))
  pub whole : s ≡ 47 ∷ 42 ∷ (body ++ 42 ∷ 47 ∷ [])

-- a block comment of which no end has come
pub record IsOpen (s : List ℕ) : Type 0 where
  pub body : List ℕ
  pub no_end : IsFalse (has_end body)
  pub whole : s ≡ 47 ∷ 42 ∷ body

-- A text that ends in no white space, or in a backslash and then white space.
pub record IsTrimmed (s : List ℕ) : Type 0 where
  pub front : List ℕ
  pub white : List ℕ
  pub each_white : IsTrue (list_all is_white white)
  pub last : List ℕ
  pub ends : IsTrue ((is_one (λ c. not (is_white c)) last && is_same white []) || is_same last (92 ∷ []))
  pub whole : s ≡ front ++ (last ++ white)

-- Two slashes and what stands behind them in the line. Its white space at the end isn't part of it, unless it would
-- then end in a backslash.
pub record IsLine (s : List ℕ) : Type 0 where
  pub body : List ℕ
  pub in_line : IsTrue (list_all (λ c. not (is_new_line c)) body)
  pub trimmed : IsTrimmed (47 ∷ body)
  pub whole : s ≡ 47 ∷ 47 ∷ body

-- Header names, 6.4.7

-- What stands between `<` and the next `>`, or between two `"`, in one line; there is something.
pub record IsHeaderName (s : List ℕ) : Type 0 where
  pub first : ℕ
  pub last : ℕ
  pub body : List ℕ
  pub ends : ((first ≡ 60) × (last ≡ 62)) ⊎ ((first ≡ 34) × (last ≡ 34))
  pub inside : IsTrue (list_all (λ c. not (c == last) && not (is_new_line c)) body)
  pub not_empty : body ≢ []
  pub whole : s ≡ first ∷ (body ++ last ∷ [])

-- one that begins nothing else
unfoldable pub is_other : Dialect → ℕ → Bool
is_other d c =
    not (is_white c || is_new_line c || is_letter c || is_digit c || is_of (codes "'\"") c
    || is_punctuator d (c ∷ []))

-- A character that begins nothing else, or a byte past ASCII that is in no character.
unfoldable pub is_other_unit : Dialect → List ℕ → Bool
is_other_unit d u = is_one (is_other d) u || is_wide (λ c. not (is_xid_start c)) u

-- All kinds. `Unended` is no item: a text that begins a block comment without an end doesn't lex.
pub data Shape : Type 0 where
  Whole : ItemKind → Shape
  Unended : Shape

-- what spells an item of this kind, wherever no header name is read
abbrev pub Spells : Dialect → Shape → List ℕ → Type 0
Spells d (Whole Identifier) s = IsHeaded is_letter_unit is_word_unit s
Spells d (Whole Number) s = IsHeaded is_number_head (is_number_unit d) s
Spells d (Whole CharConst) s = IsQuoted (is_char_prefix d) 39 false s
Spells d (Whole StringLit) s = IsQuoted is_string_prefix 34 true s
Spells d (Whole Punct) s = IsTrue (is_punctuator d s)
Spells d (Whole HeaderName) s = ⊥
Spells d (Whole StrayQuote) s = IsUnclosed s ⊎ IsEmptyQuotes s
Spells d (Whole Other) s = IsTrue (is_other_unit d s)
Spells d (Whole BlockComment) s = IsBlock s
Spells d (Whole LineComment) s = IsLine s
Spells d Unended s = IsOpen s
