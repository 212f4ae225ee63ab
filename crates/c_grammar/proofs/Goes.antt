-- What can stand behind an item where a longer prefix spells one too.
use Rattle.std.proofs.Common.{◌≡◌, ◌==◌, ◌||◌, ◌&&◌, not, ℕ, Bool, true, false, List, [], ◌∷◌, ◌++◌, refl, sym, ◌∙◌, ap, subst, arith, inl, inr, ◌⊎◌, append_assoc}
use Rattle.std.specs.Prelude.{codes, nat_le}
use Rattle.std.specs.List.{list_any, list_all}
use Rattle.std.proofs.lemmas.Bool.{and_parts, or_cases, and_from, or_left, or_right, eqb-true, eq-eqb, not-true, both_ways, or_from}
use Rattle.c_grammar.specs.Grammar.{is_other_unit, is_same, is_of, joined, IsHeaded, is_one, is_two, is_letter, is_digit, is_sign, is_exponent, is_word_unit, is_number_head, is_number_unit, is_separated, common_punctuators, punctuators, is_punctuator, is_char_prefix, is_string_prefix, is_other, Shape, Whole, Unended, Spells}
use Rattle.c_grammar.specs.Touch.{ends, is_front}
use Rattle.c_chars.specs.declared.Dialect.{Dialect}
use Rattle.c_chars.specs.declared.Dialect.TheVariants.{C11, C23}
use Rattle.item_kinds.specs.declared.ItemKind.TheVariants.{Identifier, Number, CharConst, StringLit, Punct, HeaderName, StrayQuote, Other, BlockComment, LineComment}
use Rattle.c_grammar.proofs.Lists.{passes_at, two_cuts, of_table, in_table, all_append, same_is}
use Rattle.c_grammar.proofs.Firsts.{is_rare, not_start, other_cases, high_not_mark, Begins, begins, can_begin, is_quote, is_letter_start, is_number_start, is_mark}
use Rattle.c_grammar.proofs.Wide.{is_high, wide_high}
use Rattle.c_grammar.proofs.Classes.{not_of, letter_not_digit, letter_start_not_digit, mark_not_letter_start, mark_not_quote, letter_start_not_quote, letter_start_not_mark, digit_not_mark}
use Rattle.c_grammar.proofs.Words.{high_wordlike, is_wordlike, digit_wordlike, word_unit_wordlike, identifier_wordlike, char_prefix_wordlike, string_prefix_wordlike, wordlike_not_quote}
use Rattle.std.proofs.lemmas.Bool.Decides.{nat_tests}
use Rattle.c_grammar.proofs.Sorts.{apart_at}

-- What begins the left item and what goes on from it.
pub record BothBegin (d : Dialect) (left k : Shape) (l : List ℕ) : Type 0 where
  pub f : ℕ
  pub rest : List ℕ
  pub whole : l ≡ f ∷ rest
  pub first : can_begin d left f ≡ true
  pub second : can_begin d k f ≡ true

pub both_begin : (d : Dialect) (left k : Shape) (l : List ℕ) (c : ℕ) (more : List ℕ) → Spells d left l → Spells d k (l ++ c ∷ more) → BothBegin d left k l
both_begin d left k l c more g h =
    let a = begins d left l g in
    let b = begins d k (l ++ c ∷ more) h in
    let aw = a.whole in
    let bw = b.whole in
    let e : a.c ∷ (a.rest ++ c ∷ more) ≡ b.c ∷ b.rest = sym (ap (λ x. x ++ c ∷ more) aw) ∙ bw in
    let heads : b.c ≡ a.c = cc in
    record { f = a.c; rest = a.rest; whole = aw; first = a.passes; second = subst (λ x. can_begin d k x ≡ true) heads b.passes }

pub one_short : (p : ℕ → Bool) (l : List ℕ) (f : ℕ) (rest : List ℕ) (c : ℕ) (more : List ℕ) → l ≡ f ∷ rest → is_one p (l ++ c ∷ more) ≡ true → ⊥
one_short p l f [] c more w h = let g : is_one p (f ∷ c ∷ more) ≡ true = rw w at h in cc
one_short p l f (e ∷ rest) c more w h = let g : is_one p (f ∷ e ∷ (rest ++ c ∷ more)) ≡ true = rw w at h in cc

-- an Other of two characters and more is past ASCII
pub other_long : (d : Dialect) (l : List ℕ) (f : ℕ) (rest : List ℕ) (c : ℕ) (more : List ℕ) → l ≡ f ∷ rest → is_other_unit d (l ++ c ∷ more) ≡ true → list_all is_high (l ++ c ∷ more) ≡ true
other_long d l f rest c more w h = elim (other_cases d (l ++ c ∷ more) h) [ inl e ↦ absurd (one_short (is_other d) l f rest c more w e) | inr e ↦ (wide_high not_start (l ++ c ∷ more) e).high ]

pub other_first : (d : Dialect) (l : List ℕ) (f : ℕ) (rest : List ℕ) (c : ℕ) (more : List ℕ) → l ≡ f ∷ rest → is_other_unit d (l ++ c ∷ more) ≡ true → is_high f ≡ true
other_first d l f rest c more w h =
    (and_parts (is_high f) (list_all is_high (rest ++ c ∷ more)) (subst (λ z. list_all is_high (z ++ c ∷ more) ≡ true) w (other_long d l f rest c more w h))).0

-- what stands behind l in a list of which each character passes
pub tail_passes : (p : ℕ → Bool) (l : List ℕ) (c : ℕ) (more : List ℕ) → list_all p (l ++ c ∷ more) ≡ true → p c ≡ true
tail_passes p l c more h =
    let both : (list_all p l && list_all p (c ∷ more)) ≡ true = rw all_append at h in
    (and_parts (p c) (list_all p more) (and_parts (list_all p l) (list_all p (c ∷ more)) both).1).0

pub front_passes : (p : ℕ → Bool) (l m : List ℕ) → list_all p (l ++ m) ≡ true → list_all p l ≡ true
front_passes p l m h =
    let both : (list_all p l && list_all p m) ≡ true = rw all_append at h in
    (and_parts (list_all p l) (list_all p m) both).0

-- Identifiers

-- what may stand behind an identifier if an item goes on there
abbrev pub identifier_goes : List ℕ → ℕ → Bool
identifier_goes l c = is_wordlike c || (is_string_prefix l && is_quote c)

-- l is a front of a literal: it is the prefix or less
quoted_here : (l : List ℕ) (c : ℕ) (more before rest : List ℕ) (q : ℕ) → is_quote q ≡ true → list_all is_wordlike l ≡ true → list_all is_wordlike before ≡ true → is_string_prefix before ≡ true → l ++ c ∷ more ≡ before ++ q ∷ rest → identifier_goes l c ≡ true
quoted_here l c more before rest q k a b p e = elim (two_cuts l (c ∷ more) before (q ∷ rest) e) [
  | inl same ↦
      let fronts = same.front_is in
      let rests = same.rest_is in
      let heads : c ≡ q = cc in
      let prefix : is_string_prefix l ≡ true = rw fronts p in
      let quote : is_quote c ≡ true = rw heads k in
      or_right (is_wordlike c) (is_string_prefix l && is_quote c) (and_from (is_string_prefix l) (is_quote c) prefix quote)
  | inr on ↦ elim on [
    | inl g ↦
        let f = g.front_is in
        let rests = g.rest_is in
        let heads : c ≡ g.c = cc in
        let like : is_wordlike g.c ≡ true = tail_passes is_wordlike l g.c g.more (rw f at b) in
        or_left (is_wordlike c) (is_string_prefix l && is_quote c) (rw heads like)
    | inr g ↦
        let f = g.front_is in
        let rests = g.rest_is in
        let heads : q ≡ g.c = cc in
        let like : is_wordlike g.c ≡ true = tail_passes is_wordlike before g.c g.more (rw f at a) in
        let like_q : is_wordlike q ≡ true = rw heads like in
        absurd (both_ways (is_quote q) (wordlike_not_quote q like_q) k)
  ]
]

pub char_prefix_string : (d : Dialect) (p : List ℕ) → is_char_prefix d p ≡ true → is_string_prefix p ≡ true
unfolding is_char_prefix is_string_prefix
char_prefix_string C11 p h = in_table is_string_prefix ([] ∷ codes "L" ∷ codes "u" ∷ codes "U" ∷ []) refl p h
char_prefix_string C23 p h = h

identifier_goes_at : (d : Dialect) (k : Shape) (l : List ℕ) (c : ℕ) (more : List ℕ) → Spells d (Whole Identifier) l → Spells d k (l ++ c ∷ more) → BothBegin d (Whole Identifier) k l → identifier_goes l c ≡ true
unfolding is_quote is_number_start is_letter_start is_letter
identifier_goes_at d (Whole Identifier) l c more g h b = or_left (is_wordlike c) (is_string_prefix l && is_quote c) (tail_passes is_wordlike l c more (identifier_wordlike (l ++ c ∷ more) h))
identifier_goes_at d (Whole Number) l c more g h b = absurd (elim (or_cases (is_digit b.f) (b.f == 46) b.second) [
  | inl e ↦ both_ways (is_digit b.f) (letter_start_not_digit b.f b.first) e
  | inr e ↦ both_ways (b.f == 46) (apart_at is_letter_start b.f 46 b.first refl) e
])
identifier_goes_at d (Whole CharConst) l c more g h b = quoted_here l c more h.before (h.body ++ 39 ∷ []) 39 refl (identifier_wordlike l g) (char_prefix_wordlike d h.before h.begins) (char_prefix_string d h.before h.begins) h.whole
identifier_goes_at d (Whole StringLit) l c more g h b = quoted_here l c more h.before (h.body ++ 34 ∷ []) 34 refl (identifier_wordlike l g) (string_prefix_wordlike h.before h.begins) h.begins h.whole
identifier_goes_at d (Whole Punct) l c more g h b = absurd (both_ways (is_mark b.f) (letter_start_not_mark b.f b.first) b.second)
identifier_goes_at d (Whole HeaderName) l c more g h b = absurd h
identifier_goes_at d (Whole StrayQuote) l c more g h b = absurd (both_ways (is_quote b.f) (letter_start_not_quote b.f b.first) b.second)
identifier_goes_at d (Whole Other) l c more g h b = or_left (is_wordlike c) (is_string_prefix l && is_quote c) (high_wordlike c (passes_at is_high l c more (other_long d l b.f b.rest c more b.whole h)))
identifier_goes_at d (Whole BlockComment) l c more g h b = absurd (both_ways (b.f == 47) (apart_at is_letter_start b.f 47 b.first refl) b.second)
identifier_goes_at d (Whole LineComment) l c more g h b = absurd (both_ways (b.f == 47) (apart_at is_letter_start b.f 47 b.first refl) b.second)
identifier_goes_at d Unended l c more g h b = absurd (both_ways (b.f == 47) (apart_at is_letter_start b.f 47 b.first refl) b.second)

-- Numbers

-- what may stand behind a character of a number
unfoldable goes_after : ℕ → ℕ → Bool
goes_after prev c = (is_wordlike c || is_of (codes ".'") c) || (is_sign c && is_exponent prev)

word_goes : (prev c : ℕ) → is_wordlike c ≡ true → goes_after prev c ≡ true
unfolding goes_after
word_goes prev c h = or_left (is_wordlike c || is_of (codes ".'") c) (is_sign c && is_exponent prev) (or_left (is_wordlike c) (is_of (codes ".'") c) h)

mark_goes : (prev c : ℕ) → is_of (codes ".'") c ≡ true → goes_after prev c ≡ true
unfolding goes_after
mark_goes prev c h = or_left (is_wordlike c || is_of (codes ".'") c) (is_sign c && is_exponent prev) (or_right (is_wordlike c) (is_of (codes ".'") c) h)

sign_goes : (prev c : ℕ) → is_sign c ≡ true → is_exponent prev ≡ true → goes_after prev c ≡ true
unfolding goes_after
sign_goes prev c h e = or_right (is_wordlike c || is_of (codes ".'") c) (is_sign c && is_exponent prev) (and_from (is_sign c) (is_exponent prev) h e)

pub exponent_wordlike : (c : ℕ) → is_exponent c ≡ true → is_wordlike c ≡ true
unfolding is_exponent is_wordlike is_letter
exponent_wordlike c h = of_table is_wordlike (codes "eEpP") refl c h

pub separated_wordlike : (c : ℕ) → (is_digit c || ((nat_le 65 c && nat_le c 90) || (nat_le 97 c && nat_le c 122) || c == 95)) ≡ true → is_wordlike c ≡ true
unfolding is_wordlike is_letter
separated_wordlike c h = grind (arith, nat_tests)

abbrev fits_after : ℕ → List ℕ → Bool
fits_after prev [] = true
fits_after prev (c ∷ s) = goes_after prev c && fits_after c s

-- each unit fits wherever it stands
word_fits : (prev : ℕ) (u s : List ℕ) → list_all is_wordlike u ≡ true → ((p : ℕ) → fits_after p s ≡ true) → fits_after prev (u ++ s) ≡ true
word_fits prev [] s h n = n prev
word_fits prev (c ∷ u) s h n =
    let parts = and_parts (is_wordlike c) (list_all is_wordlike u) h in
    and_from (goes_after prev c) (fits_after c (u ++ s)) (word_goes prev c parts.0) (word_fits c u s parts.1 n)

point_fits : (prev : ℕ) (u s : List ℕ) → is_one (λ c. c == 46) u ≡ true → ((p : ℕ) → fits_after p s ≡ true) → fits_after prev (u ++ s) ≡ true
point_fits prev [] s h n = cc
point_fits prev (c ∷ []) s h n =
    let is : c ≡ 46 = eqb-true c 46 h in
    and_from (goes_after prev c) (fits_after c s) (mark_goes prev c (rw is refl)) (n c)
point_fits prev (c ∷ e ∷ u) s h n = cc

exponent_fits : (prev : ℕ) (u s : List ℕ) → is_two is_exponent is_sign u ≡ true → ((p : ℕ) → fits_after p s ≡ true) → fits_after prev (u ++ s) ≡ true
exponent_fits prev [] s h n = cc
exponent_fits prev (c ∷ []) s h n = cc
exponent_fits prev (c ∷ e ∷ []) s h n =
    let parts = and_parts (is_exponent c) (is_sign e) h in
    and_from (goes_after prev c) (goes_after c e && fits_after e s) (word_goes prev c (exponent_wordlike c parts.0))
    (and_from (goes_after c e) (fits_after e s) (sign_goes c e parts.1 parts.0) (n e))
exponent_fits prev (c ∷ e ∷ f ∷ u) s h n = cc

separated_fits : (d : Dialect) (prev : ℕ) (u s : List ℕ) → is_separated d u ≡ true → ((p : ℕ) → fits_after p s ≡ true) → fits_after prev (u ++ s) ≡ true
separated_fits C11 prev u s h n = cc
separated_fits C23 prev [] s h n = cc
separated_fits C23 prev (c ∷ []) s h n = cc
separated_fits C23 prev (c ∷ e ∷ []) s h n =
    let parts = and_parts (c == 39) (is_digit e || ((nat_le 65 e && nat_le e 90) || (nat_le 97 e && nat_le e 122) || e == 95)) h in
    let is : c ≡ 39 = eqb-true c 39 parts.0 in
    and_from (goes_after prev c) (goes_after c e && fits_after e s) (mark_goes prev c (rw is refl))
    (and_from (goes_after c e) (fits_after e s) (word_goes c e (separated_wordlike e parts.1)) (n e))
separated_fits C23 prev (c ∷ e ∷ f ∷ u) s h n = cc

unit_fits : (d : Dialect) (prev : ℕ) (u s : List ℕ) → is_number_unit d u ≡ true → ((p : ℕ) → fits_after p s ≡ true) → fits_after prev (u ++ s) ≡ true
unfolding is_number_unit
unit_fits d prev u s h n =
    elim (or_cases (is_word_unit u || is_one (λ c. c == 46) u || is_two is_exponent is_sign u) (is_separated d u) h) [
      | inl e ↦ elim (or_cases (is_word_unit u || is_one (λ c. c == 46) u) (is_two is_exponent is_sign u) e) [
        | inl f ↦ elim (or_cases (is_word_unit u) (is_one (λ c. c == 46) u) f) [
          | inl g ↦ word_fits prev u s (word_unit_wordlike u g) n
          | inr g ↦ point_fits prev u s g n
        ]
        | inr f ↦ exponent_fits prev u s f n
      ]
      | inr e ↦ separated_fits d prev u s e n
    ]

units_fit : (d : Dialect) (us : List (List ℕ)) → list_all (is_number_unit d) us ≡ true → (prev : ℕ) → fits_after prev (joined us) ≡ true
units_fit d [] h prev = refl
units_fit d (u ∷ us) h prev =
    let parts = and_parts (is_number_unit d u) (list_all (is_number_unit d) us) h in
    unit_fits d prev u (joined us) parts.0 (units_fit d us parts.1)

head_fits : (head s : List ℕ) → is_number_head head ≡ true → ((p : ℕ) → fits_after p s ≡ true) → (prev : ℕ) → fits_after prev (head ++ s) ≡ true
unfolding is_number_head
head_fits [] s h n prev = cc
head_fits (c ∷ []) s h n prev = elim (or_cases (is_digit c) false h) [
  | inl e ↦ word_fits prev (c ∷ []) s (and_from (is_wordlike c) true (digit_wordlike c e) refl) n
  | inr e ↦ cc
]
head_fits (c ∷ e ∷ []) s h n prev =
    let parts = and_parts (c == 46) (is_digit e) h in
    let is : c ≡ 46 = eqb-true c 46 parts.0 in
    and_from (goes_after prev c) (goes_after c e && fits_after e s) (mark_goes prev c (rw is refl))
    (and_from (goes_after c e) (fits_after e s) (word_goes c e (digit_wordlike e parts.1)) (n e))
head_fits (c ∷ e ∷ f ∷ u) s h n prev = cc

number_fits : (d : Dialect) (s : List ℕ) → IsHeaded is_number_head (is_number_unit d) s → (prev : ℕ) → fits_after prev s ≡ true
number_fits d s h prev =
    let w = h.whole in let u = h.goes_on.whole in
    rw (w, u) (head_fits h.head (joined h.goes_on.units) h.begins (units_fit d h.goes_on.units h.goes_on.each) prev)

-- what may stand behind a number if an item goes on there
abbrev pub number_goes : List ℕ → ℕ → Bool
number_goes l c = is_wordlike c || is_of (codes ".'") c || (is_sign c && ends is_exponent l)

-- a character that goes after the last one
fits_behind : (prev f : ℕ) (l : List ℕ) (c : ℕ) (more : List ℕ) → fits_after prev ((f ∷ l) ++ c ∷ more) ≡ true → (is_wordlike c || is_of (codes ".'") c || (is_sign c && ends is_exponent (f ∷ l))) ≡ true
unfolding goes_after
fits_behind prev f [] c more h = (and_parts (goes_after f c) (fits_after c more) (and_parts (goes_after prev f) (fits_after f (c ∷ more)) h).1).0
fits_behind prev f (e ∷ l) c more h = fits_behind f e l c more (and_parts (goes_after prev f) (fits_after f ((e ∷ l) ++ c ∷ more)) h).1

-- what no punctuator begins with: a point and a digit, two slashes, a slash and a star
abbrev pub no_punct_front : List ℕ → Bool
no_punct_front [] = true
no_punct_front (c ∷ []) = true
no_punct_front (c ∷ e ∷ s) = not ((c == 46) && is_digit e) && (not ((c == 47) && (e == 47)) && not ((c == 47) && (e == 42)))

pub punct_front : (d : Dialect) (s : List ℕ) → is_punctuator d s ≡ true → no_punct_front s ≡ true
unfolding is_punctuator punctuators is_digit
punct_front C11 s h = in_table no_punct_front common_punctuators refl s h
punct_front C23 s h = in_table no_punct_front (codes "::" ∷ common_punctuators) refl s h

pub point_digit_no_punct : (d : Dialect) (e : ℕ) (s : List ℕ) → is_digit e ≡ true → is_punctuator d (46 ∷ e ∷ s) ≡ true → ⊥
point_digit_no_punct d e s g h =
    let f = punct_front d (46 ∷ e ∷ s) h in
    both_ways (is_digit e) (not-true (is_digit e) (and_parts (not (is_digit e)) true f).0) g

pub slash_no_punct : (d : Dialect) (e : ℕ) (s : List ℕ) → ((e ≡ 47) ⊎ (e ≡ 42)) → is_punctuator d (47 ∷ e ∷ s) ≡ true → ⊥
slash_no_punct d e s (inl i) h = let f : no_punct_front (47 ∷ 47 ∷ s) ≡ true = subst (λ x. no_punct_front (47 ∷ x ∷ s) ≡ true) i (punct_front d (47 ∷ e ∷ s) h) in cc
slash_no_punct d e s (inr i) h = let f : no_punct_front (47 ∷ 42 ∷ s) ≡ true = subst (λ x. no_punct_front (47 ∷ x ∷ s) ≡ true) i (punct_front d (47 ∷ e ∷ s) h) in cc

-- a number isn't the front of a punctuator
number_no_punct : (d : Dialect) (head rest : List ℕ) → is_number_head head ≡ true → is_punctuator d (head ++ rest) ≡ true → Begins is_mark (head ++ rest) → ⊥
unfolding is_number_head
number_no_punct d [] rest h p b = cc
number_no_punct d (c ∷ []) rest h p b = elim (or_cases (is_digit c) false h) [
  | inl e ↦ let w = b.whole in let heads : b.c ≡ c = cc in both_ways (is_mark c) (digit_not_mark c e) (subst (λ x. is_mark x ≡ true) heads b.passes)
  | inr e ↦ cc
]
number_no_punct d (c ∷ e ∷ []) rest h p b =
    let parts = and_parts (c == 46) (is_digit e) h in
    let is : c ≡ 46 = eqb-true c 46 parts.0 in
    point_digit_no_punct d e rest parts.1 (subst (λ x. is_punctuator d (x ∷ e ∷ rest) ≡ true) is p)
number_no_punct d (c ∷ e ∷ f ∷ u) rest h p b = cc

pub not_number_start : (c : ℕ) → is_letter c ≡ true → is_number_start c ≡ false
unfolding is_number_start is_letter
not_number_start c e = or_from (is_digit c) (c == 46) (letter_not_digit c e) (apart_at is_letter c 46 e refl)

number_goes_at : (d : Dialect) (k : Shape) (l : List ℕ) (c : ℕ) (more : List ℕ) → Spells d (Whole Number) l → Spells d k (l ++ c ∷ more) → BothBegin d (Whole Number) k l → number_goes l c ≡ true
unfolding is_quote is_number_start is_letter_start is_letter is_digit
number_goes_at d (Whole Identifier) l c more g h b = absurd (elim (or_cases (is_digit b.f) (b.f == 46) b.first) [
  | inl e ↦ both_ways (is_digit b.f) (letter_start_not_digit b.f b.second) e
  | inr e ↦ both_ways (b.f == 46) (apart_at is_letter_start b.f 46 b.second refl) e
])
number_goes_at d (Whole Number) l c more g h b =
    let w = b.whole in
    let fits : fits_after 0 ((b.f ∷ b.rest) ++ c ∷ more) ≡ true = subst (λ x. fits_after 0 (x ++ c ∷ more) ≡ true) w (number_fits d (l ++ c ∷ more) h 0) in
    subst (λ x. number_goes x c ≡ true) (sym w) (fits_behind 0 b.f b.rest c more fits)
number_goes_at d (Whole CharConst) l c more g h b = absurd (elim (or_cases (is_letter b.f) (b.f == 39) b.second) [
  | inl e ↦ both_ways (is_number_start b.f) (not_number_start b.f e) b.first
  | inr e ↦ both_ways (b.f == 39) (apart_at is_number_start b.f 39 b.first refl) e
])
number_goes_at d (Whole StringLit) l c more g h b = absurd (elim (or_cases (is_letter b.f) (b.f == 34) b.second) [
  | inl e ↦ both_ways (is_number_start b.f) (not_number_start b.f e) b.first
  | inr e ↦ both_ways (b.f == 34) (apart_at is_number_start b.f 34 b.first refl) e
])
number_goes_at d (Whole Punct) l c more g h b =
    let w = g.whole in
    let regrouped : l ++ c ∷ more ≡ g.head ++ (g.tail ++ c ∷ more) = ap (λ x. x ++ c ∷ more) w ∙ append_assoc g.head g.tail (c ∷ more) in
    let p : is_punctuator d (g.head ++ (g.tail ++ c ∷ more)) ≡ true = subst (λ x. is_punctuator d x ≡ true) regrouped h in
    absurd (number_no_punct d g.head (g.tail ++ c ∷ more) g.begins p (begins d (Whole Punct) (g.head ++ (g.tail ++ c ∷ more)) p))
number_goes_at d (Whole HeaderName) l c more g h b = absurd h
number_goes_at d (Whole StrayQuote) l c more g h b = absurd (both_ways (is_number_start b.f) (not_of is_number_start (codes "'\"") refl b.f b.second) b.first)
number_goes_at d (Whole Other) l c more g h b = or_left (is_wordlike c || is_of (codes ".'") c) (is_sign c && ends is_exponent l) (or_left (is_wordlike c) (is_of (codes ".'") c) (high_wordlike c (passes_at is_high l c more (other_long d l b.f b.rest c more b.whole h))))
number_goes_at d (Whole BlockComment) l c more g h b = absurd (both_ways (b.f == 47) (apart_at is_number_start b.f 47 b.first refl) b.second)
number_goes_at d (Whole LineComment) l c more g h b = absurd (both_ways (b.f == 47) (apart_at is_number_start b.f 47 b.first refl) b.second)
number_goes_at d Unended l c more g h b = absurd (both_ways (b.f == 47) (apart_at is_number_start b.f 47 b.first refl) b.second)

-- Punctuators

pub front_append : (l s : List ℕ) (c : ℕ) → is_front (l ++ c ∷ []) (l ++ c ∷ s) ≡ true
front_append [] s c = rw (eq-eqb c c refl) refl
front_append (x ∷ l) s c = let e = eq-eqb x x refl in let f = front_append l s c in and_from (x == x) (is_front (l ++ c ∷ []) (l ++ c ∷ s)) e f

pub front_in_table : (x s : List ℕ) (table : List (List ℕ)) → is_front x s ≡ true → list_any (is_same s) table ≡ true → list_any (is_front x) table ≡ true
front_in_table x s [] f h = cc
front_in_table x s (t ∷ ts) f h = elim (or_cases (is_same s t) (list_any (is_same s) ts) h) [
  | inl e ↦ let is : s ≡ t = same_is s t e in or_left (is_front x t) (list_any (is_front x) ts) (subst (λ z. is_front x z ≡ true) is f)
  | inr e ↦ or_right (is_front x t) (list_any (is_front x) ts) (front_in_table x s ts f e)
]

abbrev pub touch_table : List (List ℕ)
touch_table = codes "::" ∷ codes "//" ∷ codes "/*" ∷ common_punctuators

pub in_touch_table : (d : Dialect) (s : List ℕ) → is_punctuator d s ≡ true → list_any (is_same s) touch_table ≡ true
unfolding is_punctuator punctuators
in_touch_table C11 s h = in_table (λ z. list_any (is_same z) touch_table) common_punctuators refl s h
in_touch_table C23 s h = in_table (λ z. list_any (is_same z) touch_table) (codes "::" ∷ common_punctuators) refl s h

-- what may stand behind a punctuator if an item goes on there
abbrev pub punct_goes : List ℕ → ℕ → Bool
punct_goes l c = list_any (is_front (l ++ c ∷ [])) touch_table || (is_same l (46 ∷ []) && is_digit c)

-- what goes on from the left item is the front of an entry of the table
goes_on : (l : List ℕ) (c : ℕ) (s : List ℕ) → is_front (l ++ c ∷ []) s ≡ true → list_any (is_same s) touch_table ≡ true → punct_goes l c ≡ true
goes_on l c s f h = or_left (list_any (is_front (l ++ c ∷ [])) touch_table) (is_same l (46 ∷ []) && is_digit c) (front_in_table (l ++ c ∷ []) s touch_table f h)

-- the left item is a slash, and c makes a comment of it; or a punctuator would begin with one
slash_here : (d : Dialect) (l : List ℕ) (c : ℕ) (more : List ℕ) (second : ℕ) (rest : List ℕ) → is_punctuator d l ≡ true → (second ≡ 47) ⊎ (second ≡ 42) → (f : ℕ) (l' : List ℕ) → l ≡ f ∷ l' → l ++ c ∷ more ≡ 47 ∷ second ∷ rest → punct_goes l c ≡ true
slash_here d l c more second rest p s f [] w e =
    let e' : f ∷ c ∷ more ≡ 47 ∷ second ∷ rest = rw w at e in
    let f_is : f ≡ 47 = cc in
    let c_is : c ≡ second = cc in
    elim s [
      | inl i ↦ let all : l ++ c ∷ [] ≡ 47 ∷ 47 ∷ [] = rw (w, f_is, c_is, i) refl in
          goes_on l c (codes "//") (subst (λ x. is_front x (codes "//") ≡ true) (sym all) refl) refl
      | inr i ↦ let all : l ++ c ∷ [] ≡ 47 ∷ 42 ∷ [] = rw (w, f_is, c_is, i) refl in
          goes_on l c (codes "/*") (subst (λ x. is_front x (codes "/*") ≡ true) (sym all) refl) refl
    ]
slash_here d l c more second rest p s f (g ∷ l') w e =
    let e' : f ∷ g ∷ (l' ++ c ∷ more) ≡ 47 ∷ second ∷ rest = rw w at e in
    let f_is : f ≡ 47 = cc in
    let g_is : g ≡ second = cc in
    let all : l ≡ 47 ∷ second ∷ l' = rw (w, f_is, g_is) refl in
    absurd (slash_no_punct d second l' s (subst (λ x. is_punctuator d x ≡ true) all p))

-- the left item is a point, and c a digit; or a punctuator would begin so
point_here : (d : Dialect) (l : List ℕ) (c : ℕ) (more head tail : List ℕ) → is_punctuator d l ≡ true → is_number_head head ≡ true → (f : ℕ) (l' : List ℕ) → l ≡ f ∷ l' → is_mark f ≡ true → l ++ c ∷ more ≡ head ++ tail → punct_goes l c ≡ true
unfolding is_number_head
point_here d l c more [] tail p h f l' w m e = cc
point_here d l c more (a ∷ []) tail p h f l' w m e = elim (or_cases (is_digit a) false h) [
  | inl g ↦ let e' : f ∷ (l' ++ c ∷ more) ≡ a ∷ tail = rw w at e in let heads : a ≡ f = cc in absurd (both_ways (is_mark f) (digit_not_mark f (subst (λ x. is_digit x ≡ true) heads g)) m)
  | inr g ↦ cc
]
point_here d l c more (a ∷ b ∷ []) tail p h f [] w m e =
    let parts = and_parts (a == 46) (is_digit b) h in
    let a_is : a ≡ 46 = eqb-true a 46 parts.0 in
    let e' : f ∷ c ∷ more ≡ a ∷ b ∷ tail = rw w at e in
    let f_is : f ≡ 46 = cc in
    let c_is : b ≡ c = cc in
    let point : is_same l (46 ∷ []) ≡ true = rw (w, f_is) refl in
    or_right (list_any (is_front (l ++ c ∷ [])) touch_table) (is_same l (46 ∷ []) && is_digit c) (and_from (is_same l (46 ∷ [])) (is_digit c) point (subst (λ x. is_digit x ≡ true) c_is parts.1))
point_here d l c more (a ∷ b ∷ []) tail p h f (g ∷ l') w m e =
    let parts = and_parts (a == 46) (is_digit b) h in
    let a_is : a ≡ 46 = eqb-true a 46 parts.0 in
    let e' : f ∷ g ∷ (l' ++ c ∷ more) ≡ a ∷ b ∷ tail = rw w at e in
    let f_is : f ≡ 46 = cc in
    let g_is : b ≡ g = cc in
    let all : l ≡ 46 ∷ g ∷ l' = rw (w, f_is) refl in
    absurd (point_digit_no_punct d g l' (subst (λ x. is_digit x ≡ true) g_is parts.1) (subst (λ x. is_punctuator d x ≡ true) all p))
point_here d l c more (a ∷ b ∷ e2 ∷ u) tail p h f l' w m e = cc

-- a mark begins no prefix and no quote
pub mark_no_prefix : (q f : ℕ) → is_quote q ≡ true → is_mark f ≡ true → (is_letter f || f == q) ≡ true → ⊥
unfolding is_letter_start
mark_no_prefix q f k m h = elim (or_cases (is_letter f) (f == q) h) [
  | inl e ↦ both_ways (is_letter_start f) (mark_not_letter_start f m) (or_left (is_letter f) (is_rare f) e)
  | inr e ↦ let is : f ≡ q = eqb-true f q e in both_ways (is_quote f) (mark_not_quote f m) (rw is k)
]

punct_goes_at : (d : Dialect) (k : Shape) (l : List ℕ) (c : ℕ) (more : List ℕ) → Spells d (Whole Punct) l → Spells d k (l ++ c ∷ more) → BothBegin d (Whole Punct) k l → punct_goes l c ≡ true
unfolding is_quote
punct_goes_at d (Whole Identifier) l c more g h b = absurd (both_ways (is_letter_start b.f) (mark_not_letter_start b.f b.first) b.second)
punct_goes_at d (Whole Number) l c more g h b = point_here d l c more h.head h.tail g h.begins b.f b.rest b.whole b.first h.whole
punct_goes_at d (Whole CharConst) l c more g h b = absurd (mark_no_prefix 39 b.f refl b.first b.second)
punct_goes_at d (Whole StringLit) l c more g h b = absurd (mark_no_prefix 34 b.f refl b.first b.second)
punct_goes_at d (Whole Punct) l c more g h b = goes_on l c (l ++ c ∷ more) (front_append l more c) (in_touch_table d (l ++ c ∷ more) h)
punct_goes_at d (Whole HeaderName) l c more g h b = absurd h
punct_goes_at d (Whole StrayQuote) l c more g h b = absurd (both_ways (is_quote b.f) (mark_not_quote b.f b.first) b.second)
punct_goes_at d (Whole Other) l c more g h b = absurd (both_ways (is_mark b.f) (high_not_mark b.f (other_first d l b.f b.rest c more b.whole h)) b.first)
punct_goes_at d (Whole BlockComment) l c more g h b = slash_here d l c more 42 (h.body ++ 42 ∷ 47 ∷ []) g (inr refl) b.f b.rest b.whole h.whole
punct_goes_at d (Whole LineComment) l c more g h b = slash_here d l c more 47 h.body g (inl refl) b.f b.rest b.whole h.whole
punct_goes_at d Unended l c more g h b = slash_here d l c more 42 h.body g (inr refl) b.f b.rest b.whole h.whole

pub identifier_goes_on : (d : Dialect) (k : Shape) (l : List ℕ) (c : ℕ) (more : List ℕ) → Spells d (Whole Identifier) l → Spells d k (l ++ c ∷ more) → identifier_goes l c ≡ true
identifier_goes_on d k l c more g h = identifier_goes_at d k l c more g h (both_begin d (Whole Identifier) k l c more g h)

pub number_goes_on_at : (d : Dialect) (k : Shape) (l : List ℕ) (c : ℕ) (more : List ℕ) → Spells d (Whole Number) l → Spells d k (l ++ c ∷ more) → number_goes l c ≡ true
number_goes_on_at d k l c more g h = number_goes_at d k l c more g h (both_begin d (Whole Number) k l c more g h)

pub punct_goes_on_at : (d : Dialect) (k : Shape) (l : List ℕ) (c : ℕ) (more : List ℕ) → Spells d (Whole Punct) l → Spells d k (l ++ c ∷ more) → punct_goes l c ≡ true
punct_goes_on_at d k l c more g h = punct_goes_at d k l c more g h (both_begin d (Whole Punct) k l c more g h)
