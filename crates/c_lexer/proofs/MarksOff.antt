-- Punctuators and quotes, cut off a text of characters.
use Rattle.std.proofs.Common.{◌≡◌, ◌==◌, ◌||◌, ◌&&◌, ◌<◌, Bool, true, false, ℕ, List, [], ◌∷◌, drop, nat_eq, refl, sym, ◌∙◌, ap, subst, arith, inl, inr}
use Rattle.std.specs.List.{list_all, starts_with}
use Rattle.std.proofs.lemmas.Bool.{or_parts, or_cases, both_ways, cases_Bool, eqb-true, eq-eqb}
use Rattle.c_chars.specs.Characters.{bytes_of}
use Rattle.c_chars.specs.Coming.{Coming, behind}
use Rattle.c_chars.specs.declared.Dialect.{Dialect}
use Rattle.c_chars.specs.declared.Dialect.TheVariants.{C11, C23}
use Rattle.c_grammar.specs.Grammar.{Whole, is_digit, is_char_prefix, is_string_prefix}
use Rattle.c_grammar.specs.Touch.{starts}
use Rattle.item_kinds.specs.declared.ItemKind.TheVariants.{CharConst, Punct, StrayQuote, StringLit}
use Rattle.c_grammar.proofs.Firsts.{is_mark}
use Rattle.c_grammar.proofs.Goes.{no_punct_front}
use Rattle.c_lexer.specs.Run.{IsCut, long, first_front, begins_number}
use Rattle.c_lexer.specs.Cut.{IsCutOff}
use Rattle.c_grammar.specs.Bytes.{begins_punctuator, is_quote_mark, IsFirst}
use Rattle.c_lexer.specs.Quote.{closes_quote, quote_len}
use Rattle.c_lexer.proofs.CutOffs.{char_off, stray_off, string_off, unclosed_off}
use Rattle.c_lexer.proofs.Puncts.{punct_cut}

abbrev is_some : List ℕ → Bool
is_some [] = false
is_some (c ∷ s) = true

front_some : (table : List (List ℕ)) (s : List ℕ) → list_all is_some table ≡ true → 0 < first_front table s
front_some [] s h = omega arith
front_some ([] ∷ ps) s h = cc
front_some ((c ∷ p) ∷ ps) s h = elim (cases_Bool (starts_with nat_eq s (c ∷ p))) [ inl y ↦ rw y (omega arith) | inr n ↦ rw n (front_some ps s h) ]

long_some : (d : Dialect) → list_all is_some (long d) ≡ true
long_some C11 = refl
long_some C23 = refl

mark_is : (s : List ℕ) → starts begins_punctuator s ≡ starts is_mark s
unfolding begins_punctuator is_mark
mark_is [] = refl
mark_is (c ∷ s) = refl

pair_not : (a b c e : ℕ) (s : List ℕ) → starts_with nat_eq (c ∷ e ∷ s) (a ∷ b ∷ []) ≡ false → ((c == a) && (e == b)) ≡ false
pair_not a b c e s h = elim (cases_Bool (c == a)) [
  | inr n ↦ rw n refl
  | inl y ↦ elim (cases_Bool (e == b)) [
    | inr n ↦ rw (y, n) refl
    | inl z ↦
        let x : a ≡ c = sym (eqb-true c a y) in let w : b ≡ e = sym (eqb-true e b z) in
        let p = eq-eqb a c x in let q = eq-eqb b e w in
        let both : starts_with nat_eq (c ∷ e ∷ s) (a ∷ b ∷ []) ≡ true = rw (p, q) refl in
        absurd (both_ways (starts_with nat_eq (c ∷ e ∷ s) (a ∷ b ∷ [])) h both)
  ]
]

no_front_of : (s : List ℕ) → begins_number s ≡ false → starts_with nat_eq s (47 ∷ 42 ∷ []) ≡ false → starts_with nat_eq s (47 ∷ 47 ∷ []) ≡ false → no_punct_front s ≡ true
no_front_of [] n b l = refl
no_front_of (c ∷ []) n b l = refl
no_front_of (c ∷ e ∷ s) n b l =
    let point = (or_parts (is_digit c) (c == 46 && is_digit e) n).1 in
    let line = pair_not 47 47 c e s l in
    let block = pair_not 47 42 c e s b in
    rw (point, line, block) refl

pub mark_off : (x left : Coming) (d : Dialect) (n : ℕ) → d ≡ x.dialect → starts begins_punctuator (bytes_of x.chars) ≡ true → begins_number (bytes_of x.chars) ≡ false →
    starts_with nat_eq (bytes_of x.chars) (47 ∷ 42 ∷ []) ≡ false → starts_with nat_eq (bytes_of x.chars) (47 ∷ 47 ∷ []) ≡ false → n ≡ first_front (long d) (bytes_of x.chars) → left ≡ behind x n → IsCutOff x left Punct
mark_off x left d n same m number block line len e = record {
  n = n;
  some = subst (λ k. 0 < k) (sym len) (front_some (long d) (bytes_of x.chars) (long_some d));
  left_is = e;
  cut = subst (λ k. IsCut k (Whole Punct) (bytes_of x.chars) n) same (punct_cut d (bytes_of x.chars) n (sym (mark_is (bytes_of x.chars)) ∙ m) (no_front_of (bytes_of x.chars) number block line) len);
}

pub no_digit : (s : List ℕ) → begins_number s ≡ false → starts is_digit s ≡ false
no_digit [] h = refl
no_digit (c ∷ s) h = (or_parts (is_digit c) (c == 46 && starts is_digit s) h).0

empty_char_prefix : (d : Dialect) → is_char_prefix d [] ≡ true
unfolding is_char_prefix
empty_char_prefix C11 = refl
empty_char_prefix C23 = refl

empty_string_prefix : is_string_prefix [] ≡ true
unfolding is_string_prefix
empty_string_prefix = refl

-- the quote that a text begins with
quote_first : (q : ℕ) (s : List ℕ) → IsFirst q s → starts_with nat_eq s (q ∷ []) ≡ true
quote_first q s f = ap (λ z. starts_with nat_eq z (q ∷ [])) f.whole ∙ (let same = eq-eqb q q refl in rw same refl)

-- behind one apostrophe no other stands
one_apostrophe : (s : List ℕ) → IsFirst 39 s → starts_with nat_eq s (39 ∷ 39 ∷ []) ≡ false → starts (λ c. c == 39) (drop 1 s) ≡ false
one_apostrophe s f n = ap (λ z. starts (λ c. c == 39) (drop 1 z)) f.whole ∙ at f.rest (subst (λ z. starts_with nat_eq z (39 ∷ 39 ∷ []) ≡ false) f.whole n)
  where
    at : (t : List ℕ) → starts_with nat_eq (39 ∷ t) (39 ∷ 39 ∷ []) ≡ false → starts (λ c. c == 39) t ≡ false
    at [] h = refl
    at (e ∷ t) h = elim (cases_Bool (e == 39)) [
      | inr n ↦ n
      | inl y ↦ let second = eq-eqb 39 e (sym (eqb-true e 39 y)) in let both : starts_with nat_eq (39 ∷ e ∷ t) (39 ∷ 39 ∷ []) ≡ true = rw second refl in absurd (both_ways _ h both)
    ]

pub stray_there : (x y rest : Coming) (q : ℕ) → IsFirst q (bytes_of x.chars) → is_quote_mark q ≡ true → y ≡ behind x 1 → rest ≡ behind y (quote_len q false (bytes_of y.chars)) → closes_quote q false (bytes_of y.chars) ≡ false → IsCutOff x rest StrayQuote
stray_there x y rest q first quote e r c = stray_off x y rest q quote (quote_first q (bytes_of x.chars) first) (unclosed_off x y q 1 e c) e r

pub char_there : (x y rest : Coming) (q : ℕ) → IsFirst q (bytes_of x.chars) → q ≡ 39 → starts_with nat_eq (bytes_of x.chars) (39 ∷ 39 ∷ []) ≡ false → y ≡ behind x 1 → rest ≡ behind y (quote_len q false (bytes_of y.chars)) → closes_quote q false (bytes_of y.chars) ≡ true
    → IsCutOff x rest CharConst
char_there x y rest q first q_is single e r c =
    let there = subst (λ k. IsFirst k (bytes_of x.chars)) q_is first in
    char_off x y rest [] (empty_char_prefix x.dialect) (quote_first 39 (bytes_of x.chars) there) (one_apostrophe (bytes_of x.chars) there single) e
    (subst (λ k. rest ≡ behind y (quote_len k false (bytes_of y.chars))) q_is r) (subst (λ k. closes_quote k false (bytes_of y.chars) ≡ true) q_is c)

-- the other quote
quotation : (q : ℕ) → is_quote_mark q ≡ true → (q ≡ 39 → ⊥) → q ≡ 34
quotation q h n = elim (or_cases (39 == q) ((34 == q) || false) h) [
  | inl y ↦ absurd (n (sym (eqb-true 39 q y)))
  | inr y ↦ elim (or_cases (34 == q) false y) [ inl z ↦ sym (eqb-true 34 q z) | inr z ↦ cc ]
]

pub string_there : (x y rest : Coming) (q : ℕ) → IsFirst q (bytes_of x.chars) → is_quote_mark q ≡ true → (q ≡ 39 → ⊥) → y ≡ behind x 1 → rest ≡ behind y (quote_len q false (bytes_of y.chars)) → closes_quote q false (bytes_of y.chars) ≡ true → IsCutOff x rest StringLit
string_there x y rest q first quote apart e r c =
    let q_is = quotation q quote apart in
    string_off x y rest [] empty_string_prefix (quote_first 34 (bytes_of x.chars) (subst (λ k. IsFirst k (bytes_of x.chars)) q_is first)) e
    (subst (λ k. rest ≡ behind y (quote_len k false (bytes_of y.chars))) q_is r) (subst (λ k. closes_quote k false (bytes_of y.chars) ≡ true) q_is c)
