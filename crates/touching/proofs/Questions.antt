-- Only the punctuator `?` ends in a question mark, of all items that may touch another.
use Rattle.std.proofs.Common.{◌≡◌, ◌==◌, ◌||◌, not, ℕ, Bool, true, false, List, [], ◌∷◌, ◌++◌, refl, sym, ◌∙◌, ap, inl, inr, append_assoc, ◌⊎◌}
use Rattle.std.specs.Prelude.{codes}
use Rattle.std.specs.List.{list_all}
use Rattle.std.proofs.lemmas.Bool.{and_parts, or_cases, both_ways, not-true}
use Rattle.c_chars.specs.declared.Dialect.{Dialect}
use Rattle.c_chars.specs.declared.Dialect.TheVariants.{C11, C23}
use Rattle.item_kinds.specs.declared.ItemKind.{ItemKind}
use Rattle.item_kinds.specs.declared.ItemKind.TheVariants.{Identifier, Number, CharConst, StringLit, Punct, HeaderName, StrayQuote, Other, BlockComment, LineComment}
use Rattle.c_grammar.specs.Grammar.{Whole, Spells, IsHeaded, IsBlock, IsHeaderName, is_same, is_one, is_two, is_sign, is_exponent, is_number_head, is_number_unit, is_punctuator, punctuators, common_punctuators, is_letter, is_digit}
use Rattle.c_grammar.specs.Touch.{ends, takes_line, is_other_kind}
use Rattle.c_grammar.proofs.Lists.{all_append, units_all, one_all, in_table, all_weaken}
use Rattle.c_grammar.proofs.Words.{is_wordlike, identifier_wordlike}
use Rattle.c_grammar.proofs.Before.{unit_cases}
use Rattle.c_grammar.proofs.Sorts.{apart_at}

abbrev pub is_query : ℕ → Bool
is_query c = c == 63

abbrev no_query : ℕ → Bool
no_query c = not (c == 63)

no_query_from : (p : ℕ → Bool) → p 63 ≡ false → (c : ℕ) → p c ≡ true → no_query c ≡ true
no_query_from p n c h = rw (apart_at p c 63 h n) refl

wordlike_no_query : (c : ℕ) → is_wordlike c ≡ true → no_query c ≡ true
unfolding is_wordlike is_letter is_digit
wordlike_no_query c h = no_query_from is_wordlike refl c h

-- what has no question mark doesn't end in one
none_at_end : (s : List ℕ) → list_all no_query s ≡ true → ends is_query s ≡ false
none_at_end [] h = refl
none_at_end (c ∷ []) h = not-true (c == 63) (and_parts (no_query c) true h).0
none_at_end (c ∷ e ∷ s) h = none_at_end (e ∷ s) (and_parts (no_query c) (list_all no_query (e ∷ s)) h).1

-- the last character
ends_back : (p : ℕ → Bool) (a : List ℕ) (c : ℕ) → ends p (a ++ c ∷ []) ≡ p c
ends_back p [] c = refl
ends_back p (x ∷ []) c = refl
ends_back p (x ∷ y ∷ a) c = ends_back p (y ∷ a) c

-- Numbers

two_all : (p q : ℕ → Bool) (u : List ℕ) → is_two p q u ≡ true → ((c : ℕ) → p c ≡ true → no_query c ≡ true) → ((c : ℕ) → q c ≡ true → no_query c ≡ true) → list_all no_query u ≡ true
two_all p q [] h f g = cc
two_all p q (a ∷ []) h f g = cc
two_all p q (a ∷ b ∷ []) h f g = let parts = and_parts (p a) (q b) h in let x = f a parts.0 in let y = g b parts.1 in rw (x, y) refl
two_all p q (a ∷ b ∷ c ∷ s) h f g = cc

point_no_query : (c : ℕ) → (c == 46) ≡ true → no_query c ≡ true
point_no_query c h = no_query_from (λ x. x == 46) refl c h

number_unit : (d : Dialect) (u : List ℕ) → is_number_unit d u ≡ true → list_all no_query u ≡ true
unfolding is_exponent is_sign
number_unit d u h = elim (unit_cases d u h) [
  | inl w ↦ all_weaken is_wordlike no_query wordlike_no_query u w
  | inr (inl p) ↦ one_all (λ c. c == 46) no_query point_no_query u p
  | inr (inr (inl e)) ↦ two_all is_exponent is_sign u e (no_query_from is_exponent refl) (no_query_from is_sign refl)
  | inr (inr (inr s)) ↦ two_all (λ c. c == 39) is_wordlike u s (no_query_from (λ c. c == 39) refl) wordlike_no_query
]

number_head : (u : List ℕ) → is_number_head u ≡ true → list_all no_query u ≡ true
unfolding is_number_head is_digit
number_head u h = elim (or_cases (is_one is_digit u) (is_two (λ c. c == 46) is_digit u) h) [
  | inl o ↦ one_all is_digit no_query (no_query_from is_digit refl) u o
  | inr t ↦ two_all (λ c. c == 46) is_digit u t point_no_query (no_query_from is_digit refl)
]

number_none : (d : Dialect) (s : List ℕ) → IsHeaded is_number_head (is_number_unit d) s → list_all no_query s ≡ true
number_none d s h =
    let head = number_head h.head h.begins in
    let tail = units_all (is_number_unit d) no_query (number_unit d) h.tail h.goes_on in
    ap (list_all no_query) h.whole ∙ (all_append no_query h.head h.tail ∙ rw (head, tail) refl)

-- Punctuators

abbrev query_alone : List ℕ → Bool
query_alone s = not (ends is_query s) || is_same s (codes "?")

punct_query : (d : Dialect) (s : List ℕ) → is_punctuator d s ≡ true → query_alone s ≡ true
unfolding is_punctuator punctuators
punct_query C11 s h = in_table query_alone common_punctuators refl s h
punct_query C23 s h = in_table query_alone (codes "::" ∷ common_punctuators) refl s h

-- All kinds

quoted_end : (q : ℕ) (s before body : List ℕ) → s ≡ before ++ q ∷ (body ++ q ∷ []) → is_query q ≡ false → ends is_query s ≡ false
quoted_end q s before body w n = ap (ends is_query) (w ∙ sym (append_assoc before (q ∷ body) (q ∷ []))) ∙ (ends_back is_query (before ++ q ∷ body) q ∙ n)

header_end : (s : List ℕ) → IsHeaderName s → ends is_query s ≡ false
header_end s h = ap (ends is_query) h.whole ∙ (ends_back is_query (h.first ∷ h.body) h.last ∙ (elim h.ends [ inl e ↦ ap is_query e.1 | inr e ↦ ap is_query e.1 ]))

-- An item that doesn't take its line and ends in a question mark is one.
pub query_is_alone : (d : Dialect) (kind : ItemKind) (s : List ℕ) → ((kind ≡ HeaderName) × IsHeaderName s) ⊎ Spells d (Whole kind) s → takes_line kind ≡ false → is_other_kind kind ≡ false → ends is_query s ≡ true → is_same s (codes "?") ≡ true
query_is_alone d kind s (inl h) t o e = absurd (both_ways (ends is_query s) (header_end s h.1) e)
query_is_alone d Identifier s (inr h) t o e = absurd (both_ways (ends is_query s) (none_at_end s (all_weaken is_wordlike no_query wordlike_no_query s (identifier_wordlike s h))) e)
query_is_alone d Number s (inr h) t o e = absurd (both_ways (ends is_query s) (none_at_end s (number_none d s h)) e)
query_is_alone d CharConst s (inr h) t o e = absurd (both_ways (ends is_query s) (quoted_end 39 s h.before h.body h.whole refl) e)
query_is_alone d StringLit s (inr h) t o e = absurd (both_ways (ends is_query s) (quoted_end 34 s h.before h.body h.whole refl) e)
query_is_alone d Punct s (inr h) t o e = elim (or_cases (not (ends is_query s)) (is_same s (codes "?")) (punct_query d s h)) [ inl n ↦ absurd (both_ways (ends is_query s) (not-true (ends is_query s) n) e) | inr y ↦ y ]
query_is_alone d HeaderName s (inr h) t o e = absurd h
query_is_alone d StrayQuote s (inr h) t o e = cc
query_is_alone d Other s (inr h) t o e = cc
query_is_alone d BlockComment s (inr h) t o e = absurd (both_ways (ends is_query s) (block_end s h) e)
  where
    block_end : (s : List ℕ) → IsBlock s → ends is_query s ≡ false
    block_end s h = ap (ends is_query) (h.whole ∙ ap (λ z. 47 ∷ 42 ∷ z) (sym (append_assoc h.body (42 ∷ []) (47 ∷ [])))) ∙ ends_back is_query (47 ∷ 42 ∷ (h.body ++ 42 ∷ [])) 47
query_is_alone d LineComment s (inr h) t o e = cc
