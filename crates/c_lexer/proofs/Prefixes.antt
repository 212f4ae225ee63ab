-- A word before a quote, where the two make no literal, is the longest that spells an item.
use Rattle.std.proofs.Common.{◌≡◌, ◌==◌, ◌&&◌, not, ℕ, Bool, true, false, List, [], ◌∷◌, ◌++◌, refl, sym, ◌∙◌, ap, subst, inl, inr, ◌⊎◌, append_assoc}
use Rattle.std.specs.List.{list_all}
use Rattle.std.specs.Prelude.{codes}
use Rattle.std.proofs.lemmas.Bool.{or_right, and_parts, or_cases, eqb-true, eq-eqb, both_ways, not-true, ne_eqb}
use Rattle.c_chars.specs.declared.Dialect.{Dialect}
use Rattle.c_chars.specs.declared.Dialect.TheVariants.{C11, C23}
use Rattle.c_grammar.specs.Grammar.{is_one, is_wide, is_other, is_same, is_letter, is_digit, is_new_line, joined, is_quoted_unit, is_char_prefix, is_string_prefix, Shape, Whole, Unended, Spells}
use Rattle.c_grammar.specs.Touch.{starts}
use Rattle.item_kinds.specs.declared.ItemKind.TheVariants.{Identifier, Number, CharConst, StringLit, Punct, HeaderName, StrayQuote, Other, BlockComment, LineComment}
use Rattle.c_grammar.proofs.Lists.{in_table, two_cuts}
use Rattle.c_grammar.proofs.Firsts.{is_quote, is_mark, is_number_start, is_letter_start, not_start, other_cases}
use Rattle.c_grammar.proofs.Classes.{letter_start_not_digit, letter_start_not_mark, letter_start_not_quote}
use Rattle.c_grammar.proofs.Words.{is_wordlike, identifier_wordlike, char_prefix_wordlike, string_prefix_wordlike, wordlike_not_quote}
use Rattle.c_grammar.proofs.Sorts.{apart_at, apostrophe, quotation, body_starts, is_lone, identifier_not_lone}
use Rattle.c_grammar.proofs.Goes.{BothBegin, one_short, tail_passes}
use Rattle.c_grammar.proofs.Closed.{same_prefix}
use Rattle.c_grammar.proofs.Singles.{is_word}
use Rattle.c_grammar.proofs.Wide.{is_high}
use Rattle.c_lexer.specs.Quote.{closes_quote}

-- what goes on from a word is a word or a literal
pub word_kinds : (d : Dialect) (k : Shape) (l : List ℕ) (e : ℕ) (more : List ℕ) → Spells d (Whole Identifier) l → Spells d k (l ++ e ∷ more) → BothBegin d (Whole Identifier) k l →
    (k ≡ Whole Identifier) ⊎ ((k ≡ Whole CharConst) ⊎ (k ≡ Whole StringLit))
unfolding is_number_start is_letter_start is_letter
word_kinds d (Whole Identifier) l q more g h b = inl refl
word_kinds d (Whole Number) l q more g h b = absurd (elim (or_cases (is_digit b.f) (b.f == 46) b.second) [
  | inl e ↦ both_ways (is_digit b.f) (letter_start_not_digit b.f b.first) e
  | inr e ↦ both_ways (b.f == 46) (apart_at is_letter_start b.f 46 b.first refl) e
])
word_kinds d (Whole CharConst) l q more g h b = inr (inl refl)
word_kinds d (Whole StringLit) l q more g h b = inr (inr refl)
word_kinds d (Whole Punct) l q more g h b = absurd (both_ways (is_mark b.f) (letter_start_not_mark b.f b.first) b.second)
word_kinds d (Whole HeaderName) l q more g h b = absurd h
word_kinds d (Whole StrayQuote) l q more g h b = absurd (both_ways (is_quote b.f) (letter_start_not_quote b.f b.first) b.second)
word_kinds d (Whole Other) l q more g h b = absurd (elim (other_cases d (l ++ q ∷ more) h) [
  | inl one ↦ one_short (is_other d) l b.f b.rest q more b.whole one
  | inr wide ↦
      let apart : is_lone (l ++ q ∷ more) ≡ false = ap (λ z. is_lone z) (ap (λ z. z ++ q ∷ more) g.whole ∙ append_assoc g.head g.tail (q ∷ more)) ∙ identifier_not_lone g.head (g.tail ++ q ∷ more) g.begins in
      both_ways (is_lone (l ++ q ∷ more)) apart (or_right (is_same (l ++ q ∷ more) (92 ∷ [])) _ (or_right (is_one is_high (l ++ q ∷ more)) (is_wide not_start (l ++ q ∷ more)) wide))
])
word_kinds d (Whole BlockComment) l q more g h b = absurd (both_ways (b.f == 47) (apart_at is_letter_start b.f 47 b.first refl) b.second)
word_kinds d (Whole LineComment) l q more g h b = absurd (both_ways (b.f == 47) (apart_at is_letter_start b.f 47 b.first refl) b.second)
word_kinds d Unended l q more g h b = absurd (both_ways (b.f == 47) (apart_at is_letter_start b.f 47 b.first refl) b.second)

-- a closed body closes
closes_there : (q : ℕ) → is_quote q ≡ true → (us : List (List ℕ)) → list_all (is_quoted_unit q) us ≡ true → (left : List ℕ) → closes_quote q false (joined us ++ q ∷ left) ≡ true
unfolding is_quoted_unit is_quote is_new_line
closes_there q i [] h left = let e = eq-eqb q q refl in let l : (q == 10) ≡ false = apart_at is_quote q 10 i refl in rw (l, e) refl
closes_there q i ([] ∷ us) h left = cc
closes_there q i ((c ∷ []) ∷ us) h left =
    let parts = and_parts (is_quoted_unit q (c ∷ [])) (list_all (is_quoted_unit q) us) h in
    elim (or_cases (not (c == q) && not (c == 92) && not (is_new_line c)) false parts.0) [
      | inl e ↦
          let p = and_parts (not (c == q) && not (c == 92)) (not (is_new_line c)) e in
          let r = and_parts (not (c == q)) (not (c == 92)) p.0 in
          let x = not-true (c == q) r.0 in let y = not-true (c == 92) r.1 in let z : (c == 10) ≡ false = not-true (is_new_line c) p.1 in
          rw (z, x, y) (closes_there q i us parts.1 left)
      | inr e ↦ cc
    ]
closes_there q i ((c ∷ e ∷ []) ∷ us) h left =
    let parts = and_parts (is_quoted_unit q (c ∷ e ∷ [])) (list_all (is_quoted_unit q) us) h in
    let both = and_parts (c == 92) (not (is_new_line e)) parts.0 in
    let is : c ≡ 92 = eqb-true c 92 both.0 in
    let line : (e == 10) ≡ false = not-true (is_new_line e) both.1 in
    let quote : (92 == q) ≡ false = ne_eqb 92 q (λ s. let slash : is_quote 92 ≡ true = subst (λ z. is_quote z ≡ true) (sym s) i in cc) in
    rw (is, quote, line) (closes_there q i us parts.1 left)
closes_there q i ((c ∷ e ∷ f ∷ s) ∷ us) h left = cc

-- a character constant with this prefix stands here
abbrev pub is_constant : Dialect → List ℕ → List ℕ → Bool
is_constant d l t = is_char_prefix d l && (not (starts (λ c. c == 39) t) && closes_quote 39 false t)

-- a string literal with this prefix stands here
abbrev pub is_string : List ℕ → List ℕ → Bool
is_string l t = is_string_prefix l && closes_quote 34 false t

pub constant_there : (d : Dialect) (l more t left : List ℕ) (q : ℕ) → Spells d (Whole Identifier) l → is_quote q ≡ true → t ≡ more ++ left → Spells d (Whole CharConst) (l ++ q ∷ more) → (q ≡ 39) × (is_constant d l t ≡ true)
constant_there d l more t left q g i e h =
    let cut = same_prefix l h.before more (h.body ++ 39 ∷ []) q 39 (identifier_wordlike l g) (char_prefix_wordlike d h.before h.begins) i apostrophe h.whole in
    let rests = cut.rest_is in
    let quote : q ≡ 39 = cc in
    let tail : more ≡ h.body ++ 39 ∷ [] = cc in
    let whole : t ≡ joined h.inside.units ++ 39 ∷ left = e ∙ (ap (λ z. z ++ left) tail ∙ (append_assoc h.body (39 ∷ []) left ∙ ap (λ z. z ++ 39 ∷ left) h.inside.whole)) in
    let prefix : is_char_prefix d l ≡ true = subst (λ z. is_char_prefix d z ≡ true) (sym cut.front_is) h.begins in
    let some : not (is_same (joined h.inside.units) []) ≡ true = subst (λ z. not (is_same z []) ≡ true) h.inside.whole h.not_empty in
    let first : starts (λ c. c == 39) t ≡ false = subst (λ z. starts (λ c. c == 39) z ≡ false) (sym whole) (body_starts 39 h.inside.units h.inside.each some refl (39 ∷ left)) in
    let closed : closes_quote 39 false t ≡ true = subst (λ z. closes_quote 39 false z ≡ true) (sym whole) (closes_there 39 apostrophe h.inside.units h.inside.each left) in
    (quote, rw (prefix, first, closed) refl)

pub string_there : (d : Dialect) (l more t left : List ℕ) (q : ℕ) → Spells d (Whole Identifier) l → is_quote q ≡ true → t ≡ more ++ left → Spells d (Whole StringLit) (l ++ q ∷ more) → (q ≡ 34) × (is_string l t ≡ true)
string_there d l more t left q g i e h =
    let cut = same_prefix l h.before more (h.body ++ 34 ∷ []) q 34 (identifier_wordlike l g) (string_prefix_wordlike h.before h.begins) i quotation h.whole in
    let rests = cut.rest_is in
    let quote : q ≡ 34 = cc in
    let tail : more ≡ h.body ++ 34 ∷ [] = cc in
    let whole : t ≡ joined h.inside.units ++ 34 ∷ left = e ∙ (ap (λ z. z ++ left) tail ∙ (append_assoc h.body (34 ∷ []) left ∙ ap (λ z. z ++ 34 ∷ left) h.inside.whole)) in
    let prefix : is_string_prefix l ≡ true = subst (λ z. is_string_prefix z ≡ true) (sym cut.front_is) h.begins in
    let closed : closes_quote 34 false t ≡ true = subst (λ z. closes_quote 34 false z ≡ true) (sym whole) (closes_there 34 quotation h.inside.units h.inside.each left) in
    (quote, rw (prefix, closed) refl)

-- the characters of a literal's prefix are letters and digits
char_prefix_words : (d : Dialect) (p : List ℕ) → is_char_prefix d p ≡ true → list_all is_word p ≡ true
unfolding is_char_prefix is_letter is_digit
char_prefix_words C11 p h = in_table (list_all is_word) ([] ∷ codes "L" ∷ codes "u" ∷ codes "U" ∷ []) refl p h
char_prefix_words C23 p h = in_table (list_all is_word) ([] ∷ codes "L" ∷ codes "u" ∷ codes "U" ∷ codes "u8" ∷ []) refl p h

string_prefix_words : (p : List ℕ) → is_string_prefix p ≡ true → list_all is_word p ≡ true
unfolding is_string_prefix is_letter is_digit
string_prefix_words p h = in_table (list_all is_word) ([] ∷ codes "L" ∷ codes "u" ∷ codes "U" ∷ codes "u8" ∷ []) refl p h

-- what goes on from a word to a literal is of its prefix or its quote
prefix_goes : (l : List ℕ) (e : ℕ) (more before rest : List ℕ) (q : ℕ) → is_quote q ≡ true → list_all is_wordlike l ≡ true → list_all is_word before ≡ true → l ++ e ∷ more ≡ before ++ q ∷ rest → (is_word e ≡ true) ⊎ (is_quote e ≡ true)
prefix_goes l e more before rest q k a b w = elim (two_cuts l (e ∷ more) before (q ∷ rest) w) [
  | inl same ↦
      let rests = same.rest_is in
      let heads : q ≡ e = cc in
      inr (subst (λ z. is_quote z ≡ true) heads k)
  | inr on ↦ elim on [
    | inl g ↦
        let rests = g.rest_is in
        let heads : g.c ≡ e = cc in
        inl (subst (λ z. is_word z ≡ true) heads (tail_passes is_word l g.c g.more (subst (λ z. list_all is_word z ≡ true) g.front_is b)))
    | inr g ↦
        let rests = g.rest_is in
        let heads : g.c ≡ q = cc in
        absurd (both_ways (is_quote q) (wordlike_not_quote q (subst (λ z. is_wordlike z ≡ true) heads (tail_passes is_wordlike before g.c g.more (subst (λ z. list_all is_wordlike z ≡ true) g.front_is a)))) k)
  ]
]

pub char_goes : (d : Dialect) (l : List ℕ) (e : ℕ) (more : List ℕ) → Spells d (Whole Identifier) l → Spells d (Whole CharConst) (l ++ e ∷ more) → (is_word e ≡ true) ⊎ (is_quote e ≡ true)
char_goes d l e more g h = prefix_goes l e more h.before (h.body ++ 39 ∷ []) 39 apostrophe (identifier_wordlike l g) (char_prefix_words d h.before h.begins) h.whole

pub string_goes : (d : Dialect) (l : List ℕ) (e : ℕ) (more : List ℕ) → Spells d (Whole Identifier) l → Spells d (Whole StringLit) (l ++ e ∷ more) → (is_word e ≡ true) ⊎ (is_quote e ≡ true)
string_goes d l e more g h = prefix_goes l e more h.before (h.body ++ 34 ∷ []) 34 quotation (identifier_wordlike l g) (string_prefix_words h.before h.begins) h.whole
