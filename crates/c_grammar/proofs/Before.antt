-- Items before the left one: nothing goes on from them over the seam.
use Rattle.std.proofs.Common.{◌≡◌, ◌==◌, ◌||◌, ◌&&◌, not, ℕ, Bool, true, false, List, [], ◌∷◌, ◌++◌, refl, sym, ◌∙◌, ap, subst, arith, inl, inr, ◌⊎◌, append_assoc}
use Rattle.std.specs.Prelude.{codes, nat_le, if◌then◌else◌}
use Rattle.std.specs.List.{list_any, list_all}
use Rattle.std.proofs.lemmas.Bool.{and_parts, or_cases, and_from, or_left, eqb-true, cases_Bool, not-true, both_ways}
use Rattle.std.proofs.lemmas.List.{append-nil}
use Rattle.c_grammar.specs.Grammar.{is_same, joined, AreUnits, IsHeaded, is_one, is_two, is_letter, is_digit, is_white, is_new_line, is_sign, is_exponent, is_letter_unit, is_word_unit, is_number_head, is_number_unit, common_punctuators, punctuators, is_punctuator, is_string_prefix, is_separated, IsHeaderName, IsUnclosed, IsBlock, IsOpen, IsLine, is_quoted_unit, has_end, Shape, Whole, Unended, Spells}
use Rattle.c_grammar.specs.Touch.{starts, is_front, is_identifier, is_number, is_punct, is_other_kind, is_literal, takes_line, punct_goes_on}
use Rattle.c_chars.specs.declared.Dialect.{Dialect}
use Rattle.c_chars.specs.declared.Dialect.TheVariants.{C11, C23}
use Rattle.item_kinds.specs.declared.ItemKind.{ItemKind}
use Rattle.item_kinds.specs.declared.ItemKind.TheVariants.{Identifier, Number, CharConst, StringLit, Punct, HeaderName, StrayQuote, Other, BlockComment, LineComment}
use Rattle.c_grammar.proofs.Lists.{all_weaken, GoesOn, two_cuts, all_append, all_weaken, units_all, in_table, of_table, same_is}
use Rattle.c_grammar.proofs.Firsts.{Begins, begins, starts_or_empty, is_quote, is_mark, is_number_start, is_letter_start}
use Rattle.c_grammar.proofs.Words.{high_wordlike, is_wordlike, word_unit_wordlike, identifier_wordlike, wordlike_not_quote, wordlike_not_mark}
use Rattle.c_grammar.proofs.Wide.{is_high}
use Rattle.c_grammar.proofs.Classes.{mark_not_letter_start, other_is_none}
use Rattle.c_grammar.proofs.Sorts.{apart_at, closes, one_kind, sort_is, sort_of, quote_sort, quote_sort_is, slash_sort, mark_sort}
use Rattle.c_grammar.proofs.Singles.{is_word, word_single, letter_single, singles}
use Rattle.c_grammar.proofs.Stops.{units_more}
use Rattle.c_grammar.proofs.Seam.{Touch, item_begin, no_word}
use Rattle.c_grammar.proofs.Closed.{slash_mark, closed_not_word, of_quotes, letter_is_start, closed_stays, block_stays, char_closed, string_closed, IsClosed}
use Rattle.c_grammar.proofs.Goes.{other_long, char_prefix_string, touch_table, separated_wordlike, tail_passes, front_passes, not_number_start}

-- Where a sequence of units is cut: between two, or inside one.

pub record BetweenUnits (p : List ℕ → Bool) (a b : List ℕ) : Type 0 where
  pub left : AreUnits p a
  pub right : AreUnits p b

pub record InsideUnit (p : List ℕ → Bool) (a b : List ℕ) : Type 0 where
  pub done : List ℕ
  pub x : ℕ
  pub first : List ℕ
  pub y : ℕ
  pub second : List ℕ
  pub more : List ℕ
  pub whole : AreUnits p done
  pub unit : p ((x ∷ first) ++ y ∷ second) ≡ true
  pub a_is : a ≡ done ++ x ∷ first
  pub b_is : b ≡ (y ∷ second) ++ more

no_units : (p : List ℕ → Bool) → AreUnits p []
no_units p = record { units = []; each = refl; whole = refl }

onto_units : (p : List ℕ → Bool) (u s : List ℕ) → p u ≡ true → AreUnits p s → AreUnits p (u ++ s)
onto_units p u s h r = record { units = u ∷ r.units; each = and_from (p u) (list_all p r.units) h r.each; whole = ap (λ x. u ++ x) r.whole }

units_split : (p : List ℕ → Bool) (us : List (List ℕ)) → list_all p us ≡ true → (a b : List ℕ) → joined us ≡ a ++ b → BetweenUnits p a b ⊎ InsideUnit p a b
units_split p [] h [] b e = inl (record { left = no_units p; right = record { units = []; each = refl; whole = sym e } })
units_split p [] h (c ∷ a) b e = cc
units_split p (u ∷ us) h a b e =
    let parts = and_parts (p u) (list_all p us) h in
    elim (two_cuts u (joined us) a b e) [
      | inl s ↦ let f = s.front_is in
          inl (record {
            left = record { units = u ∷ []; each = and_from (p u) true parts.0 refl; whole = sym f ∙ sym (append-nil u) };
            right = record { units = us; each = parts.1; whole = sym s.rest_is };
          })
      | inr on ↦ elim on [
        | inl g ↦ elim (units_split p us parts.1 (g.c ∷ g.more) b g.rest_is) [
          | inl bet ↦ inl (record { left = subst (λ z. AreUnits p z) (sym g.front_is) (onto_units p u (g.c ∷ g.more) parts.0 bet.left); right = bet.right })
          | inr ins ↦ inr (record {
            done = u ++ ins.done;
            x = ins.x;
            first = ins.first;
            y = ins.y;
            second = ins.second;
            more = ins.more;
            whole = onto_units p u ins.done parts.0 ins.whole;
            unit = ins.unit;
            a_is = g.front_is ∙ (ap (λ z. u ++ z) ins.a_is ∙ sym (append_assoc u ins.done (ins.x ∷ ins.first)));
            b_is = ins.b_is;
          })
        ]
        | inr g ↦ front_cut a g
      ]
    ]
  where
    front_cut : (a : List ℕ) → GoesOn a b u (joined us) → BetweenUnits p a b ⊎ InsideUnit p a b
    front_cut [] g = inl (record { left = no_units p; right = record { units = u ∷ us; each = h; whole = sym e_nil } })
      where
        e_nil : u ++ joined us ≡ b
        e_nil = ap (λ x. x ++ joined us) g.front_is ∙ sym g.rest_is
    front_cut (x ∷ a) g = inr (record {
      done = [];
      x = x;
      first = a;
      y = g.c;
      second = g.more;
      more = joined us;
      whole = no_units p;
      unit = subst (λ z. p z ≡ true) g.front_is (and_parts (p u) (list_all p us) h).0;
      a_is = refl;
      b_is = g.rest_is;
    })

abbrev pub is_single : List ℕ → Bool
is_single [] = false
is_single (c ∷ []) = true
is_single (c ∷ e ∷ s) = false

-- The seam: A is what stands between the item and the right one, it ends in the left item l, and e is the right item's first character.
pub record IsSeam (d : Dialect) (left right : ItemKind) (l A : List ℕ) (e : ℕ) (r : List ℕ) : Type 0 where
  pub before : List ℕ
  pub ends_in : A ≡ before ++ l
  pub item : ((left ≡ HeaderName) × IsHeaderName l) ⊎ Spells d (Whole left) l
  pub words : list_all is_wordlike l ≡ true → is_wordlike e ≡ true → ⊥
  pub line : takes_line left ≡ false
  pub marks : is_punctuator d l ≡ true → is_single l ≡ true → list_any (is_front (l ++ e ∷ [])) touch_table ≡ true → ⊥

-- nothing goes on from p inside A
abbrev pub IsMost : Dialect → List ℕ → List ℕ → Type 0
IsMost d p A = (k : Shape) (c : ℕ) (more left : List ℕ) → A ≡ (c ∷ more) ++ left → Spells d k (p ++ (c ∷ more)) → ⊥

-- all characters of l stand in words: its kind
begins_word : {p : ℕ → Bool} (l : List ℕ) → Begins p l → list_all is_wordlike l ≡ true → (f : ℕ) × (p f ≡ true) × (is_wordlike f ≡ true)
begins_word l b w = let e = b.whole in (b.c, b.passes, (and_parts (is_wordlike b.c) (list_all is_wordlike b.rest) (subst (λ x. list_all is_wordlike x ≡ true) e w)).0)

header_no_word : (l : List ℕ) → IsHeaderName l → list_all is_wordlike l ≡ true → ⊥
unfolding is_wordlike is_letter is_digit
header_no_word l h w =
    let e = h.whole in
    let f = (and_parts (is_wordlike h.first) (list_all is_wordlike (h.body ++ h.last ∷ [])) (subst (λ x. list_all is_wordlike x ≡ true) e w)).0 in
    elim h.ends [
      | inl a ↦ let g : is_wordlike 60 ≡ true = subst (λ x. is_wordlike x ≡ true) a.0 f in cc
      | inr a ↦ let g : is_wordlike 34 ≡ true = subst (λ x. is_wordlike x ≡ true) a.0 f in cc
    ]

spelled_word : (d : Dialect) (left : ItemKind) (l : List ℕ) → Spells d (Whole left) l → list_all is_wordlike l ≡ true → ((is_identifier left || is_number left) || is_other_kind left) ≡ true
spelled_word d Identifier l h w = refl
spelled_word d Number l h w = refl
spelled_word d CharConst l h w = absurd (closed_not_word l (char_closed d l h) w)
spelled_word d StringLit l h w = absurd (closed_not_word l (string_closed d l h) w)
spelled_word d Punct l h w = let f = begins_word l (begins d (Whole Punct) l h) w in absurd (both_ways (is_mark f.0) (wordlike_not_mark f.0 f.2) f.1)
spelled_word d HeaderName l h w = absurd h
spelled_word d StrayQuote l h w = let f = begins_word l (begins d (Whole StrayQuote) l h) w in absurd (both_ways (is_quote f.0) (wordlike_not_quote f.0 f.2) f.1)
spelled_word d Other l h w = refl
spelled_word d BlockComment l h w = let f = begins_word l (slash_mark l (begins d (Whole BlockComment) l h)) w in absurd (both_ways (is_mark f.0) (wordlike_not_mark f.0 f.2) f.1)
spelled_word d LineComment l h w = let f = begins_word l (slash_mark l (begins d (Whole LineComment) l h)) w in absurd (both_ways (is_mark f.0) (wordlike_not_mark f.0 f.2) f.1)

word_kind : (d : Dialect) (left : ItemKind) (l : List ℕ) → ((left ≡ HeaderName) × IsHeaderName l) ⊎ Spells d (Whole left) l → list_all is_wordlike l ≡ true → ((is_identifier left || is_number left) || is_other_kind left) ≡ true
word_kind d left l (inl h) w = absurd (header_no_word l h.1 w)
word_kind d left l (inr h) w = spelled_word d left l h w

-- where l and e stand in words, they may not touch
word_seam : (d : Dialect) (left right : ItemKind) (l A : List ℕ) (e : ℕ) (r : List ℕ) → IsSeam d left right l A e r → list_all is_wordlike A ≡ true → is_wordlike e ≡ true → ⊥
word_seam d left right l A e r s a w =
    let in_l : list_all is_wordlike l ≡ true = back_passes is_wordlike s.before l (subst (λ x. list_all is_wordlike x ≡ true) s.ends_in a) in
    s.words in_l w
  where
    back_passes : (p : ℕ → Bool) (a b : List ℕ) → list_all p (a ++ b) ≡ true → list_all p b ≡ true
    back_passes p a b h = let both : (list_all p a && list_all p b) ≡ true = rw all_append at h in (and_parts (list_all p a) (list_all p b) both).1

-- l isn't empty
item_there : (d : Dialect) (left : ItemKind) (l : List ℕ) → ((left ≡ HeaderName) × IsHeaderName l) ⊎ Spells d (Whole left) l → (f : ℕ) × (rest : List ℕ) × (l ≡ f ∷ rest)
item_there d left l (inl h) = (h.1.first, h.1.body ++ h.1.last ∷ [], h.1.whole)
item_there d left l (inr h) = let b = begins d (Whole left) l h in (b.c, b.rest, b.whole)

-- where A is one character, l is that
lone : (d : Dialect) (left right : ItemKind) (l A : List ℕ) (e x : ℕ) (r : List ℕ) → IsSeam d left right l A e r → A ≡ x ∷ [] → l ≡ x ∷ []
lone d left right l A e x r s a = go s.before (sym s.ends_in ∙ a)
  where
    there : (f : ℕ) × (rest : List ℕ) × (l ≡ f ∷ rest)
    there = item_there d left l s.item

    go : (b : List ℕ) → b ++ l ≡ x ∷ [] → l ≡ x ∷ []
    go [] w = w
    go (y ∷ b) w =
        let t : b ++ l ≡ [] = cc in
        absurd (empty b t)
      where
        empty : (b : List ℕ) → b ++ l ≡ [] → ⊥
        empty [] t = let q = there.2 in let u : there.0 ∷ there.1 ≡ [] = sym q ∙ t in cc
        empty (z ∷ b) t = cc

-- Numbers

-- what a unit of two characters or more is: word characters, an exponent and its sign, a separator and what it separates
pub unit_cases : (d : Dialect) (u : List ℕ) → is_number_unit d u ≡ true → (list_all is_wordlike u ≡ true) ⊎ ((is_one (λ c. c == 46) u ≡ true) ⊎ ((is_two is_exponent is_sign u ≡ true) ⊎ (is_two (λ c. c == 39) is_wordlike u ≡ true)))
unfolding is_number_unit
unit_cases d u h =
    elim (or_cases (is_word_unit u || is_one (λ c. c == 46) u || is_two is_exponent is_sign u) (is_separated d u) h) [
      | inl e ↦ elim (or_cases (is_word_unit u || is_one (λ c. c == 46) u) (is_two is_exponent is_sign u) e) [
        | inl f ↦ elim (or_cases (is_word_unit u) (is_one (λ c. c == 46) u) f) [
          | inl g ↦ inl (word_unit_wordlike u g)
          | inr g ↦ inr (inl g)
        ]
        | inr f ↦ inr (inr (inl f))
      ]
      | inr e ↦ inr (inr (inr (separated d u e)))
    ]
  where
    separated : (d : Dialect) (u : List ℕ) → is_separated d u ≡ true → is_two (λ c. c == 39) is_wordlike u ≡ true
    separated C11 u h = cc
    separated C23 [] h = cc
    separated C23 (c ∷ []) h = cc
    separated C23 (c ∷ e ∷ []) h = let parts = and_parts (c == 39) (is_digit e || ((nat_le 65 e && nat_le e 90) || (nat_le 97 e && nat_le e 122) || e == 95)) h in and_from (c == 39) (is_wordlike e) parts.0 (separated_wordlike e parts.1)
    separated C23 (c ∷ e ∷ f ∷ u) h = cc

-- two characters, cut between them
pub record TwoCut (p q : ℕ → Bool) (a : List ℕ) (e : ℕ) : Type 0 where
  pub z : ℕ
  pub one : a ≡ z ∷ []
  pub first : p z ≡ true
  pub second : q e ≡ true

two_cut : (p q : ℕ → Bool) (f : ℕ) (rest : List ℕ) (e : ℕ) (s : List ℕ) → is_two p q ((f ∷ rest) ++ e ∷ s) ≡ true → TwoCut p q (f ∷ rest) e
two_cut p q f [] e [] h = let parts = and_parts (p f) (q e) h in record { z = f; one = refl; first = parts.0; second = parts.1 }
two_cut p q f [] e (g ∷ s) h = cc
two_cut p q f (g ∷ []) e s h = cc
two_cut p q f (g ∷ g2 ∷ rest) e s h = cc

not_one : (p : ℕ → Bool) (f : ℕ) (rest : List ℕ) (e : ℕ) (s : List ℕ) → is_one p ((f ∷ rest) ++ e ∷ s) ≡ true → ⊥
not_one p f [] e s h = cc
not_one p f (g ∷ rest) e s h = cc

-- y and A are one character together
pub record OneLeft (y : List ℕ) (x : ℕ) (A : List ℕ) (z : ℕ) : Type 0 where
  pub none : y ≡ []
  pub no_more : A ≡ []
  pub same : x ≡ z

one_left : (y : List ℕ) (x : ℕ) (A : List ℕ) (z : ℕ) → y ++ x ∷ A ≡ z ∷ [] → OneLeft y x A z
one_left [] x A z e = record { none = refl; no_more = cc; same = cc }
one_left (b ∷ []) x A z e = cc
one_left (b ∷ b2 ∷ y) x A z e = cc

joined_there : (y : List ℕ) (x : ℕ) (A : List ℕ) → (f : ℕ) × (rest : List ℕ) × (y ++ x ∷ A ≡ f ∷ rest)
joined_there [] x A = (x, A, refl)
joined_there (b ∷ y) x A = (b, y ++ x ∷ A, refl)

exponent_letter : (c : ℕ) → is_exponent c ≡ true → is_letter c ≡ true
unfolding is_exponent is_letter
exponent_letter c h = of_table is_letter (codes "eEpP") refl c h

number_letter : (d : Dialect) (c : ℕ) → is_letter c ≡ true → is_number_unit d (c ∷ []) ≡ true
unfolding is_number_unit is_word_unit is_letter_unit
number_letter d c h = elim (cases_Bool (is_digit c)) [ inl y ↦ rw y refl | inr n ↦ rw (n, h) refl ]

longer_number : (d : Dialect) (number u : List ℕ) → IsHeaded is_number_head (is_number_unit d) number → is_number_unit d u ≡ true → IsHeaded is_number_head (is_number_unit d) (number ++ u)
longer_number d number u n h = record {
  head = n.head;
  tail = n.tail ++ u;
  begins = n.begins;
  goes_on = units_more (is_number_unit d) n.tail u n.goes_on h;
  whole = ap (λ x. x ++ u) n.whole ∙ append_assoc n.head n.tail u;
}

-- a lone apostrophe takes its line
apostrophe_takes : (d : Dialect) (left : ItemKind) (l : List ℕ) → ((left ≡ HeaderName) × IsHeaderName l) ⊎ Spells d (Whole left) l → l ≡ 39 ∷ [] → takes_line left ≡ true
apostrophe_takes d left l (inl h) e =
    let w = h.1.whole in
    let all : h.1.first ∷ (h.1.body ++ h.1.last ∷ []) ≡ 39 ∷ [] = sym w ∙ e in
    let f : h.1.first ≡ 39 = cc in
    elim h.1.ends [
      | inl a ↦ let g : 60 ≡ 39 = sym a.0 ∙ f in absurd (omega (arith, g))
      | inr a ↦ let g : 34 ≡ 39 = sym a.0 ∙ f in absurd (omega (arith, g))
    ]
apostrophe_takes d left l (inr h) e =
    let stray : Spells d (Whole StrayQuote) (39 ∷ []) = inl (record { quote = 39; body = []; last = []; is_quote = refl; inside = no_units (is_quoted_unit 39); ends = refl; whole = refl }) in
    let same : Whole left ≡ Whole StrayQuote = one_kind d (Whole left) (Whole StrayQuote) (39 ∷ []) (subst (λ x. Spells d (Whole left) x) e h) stray in
    let kinds : left ≡ StrayQuote = cc in
    subst (λ k. takes_line k ≡ true) (sym kinds) refl

-- A is the end of a front of one unit
in_unit : (d : Dialect) (left right : ItemKind) (l : List ℕ) (x : ℕ) (A : List ℕ) (e : ℕ) (r : List ℕ) → IsSeam d left right l (x ∷ A) e r → (p number : List ℕ) → IsHeaded is_number_head (is_number_unit d) number → IsMost d p (x ∷ A) →
    (y second : List ℕ) → is_number_unit d ((y ++ x ∷ A) ++ e ∷ second) ≡ true → p ≡ number ++ y → ⊥
in_unit d left right l x A e r s p number n most y second u w = elim (unit_cases d ((y ++ x ∷ A) ++ e ∷ second) u) [
  | inl h ↦ word_seam d left right l (x ∷ A) e r s (back_all y (x ∷ A) (front_passes is_wordlike (y ++ x ∷ A) (e ∷ second) h)) (tail_passes is_wordlike (y ++ x ∷ A) e second h)
  | inr h1 ↦ elim h1 [
    | inl h ↦ not_one (λ c. c == 46) there.0 there.1 e second (subst (λ z. is_one (λ c. c == 46) (z ++ e ∷ second) ≡ true) there.2 h)
    | inr h2 ↦ elim h2 [
      | inl h ↦
          let t = two_cut is_exponent is_sign there.0 there.1 e second (subst (λ z. is_two is_exponent is_sign (z ++ e ∷ second) ≡ true) there.2 h) in
          let o = one_left y x A t.z (there.2 ∙ t.one) in
          let p_is : p ≡ number = w ∙ (ap (λ z. number ++ z) o.none ∙ append-nil number) in
          let exponent : is_exponent x ≡ true = subst (λ z. is_exponent z ≡ true) (sym o.same) t.first in
          let longer = longer_number d number (x ∷ []) n (number_letter d x (exponent_letter x exponent)) in
          most (Whole Number) x [] A refl (subst (λ z. IsHeaded is_number_head (is_number_unit d) (z ++ x ∷ [])) (sym p_is) longer)
      | inr h ↦
          let t = two_cut (λ c. c == 39) is_wordlike there.0 there.1 e second (subst (λ z. is_two (λ c. c == 39) is_wordlike (z ++ e ∷ second) ≡ true) there.2 h) in
          let o = one_left y x A t.z (there.2 ∙ t.one) in
          let x_is : x ≡ 39 = o.same ∙ eqb-true t.z 39 t.first in
          let a_is : x ∷ A ≡ 39 ∷ [] = let n2 = o.no_more in cc in
          both_ways (takes_line left) s.line (apostrophe_takes d left l s.item (lone d left right l (x ∷ A) e 39 r s a_is))
    ]
  ]
]
  where
    there : (f : ℕ) × (rest : List ℕ) × (y ++ x ∷ A ≡ f ∷ rest)
    there = joined_there y x A

    back_all : (a b : List ℕ) → list_all is_wordlike (a ++ b) ≡ true → list_all is_wordlike b ≡ true
    back_all a b h = let both : (list_all is_wordlike a && list_all is_wordlike b) ≡ true = rw all_append at h in (and_parts (list_all is_wordlike a) (list_all is_wordlike b) both).1

head_short : (f g : ℕ) (s : List ℕ) (c : ℕ) (rest : List ℕ) → is_number_head ((f ∷ g ∷ s) ++ c ∷ rest) ≡ true → ⊥
unfolding is_number_head
head_short f g [] c rest h = cc
head_short f g (k ∷ s) c rest h = cc

number_before : (d : Dialect) (left right : ItemKind) (l : List ℕ) (x : ℕ) (A : List ℕ) (e : ℕ) (r : List ℕ) → IsSeam d left right l (x ∷ A) e r → (f : ℕ) (p more : List ℕ) → IsMost d (f ∷ p) (x ∷ A) →
    IsHeaded is_number_head (is_number_unit d) (((f ∷ p) ++ x ∷ A) ++ e ∷ more) → ⊥
number_before d left right l x A e r s f p more most h = elim (two_cuts h.head h.tail ((f ∷ p) ++ x ∷ A) (e ∷ more) (sym h.whole)) [
  | inl c ↦ whole_number h.head [] (no_units (is_number_unit d)) (sym c.front_is ∙ sym (append-nil h.head)) h.begins
  | inr on ↦ elim on [
    | inl g ↦ elim (units_split (is_number_unit d) h.goes_on.units h.goes_on.each (g.c ∷ g.more) (e ∷ more) (sym h.goes_on.whole ∙ g.rest_is)) [
      | inl bet ↦ whole_number h.head (g.c ∷ g.more) bet.left g.front_is h.begins
      | inr ins ↦
          let number : IsHeaded is_number_head (is_number_unit d) (h.head ++ ins.done) = record { head = h.head; tail = ins.done; begins = h.begins; goes_on = ins.whole; whole = refl } in
          let cut : (f ∷ p) ++ x ∷ A ≡ (h.head ++ ins.done) ++ ins.x ∷ ins.first = g.front_is ∙ (ap (λ z. h.head ++ z) ins.a_is ∙ sym (append_assoc h.head ins.done (ins.x ∷ ins.first))) in
          let heads : e ≡ ins.y = let b = ins.b_is in cc in
          let unit : is_number_unit d ((ins.x ∷ ins.first) ++ e ∷ ins.second) ≡ true = subst (λ z. is_number_unit d ((ins.x ∷ ins.first) ++ z ∷ ins.second) ≡ true) (sym heads) ins.unit in
          elim (two_cuts (f ∷ p) (x ∷ A) (h.head ++ ins.done) (ins.x ∷ ins.first) cut) [
            | inl same ↦ in_unit d left right l x A e r s (f ∷ p) (h.head ++ ins.done) number most [] ins.second (subst (λ z. is_number_unit d (z ++ e ∷ ins.second) ≡ true) (sym same.rest_is) unit) (same.front_is ∙ sym (append-nil (h.head ++ ins.done)))
            | inr on2 ↦ elim on2 [
              | inl g2 ↦ most (Whole Number) g2.c g2.more (ins.x ∷ ins.first) g2.rest_is (subst (λ z. IsHeaded is_number_head (is_number_unit d) z) g2.front_is number)
              | inr g2 ↦ in_unit d left right l x A e r s (f ∷ p) (h.head ++ ins.done) number most (g2.c ∷ g2.more) ins.second (subst (λ z. is_number_unit d (z ++ e ∷ ins.second) ≡ true) g2.rest_is unit) g2.front_is
            ]
          ]
    ]
    | inr g ↦ short_head h.head g.c g.more g.front_is h.begins
  ]
]
  where
    whole_number : (head tail : List ℕ) → AreUnits (is_number_unit d) tail → (f ∷ p) ++ x ∷ A ≡ head ++ tail → is_number_head head ≡ true → ⊥
    whole_number head tail u w b = most (Whole Number) x A [] (sym (append-nil (x ∷ A))) (record { head = head; tail = tail; begins = b; goes_on = u; whole = w })

    short_head : (head : List ℕ) (c : ℕ) (rest : List ℕ) → head ≡ ((f ∷ p) ++ x ∷ A) ++ c ∷ rest → is_number_head head ≡ true → ⊥
    short_head head c rest w b = let there = joined_there p x A in head_short f there.0 there.1 c rest (subst (λ z. is_number_head z ≡ true) (w ∙ ap (λ z. (f ∷ z) ++ c ∷ rest) there.2) b)

-- Punctuators: where one goes on from a front of it, a character more is one; or two are left, and they may not touch

abbrev one_or_apart : Dialect → List ℕ → ℕ → List ℕ → Bool
one_or_apart d front c [] = true
one_or_apart d front c (z ∷ s) = is_punctuator d (front ++ c ∷ []) || (is_same s [] && (is_punctuator d (c ∷ []) && list_any (is_front (c ∷ z ∷ [])) touch_table))

abbrev splits_ok : Dialect → List ℕ → List ℕ → Bool
splits_ok d front [] = true
splits_ok d front (c ∷ s) = one_or_apart d front c s && splits_ok d (front ++ c ∷ []) s

abbrev each_split_ok : Dialect → List ℕ → Bool
each_split_ok d [] = true
each_split_ok d (f ∷ s) = splits_ok d (f ∷ []) s

splits_at : (d : Dialect) (front p : List ℕ) (c : ℕ) (s : List ℕ) → splits_ok d front (p ++ c ∷ s) ≡ true → one_or_apart d (front ++ p) c s ≡ true
splits_at d front [] c s h = subst (λ z. one_or_apart d z c s ≡ true) (sym (append-nil front)) (and_parts (one_or_apart d front c s) (splits_ok d (front ++ c ∷ []) s) h).0
splits_at d front (b ∷ p) c s h =
    let r = splits_at d (front ++ b ∷ []) p c s (and_parts (one_or_apart d front b (p ++ c ∷ s)) (splits_ok d (front ++ b ∷ []) (p ++ c ∷ s)) h).1 in
    subst (λ z. one_or_apart d z c s ≡ true) (append_assoc front (b ∷ []) p) r

punct_splits : (d : Dialect) (q : List ℕ) → is_punctuator d q ≡ true → each_split_ok d q ≡ true
unfolding is_punctuator punctuators
punct_splits C11 q h = in_table (each_split_ok C11) common_punctuators refl q h
punct_splits C23 q h = in_table (each_split_ok C23) (codes "::" ∷ common_punctuators) refl q h

-- a lone punctuator's kind
punct_kind : (d : Dialect) (left : ItemKind) (l : List ℕ) → ((left ≡ HeaderName) × IsHeaderName l) ⊎ Spells d (Whole left) l → is_punctuator d l ≡ true → is_single l ≡ true → is_punct left ≡ true
punct_kind d left l (inl h) p o = absurd (header_long l h.1 o)
  where
    header_long : (l : List ℕ) → IsHeaderName l → is_single l ≡ true → ⊥
    header_long l h o = let w = h.whole in let there = joined_there h.body h.last [] in
        let g : is_single (h.first ∷ there.0 ∷ there.1) ≡ true = subst (λ z. is_single z ≡ true) (w ∙ ap (λ z. h.first ∷ z) there.2) o in cc
punct_kind d left l (inr h) p o =
    let same : Whole left ≡ Whole Punct = one_kind d (Whole left) (Whole Punct) l h p in
    let kinds : left ≡ Punct = cc in
    subst (λ k. is_punct k ≡ true) (sym kinds) refl

punct_before : (d : Dialect) (left right : ItemKind) (l : List ℕ) (x : ℕ) (A : List ℕ) (e : ℕ) (r : List ℕ) → IsSeam d left right l (x ∷ A) e r → (f : ℕ) (p more : List ℕ) → IsMost d (f ∷ p) (x ∷ A) →
    is_punctuator d (((f ∷ p) ++ x ∷ A) ++ e ∷ more) ≡ true → ⊥
punct_before d left right l x A e r s f p more most h =
    let there = joined_there A e more in
    let regrouped : ((f ∷ p) ++ x ∷ A) ++ e ∷ more ≡ f ∷ (p ++ x ∷ (there.0 ∷ there.1)) = append_assoc (f ∷ p) (x ∷ A) (e ∷ more) ∙ ap (λ z. (f ∷ p) ++ x ∷ z) there.2 in
    let split : splits_ok d (f ∷ []) (p ++ x ∷ (there.0 ∷ there.1)) ≡ true = punct_splits d (f ∷ (p ++ x ∷ (there.0 ∷ there.1))) (subst (λ z. is_punctuator d z ≡ true) regrouped h) in
    let ok : one_or_apart d (f ∷ p) x (there.0 ∷ there.1) ≡ true = splits_at d (f ∷ []) p x (there.0 ∷ there.1) split in
    elim (or_cases (is_punctuator d ((f ∷ p) ++ x ∷ [])) (is_same there.1 [] && (is_punctuator d (x ∷ []) && list_any (is_front (x ∷ there.0 ∷ [])) touch_table)) ok) [
      | inl g ↦ most (Whole Punct) x [] A refl g
      | inr g ↦
          let a = and_parts (is_same there.1 []) (is_punctuator d (x ∷ []) && list_any (is_front (x ∷ there.0 ∷ [])) touch_table) g in
          let b = and_parts (is_punctuator d (x ∷ [])) (list_any (is_front (x ∷ there.0 ∷ [])) touch_table) a.1 in
          let o = one_left A e more there.0 (there.2 ∙ ap (λ z. there.0 ∷ z) (same_is there.1 [] a.0)) in
          let a_is : x ∷ A ≡ x ∷ [] = let n = o.none in cc in
          let l_is = lone d left right l (x ∷ A) e x r s a_is in
          let single : is_single l ≡ true = subst (λ z. is_single z ≡ true) (sym l_is) refl in
          let punct : is_punctuator d l ≡ true = subst (λ z. is_punctuator d z ≡ true) (sym l_is) b.0 in
          let front : list_any (is_front (l ++ e ∷ [])) touch_table ≡ true = subst (λ z. list_any (is_front (l ++ z ∷ [])) touch_table ≡ true) (sym o.same) (subst (λ z. list_any (is_front (z ++ there.0 ∷ [])) touch_table ≡ true) (sym l_is) b.1) in
          s.marks punct single front
    ]

-- Literals

-- no new-line stands in a literal

unfoldable pub not_line : ℕ → Bool
not_line c = not (is_new_line c)

pub word_line : (c : ℕ) → is_wordlike c ≡ true → not_line c ≡ true
unfolding not_line is_new_line is_wordlike is_letter is_digit
word_line c h = let e = apart_at is_wordlike c 10 h refl in rw e refl

pub quote_line : (c : ℕ) → is_quote c ≡ true → not_line c ≡ true
unfolding not_line is_new_line is_quote
quote_line c h = let e = apart_at is_quote c 10 h refl in rw e refl

unit_line : (q : ℕ) (u : List ℕ) → is_quoted_unit q u ≡ true → list_all not_line u ≡ true
unfolding is_quoted_unit not_line is_new_line
unit_line q [] h = refl
unit_line q (c ∷ []) h = elim (or_cases (not (c == q) && not (c == 92) && not (is_new_line c)) false h) [
  | inl e ↦ and_from (not (c == 10)) true (and_parts (not (c == q) && not (c == 92)) (not (is_new_line c)) e).1 refl
  | inr e ↦ cc
]
unit_line q (c ∷ e ∷ []) h =
    let parts = and_parts (c == 92) (not (is_new_line e)) h in
    let is : c ≡ 92 = eqb-true c 92 parts.0 in
    let first : not (c == 10) ≡ true = rw is refl in
    and_from (not (c == 10)) (not (e == 10) && true) first (and_from (not (e == 10)) true parts.1 refl)
unit_line q (c ∷ e ∷ f ∷ s) h = cc

append_line : (a b : List ℕ) → list_all not_line a ≡ true → list_all not_line b ≡ true → list_all not_line (a ++ b) ≡ true
append_line a b h g = rw all_append (and_from (list_all not_line a) (list_all not_line b) h g)

pub closed_line : (q : List ℕ) → IsClosed q → list_all not_line q ≡ true
closed_line q h =
    let body = units_all (is_quoted_unit h.quote) not_line (unit_line h.quote) h.body h.inside in
    let quote = quote_line h.quote h.is_quote_ in
    let end_ : list_all not_line (h.quote ∷ []) ≡ true = and_from (not_line h.quote) true quote refl in
    let all = append_line h.before (h.quote ∷ (h.body ++ h.quote ∷ [])) (all_weaken is_wordlike not_line word_line h.before h.wordlike)
    (and_from (not_line h.quote) (list_all not_line (h.body ++ h.quote ∷ [])) quote (append_line h.body (h.quote ∷ []) body end_)) in
    subst (λ z. list_all not_line z ≡ true) (sym h.whole) all

unclosed_line : (q : List ℕ) → IsUnclosed q → list_all not_line q ≡ true
unfolding not_line is_new_line
unclosed_line q h =
    let body = units_all (is_quoted_unit h.quote) not_line (unit_line h.quote) h.body h.inside in
    let quote = quote_line h.quote (of_quotes h.quote h.is_quote) in
    let last : list_all not_line h.last ≡ true = elim (or_cases (is_same h.last []) (is_same h.last (92 ∷ [])) h.ends) [
      | inl e ↦ subst (λ z. list_all not_line z ≡ true) (sym (same_is h.last [] e)) refl
      | inr e ↦ subst (λ z. list_all not_line z ≡ true) (sym (same_is h.last (92 ∷ []) e)) refl
    ] in
    subst (λ z. list_all not_line z ≡ true) (sym h.whole) (and_from (not_line h.quote) (list_all not_line (h.body ++ h.last)) quote (append_line h.body h.last body last))

pub stray_line : (d : Dialect) (q : List ℕ) → Spells d (Whole StrayQuote) q → list_all not_line q ≡ true
unfolding not_line is_new_line
stray_line d q (inl h) = unclosed_line q h
stray_line d q (inr h) = subst (λ z. list_all not_line z ≡ true) (sym h.whole) (and_from _ _ refl (and_from _ _ refl h.in_line))

pub comment_line : (q : List ℕ) → IsLine q → list_all not_line q ≡ true
unfolding not_line is_new_line
comment_line q h = subst (λ z. list_all not_line z ≡ true) (sym h.whole) (and_from _ _ refl (and_from _ _ refl h.in_line))

-- a new-line in the middle
pub line_not : (c : ℕ) → is_new_line c ≡ true → not_line c ≡ true → ⊥
unfolding not_line
line_not c h n = both_ways (is_new_line c) (not-true (is_new_line c) n) h

no_line_inside : (p A rest : List ℕ) → list_any is_new_line A ≡ true → list_all not_line ((p ++ A) ++ rest) ≡ true → ⊥
no_line_inside p A rest n h =
    let front = front_passes not_line (p ++ A) rest h in
    let both : (list_all not_line p && list_all not_line A) ≡ true = rw all_append at front in
    none A n (and_parts (list_all not_line p) (list_all not_line A) both).1
  where
    none : (A : List ℕ) → list_any is_new_line A ≡ true → list_all not_line A ≡ true → ⊥
    none [] n h = cc
    none (c ∷ A) n h =
        let parts = and_parts (not_line c) (list_all not_line A) h in
        elim (or_cases (is_new_line c) (list_any is_new_line A) n) [ inl e ↦ line_not c e parts.0 | inr e ↦ none A e parts.1 ]

-- Kinds by the first characters

abbrev is_quote_shape : Shape → Bool
is_quote_shape (Whole k) = is_literal k || takes_line k
is_quote_shape Unended = false

cond_shape : (b : Bool) (x y : Shape) → is_quote_shape x ≡ true → is_quote_shape y ≡ true → is_quote_shape (if b then x else y) ≡ true
cond_shape true x y h g = h
cond_shape false x y h g = g

quote_sort_in : (c : ℕ) (t : List ℕ) → is_quote_shape (quote_sort c t) ≡ true
quote_sort_in c t =
    cond_shape (c == 39) (if starts (λ e. e == 39) t then Whole StrayQuote else (if closes 39 t then Whole CharConst else Whole StrayQuote)) (if closes 34 t then Whole StringLit else Whole StrayQuote)
    (cond_shape (starts (λ e. e == 39) t) (Whole StrayQuote) (if closes 39 t then Whole CharConst else Whole StrayQuote) refl (cond_shape (closes 39 t) (Whole CharConst) (Whole StrayQuote) refl refl))
    (cond_shape (closes 34 t) (Whole StringLit) (Whole StrayQuote) refl refl)

pub quote_kind : (d : Dialect) (j : ItemKind) (p : List ℕ) (q : ℕ) (t : List ℕ) → p ≡ q ∷ t → is_quote q ≡ true → Spells d (Whole j) p → (is_literal j || takes_line j) ≡ true
quote_kind d j p q t w k h =
    let same : Whole j ≡ quote_sort q t = sym (sort_is d (Whole j) p h) ∙ (ap sort_of w ∙ quote_sort_is q t k) in
    subst (λ z. is_quote_shape z ≡ true) (sym same) (quote_sort_in q t)

-- What is known of the item p before A: it begins no closed literal and no block comment, and what takes its line has a new-line behind it.
pub record IsItemBefore (d : Dialect) (j : ItemKind) (p A : List ℕ) : Type 0 where
  pub spelled : Spells d (Whole j) p
  pub line : takes_line j ≡ true → list_any is_new_line A ≡ true
  pub most : IsMost d p A

literal_ends : (d : Dialect) (j : ItemKind) (k : Shape) (p : List ℕ) (c : ℕ) (more : List ℕ) → is_literal j ≡ true → Spells d (Whole j) p → Spells d k (p ++ c ∷ more) → ⊥
literal_ends d CharConst k p c more i h g = closed_stays d k p c more (char_closed d p h) g
literal_ends d StringLit k p c more i h g = closed_stays d k p c more (string_closed d p h) g
literal_ends d Identifier k p c more i h g = cc
literal_ends d Number k p c more i h g = cc
literal_ends d Punct k p c more i h g = cc
literal_ends d HeaderName k p c more i h g = cc
literal_ends d StrayQuote k p c more i h g = cc
literal_ends d Other k p c more i h g = cc
literal_ends d BlockComment k p c more i h g = cc
literal_ends d LineComment k p c more i h g = cc

-- p begins with a quote, and what goes on from it has no new-line
quote_before : (d : Dialect) (j : ItemKind) (p A : List ℕ) (x e : ℕ) (more : List ℕ) (k : Shape) (q : ℕ) (t : List ℕ) → IsItemBefore d j p (x ∷ A) → p ≡ q ∷ t → is_quote q ≡ true →
    Spells d k ((p ++ x ∷ A) ++ e ∷ more) → list_all not_line ((p ++ x ∷ A) ++ e ∷ more) ≡ true → ⊥
quote_before d j p A x e more k q t b w i h n = elim (or_cases (is_literal j) (takes_line j) (quote_kind d j p q t w i b.spelled)) [
  | inl l ↦ literal_ends d j k p x (A ++ e ∷ more) l b.spelled (subst (λ z. Spells d k z) (append_assoc p (x ∷ A) (e ∷ more)) h)
  | inr l ↦ no_line_inside p (x ∷ A) (e ∷ more) (b.line l) n
]

stray_begins : (d : Dialect) (q : List ℕ) → Spells d (Whole StrayQuote) q → Begins is_quote q
stray_begins d q h = begins d (Whole StrayQuote) q h

-- the first character of p and of what goes on from it
first_of_p : {test : ℕ → Bool} (f : ℕ) (p rest : List ℕ) → Begins test ((f ∷ p) ++ rest) → test f ≡ true
first_of_p {test = test} f p rest b = let w = b.whole in let heads : b.c ≡ f = cc in subst (λ z. test z ≡ true) heads b.passes

stray_before : (d : Dialect) (j : ItemKind) (f : ℕ) (p A : List ℕ) (x e : ℕ) (more : List ℕ) → IsItemBefore d j (f ∷ p) (x ∷ A) → Spells d (Whole StrayQuote) (((f ∷ p) ++ x ∷ A) ++ e ∷ more) → ⊥
stray_before d j f p A x e more b h =
    let first : is_quote f ≡ true = first_of_p f p (x ∷ (A ++ e ∷ more)) (subst (λ z. Begins is_quote z) (append_assoc (f ∷ p) (x ∷ A) (e ∷ more)) (stray_begins d (((f ∷ p) ++ x ∷ A) ++ e ∷ more) h)) in
    quote_before d j (f ∷ p) A x e more (Whole StrayQuote) f p b refl first h (stray_line d (((f ∷ p) ++ x ∷ A) ++ e ∷ more) h)

-- Comments

slash_line : (j : ItemKind) (t : List ℕ) → Whole j ≡ mark_sort 47 (47 ∷ t) → j ≡ LineComment
unfolding is_digit
slash_line j t e = let f : Whole j ≡ Whole LineComment = e in cc

slash_block : (j : ItemKind) (t : List ℕ) → Whole j ≡ mark_sort 47 (42 ∷ t) → j ≡ BlockComment
unfolding is_digit
slash_block j t e = let f : Whole j ≡ (if has_end t then Whole BlockComment else Unended) = e in elim (cases_Bool (has_end t)) [
  | inl y ↦ let g : Whole j ≡ Whole BlockComment = f ∙ rw y refl in cc
  | inr n ↦ let g : Whole j ≡ Unended = f ∙ rw n refl in cc
]

pub slash_item : (d : Dialect) (j : ItemKind) (g : ℕ) (t : List ℕ) → Spells d (Whole j) (47 ∷ g ∷ t) → (g ≡ 47 → takes_line j ≡ true) × (g ≡ 42 → j ≡ BlockComment)
slash_item d j g t h = (line_case, block_case)
  where
    line_case : g ≡ 47 → takes_line j ≡ true
    line_case i =
        let same : Whole j ≡ mark_sort 47 (47 ∷ t) = sym (sort_is d (Whole j) (47 ∷ g ∷ t) h) ∙ (ap (λ z. sort_of (47 ∷ z ∷ t)) i ∙ slash_sort (47 ∷ t)) in
        let kinds : j ≡ LineComment = line_sorted same in
        subst (λ k. takes_line k ≡ true) (sym kinds) refl
      where
        line_sorted : Whole j ≡ mark_sort 47 (47 ∷ t) → j ≡ LineComment
        line_sorted e = slash_line j t e

    block_case : g ≡ 42 → j ≡ BlockComment
    block_case i = slash_block j t (sym (sort_is d (Whole j) (47 ∷ g ∷ t) h) ∙ (ap (λ z. sort_of (47 ∷ z ∷ t)) i ∙ slash_sort (42 ∷ t)))

pub open_two : IsOpen (47 ∷ 42 ∷ [])
open_two = record { body = []; no_end = refl; whole = refl }

line_two : IsLine (47 ∷ 47 ∷ [])
unfolding is_white
line_two = record { body = []; in_line = refl; trimmed = record { front = []; white = []; each_white = refl; last = 47 ∷ []; ends = refl; whole = refl }; whole = refl }

-- what goes on begins a comment
comment_before : (d : Dialect) (j : ItemKind) (f : ℕ) (p A : List ℕ) (x e : ℕ) (more : List ℕ) (k : Shape) (g : ℕ) (t : List ℕ) → IsItemBefore d j (f ∷ p) (x ∷ A) → Spells d k (((f ∷ p) ++ x ∷ A) ++ e ∷ more) →
    ((f ∷ p) ++ x ∷ A) ++ e ∷ more ≡ 47 ∷ g ∷ t → ((g ≡ 42) ⊎ ((g ≡ 47) × (list_all not_line (((f ∷ p) ++ x ∷ A) ++ e ∷ more) ≡ true))) → ⊥
comment_before d j f [] A x e more k g t b h w o =
    let f_is : f ≡ 47 = cc in
    let x_is : x ≡ g = cc in
    elim o [
      | inl i ↦ b.most Unended x [] A refl (subst (λ z. IsOpen z) (two f x 47 42 f_is (x_is ∙ i)) open_two)
      | inr i ↦ b.most (Whole LineComment) x [] A refl (subst (λ z. IsLine z) (two f x 47 47 f_is (x_is ∙ i.0)) line_two)
    ]
  where
    two : (f x a c : ℕ) → f ≡ a → x ≡ c → a ∷ c ∷ [] ≡ f ∷ x ∷ []
    two f x a c h i = cc
comment_before d j f (f2 ∷ p) A x e more k g t b h w o =
    let f_is : f ≡ 47 = cc in
    let g_is : f2 ≡ g = cc in
    let item = slash_item d j f2 p (subst (λ z. Spells d (Whole j) (z ∷ f2 ∷ p)) f_is b.spelled) in
    elim o [
      | inl i ↦
          let kind : j ≡ BlockComment = item.1 (g_is ∙ i) in
          let block : IsBlock (f ∷ f2 ∷ p) = subst (λ z. Spells d (Whole z) (f ∷ f2 ∷ p)) kind b.spelled in
          block_stays d k (f ∷ f2 ∷ p) x (A ++ e ∷ more) block (subst (λ z. Spells d k z) (append_assoc (f ∷ f2 ∷ p) (x ∷ A) (e ∷ more)) h)
      | inr i ↦ no_line_inside (f ∷ f2 ∷ p) (x ∷ A) (e ∷ more) (b.line (item.0 (g_is ∙ i.0))) i.1
    ]

-- Literals that go on from p

-- an unprefixed literal that begins A
pub record LiteralFirst (x : ℕ) (A : List ℕ) : Type 0 where
  pub body : List ℕ
  pub left : List ℕ
  pub inside : AreUnits (is_quoted_unit x) body
  pub apart : x ≡ 39 → not (is_same body []) ≡ true
  pub whole : x ∷ A ≡ (x ∷ (body ++ x ∷ [])) ++ left

-- where a quote stands behind a prefix, the next item is a literal, or takes its line
abbrev pub QuoteFirst : ItemKind → List ℕ → ℕ → List ℕ → Type 0
QuoteFirst left p x A = is_quote x ≡ true → is_string_prefix p ≡ true → LiteralFirst x A ⊎ ((list_any is_new_line (x ∷ A) ≡ true) ⊎ (takes_line left ≡ true))

-- the letters of a prefix
abbrev pub letter_and_words : List ℕ → Bool
letter_and_words [] = true
letter_and_words (c ∷ s) = is_letter c && list_all is_word s

pub prefix_words : (p : List ℕ) → is_string_prefix p ≡ true → letter_and_words p ≡ true
unfolding is_string_prefix is_letter is_digit
prefix_words p h = in_table letter_and_words ([] ∷ codes "L" ∷ codes "u" ∷ codes "U" ∷ codes "u8" ∷ []) refl p h

-- a front of a prefix and its next character are an identifier
pub prefix_front : (d : Dialect) (f : ℕ) (p : List ℕ) (c : ℕ) (more : List ℕ) → is_string_prefix ((f ∷ p) ++ c ∷ more) ≡ true → Spells d (Whole Identifier) ((f ∷ p) ++ c ∷ [])
prefix_front d f p c more h =
    let parts = and_parts (is_letter f) (list_all is_word (p ++ c ∷ more)) (prefix_words ((f ∷ p) ++ c ∷ more) h) in
    let both : (list_all is_word p && list_all is_word (c ∷ more)) ≡ true = rw all_append at parts.1 in
    let halves = and_parts (list_all is_word p) (list_all is_word (c ∷ more)) both in
    let word_c = (and_parts (is_word c) (list_all is_word more) halves.1).0 in
    let end_ : list_all is_word (c ∷ []) ≡ true = and_from (is_word c) true word_c refl in
    let all : list_all is_word (p ++ c ∷ []) ≡ true = rw all_append (and_from (list_all is_word p) (list_all is_word (c ∷ [])) halves.0 end_) in
    record { head = f ∷ []; tail = p ++ c ∷ []; begins = letter_single f parts.0; goes_on = singles is_word is_word_unit word_single (p ++ c ∷ []) all; whole = refl }

-- p holds the opening quote: its kind
holds_quote : (d : Dialect) (j : ItemKind) (k : Shape) (p before : List ℕ) (q : ℕ) (more : List ℕ) (x : ℕ) (rest : List ℕ) → p ≡ before ++ q ∷ more → is_quote q ≡ true → starts_or_empty is_letter before ≡ true →
    Spells d (Whole j) p → Spells d k (p ++ x ∷ rest) → (takes_line j ≡ true → ⊥) → ⊥
holds_quote d j k p [] q more x rest w i n h g never = elim (or_cases (is_literal j) (takes_line j) (quote_kind d j p q more w i h)) [
  | inl l ↦ literal_ends d j k p x rest l h g
  | inr l ↦ never l
]
holds_quote d j k p (a ∷ before) q more x rest w i n h g never = by_kind j h never
  where
    first : {test : ℕ → Bool} → Begins test p → test a ≡ true
    first {test = test} b = let bw = b.whole in let heads : b.c ≡ a = let e : b.c ∷ b.rest ≡ a ∷ (before ++ q ∷ more) = sym bw ∙ w in cc in subst (λ z. test z ≡ true) heads b.passes

    start : is_letter_start a ≡ true
    start = letter_is_start a n

    by_kind : (j : ItemKind) → Spells d (Whole j) p → (takes_line j ≡ true → ⊥) → ⊥
    by_kind Identifier h never =
        let all : list_all is_wordlike ((a ∷ before) ++ q ∷ more) ≡ true = subst (λ z. list_all is_wordlike z ≡ true) w (identifier_wordlike p h) in
        both_ways (is_quote q) (wordlike_not_quote q (tail_passes is_wordlike (a ∷ before) q more all)) i
    by_kind Number h never = both_ways (is_number_start a) (not_number_start a n) (first (begins d (Whole Number) p h))
    by_kind CharConst h never = closed_stays d k p x rest (char_closed d p h) g
    by_kind StringLit h never = closed_stays d k p x rest (string_closed d p h) g
    by_kind Punct h never = both_ways (is_letter_start a) (mark_not_letter_start a (first (begins d (Whole Punct) p h))) start
    by_kind HeaderName h never = h
    by_kind StrayQuote h never = never refl
    by_kind Other h never = both_ways (is_letter a) (other_is_none d a (first (begins d (Whole Other) p h))).letter n
    by_kind BlockComment h never = block_stays d k p x rest h g
    by_kind LineComment h never = never refl

literal_before : (d : Dialect) (left right : ItemKind) (l : List ℕ) (x : ℕ) (A : List ℕ) (e : ℕ) (r : List ℕ) → IsSeam d left right l (x ∷ A) e r → (j : ItemKind) (f : ℕ) (p more : List ℕ) → IsItemBefore d j (f ∷ p) (x ∷ A) → QuoteFirst left (f ∷ p) x A →
    (k : Shape) → Spells d k (((f ∷ p) ++ x ∷ A) ++ e ∷ more) → (h : IsClosed (((f ∷ p) ++ x ∷ A) ++ e ∷ more)) → is_string_prefix h.before ≡ true →
    ((body : List ℕ) → AreUnits (is_quoted_unit h.quote) body → (h.quote ≡ 39 → not (is_same body []) ≡ true) → (m : Shape) × Spells d m (h.before ++ h.quote ∷ (body ++ h.quote ∷ []))) → ⊥
literal_before d left right l x A e r s j f p more b qf k g h prefix again =
    elim (two_cuts (f ∷ p) (x ∷ (A ++ e ∷ more)) h.before (h.quote ∷ (h.body ++ h.quote ∷ [])) (sym regrouped ∙ h.whole)) [
      | inl c ↦
          let rests = c.rest_is in
          let x_is : x ≡ h.quote = cc in
          let quote : is_quote x ≡ true = subst (λ z. is_quote z ≡ true) (sym x_is) h.is_quote_ in
          let front : is_string_prefix (f ∷ p) ≡ true = subst (λ z. is_string_prefix z ≡ true) (sym c.front_is) prefix in
          elim (qf quote front) [
            | inl lit ↦
                let longer = again lit.body (subst (λ z. AreUnits (is_quoted_unit z) lit.body) x_is lit.inside) (λ i. lit.apart (x_is ∙ i)) in
                let is : h.before ++ h.quote ∷ (lit.body ++ h.quote ∷ []) ≡ (f ∷ p) ++ x ∷ (lit.body ++ x ∷ []) = renamed h.before (f ∷ p) h.quote x lit.body (sym c.front_is) (sym x_is) in
                b.most longer.0 x (lit.body ++ x ∷ []) lit.left lit.whole (subst (λ z. Spells d longer.0 z) is longer.1)
            | inr o ↦ elim o [
              | inl n ↦ no_line_inside (f ∷ p) (x ∷ A) (e ∷ more) n lines
              | inr t ↦ both_ways (takes_line left) s.line t
            ]
          ]
      | inr on ↦ elim on [
        | inl c ↦
            let rests = c.rest_is in
            let x_is : x ≡ c.c = cc in
            let word = prefix_front d f p c.c c.more (subst (λ z. is_string_prefix z ≡ true) c.front_is prefix) in
            b.most (Whole Identifier) x [] A refl (subst (λ z. Spells d (Whole Identifier) ((f ∷ p) ++ z ∷ [])) (sym x_is) word)
        | inr c ↦
            let rests = c.rest_is in
            let c_is : h.quote ≡ c.c = cc in
            holds_quote d j k (f ∷ p) h.before c.c c.more x (A ++ e ∷ more) c.front_is (subst (λ z. is_quote z ≡ true) c_is h.is_quote_) h.letter b.spelled (subst (λ z. Spells d k z) regrouped g)
            (λ t. no_line_inside (f ∷ p) (x ∷ A) (e ∷ more) (b.line t) lines)
      ]
    ]
  where
    regrouped : ((f ∷ p) ++ x ∷ A) ++ e ∷ more ≡ (f ∷ p) ++ x ∷ (A ++ e ∷ more)
    regrouped = append_assoc (f ∷ p) (x ∷ A) (e ∷ more)

    lines : list_all not_line (((f ∷ p) ++ x ∷ A) ++ e ∷ more) ≡ true
    lines = closed_line (((f ∷ p) ++ x ∷ A) ++ e ∷ more) h

    renamed : (a b : List ℕ) (q z : ℕ) (body : List ℕ) → a ≡ b → q ≡ z → a ++ q ∷ (body ++ q ∷ []) ≡ b ++ z ∷ (body ++ z ∷ [])
    renamed a b q z body u v = cc

-- what goes on over the seam isn't all of characters that stand in words
words_before : (d : Dialect) (left right : ItemKind) (l : List ℕ) (x : ℕ) (A : List ℕ) (e : ℕ) (r : List ℕ) → IsSeam d left right l (x ∷ A) e r → (p more : List ℕ) → list_all is_wordlike ((p ++ x ∷ A) ++ e ∷ more) ≡ true → ⊥
words_before d left right l x A e r s p more all =
    word_seam d left right l (x ∷ A) e r s (back_all p (x ∷ A) (front_passes is_wordlike (p ++ x ∷ A) (e ∷ more) all)) (tail_passes is_wordlike (p ++ x ∷ A) e more all)
  where
    back_all : (a b : List ℕ) → list_all is_wordlike (a ++ b) ≡ true → list_all is_wordlike b ≡ true
    back_all a b h = let both : (list_all is_wordlike a && list_all is_wordlike b) ≡ true = rw all_append at h in (and_parts (list_all is_wordlike a) (list_all is_wordlike b) both).1

-- Nothing goes on from an item before the left one over the seam.
pub nothing_crosses : (d : Dialect) (left right : ItemKind) (l : List ℕ) (x : ℕ) (A : List ℕ) (e : ℕ) (r : List ℕ) → IsSeam d left right l (x ∷ A) e r → (j : ItemKind) (f : ℕ) (p more : List ℕ) → IsItemBefore d j (f ∷ p) (x ∷ A) → QuoteFirst left (f ∷ p) x A →
    (k : Shape) → Spells d k (((f ∷ p) ++ x ∷ A) ++ e ∷ more) → ⊥
unfolding char_closed string_closed
nothing_crosses d left right l x A e r s j f p more b qf (Whole Identifier) h =
    words_before d left right l x A e r s (f ∷ p) more (identifier_wordlike (((f ∷ p) ++ x ∷ A) ++ e ∷ more) h)
nothing_crosses d left right l x A e r s j f p more b qf (Whole Number) h = number_before d left right l x A e r s f p more b.most h
nothing_crosses d left right l x A e r s j f p more b qf (Whole CharConst) h =
    literal_before d left right l x A e r s j f p more b qf (Whole CharConst) h (char_closed d (((f ∷ p) ++ x ∷ A) ++ e ∷ more) h) (char_prefix_string d h.before h.begins)
    (λ body u n. (Whole CharConst, record { before = h.before; body = body; begins = h.begins; not_empty = n refl; inside = u; whole = refl }))
nothing_crosses d left right l x A e r s j f p more b qf (Whole StringLit) h =
    literal_before d left right l x A e r s j f p more b qf (Whole StringLit) h (string_closed d (((f ∷ p) ++ x ∷ A) ++ e ∷ more) h) h.begins
    (λ body u n. (Whole StringLit, record { before = h.before; body = body; begins = h.begins; not_empty = refl; inside = u; whole = refl }))
nothing_crosses d left right l x A e r s j f p more b qf (Whole Punct) h = punct_before d left right l x A e r s f p more b.most h
nothing_crosses d left right l x A e r s j f p more b qf (Whole HeaderName) h = h
nothing_crosses d left right l x A e r s j f p more b qf (Whole StrayQuote) h = stray_before d j f p A x e more b h
nothing_crosses d left right l x A e r s j f p more b qf (Whole Other) h =
    let high = other_long d ((f ∷ p) ++ x ∷ A) f (p ++ x ∷ A) e more refl h in
    words_before d left right l x A e r s (f ∷ p) more (all_weaken is_high is_wordlike high_wordlike (((f ∷ p) ++ x ∷ A) ++ e ∷ more) high)
nothing_crosses d left right l x A e r s j f p more b qf (Whole BlockComment) h = comment_before d j f p A x e more (Whole BlockComment) 42 (h.body ++ 42 ∷ 47 ∷ []) b h h.whole (inl refl)
nothing_crosses d left right l x A e r s j f p more b qf (Whole LineComment) h = comment_before d j f p A x e more (Whole LineComment) 47 h.body b h h.whole (inr (refl, comment_line (((f ∷ p) ++ x ∷ A) ++ e ∷ more) h))
nothing_crosses d left right l x A e r s j f p more b qf Unended h = comment_before d j f p A x e more Unended 42 h.body b h h.whole (inl refl)

-- What may_touch gives for a seam.

pub touch_words : (d : Dialect) (left right : ItemKind) (l : List ℕ) (e : ℕ) (r : List ℕ) → ((left ≡ HeaderName) × IsHeaderName l) ⊎ Spells d (Whole left) l → item_begin d right e ≡ true → Touch left l right (e ∷ r) → list_all is_wordlike l ≡ true → is_wordlike e ≡ true → ⊥
touch_words d left right l e r item b t in_l w =
    elim (or_cases (is_identifier left || is_number left) (is_other_kind left) (word_kind d left l item in_l)) [
      | inl k ↦ no_word d left l right e r k b w t
      | inr k ↦ both_ways (is_other_kind left || is_other_kind right) t.others (or_left (is_other_kind left) (is_other_kind right) k)
    ]

pub touch_marks : (d : Dialect) (left right : ItemKind) (l : List ℕ) (e : ℕ) (r : List ℕ) → ((left ≡ HeaderName) × IsHeaderName l) ⊎ Spells d (Whole left) l → Touch left l right (e ∷ r) → is_punctuator d l ≡ true → is_single l ≡ true → list_any (is_front (l ++ e ∷ [])) touch_table ≡ true → ⊥
touch_marks d left right l e r item t p o f =
    both_ways (punct_goes_on left l (e ∷ r)) t.punct (and_from (is_punct left) (list_any (is_front (l ++ e ∷ [])) touch_table) (punct_kind d left l item p o) f)
