-- A number's head and then the most units are the longest that spells an item.
use Rattle.std.proofs.Common.{◌≡◌, ◌==◌, ◌&&◌, ℕ, true, false, List, [], ◌∷◌, ◌++◌, length, refl, sym, ◌∙◌, ap, subst, inl, inr, append_assoc, arith}
use Rattle.std.specs.Prelude.{codes, if◌then◌else◌}
use Rattle.std.proofs.lemmas.Bool.{and_parts, or_cases, or_left, both_ways, eqb-true, cases_Bool}
use Rattle.std.proofs.lemmas.Bool.Decides.{nat_tests}
use Rattle.c_chars.specs.declared.Dialect.{Dialect}
use Rattle.c_grammar.specs.Grammar.{AreUnits, is_letter, is_digit, is_number_head, is_number_unit, is_punctuator, Shape, Whole, Unended, Spells}
use Rattle.c_grammar.specs.Items.{IsLongest}
use Rattle.c_grammar.specs.Touch.{starts}
use Rattle.item_kinds.specs.declared.ItemKind.TheVariants.{Identifier, Number, CharConst, StringLit, Punct, HeaderName, StrayQuote, Other, BlockComment, LineComment}
use Rattle.c_grammar.proofs.Lists.{two_cuts}
use Rattle.c_grammar.proofs.Firsts.{begins, is_quote, is_letter_start, is_number_start, is_mark}
use Rattle.c_grammar.proofs.Classes.{not_of, letter_start_not_digit, digit_not_mark}
use Rattle.c_grammar.proofs.Goes.{BothBegin, both_begin, other_first, point_digit_no_punct, not_number_start}
use Rattle.c_grammar.proofs.Sorts.{apart_at}
use Rattle.c_grammar.proofs.Wide.{is_high}
use Rattle.c_lexer.specs.Run.{begins_number}
use Rattle.c_lexer.specs.Unit.{IsLongestHeld}

-- how many characters the head of a number has
abbrev pub head_len : List ℕ → ℕ
head_len s = if starts is_digit s then 1 else 2

-- a number isn't the front of a punctuator
no_punct : (d : Dialect) (head rest : List ℕ) → is_number_head head ≡ true → is_punctuator d (head ++ rest) ≡ true → ⊥
unfolding is_number_head
no_punct d [] rest h p = cc
no_punct d (c ∷ []) rest h p = elim (or_cases (is_digit c) false h) [
  | inl e ↦ let b = begins d (Whole Punct) (c ∷ rest) p in let w = b.whole in let heads : b.c ≡ c = cc in both_ways (is_mark c) (digit_not_mark c e) (subst (λ x. is_mark x ≡ true) heads b.passes)
  | inr e ↦ cc
]
no_punct d (c ∷ e ∷ []) rest h p =
    let parts = and_parts (c == 46) (is_digit e) h in
    let is : c ≡ 46 = eqb-true c 46 parts.0 in
    point_digit_no_punct d e rest parts.1 (subst (λ x. is_punctuator d (x ∷ e ∷ rest) ≡ true) is p)
no_punct d (c ∷ e ∷ f ∷ u) rest h p = cc

high_no_number : (c : ℕ) → is_high c ≡ true → is_number_start c ≡ false
unfolding is_number_start is_digit
high_no_number c h = grind (arith, nat_tests)

-- what goes on from a number is one
number_only : (d : Dialect) (k : Shape) (l : List ℕ) (e : ℕ) (more : List ℕ) → Spells d (Whole Number) l → Spells d k (l ++ e ∷ more) → BothBegin d (Whole Number) k l → k ≡ Whole Number
unfolding is_quote is_number_start is_letter_start is_letter is_digit
number_only d (Whole Identifier) l c more g h b = absurd (elim (or_cases (is_digit b.f) (b.f == 46) b.first) [
  | inl e ↦ both_ways (is_digit b.f) (letter_start_not_digit b.f b.second) e
  | inr e ↦ both_ways (b.f == 46) (apart_at is_letter_start b.f 46 b.second refl) e
])
number_only d (Whole Number) l c more g h b = refl
number_only d (Whole CharConst) l c more g h b = absurd (elim (or_cases (is_letter b.f) (b.f == 39) b.second) [
  | inl e ↦ both_ways (is_number_start b.f) (not_number_start b.f e) b.first
  | inr e ↦ both_ways (b.f == 39) (apart_at is_number_start b.f 39 b.first refl) e
])
number_only d (Whole StringLit) l c more g h b = absurd (elim (or_cases (is_letter b.f) (b.f == 34) b.second) [
  | inl e ↦ both_ways (is_number_start b.f) (not_number_start b.f e) b.first
  | inr e ↦ both_ways (b.f == 34) (apart_at is_number_start b.f 34 b.first refl) e
])
number_only d (Whole Punct) l c more g h b =
    let regrouped : l ++ c ∷ more ≡ g.head ++ (g.tail ++ c ∷ more) = ap (λ x. x ++ c ∷ more) g.whole ∙ append_assoc g.head g.tail (c ∷ more) in
    absurd (no_punct d g.head (g.tail ++ c ∷ more) g.begins (subst (λ x. is_punctuator d x ≡ true) regrouped h))
number_only d (Whole HeaderName) l c more g h b = absurd h
number_only d (Whole StrayQuote) l c more g h b = absurd (both_ways (is_number_start b.f) (not_of is_number_start (codes "'\"") refl b.f b.second) b.first)
number_only d (Whole Other) l c more g h b = absurd (both_ways (is_number_start b.f) (high_no_number b.f (other_first d l b.f b.rest c more b.whole h)) b.first)
number_only d (Whole BlockComment) l c more g h b = absurd (both_ways (b.f == 47) (apart_at is_number_start b.f 47 b.first refl) b.second)
number_only d (Whole LineComment) l c more g h b = absurd (both_ways (b.f == 47) (apart_at is_number_start b.f 47 b.first refl) b.second)
number_only d Unended l c more g h b = absurd (both_ways (b.f == 47) (apart_at is_number_start b.f 47 b.first refl) b.second)

-- no head of a number goes on from another
head_alone : (h : List ℕ) (c : ℕ) (more : List ℕ) → is_number_head h ≡ true → is_number_head (h ++ c ∷ more) ≡ true → ⊥
unfolding is_number_head is_digit
head_alone [] c more a b = cc
head_alone (f ∷ []) c [] a b =
    let is : f ≡ 46 = eqb-true f 46 (and_parts (f == 46) (is_digit c) b).0 in
    elim (or_cases (is_digit f) false a) [ inl e ↦ let g : is_digit 46 ≡ true = subst (λ z. is_digit z ≡ true) is e in cc | inr e ↦ cc ]
head_alone (f ∷ []) c (e ∷ more) a b = cc
head_alone (f ∷ g ∷ []) c more a b = cc
head_alone (f ∷ g ∷ i ∷ u) c more a b = cc

same_tail : (h i s t : List ℕ) → is_number_head h ≡ true → is_number_head i ≡ true → h ++ s ≡ i ++ t → s ≡ t
same_tail h i s t a b e = elim (two_cuts h s i t e) [
  | inl same ↦ same.rest_is
  | inr on ↦ elim on [
    | inl g ↦ absurd (head_alone h g.c g.more a (subst (λ z. is_number_head z ≡ true) g.front_is b))
    | inr g ↦ absurd (head_alone i g.c g.more b (subst (λ z. is_number_head z ≡ true) g.front_is a))
  ]
]

pub number_longest_run : (d : Dialect) (head run rest : List ℕ) → is_number_head head ≡ true → IsLongestHeld (AreUnits (is_number_unit d)) run rest → IsLongest d (Whole Number) (head ++ run) rest
number_longest_run d head run rest h held =
    let spelled : Spells d (Whole Number) (head ++ run) = record { head = head; tail = run; begins = h; goes_on = held.holds; whole = refl } in
    record {
      spells = spelled;
      longest = λ k e more left w g.
          let is = number_only d k (head ++ run) e more spelled g (both_begin d (Whole Number) k (head ++ run) e more spelled g) in
          let i : Spells d (Whole Number) ((head ++ run) ++ e ∷ more) = subst (λ z. Spells d z ((head ++ run) ++ e ∷ more)) is g in
          let tails : i.tail ≡ run ++ e ∷ more = same_tail i.head head i.tail (run ++ e ∷ more) i.begins h (sym i.whole ∙ append_assoc head run (e ∷ more)) in
          held.longest e more left w (subst (AreUnits (is_number_unit d)) tails i.goes_on);
    }

-- the head that begins a text
pub record NumberHead (s : List ℕ) : Type 0 where
  pub head : List ℕ
  pub tail : List ℕ
  pub whole : s ≡ head ++ tail
  pub is_head : is_number_head head ≡ true
  pub len : head_len s ≡ length head

pub number_head : (s : List ℕ) → begins_number s ≡ true → NumberHead s
unfolding is_number_head
number_head [] h = cc
number_head (f ∷ s) h = elim (cases_Bool (is_digit f)) [
  | inl e ↦ record { head = f ∷ []; tail = s; whole = refl; is_head = or_left (is_digit f) false e; len = rw e refl }
  | inr n ↦ elim (or_cases (is_digit f) (f == 46 && starts is_digit s) h) [
    | inl e ↦ absurd (both_ways (is_digit f) n e)
    | inr e ↦ point f s n (and_parts (f == 46) (starts is_digit s) e).0 (and_parts (f == 46) (starts is_digit s) e).1
  ]
]
  where
    point : (f : ℕ) (s : List ℕ) → is_digit f ≡ false → (f == 46) ≡ true → starts is_digit s ≡ true → NumberHead (f ∷ s)
    point f [] n p h = cc
    point f (c ∷ s) n p h = record { head = f ∷ c ∷ []; tail = s; whole = refl; is_head = rw (p, h) refl; len = rw n refl }
