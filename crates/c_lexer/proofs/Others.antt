-- What begins nothing else is the longest that spells an item.
use Rattle.std.proofs.Common.{◌≡◌, ◌==◌, ℕ, true, false, List, ◌∷◌, ◌++◌, refl, sym, ◌∙◌, ap, subst, inl, inr, ◌⊎◌, append_assoc}
use Rattle.std.proofs.lemmas.Bool.{or_cases, both_ways, eqb-true}
use Rattle.c_chars.specs.declared.Dialect.{Dialect}
use Rattle.c_grammar.specs.Grammar.{is_other, is_other_unit, is_wide, is_letter, is_digit, is_letter_unit, Shape, Whole, Unended, Spells}
use Rattle.c_grammar.specs.Items.{IsLongest}
use Rattle.item_kinds.specs.declared.ItemKind.TheVariants.{Identifier, Number, CharConst, StringLit, Punct, HeaderName, StrayQuote, Other, BlockComment, LineComment}
use Rattle.c_grammar.proofs.Firsts.{is_quote, is_mark, is_number_start, can_begin, not_start, other_cases}
use Rattle.c_grammar.proofs.Classes.{other_is_none, other_not_mark}
use Rattle.c_grammar.proofs.Goes.{both_begin, one_short}
use Rattle.c_grammar.proofs.Sorts.{apostrophe, quotation}
use Rattle.c_lexer.specs.Unit.{BeginsUnit}

no_mark_of : (d : Dialect) (c n : ℕ) → is_other d c ≡ true → is_mark n ≡ true → (c == n) ≡ true → ⊥
no_mark_of d c n h m e = both_ways (is_mark c) (other_not_mark d c h) (subst (λ z. is_mark z ≡ true) (sym (eqb-true c n e)) m)

point : is_mark 46 ≡ true
unfolding is_mark
point = refl

slash : is_mark 47 ≡ true
unfolding is_mark
slash = refl

no_quote_of : (c n : ℕ) → is_quote c ≡ false → is_quote n ≡ true → (c == n) ≡ true → ⊥
no_quote_of c n q m e = both_ways (is_quote c) q (subst (λ z. is_quote z ≡ true) (sym (eqb-true c n e)) m)

-- no other item begins with it but a word
other_kinds : (d : Dialect) (k : Shape) (c : ℕ) → is_other d c ≡ true → can_begin d k c ≡ true → (k ≡ Whole Identifier) ⊎ (k ≡ Whole Other)
unfolding is_number_start
other_kinds d (Whole Identifier) c h b = inl refl
other_kinds d (Whole Number) c h b = absurd (elim (or_cases (is_digit c) (c == 46) b) [ inl y ↦ both_ways (is_digit c) (other_is_none d c h).digit y | inr y ↦ no_mark_of d c 46 h point y ])
other_kinds d (Whole CharConst) c h b = absurd (elim (or_cases (is_letter c) (c == 39) b) [ inl y ↦ both_ways (is_letter c) (other_is_none d c h).letter y | inr y ↦ no_quote_of c 39 (other_is_none d c h).quote apostrophe y ])
other_kinds d (Whole StringLit) c h b = absurd (elim (or_cases (is_letter c) (c == 34) b) [ inl y ↦ both_ways (is_letter c) (other_is_none d c h).letter y | inr y ↦ no_quote_of c 34 (other_is_none d c h).quote quotation y ])
other_kinds d (Whole Punct) c h b = absurd (both_ways (is_mark c) (other_not_mark d c h) b)
other_kinds d (Whole HeaderName) c h b = cc
other_kinds d (Whole StrayQuote) c h b = absurd (both_ways (is_quote c) (other_is_none d c h).quote b)
other_kinds d (Whole Other) c h b = inr refl
other_kinds d (Whole BlockComment) c h b = absurd (no_mark_of d c 47 h slash b)
other_kinds d (Whole LineComment) c h b = absurd (no_mark_of d c 47 h slash b)
other_kinds d Unended c h b = absurd (no_mark_of d c 47 h slash b)

-- where no word begins, and no longer character past ASCII
pub other_longest : (d : Dialect) (u rest : List ℕ) → is_other_unit d u ≡ true → (BeginsUnit is_letter_unit (u ++ rest) → ⊥) →
    ((c : ℕ) (more left : List ℕ) → rest ≡ (c ∷ more) ++ left → is_wide not_start (u ++ c ∷ more) ≡ true → ⊥) → IsLongest d (Whole Other) u rest
other_longest d u rest h word wide = record {
  spells = h;
  longest = λ k e more left w g.
      let b = both_begin d (Whole Other) k u e more h g in
      elim (other_kinds d k b.f b.first b.second) [
        | inl is ↦
            let i : Spells d (Whole Identifier) (u ++ e ∷ more) = subst (λ z. Spells d z (u ++ e ∷ more)) is g in
            word (record {
              unit = i.head;
              rest = i.tail ++ left;
              passes = i.begins;
              whole = ap (λ z. u ++ z) w ∙ (sym (append_assoc u (e ∷ more) left) ∙ (ap (λ z. z ++ left) i.whole ∙ append_assoc i.head i.tail left));
            })
        | inr is ↦
            let i : is_other_unit d (u ++ e ∷ more) ≡ true = subst (λ z. Spells d z (u ++ e ∷ more)) is g in
            elim (other_cases d (u ++ e ∷ more) i) [ inl one ↦ one_short (is_other d) u b.f b.rest e more b.whole one | inr more_wide ↦ wide e more left w more_wide ]
      ];
}
