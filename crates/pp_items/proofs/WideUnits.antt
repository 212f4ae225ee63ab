-- Characters past ASCII, by the one that is read.
use Rattle.std.proofs.Common.{◌≡◌, ◌∙◌, ℕ, Bool, true, false, List, sym, subst, inl, inr}
use Rattle.std.proofs.lemmas.Bool.{cases_Bool, both_ways, eqb-true, false_from_ne_true}
use Rattle.c_grammar.specs.Grammar.{is_wide}
use Rattle.c_grammar.proofs.Wide.{wide_both}
use Rattle.c_grammar.specs.Utf8.{any_char, only}
use Rattle.c_grammar.proofs.OneChar.{wide_any, wide_only}

-- the character that is read decides
pub wide_told : (q : ℕ → Bool) (c : ℕ) (u : List ℕ) → is_wide (only c) u ≡ true → q c ≡ is_wide q u
wide_told q c u h = elim (cases_Bool (q c)) [
  | inl y ↦ y ∙ sym (wide_only q c u y h)
  | inr n ↦ n ∙ sym (false_from_ne_true (is_wide q u) (λ w.
      let both = wide_both (only c) q u h w in
      both_ways (q c) n (subst (λ z. q z ≡ true) (eqb-true both.0 c both.1) both.2)))
]

-- where none is read, none passes
pub wide_none : (q : ℕ → Bool) (u : List ℕ) → is_wide any_char u ≡ false → false ≡ is_wide q u
wide_none q u h = sym (false_from_ne_true (is_wide q u) (λ w. both_ways (is_wide any_char u) h (wide_any q u w)))
