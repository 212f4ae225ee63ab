-- What stands behind the prefix of a literal, and behind a quote that isn't closed (C11 6.4.4.4, 6.4.5).
use Rattle.std.specs.Prelude.{◌||◌, ℕ, Bool, List, [], ◌∷◌}
use Rattle.c_grammar.specs.Grammar.{is_same, is_quoted_unit}
use Rattle.pp_model.specs.Finding.{cuts, are_units, is_inside}

-- the quote, what may stand inside, and the quote
abbrev pub closes : ℕ → Bool → List ℕ → Bool
closes q may_be_empty s = cuts (is_same (q ∷ [])) (cuts (is_inside q may_be_empty) (is_same (q ∷ []))) s

-- units, and a last backslash behind which nothing stands
abbrev pub ends_cut_off : ℕ → List ℕ → Bool
ends_cut_off q s = cuts (are_units (is_quoted_unit q)) (λ l. is_same l (92 ∷ [])) s

-- units, and a last backslash behind which nothing stands, or none
abbrev pub is_open_body : ℕ → List ℕ → Bool
is_open_body q s = cuts (are_units (is_quoted_unit q)) (λ l. is_same l [] || is_same l (92 ∷ [])) s
