-- A document, one line after another.
use Rattle.std.proofs.Common.{◌≡◌, ◌<◌, ◌≤◌, ◌+◌, ℕ, suc, List, ◌∷◌, length, drop, get_or, drop_of_length-le, Some, None, Bool, true, ap, sym, codes, ◌∙◌, arith}
use Rattle.std.proofs.Math.Seq.{drop-cons}
use Rattle.std.specs.declared.option.Option.{Option}
use Rattle.style_table.specs.declared.style.Style.{Style}
use Rattle.style_config.specs.declared.line.NumberedLine.{NumberedLine as ReadNumberedLine}
use Rattle.style_config.specs.Lines.{line_text, document_text, is_for_c, is_language_of_c, by_value, value_at, base_after, based_on}

-- the rest from a place on begins with the line at that place
pub drop_line : (lines : List ReadNumberedLine) (at : ℕ) (d : ReadNumberedLine) → at < length lines
    → drop at lines ≡ get_or lines at d ∷ drop (at + 1) lines
drop_line lines at d within = let next : at + 1 ≡ suc at = omega arith in rw next (drop-cons lines at d within)

is_for_c-cons : (lines rest : List ReadNumberedLine) (line : ReadNumberedLine) → lines ≡ line ∷ rest
    → is_for_c (document_text lines) ≡ by_value (value_at (codes "Language") (line_text line.line)) is_language_of_c (is_for_c (document_text rest))
unfolding is_for_c
is_for_c-cons lines rest line first = ap (λ xs. is_for_c (document_text xs)) first

is_for_c-drop : (lines : List ReadNumberedLine) (at : ℕ) (d : ReadNumberedLine) → at < length lines
    → is_for_c (document_text (drop at lines)) ≡ by_value (value_at (codes "Language") (line_text (get_or lines at d).line)) is_language_of_c (is_for_c (document_text (drop (at + 1) lines)))
is_for_c-drop lines at d within = is_for_c-cons (drop at lines) (drop (at + 1) lines) (get_or lines at d) (drop_line lines at d within)

is_for_c-end : (lines : List ReadNumberedLine) (at : ℕ) → length lines ≤ at → is_for_c (document_text (drop at lines)) ≡ true
unfolding is_for_c
is_for_c-end lines at past = ap (λ xs. is_for_c (document_text xs)) (drop_of_length-le lines past)

base_after-cons : (style : Style) (lines rest : List ReadNumberedLine) (line : ReadNumberedLine) → lines ≡ line ∷ rest
    → base_after style (document_text lines) ≡ base_after (based_on style (value_at (codes "BasedOnStyle") (line_text line.line))) (document_text rest)
unfolding base_after
base_after-cons style lines rest line first = ap (λ xs. base_after style (document_text xs)) first

base_after-drop : (style : Style) (lines : List ReadNumberedLine) (at : ℕ) (d : ReadNumberedLine) → at < length lines
    → base_after style (document_text (drop at lines)) ≡ base_after (based_on style (value_at (codes "BasedOnStyle") (line_text (get_or lines at d).line))) (document_text (drop (at + 1) lines))
base_after-drop style lines at d within = base_after-cons style (drop at lines) (drop (at + 1) lines) (get_or lines at d) (drop_line lines at d within)

base_after-end : (style : Style) (lines : List ReadNumberedLine) (at : ℕ) → length lines ≤ at → base_after style (document_text (drop at lines)) ≡ style
unfolding base_after
base_after-end style lines at past = ap (λ xs. base_after style (document_text xs)) (drop_of_length-le lines past)

-- a line says for which language the document is
pub is_for_c_said : (lines : List ReadNumberedLine) (at : ℕ) (d : ReadNumberedLine) (value : List ℕ) (all : Bool) → at < length lines
    → Some value ≡ value_at (codes "Language") (line_text (get_or lines at d).line) → is_for_c (document_text (drop at lines)) ≡ all → is_language_of_c value ≡ all
is_for_c_said lines at d value all within said before =
    ap (λ o. by_value o is_language_of_c (is_for_c (document_text (drop (at + 1) lines)))) said ∙ (sym (is_for_c-drop lines at d within) ∙ before)

-- a line says nothing of the language
pub is_for_c_unsaid : (lines : List ReadNumberedLine) (at : ℕ) (d : ReadNumberedLine) (all : Bool) → at < length lines
    → None ≡ value_at (codes "Language") (line_text (get_or lines at d).line) → is_for_c (document_text (drop at lines)) ≡ all
    → is_for_c (document_text (drop (at + 1) lines)) ≡ all
is_for_c_unsaid lines at d all within unsaid before =
    ap (λ o. by_value o is_language_of_c (is_for_c (document_text (drop (at + 1) lines)))) unsaid ∙ (sym (is_for_c-drop lines at d within) ∙ before)

-- no line said anything of the language
pub is_for_c_by_default : (lines : List ReadNumberedLine) (at : ℕ) (all : Bool) → length lines ≤ at → is_for_c (document_text (drop at lines)) ≡ all → true ≡ all
is_for_c_by_default lines at all past before = sym (is_for_c-end lines at past) ∙ before

-- a line more was looked at for the base
pub base_after_line : (style next base : Style) (lines : List ReadNumberedLine) (at : ℕ) (d : ReadNumberedLine) (value : Option (List ℕ)) → at < length lines
    → value ≡ value_at (codes "BasedOnStyle") (line_text (get_or lines at d).line) → next ≡ based_on style value
    → base_after style (document_text (drop at lines)) ≡ base → base_after next (document_text (drop (at + 1) lines)) ≡ base
base_after_line style next base lines at d value within said is before =
    ap (λ s. base_after s (document_text (drop (at + 1) lines))) (is ∙ ap (based_on style) said) ∙ (sym (base_after-drop style lines at d within) ∙ before)

-- all lines were looked at for the base
pub base_after_all : (style base : Style) (lines : List ReadNumberedLine) (at : ℕ) → length lines ≤ at → base_after style (document_text (drop at lines)) ≡ base → style ≡ base
base_after_all style base lines at past before = sym (base_after-end style lines at past) ∙ before
