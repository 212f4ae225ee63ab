-- What stands before the first item of a line.
use Rattle.std.proofs.Common.{◌≡◌, ◌∙◌, ◌==◌, ◌&&◌, ◌≤◌, ◌+◌, not, ℕ, Bool, true, false, Option, None, refl, sym, ap}
use Rattle.std.proofs.Common.{arith}
use Rattle.std.specs.Prelude.{if◌then◌else◌}
use Rattle.std.proofs.lemmas.Bool.Decides.{nat_tests}
use Rattle.style_table.specs.declared.style.Style.{Style}
use Rattle.line_tokens.specs.declared.LineTok.{LineTok}
use Rattle.line_tokens.specs.declared.line.ULine.{ULine}
use Rattle.token_arena.specs.Gaps.{Contents}
use Rattle.item_classes.specs.Viewed.{item_class}
use Rattle.token_classes.specs.declared.class.TokenClass.{TokenClass}
use Rattle.item_classes.specs.Items.{item_at}
use Rattle.layout_tables.specs.Indents.{keeps_none, start_column}
use Rattle.replacements.specs.declared.gap_text.Decision.TheVariants.{Lines, Spaces}
use Rattle.line_gaps.specs.Rows.{empty_rows, first_decision, first_of_line, first_role, is_behind_brace, row_token}

zero_either : (holds : Bool) (x : ℕ) → x ≡ 0 → (if holds then 0 else x) ≡ 0
zero_either true x e = refl
zero_either false x e = e

no_empty_rows : (style : Style) (line : ULine) (opened : Bool) (token : LineTok) → token.gap.lines ≤ 1 → empty_rows style line opened token ≡ 0
no_empty_rows style line opened token near =
    zero_either (opened && not style.keep_empty_lines_at_the_start_of_blocks) _ (zero_either (keeps_none style None line token) _ (omega (arith, near)))

by_first : (first : Bool) (rows column level : ℕ) → first ≡ false → rows ≡ 0 → Lines 1 column level ≡ (if first then Spaces 0 else Lines (1 + rows) column level)
by_first true rows column level later none = cc
by_first false rows column level later none = ap (λ n. Lines (1 + n) column level) (sym none)

-- a row begins there at once, whatever stands around the gap
pub row_at_once : (style : Style) (arena : Contents) (line : ULine) (before : Option ℕ) (id : ℕ) → (id == 0) ≡ false → (item_at arena id).gap.lines ≤ 1
    → Lines 1 (start_column style line) line.level ≡ first_decision style arena line before id
row_at_once style arena line before id later near =
    by_first (id == 0) (empty_rows style line (is_behind_brace arena before) (row_token arena id (first_role (item_class arena id)))) (start_column style line) line.level later
    (no_empty_rows style line (is_behind_brace arena before) (row_token arena id (first_role (item_class arena id))) near)

not_first : (id : ℕ) → (id ≡ 0 → ⊥) → (id == 0) ≡ false
not_first id later = grind (arith, nat_tests, later)

by_later : (first : Bool) (count column level : ℕ) → first ≡ false → Lines count column level ≡ (if first then Spaces 0 else Lines count column level)
by_later true count column level later = cc
by_later false count column level later = refl

-- a row begins there behind the empty lines that are kept
pub row_behind : (style : Style) (arena : Contents) (line : ULine) (opened : Bool) (class : TokenClass) (id rows column : ℕ) (token : LineTok) → (id ≡ 0 → ⊥) → token ≡ row_token arena id (first_role class)
    → rows ≡ empty_rows style line opened token → column ≡ start_column style line → Lines (1 + rows) column line.level ≡ first_of_line style arena line opened class id
row_behind style arena line opened class id rows column token later token_is rows_is column_is =
    ap (λ n. Lines (1 + n) column line.level) (rows_is ∙ ap (λ (t : LineTok). empty_rows style line opened t) token_is)
    ∙ (ap (λ x. Lines (1 + empty_rows style line opened (row_token arena id (first_role class))) x line.level) column_is
    ∙ by_later (id == 0) (1 + empty_rows style line opened (row_token arena id (first_role class))) (start_column style line) line.level (not_first id later))
