-- What is known of a gap from its rule.
use Rattle.std.proofs.Common.{◌≡◌, ◌∙◌, ◌==◌, ◌+◌, ℕ, Bool, true, false, ◌||◌, ◌&&◌, not, refl, ap, eq-eqb}
use Rattle.std.specs.Prelude.{if◌then◌else◌}
use Rattle.line_tokens.specs.Roles.{is_own, is_decl_name, is_call_or_decl_open, is_ctrl_or_group_open, is_comma_or_semi, is_list_open, is_binary, is_ternary, is_round_close, is_member, is_asm_colon}
use Rattle.line_tokens.specs.declared.LineTok.{LineTok}
use Rattle.style_table.specs.declared.style.Style.{Style}
use Rattle.layout_tables.specs.declared.penalties.Break.{Break}
use Rattle.layout_tables.specs.declared.penalties.Break.TheVariants.{Must, Not, Costs}
use Rattle.layout_tables.specs.Breaks.{ends_its_row, is_string, is_never_first, is_never_last, is_assignment_gap, operator_side, ternary_side, rule_at, gap_rule}

first_row_false : (depth : ℕ) (holds : Bool) (rest : Break) → (rule_at depth (if holds then Must else rest)).must ≡ false → holds ≡ false
first_row_false depth true rest e = cc
first_row_false depth false rest e = refl

-- where a gap need not break, no directive stands in it, what stands before it doesn't take its line, and what stands behind it is no comment on lines of its own
pub needs_none : (style : Style) (left right : LineTok) → (gap_rule style left right).must ≡ false → (right.directive || ends_its_row left.kind || is_own right.role) ≡ false
needs_none style left right e =
    first_row_false right.depth (right.directive || ends_its_row left.kind || is_own right.role)
    _ e

no_choice_rows : (depth : ℕ) (needs lists unlimited fits : Bool) (rest : Break) → unlimited ≡ true
    → (rule_at depth (if needs then Must else (if lists then Must else (if unlimited then (if fits then Not else Must) else rest)))).must ≡ false
    → (rule_at depth (if needs then Must else (if lists then Must else (if unlimited then (if fits then Not else Must) else rest)))).can ≡ false
no_choice_rows depth true lists unlimited fits rest u e = cc
no_choice_rows depth false true unlimited fits rest u e = cc
no_choice_rows depth false false false fits rest u e = cc
no_choice_rows depth false false true true rest u e = refl
no_choice_rows depth false false true false rest u e = cc

-- without a limit of columns a gap that need not break doesn't
pub no_choice : (style : Style) (left right : LineTok) → style.column_limit ≡ 0 → (gap_rule style left right).must ≡ false → (gap_rule style left right).can ≡ false
no_choice style left right none e =
    no_choice_rows right.depth (right.directive || ends_its_row left.kind || is_own right.role) right.trailing_list (style.column_limit == 0) (right.gap.lines == 0) _ (eq-eqb style.column_limit 0 none) e

-- what asks for no break
data Mild : Break → Type 0 where
  none : Mild Not
  costs : (cost : ℕ) → Mild (Costs cost)

mild_row : {here rest : Break} (holds : Bool) → Mild here → Mild rest → Mild (if holds then here else rest)
mild_row true h r = h
mild_row false h r = r

free : {row : Break} (depth : ℕ) → Mild row → (rule_at depth row).must ≡ false
free depth none = refl
free depth (costs cost) = refl

-- the first two rows, as the code asks them
as_asked : (directive ends own lists : Bool) → ((directive || ends || own) || lists) ≡ (((directive || lists) || ends) || own)
as_asked true ends own lists = refl
as_asked false true true true = refl
as_asked false true true false = refl
as_asked false true false true = refl
as_asked false true false false = refl
as_asked false false true true = refl
as_asked false false true false = refl
as_asked false false false true = refl
as_asked false false false false = refl

must_rows : (depth : ℕ) (needs lists unlimited same : Bool) {rest : Break} → Mild rest
    → (rule_at depth (if needs then Must else (if lists then Must else (if unlimited then (if same then Not else Must) else rest)))).must
    ≡ ((needs || lists) || (unlimited && not same))
must_rows depth true lists unlimited same mild = refl
must_rows depth false true unlimited same mild = refl
must_rows depth false false true true mild = refl
must_rows depth false false true false mild = refl
must_rows depth false false false same mild = free depth mild

-- a gap breaks by the first rows of the table alone
pub must_of_gap : (style : Style) (left right : LineTok)
    → (gap_rule style left right).must ≡ ((((right.directive || right.trailing_list) || ends_its_row left.kind) || is_own right.role) || ((style.column_limit == 0) && not (right.gap.lines == 0)))
must_of_gap style left right =
    let l = left.role in
    let r = right.role in
    must_rows right.depth (right.directive || ends_its_row left.kind || is_own r) right.trailing_list (style.column_limit == 0) (right.gap.lines == 0)
    (mild_row right.held none
    (mild_row (is_decl_name r) (costs style.penalty_return_type_on_its_own_line)
    (mild_row (is_never_first r) none
    (mild_row (is_never_last l) none
    (mild_row (is_call_or_decl_open l) (costs (style.penalty_break_before_first_call_parameter + style.penalty_break_open_parenthesis))
    (mild_row (is_ctrl_or_group_open l) (costs (100 + style.penalty_break_open_parenthesis))
    (mild_row (is_comma_or_semi l) (costs 1)
    (mild_row (is_list_open l) (costs 10)
    (mild_row (is_assignment_gap style left right) (costs style.penalty_break_assignment)
    (mild_row (is_binary (operator_side style left right).role) (costs (operator_side style left right).power)
    (mild_row (is_ternary (ternary_side style left right).role) (costs 3)
    (mild_row (is_string left.kind && is_string right.kind) (costs 10)
    (mild_row (is_round_close l && is_member r) (costs 150)
    (mild_row (is_asm_colon r && not (is_asm_colon l)) (costs 1) none))))))))))))))
    ∙ ap (λ needs. needs || ((style.column_limit == 0) && not (right.gap.lines == 0))) (as_asked right.directive (ends_its_row left.kind) (is_own r) right.trailing_list)
