-- A line stays on one row where it does with one blank in each of its gaps.
use Rattle.std.proofs.Common.{◌≡◌, inl, inr, ℕ, suc, ◌+◌, ◌≤◌, ◌&&◌, ◌||◌, ◌==◌, not, nat_lt, Bool, true, false, Option}
use Rattle.std.proofs.Common.{Some, List, refl, arith, length, slice_get}
use Rattle.std.specs.Prelude.{if◌then◌else◌}
use Rattle.line_tokens.specs.declared.LineTok.{LineTok}
use Rattle.line_tokens.specs.declared.Fixed.{Fixed}
use Rattle.line_tokens.specs.Columns.{columns, end_of}
use Rattle.line_tokens.specs.Roles.{is_trailing, is_ctrl_open, is_list_open, is_list_close, is_block_open}
use Rattle.line_tokens.specs.Roles.{is_block_close, is_cast_close, is_pointer, is_asm_colon, is_member, is_bracket_open}
use Rattle.line_tokens.specs.Roles.{is_bracket_close, is_comma_or_semi, is_inner_or_stray, is_call_or_decl_open}
use Rattle.line_tokens.specs.Roles.{is_unary_or_prefix, is_member_or_desig_dot}
use Rattle.style_table.specs.declared.style.Style.{Style}
use Rattle.line_state.specs.Brackets.{opens_frame}
use Rattle.line_state.specs.Line.{Line, first_cost}
use Rattle.layout_tables.specs.Breaks.{gap_rule}
use Rattle.layout_tables.specs.Spaces.{is_never, is_always, is_left, is_right, is_attached, spaces_by_table}
use Rattle.layout_tables.specs.Spaces.{spaces_before}
use Rattle.run_layout.specs.OneRow.{open_behind, IsOneRowUpTo, IsRow, IsRowLine}
use Rattle.run_layout.proofs.RowSteps.{row_ends, row_goes_on}

-- ## The blanks

by_row : (holds : Bool) (x y most : ℕ) → x ≤ most → y ≤ most → (if holds then x else y) ≤ most
by_row true x y most h g = h
by_row false x y most h g = g

by_later_rows : (trailing : Bool) (x y : ℕ) → trailing ≡ false → y ≤ 1 → (if trailing then x else y) ≤ 1
by_later_rows true x y e h = cc
by_later_rows false x y e h = h

few_in_table : (style : Style) (left right : LineTok) → is_trailing right.role ≡ false → spaces_by_table style left right ≤ 1
few_in_table style left right other =
    let l = left.role in
    let r = right.role in
    let none : 0 ≤ 1 = omega arith in
    let one : 1 ≤ 1 = omega arith in
    by_later_rows (is_trailing r) _ _ other
    (by_row (is_comma_or_semi r) _ _ 1 none
    (by_row (is_bracket_open l || is_bracket_close r) _ _ 1 none
    (by_row ((is_list_open l && is_list_close r) || (is_block_open l && is_block_close r)) _ _ 1 none
    (by_row (is_list_open l || is_list_close r) _ _ 1 (by_row (not style.cpp11_braced_list_style) _ _ 1 one none)
    (by_row (is_inner_or_stray l || is_inner_or_stray r) _ _ 1 (by_row right.gap.empty _ _ 1 none one)
    (by_row (is_ctrl_open r) _ _ 1 (by_row (not (is_never style.space_before_parens)) _ _ 1 one none)
    (by_row (is_call_or_decl_open r) _ _ 1 (by_row (is_always style.space_before_parens) _ _ 1 one none)
    (by_row (is_attached r) _ _ 1 none
    (by_row (is_unary_or_prefix l) _ _ 1 none
    (by_row (is_member_or_desig_dot l || is_member r) _ _ 1 none
    (by_row (is_cast_close l) _ _ 1 (by_row style.space_after_c_style_cast _ _ 1 one none)
    (by_row (is_pointer l && is_pointer r) _ _ 1 none
    (by_row (is_pointer r) _ _ 1 (by_row (not (is_left style.pointer_alignment)) _ _ 1 one none)
    (by_row (is_pointer l) _ _ 1 (by_row (not (is_right style.pointer_alignment)) _ _ 1 one none)
    (by_row (is_asm_colon l && is_asm_colon r) _ _ 1 (by_row right.gap.empty _ _ 1 none one) one)))))))))))))))

pub one_at_most : (style : Style) (left right : LineTok) → is_trailing right.role ≡ false → spaces_before style left right ≤ 1
one_at_most style left right other =
    by_row ((spaces_by_table style left right == 0) && not right.gap.empty && not right.touch) 1 (spaces_by_table style left right) 1 (omega arith) (few_in_table style left right other)

-- ## Columns, frames and cells

pub end_within : (token : LineTok) (x y most : ℕ) → x ≤ y → y + token.last_width ≤ most → end_of token x ≤ most
end_within token x y most h g = by_row (nat_lt 1 token.rows) token.last_width (columns x token.last_width) most (omega (arith, g)) (omega (arith, h, g))

pub frames_within : (frames : ℕ) (token : LineTok) → open_behind frames token ≤ frames + 1
frames_within frames token =
    let one : (if opens_frame token.role then 1 else 0) ≤ 1 = by_row (opens_frame token.role) 1 0 1 (omega arith) (omega arith) in
    omega (arith, one)

module _ (l : Line) (style : Style) (at : ℕ) (tokens : List LineTok) (first : Option Fixed) (is : IsRowLine l style at tokens first) where
  -- one more token
  pub goes_on_up_to : (n most behind : ℕ) (left right : LineTok) → IsOneRowUpTo l n most → slice_get tokens n ≡ Some left → slice_get tokens (suc n) ≡ Some right → (gap_rule style left right).must ≡ false → is_trailing right.role ≡ false
      → most + 1 + right.first_width ≤ style.column_limit → n + 2 ≤ 1000 → most + 1 + right.last_width ≤ behind → IsOneRowUpTo l (n + 1) behind
  goes_on_up_to n most behind left right w a b must other fits short ends =
      let blanks : ℕ = spaces_before style left right in
      let here : ℕ = columns w.column blanks in
      let one : blanks ≤ 1 = one_at_most style left right other in
      let below : here ≤ most + 1 = omega (arith, w.within, one) in
      let fit : columns here right.first_width ≤ style.column_limit = omega (arith, below, fits) in
      let frames : ℕ = open_behind w.frames right in
      let more : frames ≤ w.frames + 1 = frames_within w.frames right in
      record {
        column = end_of right here;
        frames = frames;
        count = w.count + (frames + 1);
        row = row_goes_on l style at tokens first is n w.column w.frames w.count here frames (w.count + (frames + 1)) (end_of right here) left right w.row a b must refl (inr fit) refl refl refl;
        within = end_within right here (most + 1) behind below ends;
        few = omega (arith, more, w.few);
        cheap = omega (arith, more, w.few, w.cheap, short);
      }

  -- a trailing comment that ends the line is free wherever it starts
  pub comment_ends : (budget n most : ℕ) (left right : LineTok) → IsOneRowUpTo l n most → slice_get tokens n ≡ Some left → slice_get tokens (suc n) ≡ Some right → (gap_rule style left right).must ≡ false → is_trailing right.role ≡ true
      → n + 2 ≡ length tokens → length tokens ≤ 1000 → 1001000 ≤ budget → first_cost l ≡ 0 → IsRow l budget
  comment_ends budget n most left right w a b must waits all short rich free =
      let here : ℕ = columns w.column (spaces_before style left right) in
      let frames : ℕ = open_behind w.frames right in
      let more : frames ≤ w.frames + 1 = frames_within w.frames right in
      let cells : ℕ = w.count + (frames + 1) in
      let row = row_goes_on l style at tokens first is n w.column w.frames w.count here frames cells (end_of right here) left right w.row a b must refl (inl waits) refl refl refl in
      row_ends l style at tokens first is budget (n + 1) (end_of right here) frames cells row (omega (arith, all)) (omega (arith, more, w.few, w.cheap, all, short, rich)) free
