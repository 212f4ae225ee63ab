-- The blanks between two tokens of a row: the table of docs/PROFILE.md, "Spaces without a break".
use Rattle.std.specs.Prelude.{ℕ, Bool, true, false, ◌&&◌, ◌||◌, not, ◌==◌, if◌then◌else◌, List, [], ◌∷◌}
use Rattle.line_tokens.specs.Table.{first_row}
use Rattle.line_tokens.specs.Roles.{is_trailing, is_ctrl_open, is_list_open, is_list_close, is_block_open}
use Rattle.line_tokens.specs.Roles.{is_block_close, is_cast_close, is_pointer, is_asm_colon, is_member, is_bracket_open}
use Rattle.line_tokens.specs.Roles.{is_bracket_close, is_comma_or_semi, is_inner_or_stray, is_call_or_decl_open}
use Rattle.line_tokens.specs.Roles.{is_unary_or_prefix, is_member_or_desig_dot}
use Rattle.line_tokens.specs.declared.role.Role.{Role}
use Rattle.line_tokens.specs.declared.role.Role.TheVariants.{IndexOpen, Postfix, LabelColon}
use Rattle.line_tokens.specs.declared.LineTok.{LineTok}
use Rattle.item_kinds.specs.declared.ItemKind.{ItemKind}
use Rattle.item_kinds.specs.declared.ItemKind.TheVariants.{LineComment}
use Rattle.style_table.specs.declared.style.Style.{Style}
use Rattle.style_table.specs.declared.style.SpaceBeforeParens.{SpaceBeforeParens}
use Rattle.style_table.specs.declared.style.SpaceBeforeParens.TheVariants.{Never, Always}
use Rattle.style_table.specs.declared.style.PointerAlignment.{PointerAlignment}
use Rattle.style_table.specs.declared.style.PointerAlignment.TheVariants.{Left, Right}

abbrev pub is_line_comment : ItemKind → Bool
is_line_comment LineComment = true
is_line_comment _ = false

abbrev pub is_never : SpaceBeforeParens → Bool
is_never Never = true
is_never _ = false

abbrev pub is_always : SpaceBeforeParens → Bool
is_always Always = true
is_always _ = false

abbrev pub is_left : PointerAlignment → Bool
is_left Left = true
is_left _ = false

abbrev pub is_right : PointerAlignment → Bool
is_right Right = true
is_right _ = false

-- what stands directly behind the token before it
abbrev pub is_attached : Role → Bool
is_attached IndexOpen = true
is_attached Postfix = true
is_attached LabelColon = true
is_attached _ = false

-- as many blanks as the input had, at most one
abbrev pub as_before : LineTok → ℕ
as_before right = if right.gap.empty then 0 else 1

-- one blank or none
abbrev pub one_if : Bool → ℕ
one_if holds = if holds then 1 else 0

-- the table's last rows: the blanks beside tokens that are no comments, commas or ends of brackets and lists
abbrev pub later_rows : Style → LineTok → LineTok → List (Bool × ℕ)
later_rows style left right =
    let l = left.role in
    let r = right.role in
    (is_ctrl_open r, one_if (not (is_never style.space_before_parens)))
    ∷ (is_call_or_decl_open r, one_if (is_always style.space_before_parens))
    ∷ (is_attached r, 0)
    ∷ (is_unary_or_prefix l, 0)
    ∷ (is_member_or_desig_dot l || is_member r, 0)
    ∷ (is_cast_close l, one_if style.space_after_c_style_cast)
    ∷ (is_pointer l && is_pointer r, 0)
    ∷ (is_pointer r, one_if (not (is_left style.pointer_alignment)))
    ∷ (is_pointer l, one_if (not (is_right style.pointer_alignment)))
    ∷ (is_asm_colon l && is_asm_colon r, as_before right)
    ∷ []

-- the table, a row a line
abbrev pub spaces_by_table : Style → LineTok → LineTok → ℕ
spaces_by_table style left right =
    let l = left.role in
    let r = right.role in
    first_row (
    (is_trailing r, if is_line_comment right.kind then style.spaces_before_trailing_comments else 1)
    ∷ (is_comma_or_semi r, 0)
    ∷ (is_bracket_open l || is_bracket_close r, 0)
    ∷ ((is_list_open l && is_list_close r) || (is_block_open l && is_block_close r), 0)
    ∷ (is_list_open l || is_list_close r, one_if (not style.cpp11_braced_list_style))
    ∷ (is_inner_or_stray l || is_inner_or_stray r, as_before right)
    ∷ later_rows style left right) 1

-- the table, but that a gap with bytes stays one where the two tokens may not touch
abbrev pub spaces_before : Style → LineTok → LineTok → ℕ
spaces_before style left right =
    let spaces = spaces_by_table style left right in
    if (spaces == 0) && not right.gap.empty && not right.touch then 1 else spaces
