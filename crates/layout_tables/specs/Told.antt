-- What two roles tell of the blanks between them. The rows of the table fall into ten groups, in order:
--   0 what the roles alone don't tell, 1 what stands inside brackets and before commas, 2 lists, 3 inner comments, 4
-- headers, 5 calls, 6 what is attached, 7 casts, 8 pointers, 9 no row
use Rattle.std.specs.Prelude.{ℕ, ◌≡◌, ◌≤◌, Bool, ◌||◌, if◌then◌else◌, List, slice_index_or, min}
use Rattle.line_tokens.specs.Roles.{is_trailing, is_ctrl_open, is_list_open, is_list_close, is_block_close}
use Rattle.line_tokens.specs.Roles.{is_cast_close, is_pointer, is_asm_colon, is_member, is_bracket_open}
use Rattle.line_tokens.specs.Roles.{is_bracket_close, is_comma_or_semi, is_inner_or_stray, is_call_or_decl_open}
use Rattle.line_tokens.specs.Roles.{is_unary_or_prefix, is_member_or_desig_dot}
use Rattle.line_tokens.specs.declared.LineTok.{LineTok}
use Rattle.line_tokens.specs.declared.role.Role.{Role}
use Rattle.style_table.specs.declared.style.Style.{Style}
use Rattle.layout_tables.specs.Spaces.{is_attached, spaces_by_table}

-- the first group of which a row may hold behind a token with this role
abbrev pub group_behind : Role → ℕ
group_behind l =
    if is_bracket_open l then 1 else
    if is_list_open l then 2 else
    if is_inner_or_stray l then 3 else
    if is_unary_or_prefix l || is_member_or_desig_dot l then 6 else
    if is_cast_close l then 7 else
    if is_pointer l then 8 else 9

-- before a token with this role the other one, or more than the roles, may count
abbrev pub asks_more : Role → Bool
asks_more r =
    is_trailing r
    || (is_list_close r || (is_block_close r || (is_inner_or_stray r || (is_pointer r || is_asm_colon r))))

-- the first group of which a row may hold before a token with this role
abbrev pub group_before : Role → ℕ
group_before r =
    if asks_more r then 0 else
    if is_comma_or_semi r || is_bracket_close r then 1 else
    if is_ctrl_open r then 4 else
    if is_call_or_decl_open r then 5 else
    if is_attached r || is_member r then 6 else 9

-- what these blanks of the groups say between two tokens: more than one blank where they don't tell it
abbrev pub blanks_between : List ℕ → LineTok → LineTok → ℕ
blanks_between of_group left right = slice_index_or of_group (min (group_behind left.role) (group_before right.role)) 0

-- they say what the table says, or nothing
abbrev pub TellBlanks : Style → List ℕ → Type 0
TellBlanks style of_group =
    (left right : LineTok) → blanks_between of_group left right ≤ 1 →
    spaces_by_table style left right ≡ blanks_between of_group left right
