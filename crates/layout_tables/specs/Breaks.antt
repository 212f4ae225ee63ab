-- Whether a row may end between two tokens, and what that costs: the table of docs/PROFILE.md, "Breaks".
use Rattle.std.specs.Prelude.{ℕ, ◌+◌, ◌-◌, ◌*◌, Bool, true, false, ◌&&◌, ◌||◌, not, ◌==◌, if◌then◌else◌, List, [], ◌∷◌}
use Rattle.line_tokens.specs.Table.{first_row}
use Rattle.line_tokens.specs.Roles.{is_own, is_decl_name, is_call_or_decl_open, is_ctrl_or_group_open, is_comma_or_semi}
use Rattle.line_tokens.specs.Roles.{is_list_open, is_assign, is_binary, is_ternary, is_round_close, is_member}
use Rattle.line_tokens.specs.Roles.{is_asm_colon}
use Rattle.line_tokens.specs.declared.role.Role.{Role}
use Rattle.line_tokens.specs.declared.role.Role.TheVariants.{Trailing, CtrlOpen, CallOpen, DeclOpen, IndexOpen}
use Rattle.line_tokens.specs.declared.role.Role.TheVariants.{DesigOpen, BlockOpen, CtrlClose, CallClose, CastClose}
use Rattle.line_tokens.specs.declared.role.Role.TheVariants.{DeclClose, GroupClose, IndexClose, ListClose, Pointer}
use Rattle.line_tokens.specs.declared.role.Role.TheVariants.{Unary, Prefix, Postfix, LabelColon, DesigDot, Member}
use Rattle.line_tokens.specs.declared.role.Role.TheVariants.{Comma, Semi}
use Rattle.line_tokens.specs.declared.LineTok.{LineTok}
use Rattle.item_kinds.specs.declared.ItemKind.{ItemKind}
use Rattle.item_kinds.specs.declared.ItemKind.TheVariants.{LineComment, StrayQuote, StringLit}
use Rattle.style_table.specs.declared.style.Style.{Style}
use Rattle.style_table.specs.declared.style.BreakBeforeBinaryOperators.{BreakBeforeBinaryOperators}
use Rattle.style_table.specs.declared.style.BreakBeforeBinaryOperators.TheVariants.{All, None as Behind}
use Rattle.layout_tables.specs.declared.penalties.Break.{Break}
use Rattle.layout_tables.specs.declared.penalties.Break.TheVariants.{Must, Not, Costs}
use Rattle.layout_tables.specs.declared.penalties.GapRule.{GapRule}

-- what reaches to the end of its line
abbrev pub ends_its_row : ItemKind → Bool
ends_its_row LineComment = true
ends_its_row StrayQuote = true
ends_its_row _ = false

abbrev pub is_string : ItemKind → Bool
is_string StringLit = true
is_string _ = false

-- binary operators and assignments begin rows
abbrev pub is_all : BreakBeforeBinaryOperators → Bool
is_all All = true
is_all _ = false

-- binary operators end rows
abbrev pub is_behind : BreakBeforeBinaryOperators → Bool
is_behind Behind = true
is_behind _ = false

-- what no row begins with
abbrev pub is_never_first : Role → Bool
is_never_first Comma = true
is_never_first Semi = true
is_never_first Trailing = true
is_never_first CtrlOpen = true
is_never_first CallOpen = true
is_never_first DeclOpen = true
is_never_first IndexOpen = true
is_never_first IndexClose = true
is_never_first CtrlClose = true
is_never_first CallClose = true
is_never_first CastClose = true
is_never_first DeclClose = true
is_never_first GroupClose = true
is_never_first ListClose = true
is_never_first Postfix = true
is_never_first LabelColon = true
is_never_first BlockOpen = true
is_never_first _ = false

-- what no row ends with
abbrev pub is_never_last : Role → Bool
is_never_last Unary = true
is_never_last Prefix = true
is_never_last CastClose = true
is_never_last Pointer = true
is_never_last IndexOpen = true
is_never_last DesigOpen = true
is_never_last Member = true
is_never_last DesigDot = true
is_never_last _ = false

-- an assignment breaks before its operator where operators of all kinds begin rows, and otherwise
-- behind it where no list follows
abbrev pub is_assignment_gap : Style → LineTok → LineTok → Bool
is_assignment_gap style left right =
    if is_all style.break_before_binary_operators then is_assign right.role
    else is_assign left.role && not (is_list_open right.role)

-- the token that a binary operator is looked for at
abbrev pub operator_side : Style → LineTok → LineTok → LineTok
operator_side style left right = if is_behind style.break_before_binary_operators then left else right

-- the token that `?` or its `:` is looked for at
abbrev pub ternary_side : Style → LineTok → LineTok → LineTok
ternary_side style left right = if style.break_before_ternary_operators then right else left

-- the table's last rows: gaps where a row may end by the roles of both tokens, and what that costs
abbrev pub cost_rows : Style → LineTok → LineTok → List (Bool × Break)
cost_rows style left right =
    let l = left.role in
    let r = right.role in (
      is_call_or_decl_open l,
      Costs
          (style.penalty_break_before_first_call_parameter + style.penalty_break_open_parenthesis),
    )
    ∷ (is_ctrl_or_group_open l, Costs (100 + style.penalty_break_open_parenthesis))
    ∷ (is_comma_or_semi l, Costs 1)
    ∷ (is_list_open l, Costs 10)
    ∷ (is_assignment_gap style left right, Costs style.penalty_break_assignment)
    ∷ (is_binary (operator_side style left right).role, Costs (operator_side style left right).power)
    ∷ (is_ternary (ternary_side style left right).role, Costs 3)
    ∷ (is_string left.kind && is_string right.kind, Costs 10)
    ∷ (is_round_close l && is_member r, Costs 150)
    ∷ (is_asm_colon r && not (is_asm_colon l), Costs 1)
    ∷ []

-- the table, a row a line
abbrev pub break_by_table : Style → LineTok → LineTok → Break
break_by_table style left right =
    let l = left.role in
    let r = right.role in
    first_row (
    (right.directive || ends_its_row left.kind || is_own r, Must)
    ∷ (right.trailing_list, Must)
    ∷ (style.column_limit == 0, if right.gap.lines == 0 then Not else Must)
    ∷ (right.held, Not)
    ∷ (is_decl_name r, Costs style.penalty_return_type_on_its_own_line)
    ∷ (is_never_first r, Not)
    ∷ (is_never_last l, Not)
    ∷ cost_rows style left right) Not

-- the number in a row
abbrev pub cost_in : Break → ℕ
cost_in (Costs cost) = cost
cost_in _ = 0

-- what a row says of a gap at this depth: a break costs 20 more for each bracket beyond the first
abbrev pub rule_at : ℕ → Break → GapRule
rule_at depth Must = record { can = true; must = true; cost = 0 }
rule_at depth Not = record { can = false; must = false; cost = 0 }
rule_at depth (Costs cost) = record { can = true; must = false; cost = cost + 20 * (depth - 1) }

abbrev pub gap_rule : Style → LineTok → LineTok → GapRule
gap_rule style left right = rule_at right.depth (break_by_table style left right)
