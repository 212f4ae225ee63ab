-- Sets of roles: the tests that the tables of spaces, breaks and joined lines are made of.
use Rattle.std.specs.Prelude.{Bool, true, false}
use Rattle.line_tokens.specs.declared.role.Role.{Role}
use Rattle.line_tokens.specs.declared.role.Role.TheVariants.{Own, Trailing, Inner, CtrlOpen, CallOpen, CastOpen}
use Rattle.line_tokens.specs.declared.role.Role.TheVariants.{DeclOpen, GroupOpen, IndexOpen, DesigOpen, ListOpen}
use Rattle.line_tokens.specs.declared.role.Role.TheVariants.{BlockOpen, CtrlClose, CallClose, CastClose, DeclClose}
use Rattle.line_tokens.specs.declared.role.Role.TheVariants.{GroupClose, IndexClose, DesigClose, ListClose, BlockClose}
use Rattle.line_tokens.specs.declared.role.Role.TheVariants.{Pointer, Unary, Binary, Prefix, Assign, Question}
use Rattle.line_tokens.specs.declared.role.Role.TheVariants.{TernColon, AsmColon, DesigDot, Member, Comma, Semi}
use Rattle.line_tokens.specs.declared.role.Role.TheVariants.{DeclName, Stray}

abbrev pub is_own : Role → Bool
is_own Own = true
is_own _ = false

abbrev pub is_trailing : Role → Bool
is_trailing Trailing = true
is_trailing _ = false

abbrev pub is_ctrl_open : Role → Bool
is_ctrl_open CtrlOpen = true
is_ctrl_open _ = false

abbrev pub is_cast_close : Role → Bool
is_cast_close CastClose = true
is_cast_close _ = false

abbrev pub is_ctrl_close : Role → Bool
is_ctrl_close CtrlClose = true
is_ctrl_close _ = false

abbrev pub is_list_open : Role → Bool
is_list_open ListOpen = true
is_list_open _ = false

abbrev pub is_list_close : Role → Bool
is_list_close ListClose = true
is_list_close _ = false

abbrev pub is_block_open : Role → Bool
is_block_open BlockOpen = true
is_block_open _ = false

abbrev pub is_block_close : Role → Bool
is_block_close BlockClose = true
is_block_close _ = false

abbrev pub is_decl_open : Role → Bool
is_decl_open DeclOpen = true
is_decl_open _ = false

abbrev pub is_pointer : Role → Bool
is_pointer Pointer = true
is_pointer _ = false

abbrev pub is_binary : Role → Bool
is_binary Binary = true
is_binary _ = false

abbrev pub is_assign : Role → Bool
is_assign Assign = true
is_assign _ = false

abbrev pub is_comma : Role → Bool
is_comma Comma = true
is_comma _ = false

abbrev pub is_decl_name : Role → Bool
is_decl_name DeclName = true
is_decl_name _ = false

abbrev pub is_member : Role → Bool
is_member Member = true
is_member _ = false

abbrev pub is_asm_colon : Role → Bool
is_asm_colon AsmColon = true
is_asm_colon _ = false

-- a `)`
abbrev pub is_round_close : Role → Bool
is_round_close CtrlClose = true
is_round_close CallClose = true
is_round_close CastClose = true
is_round_close DeclClose = true
is_round_close GroupClose = true
is_round_close _ = false

-- a `(` or a `[`
abbrev pub is_bracket_open : Role → Bool
is_bracket_open CtrlOpen = true
is_bracket_open CallOpen = true
is_bracket_open CastOpen = true
is_bracket_open DeclOpen = true
is_bracket_open GroupOpen = true
is_bracket_open IndexOpen = true
is_bracket_open DesigOpen = true
is_bracket_open _ = false

-- a `)` or a `]`
abbrev pub is_bracket_close : Role → Bool
is_bracket_close CtrlClose = true
is_bracket_close CallClose = true
is_bracket_close CastClose = true
is_bracket_close DeclClose = true
is_bracket_close GroupClose = true
is_bracket_close IndexClose = true
is_bracket_close DesigClose = true
is_bracket_close _ = false

-- the `(` of a call or of a declared function
abbrev pub is_call_or_decl_open : Role → Bool
is_call_or_decl_open CallOpen = true
is_call_or_decl_open DeclOpen = true
is_call_or_decl_open _ = false

-- the `(` of a header, or one of no other role
abbrev pub is_ctrl_or_group_open : Role → Bool
is_ctrl_or_group_open CtrlOpen = true
is_ctrl_or_group_open GroupOpen = true
is_ctrl_or_group_open _ = false

-- a `,` or a `;`
abbrev pub is_comma_or_semi : Role → Bool
is_comma_or_semi Comma = true
is_comma_or_semi Semi = true
is_comma_or_semi _ = false

-- a comment inside a line, or what is no token of C
abbrev pub is_inner_or_stray : Role → Bool
is_inner_or_stray Inner = true
is_inner_or_stray Stray = true
is_inner_or_stray _ = false

-- an operator before its only operand
abbrev pub is_unary_or_prefix : Role → Bool
is_unary_or_prefix Unary = true
is_unary_or_prefix Prefix = true
is_unary_or_prefix _ = false

-- the operator before a member or a designator
abbrev pub is_member_or_desig_dot : Role → Bool
is_member_or_desig_dot Member = true
is_member_or_desig_dot DesigDot = true
is_member_or_desig_dot _ = false

-- the `?` or the `:` of a conditional
abbrev pub is_ternary : Role → Bool
is_ternary Question = true
is_ternary TernColon = true
is_ternary _ = false
