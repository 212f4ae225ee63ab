-- The roles of the items of a directive's operand: docs/PROFILE.md, "Layout of directives" and "Roles".
use Rattle.std.specs.Prelude.{ℕ, ◌+◌, ◌-◌, ◌&&◌, Bool, true, false, nat_lt, List, [], ◌∷◌, if◌then◌else◌}
use Rattle.std.specs.List.{range_with_len}
use Rattle.line_tokens.specs.declared.LineTok.{LineTok}
use Rattle.token_arena.specs.Gaps.{Contents}
use Rattle.token_arena.specs.declared.directives.Directive.{Directive}
use Rattle.style_table.specs.declared.style.Style.{Style}
use Rattle.token_classes.specs.Partners.{partners_of}
use Rattle.item_classes.specs.Viewed.{classes_of}
use Rattle.line_tokens.specs.declared.line.ULine.{ULine}
use Rattle.line_tokens.specs.declared.line.LineKind.TheVariants.{Simple}
use Rattle.annotator.specs.Tokens.{roles_of}
use Rattle.directive_layout.specs.OperandStart.{operand_first}
use Rattle.directive_layout.specs.Staying.{staying_in}
use Rattle.directive_layout.specs.declared.staying.Staying.{Staying}
use Rattle.directive_layout.specs.declared.staying.Staying.TheVariants.{Nothing, BehindName, Body}

-- one line of so many items, as of a statement
abbrev pub one_line : ℕ → ULine
one_line count = record { first = 0; last = count - 1; level = 0; kind = Simple }

-- the roles of the items from one up to another as one such line, with the partners that their brackets have among
-- themselves
abbrev pub roles_between : Contents → ℕ → ℕ → List LineTok
roles_between arena first end =
    let ids = range_with_len first (end - first) in
    roles_of arena ids (partners_of (classes_of arena ids)) (one_line (end - first) ∷ [])

-- no gap of a directive keeps the input's bytes
abbrev pub is_free : Staying → Bool
is_free Nothing = true
is_free BehindName = false
is_free Body = false

-- Roles matter between two items of an operand whose gaps don't stay.
abbrev pub has_roles : Style → Contents → Directive → Bool
has_roles style arena dir = is_free (staying_in style arena dir) && nat_lt (operand_first arena dir + 1) dir.end

-- the roles of a directive's operand, where they matter
abbrev pub operand_roles : Style → Contents → Directive → List LineTok
operand_roles style arena dir =
    if has_roles style arena dir then roles_between arena (operand_first arena dir) dir.end else []
