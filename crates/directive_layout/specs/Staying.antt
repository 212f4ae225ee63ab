-- Which gaps of a directive keep the input's bytes: docs/PROFILE.md, "Layout of directives".
use Rattle.std.specs.Prelude.{◌&&◌, not, Bool, true, false, if◌then◌else◌}
use Rattle.c_chars.specs.declared.Dialect.{Dialect}
use Rattle.token_arena.specs.Stored.{Stored}
use Rattle.token_arena.specs.Gaps.{Contents}
use Rattle.token_arena.specs.Keeping.{behind_of, keeps_after_name}
use Rattle.token_arena.specs.declared.directives.Directive.{Directive}
use Rattle.token_arena.specs.declared.directives.DirectiveKind.{DirectiveKind}
use Rattle.token_arena.specs.declared.directives.DirectiveKind.TheVariants.{Define}
use Rattle.style_table.specs.declared.style.Style.{Style}
use Rattle.directive_layout.specs.Parts.{opens_list}
use Rattle.directive_layout.specs.declared.part.HeadPart.{HeadPart}
use Rattle.directive_layout.specs.declared.part.HeadPart.TheVariants.{Before, Hash, BeforeName, Name, BeforeMacro}
use Rattle.directive_layout.specs.declared.part.HeadPart.TheVariants.{Nameless, Macro, Opening, Parameter, Closing}
use Rattle.directive_layout.specs.declared.part.HeadPart.TheVariants.{Operand}
use Rattle.directive_layout.specs.declared.staying.Staying.{Staying}
use Rattle.directive_layout.specs.declared.staying.Staying.TheVariants.{Nothing, BehindName, Body}

-- behind the name of a directive
abbrev pub is_behind_name : HeadPart → Bool
is_behind_name Before = false
is_behind_name Hash = false
is_behind_name BeforeName = false
is_behind_name Name = true
is_behind_name BeforeMacro = false
is_behind_name Nameless = false
is_behind_name Macro = false
is_behind_name Opening = false
is_behind_name Parameter = false
is_behind_name Closing = false
is_behind_name Operand = true

-- Directly before a body or in it, behind an item of a definition that is this part: a body follows the macro's name or
-- the list of its parameters.
abbrev pub is_body_gap : Dialect → HeadPart → Stored → Bool
is_body_gap d Before token = false
is_body_gap d Hash token = false
is_body_gap d BeforeName token = false
is_body_gap d Name token = false
is_body_gap d BeforeMacro token = false
is_body_gap d Nameless token = false
is_body_gap d Macro token = not (opens_list d token)
is_body_gap d Opening token = false
is_body_gap d Parameter token = false
is_body_gap d Closing token = true
is_body_gap d Operand token = true

-- the gap before an item, behind one that is this part, stays
abbrev pub stays : Dialect → Staying → HeadPart → Stored → Bool
stays d Nothing part token = false
stays d BehindName part token = is_behind_name part
stays d Body part token = is_body_gap d part token

-- it defines a macro
abbrev pub is_definition : DirectiveKind → Bool
is_definition Define = true
is_definition _ = false

-- which gaps of a directive stay: those behind its name, or a macro's body where the style skips it
abbrev pub staying_in : Style → Contents → Directive → Staying
staying_in style arena dir =
    if keeps_after_name arena.dialect dir.kind (behind_of arena dir) then BehindName
    else (if style.skip_macro_definition_body && is_definition dir.kind then Body else Nothing)
