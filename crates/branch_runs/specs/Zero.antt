-- The literal `#if 0` (C11 6.10.1): a condition whose operand, comments aside, is the one Number `0`.
use Rattle.std.specs.Prelude.{◌&&◌, ◌+◌, Bool, true, false, List, [], ◌∷◌, codes, if◌then◌else◌}
use Rattle.std.specs.List.{slice_range}
use Rattle.c_chars.specs.declared.Dialect.{Dialect}
use Rattle.c_grammar.specs.Grammar.{is_same}
use Rattle.c_grammar.specs.Touch.{is_number}
use Rattle.c_grammar.specs.Fitting.{is_comment}
use Rattle.token_arena.specs.Stored.{Stored}
use Rattle.token_arena.specs.Gaps.{Contents}
use Rattle.token_arena.specs.Directives.{spelling}
use Rattle.token_arena.specs.declared.directives.Directive.{Directive}
use Rattle.token_arena.specs.declared.directives.DirectiveKind.{DirectiveKind}
use Rattle.token_arena.specs.declared.directives.DirectiveKind.TheVariants.{If}

-- these items without the comments among them
abbrev pub without_comments : List Stored → List Stored
without_comments [] = []
without_comments (token ∷ tokens) =
    if is_comment token.kind then without_comments tokens else token ∷ without_comments tokens

-- it is the Number `0`, splices taken out
abbrev pub is_zero : Dialect → Stored → Bool
is_zero d token = is_number token.kind && is_same (spelling d token) (codes "0")

-- a name, then the Number `0`, and nothing else
abbrev pub is_name_and_zero : Dialect → List Stored → Bool
is_name_and_zero d (name ∷ operand ∷ []) = is_zero d operand
is_name_and_zero d _ = false

-- the directive that has these items behind its `#` has the one Number `0` for its operand, comments aside
abbrev pub tests_zero : Dialect → List Stored → Bool
tests_zero d behind = is_name_and_zero d (without_comments behind)

-- the directive is an `#if`
abbrev pub is_if : DirectiveKind → Bool
is_if If = true
is_if _ = false

-- it is a literal `#if 0`
abbrev pub is_if_zero : Contents → Directive → Bool
is_if_zero arena directive =
    is_if directive.kind && tests_zero arena.dialect (slice_range arena.tokens (directive.hash.0 + 1) directive.end)
