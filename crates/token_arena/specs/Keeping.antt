-- Which gaps behind the name of a directive are kept as they are.
use Rattle.std.specs.Prelude.{◌&&◌, not, ◌+◌, Bool, true, false, List, [], ◌∷◌, drop, codes}
use Rattle.std.specs.List.{filter, list_any, slice_range}
use Rattle.c_chars.specs.declared.Dialect.{Dialect}
use Rattle.item_kinds.specs.declared.ItemKind.{ItemKind}
use Rattle.item_kinds.specs.declared.ItemKind.TheVariants.{HeaderName, StringLit}
use Rattle.c_grammar.specs.Fitting.{is_comment}
use Rattle.c_grammar.specs.Touch.{is_identifier, is_front}
use Rattle.token_arena.specs.Stored.{Stored}
use Rattle.token_arena.specs.Gaps.{Contents}
use Rattle.token_arena.specs.Directives.{spelling}
use Rattle.token_arena.specs.declared.directives.Directive.{Directive}
use Rattle.token_arena.specs.declared.directives.DirectiveKind.{DirectiveKind}
use Rattle.token_arena.specs.declared.directives.DirectiveKind.TheVariants.{If, Ifdef, Ifndef, Elif, Else, Endif}
use Rattle.token_arena.specs.declared.directives.DirectiveKind.TheVariants.{Include, Define, Undef, Line, Error, Pragma}
use Rattle.token_arena.specs.declared.directives.DirectiveKind.TheVariants.{Null, Unknown}

-- the items of a directive behind its `#`
abbrev pub behind_of : Contents → Directive → List Stored
behind_of arena dir = slice_range arena.tokens (dir.hash.0 + 1) dir.end

-- the items that are no comments
abbrev pub without_comments : List Stored → List Stored
without_comments tokens = filter (λ token. not (is_comment token.kind)) tokens

-- a header name or a string literal
abbrev pub is_file_name : ItemKind → Bool
is_file_name HeaderName = true
is_file_name StringLit = true
is_file_name _ = false

-- these items are one file name
abbrev pub is_one_file_name : List Stored → Bool
is_one_file_name [] = false
is_one_file_name (token ∷ []) = is_file_name token.kind
is_one_file_name (token ∷ next ∷ tokens) = false

-- the operand of a directive that has these items behind its `#`: what stands behind its name, comments aside
abbrev pub operand : List Stored → List Stored
operand behind = drop 1 (without_comments behind)

-- it is an identifier that begins with `__has_`
abbrev pub asks_whether_there : Dialect → Stored → Bool
asks_whether_there d token = is_identifier token.kind && is_front (codes "__has_") (spelling d token)

-- The gaps behind its name are kept in an include whose operand isn't one header name or one string literal, in a
-- pragma, an error, a line and an unknown directive, and in a condition that names an identifier beginning with
-- `__has_`; the items are those behind the directive's `#`.
abbrev pub keeps_after_name : Dialect → DirectiveKind → List Stored → Bool
keeps_after_name d Include behind = not (is_one_file_name (operand behind))
keeps_after_name d Pragma behind = true
keeps_after_name d Error behind = true
keeps_after_name d Line behind = true
keeps_after_name d Unknown behind = true
keeps_after_name d If behind = list_any (asks_whether_there d) behind
keeps_after_name d Elif behind = list_any (asks_whether_there d) behind
keeps_after_name d Ifdef behind = list_any (asks_whether_there d) behind
keeps_after_name d Ifndef behind = list_any (asks_whether_there d) behind
keeps_after_name d Else behind = false
keeps_after_name d Endif behind = false
keeps_after_name d Define behind = false
keeps_after_name d Undef behind = false
keeps_after_name d Null behind = false
