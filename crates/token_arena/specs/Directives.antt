-- What a directive is, by its items (C11 6.10).
use Rattle.std.specs.Prelude.{◌&&◌, not, Bool, false, ℕ, List, [], ◌∷◌, codes, if◌then◌else◌}
use Rattle.c_chars.specs.declared.Dialect.{Dialect}
use Rattle.c_grammar.specs.Grammar.{is_same}
use Rattle.c_grammar.specs.Items.{is_hash}
use Rattle.c_grammar.specs.Touch.{is_identifier, is_punct}
use Rattle.c_grammar.specs.Fitting.{is_comment}
use Rattle.c_grammar.specs.Rewritten.{read_alone}
use Rattle.token_arena.specs.Stored.{Stored}
use Rattle.token_arena.specs.declared.directives.DirectiveKind.{DirectiveKind}
use Rattle.token_arena.specs.declared.directives.DirectiveKind.TheVariants.{If, Ifdef, Ifndef, Elif, Else, Endif}
use Rattle.token_arena.specs.declared.directives.DirectiveKind.TheVariants.{Include, Define, Undef, Line, Error, Pragma}
use Rattle.token_arena.specs.declared.directives.DirectiveKind.TheVariants.{Null, Unknown}

-- how an item is spelled, splices taken out and trigraphs replaced
abbrev pub spelling : Dialect → Stored → List ℕ
spelling d token = read_alone d token.raw

-- it is a `#`, or the digraph that spells it
abbrev pub is_hash_token : Dialect → Stored → Bool
is_hash_token d token = is_punct token.kind && is_hash (spelling d token)

-- the directive of this name, 6.10p1
abbrev pub kind_named : List ℕ → DirectiveKind
kind_named s =
    if is_same s (codes "if") then If
    else (if is_same s (codes "ifdef") then Ifdef
    else (if is_same s (codes "ifndef") then Ifndef
    else (if is_same s (codes "elif") then Elif
    else (if is_same s (codes "else") then Else
    else (if is_same s (codes "endif") then Endif
    else (if is_same s (codes "include") then Include
    else (if is_same s (codes "define") then Define
    else (if is_same s (codes "undef") then Undef
    else (if is_same s (codes "line") then Line
    else (if is_same s (codes "error") then Error
    else (if is_same s (codes "pragma") then Pragma
    else Unknown)))))))))))

-- these items from the first that is no comment on
abbrev pub past_comments : List Stored → List Stored
past_comments [] = []
past_comments (token ∷ tokens) = if is_comment token.kind then past_comments tokens else token ∷ tokens

-- the kind of a directive whose `#` is followed by these items, of which the first is no comment
abbrev pub kind_by_name : Dialect → List Stored → DirectiveKind
kind_by_name d [] = Null
kind_by_name d (name ∷ tokens) = if is_identifier name.kind then kind_named (spelling d name) else Unknown

-- the kind of the directive that has these items behind its `#`: its name is the first that is no comment
abbrev pub kind_behind : Dialect → List Stored → DirectiveKind
kind_behind d tokens = kind_by_name d (past_comments tokens)

-- it is a `(`
abbrev pub is_opening : Dialect → Stored → Bool
is_opening d token = is_punct token.kind && is_same (spelling d token) (codes "(")

-- the first of these items is a `(` with no white space before it; a splice is none, 6.10.3p10
abbrev pub opens_parameters : Dialect → List Stored → Bool
opens_parameters d [] = false
opens_parameters d (token ∷ tokens) = not token.gap.white && is_opening d token

-- the first of these items is the name of a macro, and directly behind it its parameters open
abbrev pub heads_function : Dialect → List Stored → Bool
heads_function d [] = false
heads_function d (name ∷ tokens) = is_identifier name.kind && opens_parameters d tokens

-- the first of these items is `define`, and the next that is no comment heads a function-like macro
abbrev pub is_function_definition : Dialect → List Stored → Bool
is_function_definition d [] = false
is_function_definition d (name ∷ tokens) =
    is_identifier name.kind && (is_same (spelling d name) (codes "define") && heads_function d (past_comments tokens))

-- the directive that has these items behind its `#` defines a function-like macro
abbrev pub defines_function : Dialect → List Stored → Bool
defines_function d tokens = is_function_definition d (past_comments tokens)
