-- Worked examples.
use Rattle.std.proofs.Common.{◌≡◌, ℕ, true, false, List, [], ◌∷◌, Option, refl}
use Rattle.token_classes.specs.declared.class.TokenClass.{TokenClass}
use Rattle.token_classes.specs.declared.class.TokenClass.TheVariants.{If, Else, TypeWord, PlainWord, OpenRound}
use Rattle.token_classes.specs.declared.class.TokenClass.TheVariants.{CloseRound, OpenBrace, CloseBrace, Semicolon}
use Rattle.statement_lines.specs.declared.token.CodeToken.{CodeToken}
use Rattle.line_tokens.specs.declared.line.LineKind.TheVariants.{Simple, Control, FuncHead, Close}
use Rattle.statement_lines.specs.declared.braces.Braces.{Braces}
use Rattle.token_classes.specs.Partners.{partners_of}
use Rattle.statement_lines.specs.Tree.{lines_of}

with_partners : List TokenClass → List (Option ℕ) → List CodeToken
with_partners [] ps = []
with_partners (c ∷ cs) [] = []
with_partners (c ∷ cs) (p ∷ ps) = record { class = c; began = false; touched = false; partner = p } ∷ with_partners cs ps

abbrev tokens_of : List TokenClass → List CodeToken
tokens_of cs = with_partners cs (partners_of cs)

abbrev attach : Braces
attach = record { after_case_label = false; after_control = false; after_enum = false; after_extern = false; after_function = false; after_struct = false; after_union = false; before_else = false; before_while = false; indent_case_labels = false; indent_goto_labels = true }

-- void f(void){if(x){g();}else h();}
abbrev text : List TokenClass
text = TypeWord ∷ PlainWord ∷ OpenRound ∷ TypeWord ∷ CloseRound ∷ OpenBrace
    ∷ If ∷ OpenRound ∷ PlainWord ∷ CloseRound ∷ OpenBrace ∷ PlainWord ∷ OpenRound ∷ CloseRound ∷ Semicolon ∷ CloseBrace
    ∷ Else ∷ PlainWord ∷ OpenRound ∷ CloseRound ∷ Semicolon ∷ CloseBrace ∷ []

example : lines_of attach (tokens_of text) ≡
    record { first = 0; end = 6; level = 0; kind = FuncHead; list_level = 0 }
    ∷ record { first = 6; end = 11; level = 1; kind = Control; list_level = 1 }
    ∷ record { first = 11; end = 15; level = 2; kind = Simple; list_level = 2 }
    ∷ record { first = 15; end = 17; level = 1; kind = Close; list_level = 2 }
    ∷ record { first = 17; end = 21; level = 2; kind = Simple; list_level = 2 }
    ∷ record { first = 21; end = 22; level = 0; kind = Close; list_level = 1 }
    ∷ []
unfolding with_partners
example = refl
