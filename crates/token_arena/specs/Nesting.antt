-- What a directive does to the conditionals around it (C11 6.10.1).
use Rattle.token_arena.specs.declared.directives.DirectiveKind.{DirectiveKind}
use Rattle.token_arena.specs.declared.directives.DirectiveKind.TheVariants.{If, Ifdef, Ifndef, Elif, Else, Endif}
use Rattle.token_arena.specs.declared.directives.DirectiveKind.TheVariants.{Include, Define, Undef, Line, Error, Pragma}
use Rattle.token_arena.specs.declared.directives.DirectiveKind.TheVariants.{Null, Unknown}
use Rattle.token_arena.specs.declared.directives.nesting.Nesting.{Nesting}
use Rattle.token_arena.specs.declared.directives.nesting.Nesting.TheVariants.{Opens, Branch, LastBranch, Ends, Flat}

-- If, Ifdef and Ifndef open a conditional, Elif begins a branch of it, Else its last branch, and Endif ends it.
abbrev pub nesting_of : DirectiveKind → Nesting
nesting_of If = Opens
nesting_of Ifdef = Opens
nesting_of Ifndef = Opens
nesting_of Elif = Branch
nesting_of Else = LastBranch
nesting_of Endif = Ends
nesting_of Include = Flat
nesting_of Define = Flat
nesting_of Undef = Flat
nesting_of Line = Flat
nesting_of Error = Flat
nesting_of Pragma = Flat
nesting_of Null = Flat
nesting_of Unknown = Flat
