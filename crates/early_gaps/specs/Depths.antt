-- Inside how many conditionals a directive stands (C11 6.10p1): docs/PROFILE.md, "Layout of directives". "Runs" there
-- says what a directive does.
use Rattle.std.specs.Prelude.{ℕ, Bool, true, false, List, [], ◌∷◌, length}
use Rattle.token_arena.specs.declared.directives.nesting.Nesting.{Nesting}
use Rattle.token_arena.specs.declared.directives.nesting.Nesting.TheVariants.{Opens, Branch, LastBranch, Ends, Flat}

-- The open conditionals are told by a list, the innermost first: of each whether its last branch, that of its `#else`,
-- has begun.

-- those that stand around the innermost; an end that fits no open conditional stands inside none
abbrev pub around_innermost : List Bool → List Bool
around_innermost [] = []
around_innermost (innermost ∷ outer) = outer

-- those around what begins a branch: it does nothing behind the last one, and stands inside all of them
abbrev pub around_branch : List Bool → List Bool
around_branch [] = []
around_branch (true ∷ outer) = true ∷ outer
around_branch (false ∷ outer) = outer

-- the conditionals around a directive that does this where these are open
abbrev pub around : Nesting → List Bool → List Bool
around Opens conditionals = conditionals
around Branch conditionals = around_branch conditionals
around LastBranch conditionals = around_branch conditionals
around Ends conditionals = around_innermost conditionals
around Flat conditionals = conditionals

-- inside how many it stands
abbrev pub depth_in : Nesting → List Bool → ℕ
depth_in nesting conditionals = length (around nesting conditionals)

-- the last branch of the innermost begins
abbrev pub with_last : List Bool → List Bool
with_last [] = []
with_last (innermost ∷ outer) = true ∷ outer

-- the conditionals that are open behind such a directive
abbrev pub open_behind : Nesting → List Bool → List Bool
open_behind Opens conditionals = false ∷ conditionals
open_behind Branch conditionals = conditionals
open_behind LastBranch conditionals = with_last conditionals
open_behind Ends conditionals = around_innermost conditionals
open_behind Flat conditionals = conditionals
