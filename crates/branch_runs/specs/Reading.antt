-- How the conditionals are read from the marks of the sections. docs/PROFILE.md, "Runs", says the rules.
use Rattle.std.specs.Prelude.{ℕ, true, false, List, [], ◌∷◌}
use Rattle.branch_runs.specs.declared.mark.MarkKind.{MarkKind}
use Rattle.branch_runs.specs.declared.mark.MarkKind.TheVariants.{Text, IfZero, Opens, Branch, LastBranch, Ends, Flat}
use Rattle.branch_runs.specs.declared.mark.Mark.{Mark}
use Rattle.branch_runs.specs.declared.mark.Open.{Open}
use Rattle.branch_runs.specs.declared.mark.Open.TheVariants.{Zero, Live, Last}
use Rattle.branch_runs.specs.Tree.{Group, Branches, nothing, text, conditional, none, branch}

-- First, what has no effect is taken for a flat directive.

-- What a section does where these conditionals are open, the innermost first: a branch or an end that fits no open
-- conditional does nothing, nor does a branch behind the last one.
abbrev pub kind_in : MarkKind → List Open → MarkKind
kind_in Branch [] = Flat
kind_in Branch (Last ∷ outer) = Flat
kind_in LastBranch [] = Flat
kind_in LastBranch (Last ∷ outer) = Flat
kind_in Ends [] = Flat
kind_in kind outer = kind

-- the conditionals that are open behind a section that does this
abbrev pub open_after : MarkKind → List Open → List Open
open_after IfZero outer = Zero ∷ outer
open_after Opens outer = Live ∷ outer
open_after Branch (_ ∷ outer) = Live ∷ outer
open_after LastBranch (_ ∷ outer) = Last ∷ outer
open_after Ends (_ ∷ outer) = outer
open_after kind outer = outer

-- a mark with what its section does where these conditionals are open
abbrev pub effect_in : List Open → Mark → Mark
effect_in outer mark = record { first = mark.first; end = mark.end; kind = kind_in mark.kind outer }

abbrev pub effects_in : List Open → List Mark → List Mark
effects_in outer [] = []
effects_in outer (mark ∷ marks) = effect_in outer mark ∷ effects_in (open_after (kind_in mark.kind outer) outer) marks

-- the marks of a text, each with what its section does where it stands
abbrev pub effects : List Mark → List Mark
effects = effects_in []

-- Then the groups are read from the last section to the first.

-- What follows around the innermost group at a place: for each open conditional, the innermost first, the branches that
-- follow in it, and the rest of the group that it stands in.
abbrev pub Around : Type 0
Around = List (Branches × Group)

-- what follows in the innermost conditional; one without an end ends at the end of the text
abbrev pub branches_of : Around → Branches
branches_of [] = none
branches_of (level ∷ around) = level.0

-- the rest of the group that the innermost conditional stands in
abbrev pub group_of : Around → Group
group_of [] = nothing
group_of (level ∷ around) = level.1

-- what follows around that group
abbrev pub outside : Around → Around
outside [] = []
outside (level ∷ around) = around

-- the rest of the innermost group and what follows around it, from a section on, where these are the same from behind
-- it on
abbrev pub rest_with : MarkKind → ℕ → ℕ → Group → Around → Group × Around
rest_with Text first end group around = (text first end group, around)
rest_with Flat first end group around = (group, around)
rest_with IfZero first end group around =
    (conditional (branch false group (branches_of around)) (group_of around), outside around)
rest_with Opens first end group around =
    (conditional (branch true group (branches_of around)) (group_of around), outside around)
rest_with Branch first end group around =
    (nothing, (branch true group (branches_of around), group_of around) ∷ outside around)
rest_with LastBranch first end group around =
    (nothing, (branch true group (branches_of around), group_of around) ∷ outside around)
rest_with Ends first end group around = (nothing, (none, group) ∷ around)

abbrev pub rest_of : List Mark → Group × Around
rest_of [] = (nothing, [])
rest_of (mark ∷ marks) = rest_with mark.kind mark.first mark.end (rest_of marks).0 (rest_of marks).1

-- the group that sections make which do what their marks say
abbrev pub read : List Mark → Group
read marks = (rest_of marks).0

-- the group that all sections of a text make
abbrev pub tree_of : List Mark → Group
tree_of marks = read (effects marks)
