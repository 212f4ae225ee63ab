-- Small texts with their runs and views. Each section is one item, so its number is the item's.
use Rattle.std.proofs.Common.{◌≡◌, ℕ, suc, true, false, List, [], ◌∷◌, map, refl}
use Rattle.branch_runs.specs.declared.mark.MarkKind.{MarkKind}
use Rattle.branch_runs.specs.declared.mark.MarkKind.TheVariants.{Text, IfZero, Opens, Branch, LastBranch, Ends}
use Rattle.branch_runs.specs.declared.mark.Mark.{Mark}
use Rattle.branch_runs.specs.Reading.{tree_of}
use Rattle.branch_runs.specs.Runs.{need, view_of}
use Rattle.branch_runs.specs.Dead.{is_dead}
use Rattle.branch_runs.specs.Seen.{seen_texts}

abbrev marks_from : ℕ → List MarkKind → List Mark
marks_from i [] = []
marks_from i (k ∷ kinds) = record { first = i; end = suc i; kind = k } ∷ marks_from (suc i) kinds

abbrev marks : List MarkKind → List Mark
marks = marks_from 0

abbrev runs : List MarkKind → ℕ
runs kinds = need (tree_of (marks kinds))

abbrev view : List MarkKind → ℕ → List ℕ
view kinds r = view_of (tree_of (marks kinds)) r

-- the first run that sees each text
abbrev begins : List MarkKind → List ℕ
begins kinds = map (λ seen. seen.from) (seen_texts (tree_of (marks kinds)) 0 (runs kinds))

-- the first run behind the last that sees each text
abbrev ends : List MarkKind → List ℕ
ends kinds = map (λ seen. seen.till) (seen_texts (tree_of (marks kinds)) 0 (runs kinds))

-- the example of docs/PROFILE.md, "Runs"
abbrev page : List MarkKind
page = Opens ∷ Text ∷ Opens ∷ Text ∷ LastBranch ∷ Text ∷ Ends ∷ LastBranch ∷ Text ∷ Ends ∷ Opens ∷ Text ∷ Ends ∷ []

page-runs : runs page ≡ 3
page-runs = refl

page-0 : view page 0 ≡ 1 ∷ 3 ∷ 11 ∷ []
page-0 = refl

page-1 : view page 1 ≡ 1 ∷ 5 ∷ 11 ∷ []
page-1 = refl

page-2 : view page 2 ≡ 8 ∷ 11 ∷ []
page-2 = refl

page-begins : begins page ≡ 0 ∷ 0 ∷ 1 ∷ 2 ∷ 0 ∷ []
page-begins = refl

page-ends : ends page ≡ 2 ∷ 1 ∷ 2 ∷ 3 ∷ 3 ∷ []
page-ends = refl

-- two conditionals, one behind another: one with two branches, and one with three
abbrev two : List MarkKind
two = Opens ∷ Text ∷ LastBranch ∷ Text ∷ Ends ∷ Text ∷ Opens ∷ Text ∷ Branch ∷ Text ∷ Branch ∷ Text ∷ Ends ∷ []

two-runs : runs two ≡ 3
two-runs = refl

two-0 : view two 0 ≡ 1 ∷ 5 ∷ 7 ∷ []
two-0 = refl

two-1 : view two 1 ≡ 3 ∷ 5 ∷ 9 ∷ []
two-1 = refl

two-2 : view two 2 ≡ 3 ∷ 5 ∷ 11 ∷ []
two-2 = refl

two-begins : begins two ≡ 0 ∷ 1 ∷ 0 ∷ 0 ∷ 1 ∷ 2 ∷ []
two-begins = refl

-- one inside the other's first branch, with three branches
abbrev nested : List MarkKind
nested = Opens ∷ Text ∷ Opens ∷ Text ∷ Branch ∷ Text ∷ LastBranch ∷ Text ∷ Ends ∷ LastBranch ∷ Text ∷ Ends ∷ []

nested-runs : runs nested ≡ 4
nested-runs = refl

nested-2 : view nested 2 ≡ 1 ∷ 7 ∷ []
nested-2 = refl

nested-3 : view nested 3 ≡ 10 ∷ []
nested-3 = refl

nested-begins : begins nested ≡ 0 ∷ 0 ∷ 1 ∷ 2 ∷ 3 ∷ []
nested-begins = refl

-- run 1 sees nothing that run 0 does not see, in an inner `#else` with nothing behind it
abbrev bare : List MarkKind
bare = Opens ∷ Text ∷ Opens ∷ Text ∷ LastBranch ∷ Ends ∷ LastBranch ∷ Text ∷ Ends ∷ []

bare-runs : runs bare ≡ 3
bare-runs = refl

bare-1 : view bare 1 ≡ 1 ∷ []
bare-1 = refl

bare-begins : begins bare ≡ 0 ∷ 0 ∷ 2 ∷ []
bare-begins = refl

-- `#if 0` takes no run, and nothing of it is seen
abbrev off : List MarkKind
off = Text ∷ IfZero ∷ Text ∷ Opens ∷ Text ∷ Ends ∷ LastBranch ∷ Text ∷ Ends ∷ []

off-runs : runs off ≡ 1
off-runs = refl

off-0 : view off 0 ≡ 0 ∷ 7 ∷ []
off-0 = refl

off-dead : is_dead (marks off) 4 ≡ true
off-dead = refl

off-alive : is_dead (marks off) 6 ≡ false
off-alive = refl

-- ends and branches that fit nothing, a branch after the last one, and no end
abbrev loose : List MarkKind
loose = Ends ∷ Text ∷ LastBranch ∷ Text ∷ Opens ∷ Text ∷ LastBranch ∷ Text ∷ Branch ∷ Text ∷ LastBranch ∷ Text ∷ []

loose-runs : runs loose ≡ 2
loose-runs = refl

loose-0 : view loose 0 ≡ 1 ∷ 3 ∷ 5 ∷ []
loose-0 = refl

loose-1 : view loose 1 ≡ 1 ∷ 3 ∷ 7 ∷ 9 ∷ 11 ∷ []
loose-1 = refl

loose-begins : begins loose ≡ 0 ∷ 0 ∷ 0 ∷ 1 ∷ 1 ∷ 1 ∷ []
loose-begins = refl
