-- A text has few runs: no more than twice as many as it has sections, and one.
use Rattle.std.proofs.Common.{◌≡◌, ℕ, ◌+◌, ◌*◌, ◌≤◌, List, [], ◌∷◌, length, arith}
use Rattle.std.proofs.lemmas.List.{length-map}
use Rattle.token_arena.specs.Gaps.{Contents}
use Rattle.token_arena.specs.Sections.{sections_of}
use Rattle.token_arena.proofs.Whole.{sections_are_cut}
use Rattle.branch_runs.specs.declared.mark.Mark.{Mark}
use Rattle.branch_runs.specs.declared.mark.MarkKind.{MarkKind}
use Rattle.branch_runs.specs.declared.mark.MarkKind.TheVariants.{Text, IfZero, Opens, Branch, LastBranch, Ends, Flat}
use Rattle.branch_runs.specs.Marks.{mark_of, marks_of}
use Rattle.branch_runs.specs.Reading.{Around, effects, rest_of, rest_with}
use Rattle.branch_runs.specs.Runs.{need, needs}
use Rattle.branch_runs.specs.Tree.{Group}
use Rattle.branch_runs.proofs.Bridge.{section_count}
use Rattle.branch_runs.proofs.Cover.{need_some}
use Rattle.branch_runs.proofs.Kept.{small_effects}
use Rattle.run_parts.specs.Runs.{runs_of}

-- the runs that what follows around a group needs
abbrev all_needs : Around → ℕ
all_needs [] = 0
all_needs (level ∷ around) = needs level.0 + need level.1 + all_needs around

-- a section adds two at most
two_more : (kind : MarkKind) (first end : ℕ) (group : Group) (around : Around)
    → need (rest_with kind first end group around).0 + all_needs (rest_with kind first end group around).1 ≤ need group + all_needs around + 2
two_more Text first end group around = omega arith
two_more Flat first end group around = omega arith
two_more IfZero first end group [] = omega (arith, need_some group)
two_more IfZero first end group (level ∷ around) = omega (arith, need_some group)
two_more Opens first end group [] = omega (arith, need_some group)
two_more Opens first end group (level ∷ around) = omega (arith, need_some group)
two_more Branch first end group [] = omega arith
two_more Branch first end group (level ∷ around) = omega arith
two_more LastBranch first end group [] = omega arith
two_more LastBranch first end group (level ∷ around) = omega arith
two_more Ends first end group around = omega arith

few : (marks : List Mark) → need (rest_of marks).0 + all_needs (rest_of marks).1 ≤ 2 * length marks + 1
few [] = omega arith
few (mark ∷ marks) =
    let rest = few marks in
    let more = two_more mark.kind mark.first mark.end (rest_of marks).0 (rest_of marks).1 in
    omega (arith, rest, more)

pub runs_few : (arena : Contents) → runs_of arena ≤ 2 * length arena.tokens + 1
runs_few arena =
    let all = few (effects (marks_of arena)) in
    let count = section_count 0 (length arena.tokens) (sections_of arena) (sections_are_cut arena) in
    let same : length (marks_of arena) ≡ length (sections_of arena) = length-map (sections_of arena) (mark_of arena) in
    let short : length (effects (marks_of arena)) ≤ length arena.tokens = small_effects (marks_of arena) (length arena.tokens) (omega (arith, count, same)) in
    omega (arith, all, short)
