-- What the runs see.
use Rattle.std.proofs.Common.{◌≡◌, ◌∙◌, ℕ, ◌+◌, ◌<◌, ◌≤◌, ◌⊎◌, Option, List, [], length, get_or, subst, arith}
use Rattle.std.specs.Prelude.{All}
use Rattle.style_table.specs.declared.style.Style.{Style}
use Rattle.token_arena.specs.Gaps.{Contents}
use Rattle.token_arena.specs.Sections.{sections_of}
use Rattle.token_arena.proofs.Whole.{sections_are_cut}
use Rattle.branch_runs.specs.Marks.{marks_of}
use Rattle.branch_runs.specs.Cut.{end_of}
use Rattle.branch_runs.specs.Reading.{effects}
use Rattle.branch_runs.proofs.Bridge.{marks_cut, marks_end}
use Rattle.branch_runs.proofs.Order.{effects_cut}
use Rattle.branch_runs.proofs.Within.{view_within, effects_end}
use Rattle.token_classes.specs.Kept.{kept_gaps_of}
use Rattle.item_classes.specs.Viewed.{classes_of}
use Rattle.replacements.specs.declared.slot.Slot.{Slot}
use Rattle.line_gaps.proofs.MadeFor.{length-decided_all}
use Rattle.run_parts.specs.KeptGaps.{kept_decisions}
use Rattle.run_parts.specs.Runs.{seen_by, after_kept}

-- the items that a run sees are among those of the text
pub seen_within : (arena : Contents) (run : ℕ) → All (λ id. id < length arena.tokens) (seen_by arena run)
seen_within arena run = λ k d below.
    let marks = marks_of arena in
    let cut = marks_cut arena 0 (length arena.tokens) (sections_of arena) (sections_are_cut arena) in
    let end : end_of 0 (effects marks) ≡ length arena.tokens = effects_end marks 0 [] ∙ marks_end arena 0 (length arena.tokens) (sections_of arena) (sections_are_cut arena) in
    subst (λ n. get_or (seen_by arena run) k d < n) end (view_within (effects marks) run (effects_cut marks 0 [] cut) k d below)

-- a run makes the plan no longer
pub length-kept : (style : Style) (arena : Contents) (plan : List (Option Slot)) (ids : List ℕ) → length (after_kept style arena plan ids) ≡ length plan
length-kept style arena plan ids = length-decided_all plan (kept_decisions style arena 0 ids (kept_gaps_of (classes_of arena ids)))

pub here_or_later : (k place : ℕ) → k ≤ place → (k ≡ place) ⊎ (k + 1 ≤ place)
here_or_later k place low = grind arith
