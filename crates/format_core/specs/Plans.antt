-- The plan of a text: what is decided before the runs, and then run by run. docs/PROFILE.md, "Runs", says what a run
-- sees.
use Rattle.std.specs.Prelude.{◌≡◌, ℕ, zero, suc, ◌+◌, Option, None, List, [], ◌∷◌, ◌++◌}
use Rattle.style_table.specs.declared.style.Style.{Style}
use Rattle.token_arena.specs.Gaps.{Contents}
use Rattle.off_regions.specs.declared.range.LineRange.{LineRange}
use Rattle.replacements.specs.declared.slot.Slot.{Slot}
use Rattle.run_layout.specs.Outcomes.{LaidLine}
use Rattle.run_layout.specs.View.{AfterView}
use Rattle.early_gaps.specs.BeforeRuns.{early_plan}
use Rattle.part_walk.specs.Places.{Place}
use Rattle.view_parts.specs.Parts.{PartStop, laid_items, part_ends}
use Rattle.run_parts.specs.Runs.{runs_of, seen_by, after_kept}
use Rattle.annotator.specs.Tokens.{toks_of_lines}
use Rattle.unwrapped_lines.specs.Lines.{lines_of_items}

-- Behind a part of these items stands this plan, and this came of its lines: first what stays as it is between them is
-- decided, then they are laid out.
abbrev pub AfterItems : Style → ℕ → Contents → ℕ → List (Option Slot) → List ℕ → List (Option Slot) → List LaidLine →
    Type 0
AfterItems style budget arena run plan ids final done =
    AfterView style budget arena ids (toks_of_lines arena ids (lines_of_items style arena ids)) run
    (after_kept style arena plan ids) (lines_of_items style arena ids) final done

-- Behind the parts of a view that end so, the first of which begins at this place, outside brackets or at this place of
-- a body, stands this plan, and this came of their lines: they are laid out one after another.
abbrev pub AfterParts : Style → ℕ → Contents → ℕ → List (Option Slot) → List ℕ → Option Place → ℕ → List PartStop →
    List (Option Slot) → List LaidLine → Type 0
AfterParts style budget arena run plan ids begins first [] final done = (final ≡ plan) × (done ≡ [])
AfterParts style budget arena run plan ids begins first (stop ∷ stops) final done =
    (after : List (Option Slot)) × (here : List LaidLine) × (later : List LaidLine)
    × AfterItems style budget arena run plan (laid_items begins ids first stop.end) after here
    × AfterParts style budget arena run after ids stop.inside stop.end stops final later
    × (done ≡ here ++ later)

-- Behind the run that sees these items stands this plan, and this came of its lines.
abbrev pub AfterSeen : Style → ℕ → Contents → ℕ → List (Option Slot) → List ℕ → List (Option Slot) → List LaidLine →
    Type 0
AfterSeen style budget arena run plan ids final done =
    AfterParts style budget arena run plan ids None 0 (part_ends arena ids) final done

-- Behind so many runs from this one on stands this plan, and this came of their lines.
abbrev pub AfterRuns : Style → ℕ → Contents → List (Option Slot) → ℕ → ℕ → List (Option Slot) → List LaidLine → Type 0
AfterRuns style budget arena plan run zero final done = (final ≡ plan) × (done ≡ [])
AfterRuns style budget arena plan run (suc count) final done =
    (after : List (Option Slot)) × (here : List LaidLine) × (later : List LaidLine)
    × AfterSeen style budget arena run plan (seen_by arena run) after here
    × AfterRuns style budget arena after (run + 1) count final later
    × (done ≡ here ++ later)

-- This is a plan of a text of which these lines are asked for, and this came of the lines of all its runs in their
-- order. A gap keeps what is decided for it first.
abbrev pub IsPlanOf : Style → Option (List LineRange) → ℕ → Contents → List (Option Slot) → List LaidLine → Type 0
IsPlanOf style ranges budget arena plan done =
    AfterRuns style budget arena (early_plan style arena ranges) 0 (runs_of arena) plan done
