-- What a run sees: docs/PROFILE.md, "Runs".
use Rattle.std.specs.Prelude.{◌≡◌, ◌<◌, ℕ, Option, Some, IsSome, List, get_or, length}
use Rattle.style_table.specs.declared.style.Style.{Style}
use Rattle.token_arena.specs.Gaps.{Contents}
use Rattle.branch_runs.specs.Marks.{marks_of}
use Rattle.branch_runs.specs.Reading.{tree_of}
use Rattle.branch_runs.specs.Runs.{need, view_of}
use Rattle.token_classes.specs.Kept.{kept_gaps_of}
use Rattle.item_classes.specs.Viewed.{classes_of}
use Rattle.replacements.specs.Decisions.{slot_of, decided_all}
use Rattle.replacements.specs.declared.slot.Slot.{Slot}
use Rattle.line_gaps.specs.OpenGaps.{IsRowDecided}
use Rattle.view_parts.specs.declared.known.KnownEnd.{KnownEnd}
use Rattle.view_parts.specs.declared.known.KnownEnd.TheVariants.{Unknown}
use Rattle.view_parts.specs.declared.known.KnownRow.{KnownRow}
use Rattle.view_parts.specs.Known.{row_of}
use Rattle.run_parts.specs.KeptGaps.{kept_decisions}

-- how many runs a text has
abbrev pub runs_of : Contents → ℕ
runs_of arena = need (tree_of (marks_of arena))

-- the items that a run sees
abbrev pub seen_by : Contents → ℕ → List ℕ
seen_by arena run = view_of (tree_of (marks_of arena)) run

-- the plan after what stays as it is between these items is decided
abbrev pub after_kept : Style → Contents → List (Option Slot) → List ℕ → List (Option Slot)
after_kept style arena plan ids =
    decided_all plan (kept_decisions style arena 0 ids (kept_gaps_of (classes_of arena ids)))

-- the gap before each of these items is decided
abbrev pub AreDecided : List (Option Slot) → List ℕ → Type 0
AreDecided plan ids = (place : ℕ) → place < length ids → IsSome (slot_of plan (get_or ids place 0))

-- the gap before each item of parts that are noted in a row is decided
abbrev pub AreRowsDecided : List (Option Slot) → List KnownEnd → Type 0
AreRowsDecided plan knowns =
    (id : ℕ) (row : KnownRow) → row_of (get_or knowns id Unknown) ≡ Some row → IsRowDecided plan id row.end
