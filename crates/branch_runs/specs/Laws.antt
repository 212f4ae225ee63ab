-- What holds of all views of a text, given by the marks of its sections.
use Rattle.std.specs.Prelude.{◌≡◌, ◌≢◌, ◌<◌, ◌≤◌, ◌↔◌, ℕ, false, List, [], ◌∷◌, All, if◌then◌else◌, ⊤}
use Rattle.std.specs.List.{Contains}
use Rattle.branch_runs.specs.declared.mark.MarkKind.{MarkKind}
use Rattle.branch_runs.specs.declared.mark.MarkKind.TheVariants.{Text, Flat}
use Rattle.branch_runs.specs.declared.mark.Mark.{Mark}
use Rattle.branch_runs.specs.Reading.{tree_of}
use Rattle.branch_runs.specs.Runs.{need, view_of}
use Rattle.branch_runs.specs.Dead.{has_item, is_dead}
use Rattle.branch_runs.specs.Cut.{IsCutFrom}

-- the kind of the section that has the item
abbrev pub kind_at : List Mark → ℕ → MarkKind
kind_at [] i = Flat
kind_at (mark ∷ marks) i = if has_item mark i then mark.kind else kind_at marks i

-- Each item of a text outside the groups of a literal `#if 0` is in the view of some run.
abbrev pub IsCovered : List Mark → Type 0
IsCovered marks = (i : ℕ) → kind_at marks i ≡ Text → is_dead marks i ≡ false
    → (r : ℕ) × (r < need (tree_of marks)) × Contains (view_of (tree_of marks) r) i

-- Each item that a run sees is one of a text, where the sections cut the items: docs/PROFILE.md, "Runs".
abbrev pub ViewsAreOfTexts : Type 0
ViewsAreOfTexts =
    (marks : List Mark) → IsCutFrom 0 marks → (r : ℕ) → All (λ i. kind_at marks i ≡ Text) (view_of (tree_of marks) r)

-- no directive begins between the first item and the second, which comes later
abbrev pub NoneBetween : List Mark → ℕ → ℕ → Type 0
NoneBetween [] i j = ⊤
NoneBetween (mark ∷ marks) i j = (mark.kind ≢ Text → i < mark.first → j < mark.first) × NoneBetween marks i j

-- Two items of texts with no directive between them are in a view together or not at all.
abbrev pub NeverParted : List Mark → Type 0
NeverParted marks = (r i j : ℕ) → i ≤ j → kind_at marks i ≡ Text → kind_at marks j ≡ Text → NoneBetween marks i j
    → Contains (view_of (tree_of marks) r) i ↔ Contains (view_of (tree_of marks) r) j
