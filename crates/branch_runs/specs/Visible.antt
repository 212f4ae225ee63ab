-- The texts that a run sees, by their places in a list.
use Rattle.std.specs.Prelude.{◌≡◌, ◌<◌, ◌≤◌, ℕ, true, false, List, length, slice_index_or}
use Rattle.branch_runs.specs.declared.seen.SeenText.{SeenText}
use Rattle.branch_runs.specs.declared.visible.Span.{Span}
use Rattle.branch_runs.specs.Seen.{is_seen}

-- what a list of texts has past its end
abbrev pub no_text : SeenText
no_text = record { first = 0; end = 0; from = 0; till = 0 }

-- the text at a place
abbrev pub text_at : List SeenText → ℕ → SeenText
text_at texts k = slice_index_or texts k no_text

-- the run sees the text at this place
abbrev pub IsSeenAt : List SeenText → ℕ → ℕ → Type 0
IsSeenAt texts k r = is_seen (text_at texts k) r ≡ true

-- the run sees none of the texts from one place to before another
abbrev pub NoneSeen : List SeenText → ℕ → ℕ → ℕ → Type 0
NoneSeen texts at k r = (i : ℕ) → at ≤ i → i < k → is_seen (text_at texts i) r ≡ false

-- What the code keeps.

-- what a list of spans has past its end
abbrev pub no_span : Span
no_span = record { end = 0; from = 0; till = 0 }

-- The span begins at this place, and the runs that see its texts are among its own.
pub record FitsSpan (texts : List SeenText) (at : ℕ) (span : Span) : Type 0 where
  pub after : at < span.end
  pub within : span.end ≤ length texts
  pub first_run : (i : ℕ) → at ≤ i → i < span.end → span.from ≤ (text_at texts i).from
  pub last_run : (i : ℕ) → at ≤ i → i < span.end → (text_at texts i).till ≤ span.till

-- These are spans that begin at the places from this one on.
abbrev pub FitSpansFrom : ℕ → List SeenText → List Span → Type 0
FitSpansFrom first texts spans =
    (at : ℕ) → first ≤ at → at < length texts → FitsSpan texts at (slice_index_or spans at no_span)

-- These are spans that begin at each place.
pub record FitSpans (texts : List SeenText) (spans : List Span) : Type 0 where
  pub count : length spans ≡ length texts
  pub each : FitSpansFrom 0 texts spans
