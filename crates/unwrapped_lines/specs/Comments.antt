-- Lines of a view with its comments: where each begins.
use Rattle.std.specs.Prelude.{ℕ, ◌+◌, nat_eq, nat_le, Bool, true, false, ◌&&◌, not, List, [], ◌∷◌, ◌++◌, Option, Some}
use Rattle.std.specs.Prelude.{None, slice_get}
use Rattle.statement_lines.specs.declared.line.Line.{Line}
use Rattle.line_tokens.specs.declared.line.LineKind.TheVariants.{Comment}
use Rattle.item_classes.specs.declared.part.Part.{Part}
use Rattle.item_classes.specs.declared.part.Part.TheVariants.{Token, Own, Trailing, Inner}
use Rattle.unwrapped_lines.specs.declared.part.Run.{Run}
use Rattle.unwrapped_lines.specs.declared.part.Run.TheVariants.{Apart, Begun, Joined}
use Rattle.unwrapped_lines.specs.declared.part.Marks.{Marks}
use Rattle.unwrapped_lines.specs.declared.part.Begin.{Begin}

-- a token comes after the inner comments
abbrev pub token_follows : List Part → Bool
token_follows [] = false
token_follows (Token ∷ ps) = true
token_follows (Own ∷ ps) = false
token_follows (Trailing ∷ ps) = false
token_follows (Inner ∷ ps) = token_follows ps

abbrev pub is_apart : Run → Bool
is_apart Apart = true
is_apart _ = false

abbrev pub is_begun : Run → Bool
is_begun Begun = true
is_begun _ = false

-- the lines of the tokens, their number, and the level at the view's end
pub record Tree : Type 0 where
  pub lines : List Line
  pub total : ℕ
  pub end_level : ℕ

-- no line goes on at this place
abbrev pub between_at : ℕ → ℕ → Option Line → Bool
between_at total passed None = nat_le total passed
between_at total passed (Some l) = nat_eq l.first passed

abbrev pub is_between : Tree → Marks → Bool
is_between t m = between_at t.total m.seen (slice_get t.lines m.begun)

abbrev pub own_level : ℕ → Option Line → ℕ
own_level end_level None = end_level
own_level end_level (Some l) = l.list_level

abbrev pub begin_of : ℕ → Option Line → Option Begin
begin_of k None = None
begin_of k (Some l) = Some (record { first = k; level = l.level; kind = l.kind })

-- A line begins at its first token, or at the inner comments before that; an own comment between two lines is a
-- line; every other comment belongs to a line that has begun.
abbrev pub begins_line : Part → List Part → Marks → Bool
begins_line Token ps m = not (is_begun m.run)
begins_line Own ps m = false
begins_line Trailing ps m = false
begins_line Inner ps m = is_apart m.run && token_follows ps

abbrev pub is_own : Part → Bool
is_own Own = true
is_own _ = false

abbrev pub new_begin : Tree → ℕ → Part → List Part → Marks → Option Begin
new_begin t k p ps m =
    elim (is_between t m) [
      | false ↦ None
      | true ↦
          elim (is_own p) [
            | true ↦
                Some (record { first = k; level = own_level t.end_level (slice_get t.lines m.begun); kind = Comment })
            | false ↦
                elim (begins_line p ps m) [ true ↦ begin_of k (slice_get t.lines m.begun) | false ↦ None ]
          ]
    ]

abbrev pub run_of : Bool → Run
run_of follows = elim follows [ true ↦ Begun | false ↦ Joined ]

-- a run of inner comments is looked at once, at its first
abbrev pub inner_run : Bool → List Part → Run → Run
inner_run between ps run = elim (between && is_apart run) [ true ↦ run_of (token_follows ps) | false ↦ run ]

abbrev pub next_marks : Tree → Part → List Part → Marks → Marks
next_marks t Token ps m =
    record { seen = m.seen + 1; begun = elim (is_between t m) [ true ↦ m.begun + 1 | false ↦ m.begun ]; run = Apart }
next_marks t Own ps m = record { seen = m.seen; begun = m.begun; run = Apart }
next_marks t Trailing ps m = record { seen = m.seen; begun = m.begun; run = Apart }
next_marks t Inner ps m = record { seen = m.seen; begun = m.begun; run = inner_run (is_between t m) ps m.run }

abbrev pub list_of : Option Begin → List Begin
list_of None = []
list_of (Some b) = b ∷ []

abbrev pub begins_from : Tree → List Part → ℕ → Marks → List Begin
begins_from t [] k m = []
begins_from t (p ∷ ps) k m = list_of (new_begin t k p ps m) ++ begins_from t ps (k + 1) (next_marks t p ps m)

abbrev pub no_marks : Marks
no_marks = record { seen = 0; begun = 0; run = Apart }
