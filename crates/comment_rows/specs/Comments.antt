-- The trailing comments of a view, read off what is decided for its gaps: docs/PROFILE.md, "Trailing comments".
use Rattle.std.specs.Prelude.{◌==◌, ℕ, zero, suc, get_or, ◌+◌, ◌-◌, Bool, false, Option, Some, None, is_some, List, []}
use Rattle.std.specs.Prelude.{◌∷◌, ◌++◌, map, if◌then◌else◌}
use Rattle.line_tokens.specs.Roles.{is_trailing}
use Rattle.line_tokens.specs.declared.LineTok.{LineTok}
use Rattle.line_tokens.specs.Tokens.{no_token}
use Rattle.style_table.specs.declared.style.Style.{Style}
use Rattle.layout_tables.specs.Spaces.{spaces_before}
use Rattle.line_tokens.specs.Columns.{columns, end_of}
use Rattle.replacements.specs.declared.gap_text.Decision.{Decision}
use Rattle.replacements.specs.declared.gap_text.Decision.TheVariants.{Old, Spaces, Lines, Splice}
use Rattle.replacements.specs.declared.slot.Slot.{Slot}
use Rattle.replacements.specs.Decisions.{slot_of}
use Rattle.comment_rows.specs.declared.place.TrailRow.{TrailRow}
use Rattle.comment_rows.specs.Columns.{aligned}
use Rattle.comment_rows.specs.declared.comments.Comment.{Comment}

-- ## Where tokens stand

-- how many rows end in a gap that is decided so, where the input's gap has so many new-lines
abbrev pub ends_in : Decision → ℕ → ℕ
ends_in Old lines = lines
ends_in (Spaces count) lines = 0
ends_in (Lines count column level) lines = count
ends_in (Splice pad column) lines = 1

-- how many rows end in the gap before a token; in one that is open none does
abbrev pub rows_before : Option Slot → LineTok → ℕ
rows_before None token = 0
rows_before (Some slot) token = ends_in slot.decision token.gap.lines

-- the column at which a token starts: the one that is stored, or where its gap is open that behind the token before it,
-- which ends at this column, and the blanks of the table
abbrev pub start_by : Style → LineTok → ℕ → LineTok → Option Slot → ℕ
start_by style left column token None = columns column (spaces_before style left token)
start_by style left column token (Some slot) = slot.end

-- the column at which the first token of a view starts
abbrev pub first_start : Option Slot → ℕ
first_start None = 0
first_start (Some slot) = slot.end

-- the column behind the token at a place of a view
abbrev pub column_behind : Style → List (Option Slot) → List LineTok → ℕ → ℕ
column_behind style plan tokens zero =
    let first = get_or tokens 0 no_token in
    end_of first (first_start (slot_of plan first.id.0))
column_behind style plan tokens (suc n) =
    let token = get_or tokens (suc n) no_token in
    end_of token (start_by style (get_or tokens n no_token) (column_behind style plan tokens n) token
    (slot_of plan token.id.0))

-- ## Rows that follow one another

-- The next trailing comment of these tokens begins on the row directly behind the comment before them, where so many
-- rows ended since that comment; and no directive stands between.
abbrev pub is_next : List (Option Slot) → ℕ → List LineTok → Bool
is_next plan ended [] = false
is_next plan ended (token ∷ tokens) =
    let here = ended + rows_before (slot_of plan token.id.0) token in
    if token.directive then false
    else (if is_trailing token.role then here == 1 else is_next plan (here + (token.rows - 1)) tokens)

-- ## The comments

-- a trailing comment with its row, behind a token that ends at this column and in front of these
abbrev pub comment_of : Style → List (Option Slot) → LineTok → ℕ → LineTok → List LineTok → Comment
comment_of style plan left column token tokens = record {
  id = token.id.0;
  spaces = spaces_before style left token;
  row =
      record {
        end = column;
        column = start_by style left column token (slot_of plan token.id.0);
        next = is_next plan 0 tokens;
        fixed = is_some (slot_of plan token.id.0);
      };
}

-- none for another token
abbrev pub comment_at : Style → List (Option Slot) → LineTok → ℕ → LineTok → List LineTok → List Comment
comment_at style plan left column token tokens =
    if is_trailing token.role then comment_of style plan left column token tokens ∷ [] else []

-- those among the tokens behind one that ends at this column
abbrev pub comments_behind : Style → List (Option Slot) → LineTok → ℕ → List LineTok → List Comment
comments_behind style plan left column [] = []
comments_behind style plan left column (token ∷ tokens) =
    comment_at style plan left column token tokens
    ++ comments_behind style plan token (end_of token (start_by style left column token (slot_of plan token.id.0)))
    tokens

-- those of a view; its first token is none
abbrev pub comments_in : Style → List (Option Slot) → List LineTok → List Comment
comments_in style plan [] = []
comments_in style plan (first ∷ tokens) =
    comments_behind style plan first (end_of first (first_start (slot_of plan first.id.0))) tokens

-- its row
abbrev pub row_of : Comment → TrailRow
row_of comment = comment.row

-- ## The decisions

-- blanks up to the column of a comment in this row: those of the table, and as many more as the comment moves
abbrev pub placed_slot : Comment → TrailRow → Slot
placed_slot comment row =
    record { decision = Spaces (columns comment.spaces (row.column - comment.row.column)); end = row.column }

-- for each comment whose gap is open, one after another with their rows
abbrev pub placed : List Comment → List TrailRow → List (ℕ × Slot)
placed [] rows = []
placed (comment ∷ comments) [] = []
placed (comment ∷ comments) (row ∷ rows) =
    if comment.row.fixed then placed comments rows else (comment.id, placed_slot comment row) ∷ placed comments rows

-- The decisions for the open gaps before the trailing comments of a view, whose other gaps are decided: each comment
-- stands at the column that its row has once the rows are aligned.
abbrev pub comments_made : Style → List LineTok → List (Option Slot) → List (ℕ × Slot)
comments_made style toks plan =
    let comments = comments_in style plan toks in
    placed comments (aligned style.align_trailing_comments_kind (map row_of comments))
