-- What stands before the items of a line that isn't searched for breaks: docs/PROFILE.md, "Layout of lines".
use Rattle.std.specs.Prelude.{◌==◌, ◌&&◌, not, min, ℕ, zero, suc, ◌+◌, Bool, false, Option, Some, None, List, get_or}
use Rattle.std.specs.Prelude.{if◌then◌else◌}
use Rattle.style_table.specs.declared.style.Style.{Style}
use Rattle.line_tokens.specs.declared.LineTok.{LineTok}
use Rattle.line_tokens.specs.declared.role.Role.{Role}
use Rattle.line_tokens.specs.declared.role.Role.TheVariants.{BlockClose, Word}
use Rattle.token_arena.specs.Stored.{Stored}
use Rattle.token_arena.specs.Gaps.{Contents}
use Rattle.token_classes.specs.declared.class.TokenClass.{TokenClass}
use Rattle.token_classes.specs.declared.class.TokenClass.TheVariants.{Nothing}
use Rattle.token_classes.specs.Classes.{is_open_brace, is_close_brace}
use Rattle.item_classes.specs.Viewed.{item_class}
use Rattle.line_tokens.specs.declared.line.ULine.{ULine}
use Rattle.item_classes.specs.Items.{item_at}
use Rattle.layout_tables.specs.Indents.{most_column, start_column, empty_lines}
use Rattle.replacements.specs.declared.gap_text.Decision.{Decision}
use Rattle.replacements.specs.declared.gap_text.Decision.TheVariants.{Old, Spaces, Lines, Splice}
use Rattle.replacements.specs.declared.slot.Slot.{Slot}

-- ## Items

-- the item before a place of a view
abbrev pub item_before : List ℕ → ℕ → Option ℕ
item_before ids zero = None
item_before ids (suc k) = Some (get_or ids k 0)

-- ## Empty lines

-- an item as the rule on empty lines sees it: its number, its role and its gap
abbrev pub row_token : Contents → ℕ → Role → LineTok
row_token arena id role = record {
  id = record { 0 = id };
  role = role;
  power = 0;
  depth = 0;
  trailing_list = false;
  held = false;
  touch = false;
  directive = false;
  gap = (item_at arena id).gap;
  kind = (item_at arena id).kind;
  rows = 1;
  first_width = 0;
  last_width = 0;
}

-- the role of an item that begins a line: only the `}` of a block counts
abbrev pub first_role : TokenClass → Role
first_role class = if is_close_brace class then BlockClose else Word

-- the item before is a `{`
abbrev pub is_behind_brace : Contents → Option ℕ → Bool
is_behind_brace arena None = false
is_behind_brace arena (Some id) = is_open_brace (item_class arena id)

-- a `{` stands before a place, where the places have these classes
abbrev pub opens_before : List TokenClass → ℕ → Bool
opens_before classes zero = false
opens_before classes (suc k) = is_open_brace (get_or classes k Nothing)

-- the empty lines before an item, where the `{` of a block stands directly before it or doesn't
abbrev pub empty_rows : Style → ULine → Bool → LineTok → ℕ
empty_rows style line opened token =
    if opened && not style.keep_empty_lines_at_the_start_of_blocks then 0 else empty_lines style None line token

-- ## Decisions

-- before the first item of a line, of this class and behind a `{` or not, stand its empty lines; before the file's
-- first item nothing
abbrev pub first_of_line : Style → Contents → ULine → Bool → TokenClass → ℕ → Decision
first_of_line style arena line opened class id =
    if id == 0 then Spaces 0
    else Lines (1 + empty_rows style line opened (row_token arena id (first_role class))) (start_column style line)
    line.level

-- before the first item of a line
abbrev pub first_decision : Style → Contents → ULine → Option ℕ → ℕ → Decision
first_decision style arena line before id =
    first_of_line style arena line (is_behind_brace arena before) (item_class arena id) id

-- ## Columns

-- the column at which an item starts behind a decision, where what stands before the gap ends at this column
abbrev pub start_behind : ℕ → Decision → ℕ
start_behind column Old = column
start_behind column (Spaces count) = min (column + count) most_column
start_behind column (Lines count to level) = to
start_behind column (Splice pad to) = to

-- the column behind an item that starts at this one: only its last row counts
abbrev pub column_behind : ℕ → Stored → ℕ
column_behind start token = if token.rows == 1 then min (start + token.first_width) most_column else token.last_width

-- ## The gap before the first item of a line

abbrev pub first_slot : Style → Contents → List ℕ → ULine → Slot
first_slot style arena ids line =
    let decision = first_decision style arena line (item_before ids line.first) (get_or ids line.first 0) in
    record { decision = decision; end = start_behind 0 decision }

-- it is decided as for any line
abbrev pub first_made : Style → Contents → List ℕ → ULine → ℕ × Slot
first_made style arena ids line = (get_or ids line.first 0, first_slot style arena ids line)
