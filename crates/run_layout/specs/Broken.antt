-- What stands before the items of a line whose breaks are known: docs/PROFILE.md, "Layout of lines".
use Rattle.std.specs.Prelude.{ℕ, ◌+◌, ◌-◌, ◌||◌, ◌&&◌, not, Bool, Option, Some, None, List, [], ◌∷◌, get_or, map, take}
use Rattle.std.specs.Prelude.{drop, if◌then◌else◌}
use Rattle.style_table.specs.declared.style.Style.{Style}
use Rattle.line_tokens.specs.declared.LineTok.{LineTok}
use Rattle.line_tokens.specs.Roles.{is_trailing}
use Rattle.line_state.specs.declared.gap.Gap.{Gap}
use Rattle.line_state.specs.Layout.{Layout, is_decided, layout_after, start_of}
use Rattle.line_state.specs.Line.{Line, first_layout, gap_at}
use Rattle.layout_tables.specs.Spaces.{spaces_before}
use Rattle.token_arena.specs.Gaps.{Contents}
use Rattle.line_tokens.specs.declared.line.ULine.{ULine}
use Rattle.layout_tables.specs.Indents.{start_column, empty_lines}
use Rattle.replacements.specs.declared.gap_text.Decision.{Decision}
use Rattle.replacements.specs.declared.gap_text.Decision.TheVariants.{Spaces, Lines}
use Rattle.replacements.specs.declared.slot.Slot.{Slot}
use Rattle.replacements.specs.Decisions.{slot_of}
use Rattle.replacements.specs.Breaks.{fixed_by}
use Rattle.line_gaps.specs.Rows.{first_made}

-- ## The line

-- what a list that has one for each place of a view has for the places of a line
abbrev pub of_line : {A : Type 0} → ULine → List A → List A
of_line {A} line xs = take (line.last + 1 - line.first) (drop line.first xs)

-- the line as it is broken: from the column where it starts, its tokens, and what the plan has for the gap before each
abbrev pub broken_line : Style → Contents → List ℕ → List LineTok → List (Option Slot) → ULine → Line
broken_line style arena ids toks plan line = record {
  style = style;
  column = start_column style line;
  tokens = of_line line toks;
  fixed = map (λ id. fixed_by arena id (slot_of plan id)) (of_line line ids);
}

-- the number of a token's item
abbrev pub number : LineTok → ℕ
number token = token.id.0

-- ## The gaps inside it

-- a row that begins inside a line has empty lines before it only behind a directive
abbrev pub empty_inside : Style → ULine → LineTok → ℕ
empty_inside style line token = if token.directive then empty_lines style None line token else 0

-- before a token that starts at this column: a row begins there, or the blanks of the table stand
abbrev pub decision_by : Style → ULine → LineTok → LineTok → Bool → ℕ → Decision
decision_by style line left right brk start =
    if brk then Lines (1 + empty_inside style line right) start line.level
    else Spaces (spaces_before style left right)

-- at a gap behind this layout, which tells where the token starts
abbrev pub inside_decision : Style → ULine → Layout → Gap → Bool → Decision
inside_decision style line layout gap brk =
    decision_by style line gap.left gap.right brk (start_of style layout gap brk)

-- the decision for a gap inside a line, behind this layout
abbrev pub inside_slot : Style → ULine → Layout → Gap → Bool → Slot
inside_slot style line layout gap brk =
    record { decision = inside_decision style line layout gap brk; end = start_of style layout gap brk }

-- A trailing comment that stays on its row waits: the gap before it is decided when the rows of the whole view are
-- known.
abbrev pub waits : LineTok → Bool → Bool
waits token brk = not brk && is_trailing token.role

-- a decision for a gap that is open and doesn't wait, in front of others
abbrev pub made_if_open : Gap → Bool → ℕ → Slot → List (ℕ × Slot) → List (ℕ × Slot)
made_if_open gap brk id slot later = if is_decided gap || waits gap.right brk then later else (id, slot) ∷ later

-- the decision for a gap, and those behind it by the layout that it leads to
abbrev pub made_at : Style → ULine → List ℕ → Layout → Bool → (Layout → List (ℕ × Slot)) → Option Gap → List (ℕ × Slot)
made_at style line items layout brk later None = []
made_at style line items layout brk later (Some gap) =
    made_if_open gap brk (get_or items layout.index 0) (inside_slot style line layout gap brk)
    (later (layout_after style layout gap brk))

-- the decisions for the open gaps behind a layout of a line with these items, by these choices
abbrev pub inside_made : ULine → List ℕ → Line → Layout → List Bool → List (ℕ × Slot)
inside_made line items l layout [] = []
inside_made line items l layout (brk ∷ breaks) =
    made_at l.style line items layout brk (λ next. inside_made line items l next breaks) (gap_at l layout.index)

-- ## The decisions

-- for a line that is broken so
abbrev pub broken_made : Style → Contents → List ℕ → List LineTok → List (Option Slot) → ULine → List Bool →
    List (ℕ × Slot)
broken_made style arena ids toks plan line breaks =
    let l = broken_line style arena ids toks plan line in
    first_made style arena ids line ∷ inside_made line (of_line line ids) l (first_layout l) breaks
