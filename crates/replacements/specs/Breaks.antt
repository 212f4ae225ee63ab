-- Whether a line ends in a decided gap. docs/PROFILE.md, "White space of a decision", says what a decision stands for.
use Rattle.std.specs.Prelude.{ℕ, Bool, true, false, Option, Some, None, nat_lt, slice_get}
use Rattle.std.specs.List.{list_any}
use Rattle.c_grammar.specs.Grammar.{is_new_line}
use Rattle.c_grammar.specs.Rewritten.{read_alone}
use Rattle.replacements.specs.declared.gap_text.Decision.{Decision}
use Rattle.replacements.specs.declared.gap_text.Decision.TheVariants.{Old, Spaces, Lines, Splice}
use Rattle.line_tokens.specs.declared.Fixed.{Fixed}
use Rattle.token_arena.specs.Gaps.{Contents, gap_of}
use Rattle.token_arena.specs.Stored.{Stored}
use Rattle.replacements.specs.declared.slot.Slot.{Slot}

-- whether a line ends in a gap that was decided so, where the input's gap has a new-line or not
abbrev pub has_line_end : Decision → Bool → Bool
has_line_end Old old = old
has_line_end (Spaces count) old = false
has_line_end (Lines count column level) old = nat_lt 0 count
has_line_end (Splice pad column) old = true

-- whether the gap before this item has a new-line, or where there is no item the last gap, whose bytes are read as
-- characters (C11 5.1.1.2p1)
abbrev pub has_new_line_before : Contents → ℕ → Option Stored → Bool
has_new_line_before arena place (Some token) = nat_lt 0 token.gap.lines
has_new_line_before arena place None = list_any is_new_line (read_alone arena.dialect (gap_of arena place))

-- whether a text's gap at a place has a new-line
abbrev pub has_new_line_at : Contents → ℕ → Bool
has_new_line_at arena place = has_new_line_before arena place (slice_get arena.tokens place)

-- where the item behind a gap starts for which this is decided, and whether a line ends in the gap
abbrev pub fixed_by : Contents → ℕ → Option Slot → Option Fixed
fixed_by arena place None = None
fixed_by arena place (Some slot) =
    Some (record { column = slot.end; broken = has_line_end slot.decision (has_new_line_at arena place) })
