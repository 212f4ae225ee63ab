-- Columns of the input, item by item.
use Rattle.std.proofs.Common.{◌≡◌, ◌∙◌, ℕ, suc, ◌+◌, ◌-◌, ◌≤◌, Option, List, get_or, refl, sym, ap, arith}
use Rattle.style_table.specs.declared.style.Style.{Style}
use Rattle.token_arena.specs.Gaps.{Contents}
use Rattle.line_tokens.specs.declared.line.ULine.{ULine}
use Rattle.replacements.specs.declared.slot.Slot.{Slot}
use Rattle.replacements.specs.Decisions.{decided, decided_all}
use Rattle.line_gaps.specs.InputColumns.{input_before, input_behind, input_column, kept_slot, old_from, reported_made}

-- the column behind one item more
pub before_next : (style : Style) (arena : Contents) (ids : List ℕ) (k : ℕ) → input_before style arena ids (k + 1) ≡ input_behind style arena (input_before style arena ids k) (get_or ids k 0)
before_next style arena ids k = let one : k + 1 ≡ suc k = omega arith in ap (λ j. input_before style arena ids j) one

pub passed : (style : Style) (arena : Contents) (ids : List ℕ) (k id column next : ℕ) → column ≡ input_before style arena ids k → get_or ids k 0 ≡ id → next ≡ input_behind style arena column id → next ≡ input_before style arena ids (k + 1)
passed style arena ids k id column next is at moved =
    moved ∙ (ap (λ x. input_behind style arena x id) is ∙ (ap (λ x. input_behind style arena (input_before style arena ids k) x) (sym at) ∙ sym (before_next style arena ids k)))

-- one item, and those behind it
pub old_more : (style : Style) (arena : Contents) (ids : List ℕ) (plan after : List (Option Slot)) (column next k id start left count : ℕ) → count ≡ suc left → get_or ids k 0 ≡ id → start ≡ input_column style arena column id
    → next ≡ input_behind style arena column id → after ≡ decided plan id (kept_slot start)
    → decided_all after (old_from style arena ids next (k + 1) left) ≡ decided_all plan (old_from style arena ids column k count)
old_more style arena ids plan after column next k id start left count more at begins moved made =
    rw (more, at, made, begins, moved) refl

-- the gaps inside a line are those behind its first item
pub reported_begins : (style : Style) (arena : Contents) (ids : List ℕ) (line : ULine) (column : ℕ) → line.first ≤ line.last → column ≡ input_before style arena ids (line.first + 1)
    → old_from style arena ids column (line.first + 1) (line.last + 1 - (line.first + 1)) ≡ reported_made style arena ids line
reported_begins style arena ids line column some is =
    let count : line.last + 1 - (line.first + 1) ≡ line.last - line.first = omega (arith, some) in
    let at : column ≡ input_behind style arena (input_before style arena ids line.first) (get_or ids line.first 0) = is ∙ before_next style arena ids line.first in
    ap (λ n. old_from style arena ids column (line.first + 1) n) count ∙ ap (λ x. old_from style arena ids x (line.first + 1) (line.last - line.first)) at
