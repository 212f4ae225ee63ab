-- Decided gaps that the input has as they are decided.
use Rattle.std.specs.Prelude.{◌≡◌, ◌==◌, ◌||◌, ℕ, Bool, false, List, ◌∷◌, if◌then◌else◌}
use Rattle.c_chars.specs.declared.Dialect.{Dialect}
use Rattle.token_arena.specs.Stored.{Stored}
use Rattle.token_arena.specs.Gaps.{Contents}
use Rattle.style_table.specs.declared.style.Style.{Style}
use Rattle.replacements.specs.declared.gap_text.Decision.{Decision}
use Rattle.replacements.specs.Guards.{guard_before}
use Rattle.replacements.specs.Stances.{hash_comes, may_begin_hash}
use Rattle.replacements.specs.Written.{bytes_between, planned_gap}
use Rattle.replacements.specs.declared.stance.Stance.{Stance}

-- In no dialect comes a `#` from this item on, whatever stands behind it.
abbrev pub ComesNoHash : Stored → Type 0
ComesNoHash token = (d : Dialect) (tokens : List Stored) → hash_comes d (token ∷ tokens) ≡ false

-- However the item stands in its text, and whatever comes then: what is written before it is these bytes.
abbrev pub IsWritten : Style → Bool → Contents → ℕ → Decision → Stored → List ℕ → Type 0
IsWritten style crlf arena place decision token bytes =
    (at : ℕ) (stance : Stance) (tokens : List Stored)
    → planned_gap style crlf arena (guard_before arena.tokens place) at place stance decision token tokens ≡ bytes

-- However the item stands in its text, and whatever comes then: what is written before it is what the input has there,
-- behind this offset.
abbrev pub IsSame : Style → Bool → Contents → ℕ → ℕ → Decision → Stored → Type 0
IsSame style crlf arena at place decision token =
    (stance : Stance) (tokens : List Stored)
    → planned_gap style crlf arena (guard_before arena.tokens place) at place stance decision token tokens
    ≡ bytes_between arena.text at token.start

-- one more than the blanks that stand before an item behind this byte, the first behind the item before it: one blank
-- where it is a blank, and none where it begins neither a comment nor what spells a `#`
abbrev pub blanks_told : ℕ → ℕ
blanks_told b = if b == 32 then 2 else if may_begin_hash b || b == 47 then 0 else 1
