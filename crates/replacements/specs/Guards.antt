-- Guards: docs/PROFILE.md, "Guards". What stands before a line end behind an item, so that the two don't read as
-- something else.
use Rattle.std.specs.Prelude.{◌==◌, ◌++◌, ℕ, zero, suc, Bool, true, false, List, [], ◌∷◌, if◌then◌else◌}
use Rattle.c_grammar.specs.Touch.{takes_line, ends}
use Rattle.token_arena.specs.Stored.{Stored}
use Rattle.style_table.specs.declared.style.Style.{Style}
use Rattle.replacements.specs.GapText.{gap_text, line_end}
use Rattle.replacements.specs.declared.gap_text.Decision.{Decision}
use Rattle.replacements.specs.declared.gap_text.Decision.TheVariants.{Old, Spaces, Lines, Splice}
use Rattle.replacements.specs.declared.guard.Guard.{Guard}
use Rattle.replacements.specs.declared.guard.Guard.TheVariants as guard

-- What a line end behind an item needs: behind a last backslash a blank, or a splice where the blank would be the
-- item's own; `\r\n` behind a last `\r`.
abbrev pub guard_of : Stored → Guard
guard_of token =
    if token.back then (if takes_line token.kind then guard.Splice else guard.Blank)
    else (if ends (λ b. b == 13) token.raw then guard.Return else guard.Free)

-- what a line end needs in the gap at a place, where these items' first one stands behind this guard
abbrev pub guard_from : Guard → List Stored → ℕ → Guard
guard_from g tokens zero = g
guard_from g [] (suc place) = g
guard_from g (token ∷ tokens) (suc place) = guard_from (guard_of token) tokens place

-- the same, where nothing stands before the first item
abbrev pub guard_before : List Stored → ℕ → Guard
guard_before tokens place = guard_from guard.Free tokens place

-- it stands behind a last backslash
abbrev pub is_behind_backslash : Guard → Bool
is_behind_backslash guard.Free = false
is_behind_backslash guard.Blank = true
is_behind_backslash guard.Splice = true
is_behind_backslash guard.Return = false

-- what stands before the line end
abbrev pub guard_text : Bool → Guard → List ℕ
guard_text crlf guard.Free = []
guard_text crlf guard.Blank = 32 ∷ []
guard_text crlf guard.Splice = 92 ∷ line_end crlf
guard_text crlf guard.Return = []

-- its lines end in `\r\n`
abbrev pub guarded_ends : Bool → Guard → Bool
guarded_ends crlf guard.Free = crlf
guarded_ends crlf guard.Blank = crlf
guarded_ends crlf guard.Splice = crlf
guarded_ends crlf guard.Return = true

-- so many line ends behind a guard, and indentation to a column of a line at this level
abbrev pub guarded_lines : Style → Bool → Guard → ℕ → ℕ → ℕ → List ℕ
guarded_lines style crlf guard count column level =
    guard_text crlf guard ++ gap_text style (guarded_ends crlf guard) (Lines count column level) []

-- the guard that a decision needs: only line ends that are decided need one
abbrev pub guard_for : Guard → Decision → Guard
guard_for g Old = guard.Free
guard_for g (Spaces count) = guard.Free
guard_for g (Lines count column level) = g
guard_for g (Splice pad column) = guard.Free

-- The bytes of a decision behind an item that leaves this guard, where the input's gap has these.
abbrev pub guarded_text : Style → Bool → Guard → Decision → List ℕ → List ℕ
guarded_text style crlf g decision old =
    guard_text crlf (guard_for g decision) ++ gap_text style (guarded_ends crlf (guard_for g decision)) decision old
