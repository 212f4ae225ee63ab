-- Unwrapped lines: docs/PROFILE.md, "Statements and lines".
use Rattle.std.specs.Prelude.{◌≡◌, ◌≤◌, ℕ, ◌+◌, Bool, true, false, List, [], ◌∷◌}
use Rattle.line_tokens.specs.declared.line.LineKind.{LineKind}
use Rattle.line_tokens.specs.declared.line.LineKind.TheVariants.{CaseLabel, GotoLabel}
use Rattle.line_tokens.specs.declared.line.ULine.{ULine}

-- a label
abbrev pub is_label : LineKind → Bool
is_label CaseLabel = true
is_label GotoLabel = true
is_label _ = false

-- the lines cut the places from one to before another whole and in order
abbrev pub CutPlaces : ℕ → ℕ → List ULine → Type 0
CutPlaces at count [] = at ≡ count
CutPlaces at count (line ∷ lines) =
    (line.first ≡ at) × ((line.first ≤ line.last) × CutPlaces (line.last + 1) count lines)
