-- The gaps of a text.
use Rattle.std.proofs.Common.{◌≡◌, refl, None, ℕ, zero, suc, ◌≤◌, ◌-◌, List, [], ◌∷◌, length, drop, arith}
use Rattle.std.specs.Prelude.{slice_get}
use Rattle.std.specs.List.{list_any}
use Rattle.c_chars.specs.Characters.{mark_len}
use Rattle.c_grammar.specs.Grammar.{is_new_line}
use Rattle.c_grammar.specs.Rewritten.{read_alone}
use Rattle.token_arena.specs.Gaps.{Contents, behind, gap_from, gap_of}
use Rattle.token_arena.specs.Stored.{Stored}
use Rattle.replacements.specs.Breaks.{has_new_line_at}
use Rattle.std.proofs.lemmas.List.{length-drop, length-take}
use Rattle.std.proofs.lemmas.Option.{slice_get_past}

-- no gap is longer than its text
gap_short : (text : List ℕ) (at : ℕ) (tokens : List Stored) (place : ℕ) → length (gap_from text at tokens place) ≤ length text
gap_short text at [] place = omega (arith, length-drop at text)
gap_short text at (token ∷ tokens) zero = omega (arith, length-take (token.start - at) (drop at text), length-drop at text)
gap_short text at (token ∷ tokens) (suc place) = gap_short text (behind token) tokens place

-- the gap at a place
pub gap_fits : (arena : Contents) (place : ℕ) → length (gap_of arena place) ≤ length arena.text
gap_fits arena place = gap_short arena.text (mark_len arena.text) arena.tokens place

-- whether a text's last gap has a new-line
pub last_gap : (arena : Contents) (place : ℕ) → length arena.tokens ≤ place
    → list_any is_new_line (read_alone arena.dialect (gap_of arena place)) ≡ has_new_line_at arena place
last_gap arena place h = let none_there : slice_get arena.tokens place ≡ None = slice_get_past arena.tokens place h in rw none_there refl
