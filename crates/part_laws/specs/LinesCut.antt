-- A view that is cut behind a declaration of the file. Its first part ends where the first declaration does behind
-- which the next begins on a line of its own.
use Rattle.std.specs.Prelude.{◌≡◌, ℕ, ◌+◌, Option, Some, None, List, [], ◌++◌, length, map}
use Rattle.line_tokens.specs.declared.line.ULine.{ULine}
use Rattle.style_table.specs.declared.style.Style.{Style}
use Rattle.token_arena.specs.Gaps.{Contents}
use Rattle.item_classes.specs.Viewed.{AreWithin, classes_of}
use Rattle.token_classes.specs.Partners.{partners_of}
use Rattle.unwrapped_lines.specs.Lines.{lines_of_items}
use Rattle.part_laws.specs.Declarations.{start, next_end}

-- the first declarations of these items end where the later ones begin
pub record IsFirstPart (arena : Contents) (earlier later : List ℕ) : Type 0 where
  pub within : AreWithin arena (earlier ++ later)
  pub ends : next_end arena start [] (earlier ++ later) ≡ Some (length earlier)

-- a partner, and a line, behind so many places
abbrev pub partner_behind : ℕ → Option ℕ → Option ℕ
partner_behind count None = None
partner_behind count (Some place) = Some (count + place)

abbrev pub line_behind : ℕ → ULine → ULine
line_behind count line =
    record { first = count + line.first; last = count + line.last; level = line.level; kind = line.kind }

-- the partners of the brackets among these items
abbrev pub partners_in : Contents → List ℕ → List (Option ℕ)
partners_in arena ids = partners_of (classes_of arena ids)

-- No bracket before such a cut has its partner behind it.
abbrev pub PartnersStay : Type 0
PartnersStay = (arena : Contents) (earlier later : List ℕ) → IsFirstPart arena earlier later
    → partners_in arena (earlier ++ later)
    ≡ partners_in arena earlier ++ map (partner_behind (length earlier)) (partners_in arena later)

-- The lines of a view are those of its first declarations by themselves, and then those of what follows by itself.
abbrev pub LinesStay : Type 0
LinesStay = (style : Style) (arena : Contents) (earlier later : List ℕ) → IsFirstPart arena earlier later
    → lines_of_items style arena (earlier ++ later)
    ≡ lines_of_items style arena earlier ++ map (line_behind (length earlier)) (lines_of_items style arena later)
