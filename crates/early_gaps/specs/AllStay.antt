-- What holds where all directives of a text are laid out.
use Rattle.std.specs.Prelude.{◌≡◌, ◌≢◌, ◌<◌, ◌+◌, ℕ, List, Option, length, IsSome}
use Rattle.style_table.specs.declared.style.Style.{Style}
use Rattle.token_arena.specs.Gaps.{Contents}
use Rattle.token_arena.specs.Holds.{HoldsItems}
use Rattle.token_arena.specs.Sections.{sections_of}
use Rattle.replacements.specs.declared.slot.Slot.{Slot}
use Rattle.replacements.specs.declared.stance.Stance.TheVariants.{OfText}
use Rattle.replacements.specs.Decisions.{slot_of, decided_all}
use Rattle.replacements.specs.Sound.{IsSound}
use Rattle.replacements.specs.Stances.{stance_in}
use Rattle.early_gaps.specs.AllLaid.{all_laid}

-- A plan that decides only what may stand is such a plan behind the decisions for all directives too.
abbrev pub AllDirectivesStaySound : Type 0
AllDirectivesStaySound =
    (style : Style) (arena : Contents) (plan : List (Option Slot)) →
    HoldsItems arena → IsSound arena plan → IsSound arena (decided_all plan (all_laid style arena))

-- Behind them the gap before each item of a directive is decided.
abbrev pub AllDirectivesAreDecided : Type 0
AllDirectivesAreDecided =
    (style : Style) (arena : Contents) (plan : List (Option Slot)) (place : ℕ) →
    length plan ≡ length arena.tokens + 1 → place < length arena.tokens → stance_in (sections_of arena) place ≢ OfText →
    IsSome (slot_of (decided_all plan (all_laid style arena)) place)
