-- Which decision may stand for which gap: docs/PROFILE.md, "The text of a plan". It is a fact on the items, how they
-- stand and the decision alone.
use Rattle.std.specs.Prelude.{◌≡◌, ◌≢◌, ◌⊎◌, ◌<◌, ℕ, zero, suc, nat_lt, Bool, true, Option, Some, None, List, slice_get}
use Rattle.std.specs.Prelude.{IsTrue, IsFalse, ⊤}
use Rattle.c_chars.specs.declared.Dialect.{Dialect}
use Rattle.c_grammar.specs.Items.{Place, LineStart}
use Rattle.c_grammar.specs.Touch.{takes_line, may_touch}
use Rattle.c_grammar.specs.Twin.{IsTwin}
use Rattle.touching.specs.Spelling.{spelling}
use Rattle.token_arena.specs.Stored.{Stored}
use Rattle.token_arena.specs.Gaps.{Contents}
use Rattle.token_arena.specs.Holds.{HoldsItems}
use Rattle.token_arena.specs.Sections.{sections_of}
use Rattle.style_table.specs.declared.style.Style.{Style}
use Rattle.replacements.specs.declared.gap_text.Decision.{Decision}
use Rattle.replacements.specs.declared.gap_text.Decision.TheVariants.{Old, Spaces, Lines, Splice}
use Rattle.replacements.specs.Decisions.{slot_of}
use Rattle.replacements.specs.Places.{behind_item, place_in, would_open, would_begin_name}
use Rattle.replacements.specs.Stances.{stance_in}
use Rattle.replacements.specs.Written.{written}
use Rattle.replacements.specs.declared.slot.Slot.{Slot}
use Rattle.replacements.specs.declared.stance.Stance.{Stance}
use Rattle.replacements.specs.declared.stance.Stance.TheVariants.{OfText, Within}

-- A gap of a text may be so many blanks: the item before it stands in the same text, and doesn't take its line where
-- the gap has a new-line; and there is no blank only where there was nothing, or where the two may touch.
pub record MayJoin (d : Dialect) (before : Stance) (left : Stored) (stance : Stance) (token : Stored) (count : ℕ) :
    Type 0 where
  pub here : stance ≡ OfText
  pub there : before ≡ OfText
  pub goes_on : IsTrue token.gap.began → IsFalse (takes_line left.kind)
  pub apart : (0 < count)
      ⊎ (IsTrue token.gap.empty ⊎ IsTrue (may_touch left.kind (spelling d left.raw) token.kind (spelling d token.raw)))

-- Inside a directive, behind an item that stands at this place, a gap may be white space or nothing. There is nothing
-- only where there was nothing, or where the two may touch; before the `(` directly behind a macro's name white space
-- stands where some stood, and only there (C11 6.10.3p10); and none comes that would make a header name (6.4.7).
pub record MaySpace (d : Dialect) (stood : Place) (left : Stored) (stance : Stance) (token : Stored) (white : Bool) :
    Type 0 where
  pub here : stance ≡ Within
  pub apart : IsTrue white
      ⊎ (IsTrue token.gap.empty ⊎ IsTrue (may_touch left.kind (spelling d left.raw) token.kind (spelling d token.raw)))
  pub opens : IsTrue (would_open d (behind_item d stood left) token) → white ≡ token.gap.white
  pub names : IsTrue (would_begin_name d stood left token) → IsFalse white

-- between an item that stands so and one that stands so: what stood there stays; some line ends, but not inside a
-- directive; blanks; or inside a directive a splice behind a blank
abbrev pub MayPart : Dialect → Place → Stance → Stored → Stance → Stored → Decision → Type 0
MayPart d stood before left stance token Old = ⊤
MayPart d stood before left stance token (Spaces count) =
    MayJoin d before left stance token count ⊎ MaySpace d stood left stance token (nat_lt 0 count)
MayPart d stood before left stance token (Lines count column level) = (0 < count) × (stance ≢ Within)
MayPart d stood before left stance token (Splice pad column) = (0 < pad) × MaySpace d stood left stance token true

-- before the first item
abbrev pub MayBegin : Decision → Type 0
MayBegin Old = ⊤
MayBegin (Spaces count) = ⊤
MayBegin (Lines count column level) = ⊤
MayBegin (Splice pad column) = ⊥

-- behind the last item
abbrev pub MayEnd : Decision → Type 0
MayEnd Old = ⊤
MayEnd (Spaces count) = count ≡ 0
MayEnd (Lines count column level) = 0 < count
MayEnd (Splice pad column) = ⊥

-- the item before a place
abbrev pub item_before : List Stored → ℕ → Option Stored
item_before tokens zero = None
item_before tokens (suc place) = slice_get tokens place

-- how it stands
abbrev pub stance_before : (ℕ → Stance) → ℕ → Stance
stance_before stances zero = OfText
stance_before stances (suc place) = stances place

-- where it stands to the directives
abbrev pub place_before : (ℕ → Place) → ℕ → Place
place_before places zero = LineStart
place_before places (suc place) = places place

-- at a place, where these two items stand there, if there are any
abbrev pub MayStandBetween : Dialect → Place → Stance → Option Stored → Stance → Option Stored → Decision → Type 0
MayStandBetween d stood before left stance None decision = MayEnd decision
MayStandBetween d stood before None stance (Some token) decision = MayBegin decision
MayStandBetween d stood before (Some left) stance (Some token) decision =
    MayPart d stood before left stance token decision

-- This decision may stand for the gap at a place.
abbrev pub MayStand : Contents → ℕ → Decision → Type 0
MayStand arena place decision =
    MayStandBetween arena.dialect (place_before (place_in arena) place)
    (stance_before (stance_in (sections_of arena)) place) (item_before arena.tokens place)
    (stance_in (sections_of arena) place) (slice_get arena.tokens place) decision

-- All that a plan decides may stand where it is decided.
abbrev pub IsSound : Contents → List (Option Slot) → Type 0
IsSound arena plan = (place : ℕ) (slot : Slot) → slot_of plan place ≡ Some slot → MayStand arena place slot.decision

-- The text of such a plan is a twin of the input, in every style and with either line end.
abbrev pub SoundPlansAreTwins : Type 0
SoundPlansAreTwins =
    (style : Style) (crlf : Bool) (arena : Contents) (plan : List (Option Slot)) →
    HoldsItems arena → IsSound arena plan →
    IsTwin arena.dialect arena.text (written style crlf arena (sections_of arena) plan)
