-- What a text is laid out by, and what is made of it on the way, beside what is known of its parts.
use Rattle.std.specs.Prelude.{◌≡◌, ◌<◌, ◌≤◌, ◌+◌, ◌*◌, ℕ, All, IsSome, List, Option, get_or, length}
use Rattle.std.specs.Option.{ForNone, ForSome}
use Rattle.style_table.specs.Range.{IsInRange}
use Rattle.token_arena.specs.Gaps.{Contents}
use Rattle.item_classes.specs.Viewed.{item_classes}
use Rattle.replacements.specs.Decisions.{slot_of}
use Rattle.replacements.specs.declared.slot.Slot.{Slot}
use Rattle.line_gaps.specs.Counted.{IsCounted}
use Rattle.part_walk.specs.Places.{Place, place_in}
use Rattle.view_parts.specs.declared.known.KnownEnd.{KnownEnd}
use Rattle.view_parts.specs.declared.known.KnownSpan.{KnownSpan}
use Rattle.view_parts.specs.declared.known.PartsEnd.{PartsEnd}
use Rattle.view_parts.specs.Known.{AreKnown, AreSpans}
use Rattle.view_parts.specs.Parts.{StandsBefore, items_before}
use Rattle.early_gaps.specs.declared.context.Context.{Context}
use Rattle.run_parts.specs.Runs.{AreRowsDecided}
use Rattle.run_parts.specs.Windows.{AreToldIn}
use Rattle.format_core.specs.declared.runs.Made.{Made}

-- the style is one that there is, the budget is within its limit, and these are the classes of all items
pub record IsReady (context : Context) : Type 0 where
  pub range : IsInRange context.style.now
  pub budget : context.budget ≤ 16000000
  pub all : context.classes.now ≡ item_classes context.arena.now

-- what is made of a text fits it
pub record IsMade (arena : Contents) (made : Made) : Type 0 where
  pub whole : length made.plan ≡ length arena.tokens + 1
  pub cheap : made.tally.cost ≤ made.tally.searched * 18446744073709551615
  pub counted : IsCounted arena made.tally.lines

-- so does what is known of its parts
pub record AreInStep (arena : Contents) (made : Made) (knowns : List KnownEnd) (kept : List KnownSpan) : Type 0 where
  pub made_is : IsMade arena made
  pub known : AreKnown arena knowns
  pub rows : AreRowsDecided made.plan knowns
  pub spans : AreSpans arena kept

-- what stands for the place where a part of a view begins are items of the text before the part, and their gaps are
-- decided
pub record IsBegun (arena : Contents) (plan : List (Option Slot)) (view : List ℕ) (begins : Option Place) (first : ℕ) :
    Type 0 where
  pub before : ForSome begins (λ place. StandsBefore place (get_or view first 0))
  pub items : All (λ id. id < length arena.tokens) (items_before begins)
  pub decided : All (λ id. IsSome (slot_of plan id)) (items_before begins)

-- parts of a view end so that begin at this place, as its items tell, or with the view
pub record AreNext (arena : Contents) (view : List ℕ) (begins : Option Place) (first : ℕ) (parts : PartsEnd) : Type 0
  where
    pub some : first < parts.end
    pub told : ForSome parts.told
        (λ told. AreToldIn arena view begins first parts.end (place_in parts.inside) told)
    pub whole : ForNone parts.told (parts.end ≡ length view)
