-- Where parts of a view end, as some of its items tell it.
use Rattle.std.specs.Prelude.{◌≡◌, ◌<◌, ◌≤◌, ℕ, ◌+◌, ◌-◌, List, ◌++◌, Option, length, drop, get_or, slice_range}
use Rattle.std.specs.Option.{ForNone, ForSome}
use Rattle.token_arena.specs.Gaps.{Contents}
use Rattle.view_parts.specs.declared.known.PartsEnd.{PartsEnd}
use Rattle.part_walk.specs.Places.{Place, place_in}
use Rattle.view_parts.specs.Parts.{part_inside, part_len, ArePartsUpTo, StandsBefore}

-- Parts that follow one another begin with these items, outside brackets or at this place of a body, and the last of
-- them ends behind so many, there or in a body, whatever stands before and behind these items.
abbrev pub TellParts : Contents → Option Place → List ℕ → ℕ → Option Place → Type 0
TellParts arena begins told count inside =
    (before rest : List ℕ) →
    ArePartsUpTo arena (before ++ (told ++ rest)) begins (length before)
    (record { end = length before + count; inside = inside })

-- the part of a view that begins at this place, outside brackets or at that place of a body, ends so
pub record IsEndOfPart (arena : Contents) (begins : Option Place) (view : List ℕ) (first : ℕ) (part : PartsEnd) :
    Type 0 where
  pub end : part.end ≡ first + part_len arena begins (drop first view)
  pub begun : place_in part.inside ≡ part_inside arena begins (drop first view)
  pub place : ForSome (place_in part.inside) (λ place. StandsBefore place (get_or view part.end 0))
  pub some : first < part.end
  pub inside : part.end ≤ length view
  pub told : ForSome part.told
      (λ told. TellParts arena begins (slice_range view first told) (part.end - first) (place_in part.inside))
  pub later : ForSome part.told (λ told. part.end < told)
  pub below : ForSome part.told (λ told. told ≤ length view)
  pub whole : ForNone part.told (part.end ≡ length view)
