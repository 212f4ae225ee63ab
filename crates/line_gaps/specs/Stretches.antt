-- Items of a view that follow one another in the text.
use Rattle.std.specs.Prelude.{◌≡◌, ◌<◌, ◌+◌, ◌-◌, ℕ, List, get_or, length}
use Rattle.token_arena.specs.declared.view.Segment.{Segment}
use Rattle.token_arena.specs.declared.view.Stretch.{Stretch}
use Rattle.token_arena.specs.Segments.{no_segment, HasPlace}

-- the items of a view from a place on are those of a stretch
abbrev pub AreFrom : List ℕ → ℕ → Stretch → Type 0
AreFrom ids k stretch = (j : ℕ) → j < stretch.end - stretch.first → get_or ids (k + j) 0 ≡ stretch.first + j

-- the items from a place on of the segment that has it
pub record IsRest (segments : List Segment) (number k : ℕ) (rest : Stretch) : Type 0 where
  pub within : number < length segments
  pub has : HasPlace segments k number
  pub first : rest.first ≡ (get_or segments number no_segment).first + (k - (get_or segments number no_segment).before)
  pub end : rest.end ≡ (get_or segments number no_segment).end
