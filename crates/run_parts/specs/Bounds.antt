-- Where parts of a view end, as its first items tell.
use Rattle.std.specs.Prelude.{◌<◌, ◌≤◌, ℕ, List, ◌++◌, Option, None, get_or, length}
use Rattle.token_arena.specs.Gaps.{Contents}
use Rattle.branch_runs.specs.Anew.{items_between}
use Rattle.part_walk.specs.Places.{Place, place_in}
use Rattle.view_parts.specs.Parts.{ArePartsUpTo}
use Rattle.run_parts.specs.declared.bounds.KnownBound.{KnownBound}

-- the parts of a view that begins with these items end at this place, outside brackets or in a body, whatever follows
-- them
abbrev pub BeginTold : Contents → List ℕ → ℕ → Option Place → Type 0
BeginTold arena told last inside =
    (rest : List ℕ) → ArePartsUpTo arena (told ++ rest) None 0 (record { end = last; inside = inside })

-- parts of the view end before this item, as those before the other one tell
pub record IsBound (arena : Contents) (view : List ℕ) (item told : ℕ) (inside : Option Place) : Type 0 where
  pub order : item ≤ told
  pub begin : BeginTold arena (items_between 0 told view) (length (items_between 0 item view)) inside

-- before the first item
abbrev pub no_bound : KnownBound
no_bound = record { item = 0; told = 0; inside = None }

-- bounds of a view, none of which is told by later items than one behind it, and none by an item from this one on
pub record AreBounds (arena : Contents) (view : List ℕ) (bounds : List KnownBound) (told : ℕ) : Type 0 where
  pub each : (k : ℕ) → k < length bounds →
      IsBound arena view (get_or bounds k no_bound).item (get_or bounds k no_bound).told
      (place_in (get_or bounds k no_bound).inside)
  pub order : (j k : ℕ) → j ≤ k → k < length bounds → (get_or bounds j no_bound).told ≤ (get_or bounds k no_bound).told
  pub most : (k : ℕ) → k < length bounds → (get_or bounds k no_bound).told ≤ told
