-- Windows of what a run sees.
use Rattle.std.specs.Prelude.{◌≡◌, ◌<◌, ◌≤◌, ◌-◌, ℕ, List, Option, length, slice_range}
use Rattle.token_arena.specs.Gaps.{Contents}
use Rattle.branch_runs.specs.Anew.{items_between}
use Rattle.part_walk.specs.Places.{Place}
use Rattle.view_parts.specs.Told.{TellParts}
use Rattle.run_parts.specs.Runs.{seen_by}

-- how many items a run sees before one
abbrev pub place_before : Contents → ℕ → ℕ → ℕ
place_before arena run first = length (items_between 0 first (seen_by arena run))

-- these are the items from one to before another that a run sees
pub record IsWindow (arena : Contents) (run : ℕ) (view : List ℕ) (first end : ℕ) : Type 0 where
  pub items : view ≡ items_between first end (seen_by arena run)
  pub order : first ≤ end

-- the items of a window from one place to before another tell where parts end that begin there, outside brackets or in
-- a body
pub record AreToldIn (arena : Contents) (view : List ℕ) (begins : Option Place) (first end : ℕ)
    (inside : Option Place) (told : ℕ) : Type 0 where
  pub tell : TellParts arena begins (slice_range view first told) (end - first) inside
  pub later : end < told
  pub below : told ≤ length view
