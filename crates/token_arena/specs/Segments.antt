-- Stretches of items, and how a view keeps them.
use Rattle.std.specs.Prelude.{◌≡◌, ◌<◌, ◌≤◌, ◌+◌, ◌-◌, ℕ, List, [], ◌∷◌, ◌++◌, map, get_or, ⊤}
use Rattle.std.specs.List.{range_with_len}
use Rattle.token_arena.specs.declared.view.Segment.{Segment}
use Rattle.token_arena.specs.declared.view.Stretch.{Stretch}

-- the numbers of the items of some stretches, each given by its first item and the first behind it
abbrev pub ids_of : List (ℕ × ℕ) → List ℕ
ids_of [] = []
ids_of (stretch ∷ stretches) = range_with_len stretch.0 (stretch.1 - stretch.0) ++ ids_of stretches

-- None of these stretches is empty, none begins before a bound, and between two of them at least one item is left out.
abbrev pub AscendFrom : ℕ → List (ℕ × ℕ) → Type 0
AscendFrom low [] = ⊤
AscendFrom low (stretch ∷ stretches) =
    (low ≤ stretch.0) × (stretch.0 < stretch.1) × AscendFrom (stretch.1 + 1) stretches

-- the first item of a segment and the first behind it
abbrev pub segment_bounds : Segment → ℕ × ℕ
segment_bounds segment = (segment.first, segment.end)

-- the first item of a stretch and the first behind it
abbrev pub bounds_of : Stretch → ℕ × ℕ
bounds_of stretch = (stretch.first, stretch.end)

-- Each segment says how many places stand before it, where so many stand before the first.
abbrev pub CountFrom : ℕ → List Segment → Type 0
CountFrom before [] = ⊤
CountFrom before (segment ∷ segments) =
    (segment.before ≡ before) × CountFrom (before + (segment.end - segment.first)) segments

-- what the segments of a view keep
pub record AreSegments (segments : List Segment) : Type 0 where
  pub order : AscendFrom 0 (map segment_bounds segments)
  pub counts : CountFrom 0 segments

-- what a list of segments has past its end
abbrev pub no_segment : Segment
no_segment = record { first = 0; end = 0; before = 0 }

-- the segment with the number j has the place k
pub record HasPlace (segments : List Segment) (k j : ℕ) : Type 0 where
  pub low : (get_or segments j no_segment).before ≤ k
  pub high : k
      < (get_or segments j no_segment).before
      + ((get_or segments j no_segment).end - (get_or segments j no_segment).first)
