-- Vertices that need not be followed, since what follows others is at least as good.
use Rattle.std.specs.Prelude.{◌≡◌, ◌≢◌, ℕ, ◌≤◌, true, Some, List, slice_get}
use Rattle.line_state.proofs.Ways.{AtMost}
use Rattle.line_state.proofs.Table.{Vertex}
use Rattle.line_state.specs.Layout.{Layout}
use Rattle.break_search.specs.Vertices.{rank_at}

-- a layout of the same tokens and frames, at a column that isn't larger
pub record StandsAhead (t s : Layout) : Type 0 where
  pub index : t.index ≡ s.index
  pub base : t.base ≡ s.base
  pub frames : t.frames ≡ s.frames
  pub column : t.column ≤ s.column

abbrev pub IsAhead : List (Vertex Layout) → ℕ → ℕ → Type 0
IsAhead table v w =
    (x y : Vertex Layout) → slice_get table v ≡ Some x → slice_get table w ≡ Some y → StandsAhead x.state y.state

-- the way to the vertex at v is no worse than that to the one at w
abbrev pub IsBetter : List (Vertex Layout) → ℕ → ℕ → Type 0
IsBetter table v w =
    (x y : Vertex Layout) → slice_get table v ≡ Some x → slice_get table w ≡ Some y →
    AtMost x.cost (rank_at table v) y.cost (rank_at table w)

-- another vertex, at v, is settled, stands ahead of the one at w, and has a way that is no worse
pub record Passes (table : List (Vertex Layout)) (v w : ℕ) : Type 0 where
  pub node : Vertex Layout
  pub at : slice_get table v ≡ Some node
  pub differ : v ≢ w
  pub settled : node.settled ≡ true
  pub ahead : IsAhead table v w
  pub better : IsBetter table v w
