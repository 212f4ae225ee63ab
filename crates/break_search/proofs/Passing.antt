-- A settled vertex that another one passes needs not be followed.
use Rattle.std.proofs.Common.{◌≡◌, ◌≢◌, ℕ, ◌<◌, ◌≤◌, Bool, true, false, nat_lt, Option, Some, None, List, [], ◌∷◌, length, refl, arith, rules, slice_get, zero, suc}
use Rattle.std.specs.Bool.{OnTrue}
use Rattle.line_state.proofs.Ways.{rank, AtMost}
use Rattle.line_state.proofs.Dominance.{Dominates}
use Rattle.line_state.proofs.Table.{Vertex, path, IsTable, Nothing}
use Rattle.line_state.proofs.Moves.{AllOf, drop}
use Rattle.line_state.specs.Layout.{Layout}
use Rattle.line_state.specs.Line.{Line, gaps, first_layout, Step}
use Rattle.line_state.proofs.Steps.{functional}
use Rattle.searched_line.specs.Ahead.{least_ahead}
use Rattle.search_frontier.specs.Frontier.{Entry}
use Rattle.break_search.specs.Passing.{StandsAhead, IsAhead, IsBetter, Passes}
use Rattle.break_search.specs.Progress.{KeepsSettled, IsRunning, IsSettled}
use Rattle.searched_line.specs.Saturation.{IsNarrow}
use Rattle.break_search.specs.Vertices.{HaveLevels, AreLevel, IsCostOf, rank_at}
use Rattle.break_search.proofs.Endings.{inner_runs}
use Rattle.break_search.proofs.Forks.{rank_at_is}
use Rattle.break_search.proofs.LineFacts.{have_levels}
use Rattle.searched_line.proofs.Narrow.{dominates_ahead}

none_less : (vertices : List (Vertex Layout)) (u : ℕ) → u < length vertices → slice_get vertices u ≡ None → ⊥
none_less [] u less e = omega (arith, less)
none_less (x ∷ xs) zero less e = absurd (some_none x e)
  where
    some_none : (x : Vertex Layout) → Some x ≡ None → ⊥
    some_none x e = cc
none_less (x ∷ xs) (suc u) less e = none_less xs u (omega (arith, less)) e

vertex_at : (vertices : List (Vertex Layout)) (u : ℕ) → u < length vertices → (x : Vertex Layout) × (slice_get vertices u ≡ Some x)
vertex_at vertices u less = by_option (slice_get vertices u) refl
  where
    by_option : (o : Option (Vertex Layout)) → slice_get vertices u ≡ o → (x : Vertex Layout) × (slice_get vertices u ≡ Some x)
    by_option None e = absurd (none_less vertices u less e)
    by_option (Some x) e = (x, e)

-- the cost of a vertex, where all are small
pub small_at : (table : List (Vertex Layout)) (v cost most : ℕ) → v < length table → ((x : Vertex Layout) → slice_get table v ≡ Some x → x.cost ≤ most) → IsCostOf table v cost → cost ≤ most
small_at table v cost most within all is =
    let x = vertex_at table v within in
    omega (arith, all x.0 x.1, is x.0 x.1)

-- two vertices, the first ahead of the other, stand behind as many choices
pub ahead_level : (table : List (Vertex Layout)) (v w : ℕ) → HaveLevels table → v < length table → w < length table → v ≢ w → IsAhead table v w → AreLevel table v w
ahead_level table v w levels in_v in_w differ ahead =
    let x = vertex_at table v in_v in
    let y = vertex_at table w in_w in
    let a : StandsAhead x.0.state y.0.state = ahead x.0 y.0 x.1 y.1 in
    record { one = x.0; other = y.0; at_one = x.1; at_other = y.1; level = omega (arith, levels v x.0 x.1, levels w y.0 y.1, a.index); differ = differ; in_one = in_v; in_other = in_w }

-- the way at the smaller cost is better
pub cheaper_is_better : (table : List (Vertex Layout)) (v w cost other : ℕ) → IsCostOf table v cost → IsCostOf table w other → OnTrue (nat_lt cost other) (IsBetter table v w)
cheaper_is_better table v w cost other is_cost is_other = by_test (nat_lt cost other) refl
  where
    by_test : (b : Bool) → nat_lt cost other ≡ b → OnTrue b (IsBetter table v w)
    by_test false e = tt
    by_test true e = λ x y at_x at_y.
        let less : cost < other = search rules in
        record { cost = omega (arith, less, is_cost x at_x, is_other y at_y); tie = λ same. omega (arith, less, same, is_cost x at_x, is_other y at_y) }

pub passes_by : (table : List (Vertex Layout)) (v w : ℕ) → v < length table → v ≢ w → ((x : Vertex Layout) → slice_get table v ≡ Some x → x.settled ≡ true) → IsAhead table v w → IsBetter table v w → Passes table v w
passes_by table v w in_v differ settled ahead better =
    let x = vertex_at table v in_v in
    record { node = x.0; at = x.1; differ = differ; settled = settled x.0 x.1; ahead = ahead; better = better }

module _ (line : Line) (some : 0 < length line.tokens) (narrow : IsNarrow line) (budget : ℕ) (table : List (Vertex Layout)) (entries : List Entry) (cells : ℕ) (best : Option ℕ) (w : ℕ) (k : IsSettled line table entries cells best w) where
  passed_table : (v : ℕ) → Passes table v w → IsTable (Step line) (least_ahead line) (first_layout line) (gaps line) table Nothing
  passed_table v p = drop (Step line) (least_ahead line) (first_layout line) (gaps line) (functional line) table w v k.node p.node t k.at p.at p.differ p.settled level over good
    where
      t : IsTable (Step line) (least_ahead line) (first_layout line) (gaps line) table (AllOf w)
      t = k.search.table

      ahead : StandsAhead p.node.state k.node.state
      ahead = p.ahead p.node k.node p.at k.at

      level : p.node.depth ≡ k.node.depth
      level = omega (arith, ahead.index, have_levels line table (AllOf w) t some v p.node p.at, have_levels line table (AllOf w) t some w k.node k.at)

      over : Dominates (Step line) (least_ahead line) p.node.state k.node.state
      over = dominates_ahead line narrow some (path table k.node.depth w) p.node.state k.node.state k.node.cost (t.sound w k.node k.at).reaches ahead.index ahead.base ahead.frames ahead.column

      good : AtMost p.node.cost (rank (path table p.node.depth v)) k.node.cost (rank (path table k.node.depth w))
      good =
          let b : AtMost p.node.cost (rank_at table v) k.node.cost (rank_at table w) = p.better p.node k.node p.at k.at in
          record { cost = b.cost; tie = λ e. omega (arith, b.tie e, rank_at_is table v p.node p.at, rank_at_is table w k.node k.at) }

  keeps : KeepsSettled table table
  keeps = record { kept = λ u x at settled. at; only = λ u x at settled. at; count = refl }

  -- the search goes on without following it
  pub passed_runs : (v : ℕ) → Passes table v w → cells ≤ budget → k.node.depth < gaps line → IsRunning line budget table entries cells best
  passed_runs v p small more = inner_runs line budget table table entries entries cells best w k small more
      (record { table = passed_table v p; waits = k.search.waits; cheap = k.search.cheap; known = k.search.known; enough = k.search.enough }) keeps
