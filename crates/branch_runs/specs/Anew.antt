-- How the view of a run differs from that of the run before it.
use Rattle.std.specs.Prelude.{◌≡◌, ◌≢◌, ◌<◌, ◌≤◌, ◌⊎◌, ℕ, ◌-◌, nat_le, nat_lt, ◌&&◌, List, [], ◌∷◌, if◌then◌else◌}
use Rattle.std.specs.List.{Contains}
use Rattle.branch_runs.specs.declared.change.Change.{Change}
use Rattle.branch_runs.specs.Tree.{Group}
use Rattle.branch_runs.specs.Runs.{view_of}

-- the items from one to before another
abbrev pub items_between : ℕ → ℕ → List ℕ → List ℕ
items_between first end [] = []
items_between first end (id ∷ ids) =
    if nat_le first id && nat_lt id end then id ∷ items_between first end ids else items_between first end ids

-- the first view has the item, and the second doesn't
abbrev pub HasAlone : List ℕ → List ℕ → ℕ → Type 0
HasAlone view other id = Contains view id × (Contains other id → ⊥)

-- what is told of a run that sees the same as the run before it
abbrev pub no_change : Change
no_change = record { first = 4294967295; end = 0 }

-- How the view of a run differs from that of the run before it: from the first item that one of both sees alone, up to
-- behind the last one that the later run sees alone, if there is one.
pub record IsChange (group : Group) (r : ℕ) (change : Change) : Type 0 where
  pub before : items_between 0 change.first (view_of group r) ≡ items_between 0 change.first (view_of group (r - 1))
  pub first : view_of group r ≢ view_of group (r - 1)
      → HasAlone (view_of group r) (view_of group (r - 1)) change.first
      ⊎ HasAlone (view_of group (r - 1)) (view_of group r) change.first
  pub behind : (id : ℕ) → change.end ≤ id → Contains (view_of group r) id → Contains (view_of group (r - 1)) id
  pub last : 0 < change.end → HasAlone (view_of group r) (view_of group (r - 1)) (change.end - 1)
  pub same : view_of group r ≡ view_of group (r - 1) → change ≡ no_change
