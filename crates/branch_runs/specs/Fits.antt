-- Nodes and levels that say what is read from the marks.
use Rattle.std.specs.Prelude.{⊤, ◌≡◌, ℕ, ◌+◌, ◌<◌, ◌≤◌, List, [], ◌∷◌, drop}
use Rattle.branch_runs.specs.declared.mark.MarkKind.TheVariants.{Text}
use Rattle.branch_runs.specs.declared.mark.Mark.{Mark}
use Rattle.branch_runs.specs.declared.node.Level.{Level}
use Rattle.branch_runs.specs.declared.node.Node.{Node}
use Rattle.branch_runs.specs.Tree.{Group, nothing}
use Rattle.branch_runs.specs.Reading.{Around, branches_of, group_of, rest_of}
use Rattle.branch_runs.specs.Runs.{need, needs}
use Rattle.branch_runs.specs.Links.{node_mark}

-- the rest of the innermost group and what follows around it, from the section with this number on
abbrev pub rest_at : List Mark → ℕ → Group × Around
rest_at marks at = rest_of (drop at marks)

-- What is kept of the innermost conditional: how many runs the branches that follow in it need, and which section
-- begins the next one or ends it.
pub record Leads (marks : List Mark) (later next : ℕ) (around : Around) : Type 0 where
  pub later_is : later ≡ needs (branches_of around)
  pub next_is : rest_at marks next ≡ (nothing, around)

-- The level says what is read of the innermost conditional.
pub record FitsLevel (marks : List Mark) (level : Level) (around : Around) : Type 0 where
  pub leads : Leads marks level.later level.next around
  pub need_is : level.need ≡ need (group_of around)

-- Each level says what is read of its conditional.
abbrev pub FitLevels : List Mark → List Level → Around → Type 0
FitLevels marks [] [] = ⊤
FitLevels marks (level ∷ levels) (a ∷ around) = FitsLevel marks level (a ∷ around) × FitLevels marks levels around
FitLevels marks [] (a ∷ around) = ⊥
FitLevels marks (level ∷ levels) [] = ⊥

-- The node says what is read behind the section with this number; what it names stands behind it.
pub record FitsNode (marks : List Mark) (at : ℕ) (node : Node) : Type 0 where
  pub here : drop at marks ≡ node_mark node ∷ drop (at + 1) marks
  pub need_is : node.need ≡ need (rest_at marks (at + 1)).0
  pub leads : Leads marks node.later node.next (rest_at marks (at + 1)).1
  pub next_after : at < node.next

-- These are the nodes of the sections from this number on.
abbrev pub FitNodes : List Mark → ℕ → List Node → Type 0
FitNodes marks at [] = ⊤
FitNodes marks at (node ∷ nodes) = FitsNode marks at node × FitNodes marks (at + 1) nodes

-- What the levels name stands at this section or behind it.
abbrev pub LevelsFrom : ℕ → List Level → Type 0
LevelsFrom at [] = ⊤
LevelsFrom at (level ∷ levels) = (at ≤ level.next) × LevelsFrom at levels

-- what a list of nodes has past its end
abbrev pub no_node : Node
no_node = record { first = 0; end = 0; kind = Text; need = 0; later = 0; next = 0 }
