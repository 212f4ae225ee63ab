-- What the code keeps while it reads the marks from the last to the first.
use Rattle.std.specs.Prelude.{ℕ, ◌+◌, max, List, [], ◌∷◌}
use Rattle.branch_runs.specs.declared.mark.MarkKind.{MarkKind}
use Rattle.branch_runs.specs.declared.mark.MarkKind.TheVariants.{Text, IfZero, Opens, Branch, LastBranch, Ends, Flat}
use Rattle.branch_runs.specs.declared.mark.Mark.{Mark}
use Rattle.branch_runs.specs.declared.node.Level.{Level}
use Rattle.branch_runs.specs.declared.node.Node.{Node}

-- the innermost level; one without an end ends at the end of the text
abbrev pub level_of : ℕ → List Level → Level
level_of count [] = record { later = 0; need = 1; next = count }
level_of count (level ∷ levels) = level

-- the levels around it
abbrev pub below : List Level → List Level
below [] = []
below (level ∷ levels) = levels

-- how many runs the rest of the group needs and the levels, from a section on, where these are the same from behind it
-- on
abbrev pub links_after : ℕ → ℕ → MarkKind → ℕ → List Level → ℕ × List Level
links_after count at Text need levels = (need, levels)
links_after count at Flat need levels = (need, levels)
links_after count at IfZero need levels = (max (level_of count levels).later (level_of count levels).need, below levels)
links_after count at Opens need levels =
    (max (need + (level_of count levels).later) (level_of count levels).need, below levels)
links_after count at Branch need levels = (
  1,
  record { later = need + (level_of count levels).later; need = (level_of count levels).need; next = at }
      ∷ below levels,
)
links_after count at LastBranch need levels = (
  1,
  record { later = need + (level_of count levels).later; need = (level_of count levels).need; next = at }
      ∷ below levels,
)
links_after count at Ends need levels = (1, record { later = 0; need = need; next = at } ∷ levels)

-- all runs that the levels count
abbrev pub total_of : List Level → ℕ
total_of [] = 0
total_of (level ∷ levels) = level.later + level.need + total_of levels

-- all runs that are counted
abbrev pub total : ℕ → List Level → ℕ
total need levels = need + total_of levels

-- the mark of a node's section
abbrev pub node_mark : Node → Mark
node_mark node = record { first = node.first; end = node.end; kind = node.kind }
