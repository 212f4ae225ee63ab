-- The effects of sections.
use Rattle.std.proofs.Common.{◌≡◌, ℕ, List, [], ◌∷◌, length, map, refl, sym, subst, arith, ◌≤◌}
use Rattle.branch_runs.specs.declared.mark.Mark.{Mark}
use Rattle.branch_runs.specs.declared.mark.Open.{Open}
use Rattle.branch_runs.specs.declared.node.Node.{Node}
use Rattle.branch_runs.specs.Reading.{effects_in, effects, open_after, kind_in, read, rest_of}
use Rattle.branch_runs.specs.Links.{node_mark}
use Rattle.branch_runs.specs.Fits.{FitNodes}
use Rattle.branch_runs.specs.Runs.{need}
use Rattle.std.proofs.lemmas.List.{length-map}

pub length_effects : (marks : List Mark) (stack : List Open) → length (effects_in stack marks) ≡ length marks
length_effects [] stack = refl
length_effects (m ∷ marks) stack = let h = length_effects marks (open_after (kind_in m.kind stack) stack) in omega (arith, h)

pub small_effects : (marks : List Mark) (n : ℕ) → length marks ≤ n → length (effects marks) ≤ n
small_effects marks n h = rw (length_effects marks []) h

-- what the nodes have to keep, from what was read
pub record Keeps (nodes : List Node) (count : ℕ) : Type 0 where
  pub fit : FitNodes (map node_mark nodes) 0 nodes
  pub need_is : count ≡ need (read (map node_mark nodes))

pub keeps : (nodes : List Node) (count : ℕ) (marks : List Mark) → map node_mark nodes ≡ marks → FitNodes marks 0 nodes
    → count ≡ need (rest_of marks).0 → Keeps nodes count
keeps nodes count marks is fit need_is = record {
  fit = subst (λ ms. FitNodes ms 0 nodes) (sym is) fit;
  need_is = subst (λ ms. count ≡ need (rest_of ms).0) (sym is) need_is;
}

pub small_nodes : (nodes : List Node) (marks : List Mark) (n : ℕ) → map node_mark nodes ≡ marks → length marks ≤ n → length nodes ≤ n
small_nodes nodes marks n is h = rw (← length-map nodes node_mark, is) h

pub small_linked : (new old : List Node) (n : ℕ) → map node_mark new ≡ map node_mark old → length old ≤ n → length new ≤ n
small_linked new old n is h = small_nodes new (map node_mark old) n is (rw (length-map old node_mark) h)
