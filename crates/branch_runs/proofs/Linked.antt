-- A step over the sections from their end keeps what is kept right.
use Rattle.std.proofs.Common.{set, ◌≡◌, ◌∙◌, ℕ, ◌+◌, ◌-◌, ◌*◌, ◌<◌, ◌≤◌, max, List, [], ◌∷◌, map, get_or, length, drop, refl, sym, ap, subst, arith}
use Rattle.branch_runs.specs.declared.mark.MarkKind.{MarkKind}
use Rattle.branch_runs.specs.declared.mark.MarkKind.TheVariants.{Text, IfZero, Opens, Branch, LastBranch, Ends, Flat}
use Rattle.branch_runs.specs.declared.mark.Mark.{Mark}
use Rattle.branch_runs.specs.declared.node.Level.{Level}
use Rattle.branch_runs.specs.declared.node.Node.{Node}
use Rattle.std.proofs.lemmas.List.{drop_more, drop-set, get_or-map, length-map}
use Rattle.std.proofs.Math.Seq.{drop-length, map-set_same}
use Rattle.branch_runs.specs.Tree.{Group, nothing}
use Rattle.branch_runs.specs.Reading.{Around, branches_of, outside, rest_with, rest_of}
use Rattle.branch_runs.specs.Runs.{need, needs}
use Rattle.branch_runs.specs.Links.{level_of, below, links_after, total_of, total, node_mark}
use Rattle.branch_runs.specs.Fits.{rest_at, FitsLevel, FitLevels, FitsNode, FitNodes, LevelsFrom}

pub top_fits : (marks : List Mark) (count : ℕ) (levels : List Level) (around : Around) → drop count marks ≡ [] → FitLevels marks levels around
    → FitsLevel marks (level_of count levels) around × FitLevels marks (below levels) (outside around)
top_fits marks count [] [] end fits =
    let rest : rest_at marks count ≡ (nothing, []) = ap rest_of end in (
      record { leads = record { later_is = refl; next_is = rest }; need_is = refl },
      tt,
    )
top_fits marks count (level ∷ levels) (a ∷ around) end fits = fits
top_fits marks count [] (a ∷ around) end fits = absurd fits
top_fits marks count (level ∷ levels) [] end fits = absurd fits

abbrev Linked : List Mark → ℕ × List Level → Group × Around → Type 0
Linked marks links rest = (links.0 ≡ need rest.0) × FitLevels marks links.1 rest.1

pub linked : (marks : List Mark) (count at n f e : ℕ) (kind : MarkKind) (g : Group) (around : Around) (levels : List Level)
    → drop count marks ≡ [] → n ≡ need g → FitLevels marks levels around
    → rest_at marks at ≡ rest_with kind f e g around
    → Linked marks (links_after count at kind n levels) (rest_with kind f e g around)
linked marks count at n f e Text g around levels end is fits now = (is, fits)
linked marks count at n f e Flat g around levels end is fits now = (is, fits)
linked marks count at n f e IfZero g around levels end is fits now =
    let top = top_fits marks count levels around end fits in
    (ap (λ a. max a (level_of count levels).need) top.0.leads.later_is ∙ ap (λ b. max (needs (branches_of around)) b) top.0.need_is, top.1)
linked marks count at n f e Opens g around levels end is fits now =
    let top = top_fits marks count levels around end fits in (
      rw (is, top.0.leads.later_is, top.0.need_is) refl,
      top.1,
    )
linked marks count at n f e Branch g around levels end is fits now =
    let top = top_fits marks count levels around end fits in (
      refl,
      (
        record {
          leads = record {
            later_is = rw (is, top.0.leads.later_is) refl;
            next_is = now;
          };
          need_is = top.0.need_is;
        },
        top.1,
      ),
    )
linked marks count at n f e LastBranch g around levels end is fits now =
    let top = top_fits marks count levels around end fits in (
      refl,
      (
        record {
          leads = record {
            later_is = rw (is, top.0.leads.later_is) refl;
            next_is = now;
          };
          need_is = top.0.need_is;
        },
        top.1,
      ),
    )
linked marks count at n f e Ends g around levels end is fits now = (
  refl,
  (
    record {
      leads = record { later_is = refl; next_is = now };
      need_is = is;
    },
    fits,
  ),
)

total_split : (count : ℕ) (levels : List Level) → (level_of count levels).later + (level_of count levels).need + total_of (below levels) ≤ total_of levels + 1
total_split count [] = omega arith
total_split count (level ∷ levels) = omega arith

-- the total grows by two at most
pub total_after : (count at n : ℕ) (kind : MarkKind) (levels : List Level)
    → total (links_after count at kind n levels).0 (links_after count at kind n levels).1 ≤ total n levels + 2
total_after count at n Text levels = omega arith
total_after count at n Flat levels = omega arith
total_after count at n IfZero levels = omega (arith, total_split count levels)
total_after count at n Opens levels = omega (arith, total_split count levels)
total_after count at n Branch levels = omega (arith, total_split count levels)
total_after count at n LastBranch levels = omega (arith, total_split count levels)
total_after count at n Ends levels = omega arith

top_from : (count at : ℕ) (levels : List Level) → at < count → LevelsFrom (at + 1) levels → at < (level_of count levels).next
top_from count at [] within from = within
top_from count at (level ∷ levels) within from = omega (arith, from.0)

from_more : (at : ℕ) (levels : List Level) → LevelsFrom (at + 1) levels → LevelsFrom at levels
from_more at [] from = tt
from_more at (level ∷ levels) from = (omega (arith, from.0), from_more at levels from.1)

from_below : (at : ℕ) (levels : List Level) → LevelsFrom at levels → LevelsFrom at (below levels)
from_below at [] from = tt
from_below at (level ∷ levels) from = from.1

from_after : (count at n : ℕ) (kind : MarkKind) (levels : List Level) → at < count → LevelsFrom (at + 1) levels
    → LevelsFrom at (links_after count at kind n levels).1
from_after count at n Text levels within from = from_more at levels from
from_after count at n Flat levels within from = from_more at levels from
from_after count at n IfZero levels within from = from_below at levels (from_more at levels from)
from_after count at n Opens levels within from = from_below at levels (from_more at levels from)
from_after count at n Branch levels within from = (omega arith, from_below at levels (from_more at levels from))
from_after count at n LastBranch levels within from = (omega arith, from_below at levels (from_more at levels from))
from_after count at n Ends levels within from = (omega arith, from_more at levels from)

-- one section more, from the end
pub node_fits : (marks : List Mark) (count at n : ℕ) (levels : List Level) (m : Mark)
    → drop count marks ≡ [] → drop at marks ≡ m ∷ drop (at + 1) marks
    → n ≡ need (rest_at marks (at + 1)).0 → FitLevels marks levels (rest_at marks (at + 1)).1
    → at < count → LevelsFrom (at + 1) levels
    → Linked marks (links_after count at m.kind n levels) (rest_at marks at)
    × FitsNode marks at (record { first = m.first; end = m.end; kind = m.kind; need = n; later = (level_of count levels).later; next = (level_of count levels).next })
node_fits marks count at n levels m end here is fits within from =
    let rest = rest_at marks (at + 1) in
    let now : rest_at marks at ≡ rest_with m.kind m.first m.end rest.0 rest.1 = ap rest_of here in
    let all : Linked marks (links_after count at m.kind n levels) (rest_with m.kind m.first m.end rest.0 rest.1) =
    linked marks count at n m.first m.end m.kind rest.0 rest.1 levels end is fits now in (
      rw now all,
      record {
        here = here;
        need_is = is;
        leads = (top_fits marks count levels rest.1 end fits).0.leads;
        next_after = top_from count at levels within from;
      },
    )

-- what is right of the nodes, the need and the levels from a section on
pub record Right (marks : List Mark) (at : ℕ) (nodes : List Node) (n : ℕ) (levels : List Level) : Type 0 where
  pub nodes_fit : FitNodes marks at nodes
  pub need_is : n ≡ need (rest_at marks at).0
  pub levels_fit : FitLevels marks levels (rest_at marks at).1
  pub from : LevelsFrom at levels

right-one : (marks : List Mark) (p n : ℕ) (nodes : List Node) (levels : List Level) (m d : Mark) → p < length marks → m ≡ get_or marks p d
    → Right marks (p + 1) nodes n levels
    → Right marks p (record { first = m.first; end = m.end; kind = m.kind; need = n; later = (level_of (length marks) levels).later; next = (level_of (length marks) levels).next } ∷ nodes) (links_after (length marks) p m.kind n levels).0 (links_after (length marks) p m.kind n levels).1
right-one marks p n nodes levels m d within is right =
    let here : drop p marks ≡ m ∷ drop (p + 1) marks = rw is (drop_more marks p d within) in
    let fits = node_fits marks (length marks) p n levels m (drop-length marks) here right.need_is right.levels_fit within right.from in
    record {
      nodes_fit = (fits.1, right.nodes_fit);
      need_is = fits.0.0;
      levels_fit = fits.0.1;
      from = from_after (length marks) p n m.kind levels within right.from;
    }

small_turn : (count at n more p : ℕ) (kind : MarkKind) (levels after : List Level) → 0 < at
    → total n levels + 2 * at ≤ 2 * count + 1 → (more, after) ≡ links_after count p kind n levels
    → total more after + 2 * (at - 1) ≤ 2 * count + 1
small_turn count at n more p kind levels after some small linked =
    let grown : total more after ≤ total n levels + 2 = subst (λ (x : ℕ × List Level). total x.0 x.1 ≤ total n levels + 2) (sym linked) (total_after count p n kind levels) in
    omega (arith, grown, small)

-- what is right where one node more is linked
pub record Turned (old new : List Node) (at n : ℕ) (levels : List Level) : Type 0 where
  pub marks_are : map node_mark new ≡ map node_mark old
  pub right : Right (map node_mark old) at (drop at new) n levels
  pub small : total n levels + 2 * at ≤ 2 * length old + 1

pub turn : (old nodes new : List Node) (at n more : ℕ) (levels after : List Level) (level : Level) (d : Node)
    → 0 < at → at ≤ length old → map node_mark nodes ≡ map node_mark old → Right (map node_mark old) at (drop at nodes) n levels
    → level ≡ level_of (length old) levels
    → new ≡ set nodes (at - 1) (record { first = (get_or nodes (at - 1) d).first; end = (get_or nodes (at - 1) d).end; kind = (get_or nodes (at - 1) d).kind; need = n; later = level.later; next = level.next })
    → (more, after) ≡ links_after (length old) (at - 1) (get_or nodes (at - 1) d).kind n levels
    → total n levels + 2 * at ≤ 2 * length old + 1
    → Turned old new (at - 1) more after
turn old nodes new at n more levels after level d some within same right top set_is linked small =
    let marks : List Mark = map node_mark old in
    let p : ℕ = at - 1 in
    let read : Node = get_or nodes p d in
    let written : Node = record { first = read.first; end = read.end; kind = read.kind; need = n; later = level.later; next = level.next } in
    let e : at ≡ p + 1 = omega arith in
    let count : length marks ≡ length old = length-map old node_mark in
    let count_now : length nodes ≡ length marks = sym (length-map nodes node_mark) ∙ ap length same in
    let there : p < length nodes = omega (arith, count, count_now) in
    let pushed : drop p new ≡ written ∷ drop at nodes = ap (drop p) set_is ∙ drop-set nodes p written there ∙ ap (λ k. written ∷ drop k nodes) (sym e) in
    let mark_is : node_mark read ≡ get_or marks p (node_mark d) = sym (get_or-map node_mark nodes p d (node_mark d) there) ∙ ap (λ ms. get_or ms p (node_mark d)) same in
    let top_is : level ≡ level_of (length marks) levels = top ∙ ap (λ k. level_of k levels) (sym count) in
    let linked_is : (more, after) ≡ links_after (length marks) p read.kind n levels = linked ∙ ap (λ k. links_after k p read.kind n levels) (sym count) in
    let before : Right marks (p + 1) (drop at nodes) n levels = subst (λ k. Right marks k (drop at nodes) n levels) e right in
    let one = right-one marks p n (drop at nodes) levels (node_mark read) (node_mark d) (omega (arith, there, count_now)) mark_is before in
    let told : Right marks p (record { first = read.first; end = read.end; kind = read.kind; need = n; later = (level_of (length marks) levels).later; next = (level_of (length marks) levels).next } ∷ drop at nodes) more after =
    subst (λ (x : ℕ × List Level). Right marks p (record { first = read.first; end = read.end; kind = read.kind; need = n; later = (level_of (length marks) levels).later; next = (level_of (length marks) levels).next } ∷ drop at nodes) x.0 x.1) (sym linked_is) one in
    let topped : Right marks p (written ∷ drop at nodes) more after =
    subst (λ (l : Level). Right marks p (record { first = read.first; end = read.end; kind = read.kind; need = n; later = l.later; next = l.next } ∷ drop at nodes) more after) (sym top_is) told in
    record {
      marks_are = ap (map node_mark) set_is ∙ map-set_same node_mark nodes p written d refl ∙ same;
      right = subst (λ ns. Right marks p ns more after) (sym pushed) topped;
      small = small_turn (length old) at n more p read.kind levels after some small linked;
    }
