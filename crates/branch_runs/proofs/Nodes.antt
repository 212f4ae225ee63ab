-- The nodes say what is read from their sections.
use Rattle.std.proofs.Common.{◌≡◌, ◌∙◌, ℕ, zero, suc, ◌+◌, ◌-◌, ◌<◌, ◌⊎◌, inl, inr, true, false, List, [], ◌∷◌, ◌++◌, map, get_or, length, refl, sym, ap, subst, arith, append_assoc}
use Rattle.std.specs.Prelude.{⊤}
use Rattle.branch_runs.specs.declared.mark.MarkKind.{MarkKind}
use Rattle.branch_runs.specs.declared.mark.MarkKind.TheVariants.{Text, IfZero, Opens, Branch, LastBranch, Ends, Flat}
use Rattle.branch_runs.specs.declared.mark.Mark.{Mark}
use Rattle.branch_runs.specs.declared.node.Node.{Node}
use Rattle.branch_runs.specs.declared.seen.SeenText.{SeenText}
use Rattle.branch_runs.specs.Seen.{if_text}
use Rattle.std.proofs.lemmas.List.{map-append}
use Rattle.branch_runs.specs.Tree.{Group, Branches, nothing, none, branch}
use Rattle.branch_runs.specs.Reading.{Around, branches_of, group_of, outside, rest_with, rest_of}
use Rattle.branch_runs.specs.Runs.{needs, has_live}
use Rattle.branch_runs.specs.Links.{node_mark}
use Rattle.branch_runs.specs.Cut.{end_of}
use Rattle.branch_runs.specs.Fits.{rest_at, FitsNode, FitNodes}
use Rattle.token_arena.specs.declared.view.Stretch.{Stretch}
use Rattle.token_arena.specs.Segments.{bounds_of}
use Rattle.branch_runs.proofs.Cover.{need_some}

pub no_needs : (bs : Branches) → needs bs ≡ 0 → has_live bs ≡ false
no_needs none e = refl
no_needs (branch true g bs) e = absurd (omega (arith, need_some g))
no_needs (branch false g bs) e = no_needs bs e

-- a node that fits, by its place
pub node_at : (marks : List Mark) (at p : ℕ) (nodes : List Node) (d : Node) → FitNodes marks at nodes → p < length nodes → FitsNode marks (at + p) (get_or nodes p d)
node_at marks at p [] d fit h = absurd (omega arith)
node_at marks at zero (node ∷ nodes) d fit h = let e : at + 0 ≡ at = omega arith in rw e fit.0
node_at marks at (suc p) (node ∷ nodes) d fit h =
    let e : at + suc p ≡ at + 1 + p = omega arith in
    rw e (node_at marks (at + 1) p nodes d fit.1 (omega arith))

pub fits_at : (marks : List Mark) (p : ℕ) (nodes : List Node) (d : Node) → FitNodes marks 0 nodes → p < length nodes → FitsNode marks p (get_or nodes p d)
fits_at marks p nodes d fit h = let e : 0 + p ≡ p = omega arith in subst (λ k. FitsNode marks k (get_or nodes p d)) e (node_at marks 0 p nodes d fit h)

-- it begins a branch, the last one or another
abbrev pub IsBranch : MarkKind → Type 0
IsBranch Branch = ⊤
IsBranch LastBranch = ⊤
IsBranch Text = ⊥
IsBranch IfZero = ⊥
IsBranch Opens = ⊥
IsBranch Ends = ⊥
IsBranch Flat = ⊥

pub branch_rest : (kind : MarkKind) (f e : ℕ) (g : Group) (a : Around) → IsBranch kind
    → rest_with kind f e g a ≡ (nothing, (branch true g (branches_of a), group_of a) ∷ outside a)
branch_rest Branch f e g a h = refl
branch_rest LastBranch f e g a h = refl
branch_rest Text f e g a h = absurd h
branch_rest Flat f e g a h = absurd h
branch_rest IfZero f e g a h = absurd h
branch_rest Opens f e g a h = absurd h
branch_rest Ends f e g a h = absurd h

-- the section at a place
pub rest_here : (marks : List Mark) (at : ℕ) (node : Node) (k : MarkKind) → FitsNode marks at node → node.kind ≡ k
    → rest_at marks at ≡ rest_with k node.first node.end (rest_at marks (at + 1)).0 (rest_at marks (at + 1)).1
rest_here marks at node k fits is = ap rest_of fits.here ∙ ap (λ k. rest_with k node.first node.end (rest_at marks (at + 1)).0 (rest_at marks (at + 1)).1) is

pub is_branch : (k : MarkKind) → (k ≡ Branch) ⊎ (k ≡ LastBranch) → IsBranch k
is_branch k (inl e) = subst IsBranch (sym e) tt
is_branch k (inr e) = subst IsBranch (sym e) tt

-- what begins a branch is no text
pub branch_no_text : (k : MarkKind) (seen : SeenText) → IsBranch k → if_text k seen ≡ []
branch_no_text Branch seen h = refl
branch_no_text LastBranch seen h = refl
branch_no_text Text seen h = absurd h
branch_no_text Flat seen h = absurd h
branch_no_text IfZero seen h = absurd h
branch_no_text Opens seen h = absurd h
branch_no_text Ends seen h = absurd h

pub pushed-stretch : (stretches new : List Stretch) (stretch : Stretch) (xs ys : List (ℕ × ℕ)) → new ≡ stretches ++ stretch ∷ [] → xs ≡ bounds_of stretch ∷ ys
    → map bounds_of new ++ ys ≡ map bounds_of stretches ++ xs
pushed-stretch stretches new stretch xs ys is left =
    rw (is, left, map-append bounds_of stretches (stretch ∷ [])) (append_assoc (map bounds_of stretches) (bounds_of stretch ∷ []) ys)

-- the last section ends where all end
pub last_end : (nodes : List Node) (at : ℕ) (d : Node) → 0 < length nodes → (get_or nodes (length nodes - 1) d).end ≡ end_of at (map node_mark nodes)
last_end [] at d some = absurd (omega (arith, some))
last_end (node ∷ []) at d some = refl
last_end (node ∷ next ∷ nodes) at d some =
    let e : length (node ∷ next ∷ nodes) - 1 ≡ suc (length (next ∷ nodes) - 1) = omega arith in
    rw e (last_end (next ∷ nodes) node.end d (omega arith))
