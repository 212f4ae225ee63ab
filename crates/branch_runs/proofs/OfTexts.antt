-- A run sees items of texts alone.
use Rattle.std.proofs.Common.{◌≡◌, ℕ, ◌<◌, ◌≤◌, ◌⊎◌, inl, inr, List, [], ◌∷◌, ◌++◌, refl, subst, arith}
use Rattle.std.proofs.lemmas.List.Elements.{All-contains_itself}
use Rattle.std.proofs.lemmas.List.{append-nil}
use Rattle.branch_runs.specs.declared.mark.MarkKind.{MarkKind}
use Rattle.branch_runs.specs.declared.mark.MarkKind.TheVariants.{Text, IfZero, Opens, Branch, LastBranch, Ends, Flat}
use Rattle.branch_runs.specs.declared.mark.Mark.{Mark}
use Rattle.branch_runs.specs.declared.mark.Open.{Open}
use Rattle.branch_runs.specs.Reading.{kind_in, open_after, effects_in, effects, tree_of}
use Rattle.branch_runs.specs.Runs.{texts, ids_of}
use Rattle.branch_runs.specs.Cut.{IsCutFrom}
use Rattle.branch_runs.specs.Laws.{kind_at, ViewsAreOfTexts}
use Rattle.branch_runs.proofs.Cover.{AnyHas}
use Rattle.branch_runs.proofs.Items.{items-AnyHas}
use Rattle.branch_runs.proofs.Together.{still_text}
use Rattle.branch_runs.proofs.Order.{Sub, stop, keep, skip, subs, text_stretch, text_stretches}
use Rattle.branch_runs.proofs.Places.{has_item-true, has_item-above}

-- what a list with some left out has, the whole list has
sub_has : {xs ys : List (ℕ × ℕ)} (i : ℕ) → Sub xs ys → AnyHas xs i → AnyHas ys i
sub_has i stop h = h
sub_has i (keep {x} {xs} {ys} s) (inl h) = inl h
sub_has i (keep {x} {xs} {ys} s) (inr h) = inr (sub_has i s h)
sub_has i (skip {y} {xs} {ys} s) h = inr (sub_has i s h)

-- an item is had by the first section, which is a text, or by one behind it
first_or_later : (kind : MarkKind) (first end i : ℕ) (ys : List (ℕ × ℕ)) → AnyHas (text_stretch kind first end ys) i
    → ((kind ≡ Text) × (first ≤ i) × (i < end)) ⊎ AnyHas ys i
first_or_later Text first end i ys (inl h) = inl (refl, h.0, h.1)
first_or_later Text first end i ys (inr h) = inr h
first_or_later IfZero first end i ys h = inr h
first_or_later Opens first end i ys h = inr h
first_or_later Branch first end i ys h = inr h
first_or_later LastBranch first end i ys h = inr h
first_or_later Ends first end i ys h = inr h
first_or_later Flat first end i ys h = inr h

-- an item of a text, by the sections from a place on
abbrev IsOfText : List Mark → ℕ → ℕ → Type 0
IsOfText marks at i = (at ≤ i) × (kind_at marks i ≡ Text)

of_first : (m : Mark) (marks : List Mark) (at i : ℕ) → IsCutFrom at (m ∷ marks) → m.kind ≡ Text → m.first ≤ i → i < m.end → IsOfText (m ∷ marks) at i
of_first m marks at i cut is low high = (omega (arith, cut.0, low), rw (has_item-true m i low high) is)

of_later : (m : Mark) (marks : List Mark) (at i : ℕ) → IsCutFrom at (m ∷ marks) → IsOfText marks m.end i → IsOfText (m ∷ marks) at i
of_later m marks at i cut later = (omega (arith, cut.0, cut.1, later.0), rw (has_item-above m i later.0) later.1)

has_of_text : (marks : List Mark) (stack : List Open) (at i : ℕ) → IsCutFrom at marks → AnyHas (text_stretches (effects_in stack marks)) i → IsOfText marks at i
has_of_text [] stack at i cut h = absurd h
has_of_text (m ∷ marks) stack at i cut h =
    let after = open_after (kind_in m.kind stack) stack in
    elim (first_or_later (kind_in m.kind stack) m.first m.end i (text_stretches (effects_in after marks)) h) [
      | inl a ↦ of_first m marks at i cut (still_text m.kind stack a.0) a.1 a.2
      | inr a ↦ of_later m marks at i cut (has_of_text marks after m.end i cut.3 a)
    ]

pub of_texts : ViewsAreOfTexts
of_texts marks cut r = λ k d below.
    let t = texts (tree_of marks) r in
    let s : Sub (t ++ []) (text_stretches (effects marks)) = (subs (effects marks)).whole r [] in
    let sub : Sub t (text_stretches (effects marks)) = subst (λ xs. Sub xs (text_stretches (effects marks))) (append-nil t) s in
    (has_of_text marks [] 0 _ cut (sub_has _ sub (items-AnyHas t _ (All-contains_itself (ids_of t) k d below)))).1
