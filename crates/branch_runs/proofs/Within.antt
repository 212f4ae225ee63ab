-- What a run sees is among the items of its text.
use Rattle.std.proofs.Common.{◌≡◌, ℕ, ◌+◌, ◌-◌, ◌<◌, ◌≤◌, inl, inr, List, [], ◌∷◌, ◌++◌, length, replicate, refl, subst, arith, length-append}
use Rattle.std.specs.Prelude.{⊤, All}
use Rattle.std.proofs.lemmas.List.Elements.{All-contains_itself}
use Rattle.std.proofs.lemmas.List.{length-replicate, append-nil}
use Rattle.branch_runs.specs.declared.mark.MarkKind.{MarkKind}
use Rattle.branch_runs.specs.declared.mark.MarkKind.TheVariants.{Text, IfZero, Opens, Branch, LastBranch, Ends, Flat}
use Rattle.branch_runs.specs.declared.mark.Mark.{Mark}
use Rattle.branch_runs.specs.declared.mark.Open.{Open}
use Rattle.branch_runs.specs.Reading.{read, effects_in, kind_in, open_after}
use Rattle.branch_runs.specs.Runs.{texts, view_of, ids_of}
use Rattle.branch_runs.specs.Dead.{has_zero, groups_around}
use Rattle.branch_runs.specs.Flags.{flags_in}
use Rattle.branch_runs.specs.Cut.{IsCutFrom, end_of}
use Rattle.branch_runs.proofs.Cover.{AnyHas}
use Rattle.branch_runs.proofs.Items.{items-AnyHas}
use Rattle.branch_runs.proofs.Order.{Sub, stop, keep, skip, subs, text_stretch, text_stretches}

-- none of these stretches ends behind a place
abbrev EndBy : ℕ → List (ℕ × ℕ) → Type 0
EndBy n [] = ⊤
EndBy n (x ∷ xs) = (x.1 ≤ n) × EndBy n xs

sub_end : {xs ys : List (ℕ × ℕ)} (n : ℕ) → Sub xs ys → EndBy n ys → EndBy n xs
sub_end n stop h = tt
sub_end n (keep {x} {xs} {ys} s) h = (h.0, sub_end n s h.1)
sub_end n (skip {y} {xs} {ys} s) h = sub_end n s h.1

-- sections that cut end no earlier than they begin
end_after : (marks : List Mark) (at : ℕ) → IsCutFrom at marks → at ≤ end_of at marks
end_after [] at cut = omega arith
end_after (m ∷ marks) at cut = let more = end_after marks m.end cut.3 in omega (arith, more, cut.0, cut.1)

stretch_ends : (kind : MarkKind) (first end n : ℕ) (ys : List (ℕ × ℕ)) → end ≤ n → EndBy n ys → EndBy n (text_stretch kind first end ys)
stretch_ends Text first end n ys h more = (h, more)
stretch_ends IfZero first end n ys h more = more
stretch_ends Opens first end n ys h more = more
stretch_ends Branch first end n ys h more = more
stretch_ends LastBranch first end n ys h more = more
stretch_ends Ends first end n ys h more = more
stretch_ends Flat first end n ys h more = more

stretches_end : (marks : List Mark) (at : ℕ) → IsCutFrom at marks → EndBy (end_of at marks) (text_stretches marks)
stretches_end [] at cut = tt
stretches_end (m ∷ marks) at cut =
    stretch_ends m.kind m.first m.end (end_of m.end marks) (text_stretches marks) (end_after marks m.end cut.3) (stretches_end marks m.end cut.3)

has_below : (xs : List (ℕ × ℕ)) (n i : ℕ) → EndBy n xs → AnyHas xs i → i < n
has_below [] n i h has = absurd has
has_below (x ∷ xs) n i h (inl has) = omega (arith, h.0, has.1)
has_below (x ∷ xs) n i h (inr has) = has_below xs n i h.1 has

-- each item that a run sees stands before the end of the sections
pub view_within : (marks : List Mark) (r : ℕ) → IsCutFrom 0 marks → All (λ id. id < end_of 0 marks) (view_of (read marks) r)
view_within marks r cut = λ k d below.
    let t = texts (read marks) r in
    let s : Sub (t ++ []) (text_stretches marks) = (subs marks).whole r [] in
    let sub : Sub t (text_stretches marks) = subst (λ xs. Sub xs (text_stretches marks)) (append-nil t) s in
    has_below t (end_of 0 marks) _ (sub_end (end_of 0 marks) sub (stretches_end marks 0 cut)) (items-AnyHas t _ (All-contains_itself (ids_of t) k d below))

-- what sections do moves none of them
pub effects_end : (marks : List Mark) (at : ℕ) (outer : List Open) → end_of at (effects_in outer marks) ≡ end_of at marks
effects_end [] at outer = refl
effects_end (m ∷ marks) at outer = effects_end marks m.end (open_after (kind_in m.kind outer) outer)

-- there is a flag for each item
pub flags_length : (marks : List Mark) (outer : List Open) (at : ℕ) → IsCutFrom at marks → at + length (flags_in outer marks) ≡ end_of at marks
flags_length [] outer at cut = omega arith
flags_length (m ∷ marks) outer at cut =
    let dead = has_zero (groups_around m.kind outer) in
    let more = flags_length marks (open_after m.kind outer) m.end cut.3 in
    let parts : length (replicate (m.end - m.first) dead ++ flags_in (open_after m.kind outer) marks) ≡ length (replicate (m.end - m.first) dead) + length (flags_in (open_after m.kind outer) marks) =
    length-append (replicate (m.end - m.first) dead) (flags_in (open_after m.kind outer) marks) in
    let row : length (replicate (m.end - m.first) dead) ≡ m.end - m.first = length-replicate (m.end - m.first) dead in
    omega (arith, more, parts, row, cut.0, cut.1)
