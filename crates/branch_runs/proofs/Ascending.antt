-- The texts with their runs increase.
use Rattle.std.proofs.Common.{◌≡◌, ℕ, zero, suc, ◌+◌, ◌<◌, ◌^◌, true, List, [], ◌∷◌, ◌++◌, map, sym, subst, arith}
use Rattle.std.proofs.lemmas.List.{append-nil}
use Rattle.token_arena.specs.Segments.{AscendFrom}
use Rattle.branch_runs.specs.declared.mark.MarkKind.{MarkKind}
use Rattle.branch_runs.specs.declared.mark.MarkKind.TheVariants.{Text, IfZero, Opens, Branch, LastBranch, Ends, Flat}
use Rattle.branch_runs.specs.declared.mark.Mark.{Mark}
use Rattle.branch_runs.specs.declared.seen.OpenSlot.{OpenSlot}
use Rattle.branch_runs.specs.declared.seen.SeenText.{SeenText}
use Rattle.branch_runs.specs.Tree.{Group, nothing, none, branch}
use Rattle.branch_runs.specs.Reading.{Around, branches_of, group_of, outside, rest_with, rest_of, read}
use Rattle.branch_runs.specs.Runs.{need, needs}
use Rattle.branch_runs.specs.Cut.{IsCutFrom}
use Rattle.branch_runs.specs.Inside.{text_bounds}
use Rattle.branch_runs.specs.Seen.{seen_texts, seen_around, seen_left, FitSlots, till_of}
use Rattle.branch_runs.proofs.Left.{Room, opened, opened_off, branched, ended, around-nil}
use Rattle.branch_runs.proofs.Order.{Sub, stop, keep, skip, text_stretch, text_stretches, outside_by, none_of, ascend_sub, stretches_ascend}

-- What is left, of which every text is one of these.
record SeenSubs (g : Group) (around : Around) (ys : List (ℕ × ℕ)) : Type 0 where
  pub whole : (from till : ℕ) (slots : List OpenSlot) → Room (g, around) from till slots → Sub (map text_bounds (seen_left (g, around) from till slots)) ys
  pub rest : (k : ℕ) (slots : List OpenSlot) → FitSlots (outside_by k around) slots → Sub (map text_bounds (seen_around (outside_by k around) slots)) ys

by_left : {xs zs : List SeenText} {ys : List (ℕ × ℕ)} → xs ≡ zs → Sub (map text_bounds xs) ys → Sub (map text_bounds zs) ys
by_left {xs} {zs} {ys} is s = subst (λ ts. Sub (map text_bounds ts) ys) is s

branches_whole : (g : Group) (a : Around) (ys : List (ℕ × ℕ)) → SeenSubs g a ys → (from till : ℕ) (slots : List OpenSlot)
    → Room (nothing, (branch true g (branches_of a), group_of a) ∷ outside a) from till slots
    → Sub (map text_bounds (seen_left (nothing, (branch true g (branches_of a), group_of a) ∷ outside a) from till slots)) ys
branches_whole g a ys s from till [] h = none_of ys
branches_whole g a ys s from till (slot ∷ slots) h =
    let l = branched from till g a slot slots h in
    by_left l.left (s.whole slot.next (till_of (needs (branches_of a)) (need g) slot.next slot.till) (record { next = slot.next + need g; from = slot.from; till = slot.till } ∷ slots) (l.room, l.small, l.fits))

branches_rest : (g : Group) (a : Around) (ys : List (ℕ × ℕ)) → SeenSubs g a ys → (k : ℕ) (slots : List OpenSlot)
    → FitSlots (outside_by k ((branch true g (branches_of a), group_of a) ∷ outside a)) slots
    → Sub (map text_bounds (seen_around (outside_by k ((branch true g (branches_of a), group_of a) ∷ outside a)) slots)) ys
branches_rest g a ys s zero slots h = branches_whole g a ys s 0 1 slots (omega arith, omega arith, h)
branches_rest g a ys s (suc k) slots h = s.rest (suc k) slots h

branches_step : (g : Group) (a : Around) (ys : List (ℕ × ℕ)) → SeenSubs g a ys → SeenSubs nothing ((branch true g (branches_of a), group_of a) ∷ outside a) ys
branches_step g a ys s = record { whole = branches_whole g a ys s; rest = branches_rest g a ys s }

ends_whole : (g : Group) (a : Around) (ys : List (ℕ × ℕ)) → SeenSubs g a ys → (from till : ℕ) (slots : List OpenSlot) → Room (nothing, (none, g) ∷ a) from till slots
    → Sub (map text_bounds (seen_left (nothing, (none, g) ∷ a) from till slots)) ys
ends_whole g a ys s from till [] h = none_of ys
ends_whole g a ys s from till (slot ∷ slots) h =
    let l = ended from till g a slot slots h in
    by_left l.left (s.whole slot.from slot.till slots (l.room, l.small, l.fits))

ends_rest : (g : Group) (a : Around) (ys : List (ℕ × ℕ)) → SeenSubs g a ys → (k : ℕ) (slots : List OpenSlot) → FitSlots (outside_by k ((none, g) ∷ a)) slots
    → Sub (map text_bounds (seen_around (outside_by k ((none, g) ∷ a)) slots)) ys
ends_rest g a ys s zero slots h = ends_whole g a ys s 0 1 slots (omega arith, omega arith, h)
ends_rest g a ys s (suc k) slots h = s.rest k slots h

sub_step : (kind : MarkKind) (f e : ℕ) (g : Group) (a : Around) (ys : List (ℕ × ℕ)) → SeenSubs g a ys
    → SeenSubs (rest_with kind f e g a).0 (rest_with kind f e g a).1 (text_stretch kind f e ys)
sub_step Text f e g a ys s = record { whole = λ from till slots h. keep (s.whole from till slots h); rest = λ k slots h. skip (s.rest k slots h) }
sub_step Flat f e g a ys s = s
sub_step IfZero f e g a ys s = record {
  whole = λ from till slots h. let l = opened_off from till g a slots h in by_left l.left (s.rest 0 (record { next = from; from = from; till = till } ∷ slots) l.fits);
  rest = λ k slots h. s.rest (suc k) slots h;
}
sub_step Opens f e g a ys s = record {
  whole = λ from till slots h.
      let l = opened from till g a slots h in
      by_left l.left (s.whole from (till_of (needs (branches_of a)) (need g) from till) (record { next = from + need g; from = from; till = till } ∷ slots) (l.room, l.small, l.fits));
  rest = λ k slots h. s.rest (suc k) slots h;
}
sub_step Branch f e g a ys s = branches_step g a ys s
sub_step LastBranch f e g a ys s = branches_step g a ys s
sub_step Ends f e g a ys s = record { whole = ends_whole g a ys s; rest = ends_rest g a ys s }

nothing_rest : (k : ℕ) (slots : List OpenSlot) → Sub (map text_bounds (seen_around (outside_by k []) slots)) []
nothing_rest zero slots = by_left (sym (around-nil slots)) stop
nothing_rest (suc k) slots = nothing_rest k slots

seen_subs : (marks : List Mark) → SeenSubs (rest_of marks).0 (rest_of marks).1 (text_stretches marks)
seen_subs [] = record { whole = λ from till slots h. nothing_rest 0 slots; rest = λ k slots h. nothing_rest k slots }
seen_subs (m ∷ marks) = sub_step m.kind m.first m.end (rest_of marks).0 (rest_of marks).1 (text_stretches marks) (seen_subs marks)

-- the texts of a cut increase, and leave an item out between two of them
pub seen_ascend : (marks : List Mark) (texts : List SeenText) → IsCutFrom 0 marks → need (read marks) < 2 ^ 32 → texts ≡ seen_texts (read marks) 0 (need (read marks))
    → AscendFrom 0 (map text_bounds texts)
seen_ascend marks texts cut small are =
    let all = seen_texts (read marks) 0 (need (read marks)) in
    let s : Sub (map text_bounds (all ++ [])) (text_stretches marks) = (seen_subs marks).whole 0 (need (read marks)) [] (omega arith, small, tt) in
    rw are (ascend_sub 0 (by_left (append-nil all) s) (stretches_ascend marks 0 cut).0)
