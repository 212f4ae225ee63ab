-- The texts that a run sees increase.
use Rattle.std.proofs.Common.{◌≡◌, ◌≢◌, ℕ, zero, suc, ◌+◌, ◌-◌, ◌<◌, ◌≤◌, Bool, true, false, not, ◌||◌, List, [], ◌∷◌, ◌++◌, refl, subst, arith, append_assoc}
use Rattle.std.specs.Prelude.{nat_lt, if◌then◌else◌}
use Rattle.branch_runs.specs.declared.mark.MarkKind.{MarkKind}
use Rattle.branch_runs.specs.declared.mark.MarkKind.TheVariants.{Text, IfZero, Opens, Branch, LastBranch, Ends, Flat}
use Rattle.branch_runs.specs.declared.mark.Mark.{Mark}
use Rattle.branch_runs.specs.declared.mark.Open.{Open}
use Rattle.branch_runs.specs.Tree.{Group, nothing, none, branch}
use Rattle.branch_runs.specs.Reading.{Around, branches_of, group_of, outside, rest_with, rest_of, effects_in, kind_in, open_after, read}
use Rattle.branch_runs.specs.Runs.{need, has_live, texts, texts_in}
use Rattle.branch_runs.specs.Cut.{IsCutFrom, BeginsNoText}
use Rattle.token_arena.specs.Segments.{AscendFrom}
use Rattle.branch_runs.proofs.Together.{still_text}
use Rattle.std.proofs.lemmas.List.{append-nil}

-- the texts to take behind the innermost group, where the groups around it have these local numbers
abbrev pub left_around : Around → List ℕ → List (ℕ × ℕ)
left_around around [] = []
left_around around (number ∷ outer) = texts (group_of around) number ++ left_around (outside around) outer

-- the texts to take from a place on, where the innermost group has this local number and those around it have these
abbrev pub left : Group × Around → ℕ → List ℕ → List (ℕ × ℕ)
left rest local outer = texts rest.0 local ++ left_around rest.1 outer

-- the first list is the second with some left out
pub data Sub : List (ℕ × ℕ) → List (ℕ × ℕ) → Type 0 where
  stop : Sub [] []
  keep : {x : ℕ × ℕ} {xs ys : List (ℕ × ℕ)} → Sub xs ys → Sub (x ∷ xs) (x ∷ ys)
  skip : {y : ℕ × ℕ} {xs ys : List (ℕ × ℕ)} → Sub xs ys → Sub xs (y ∷ ys)

abbrev pub text_stretch : MarkKind → ℕ → ℕ → List (ℕ × ℕ) → List (ℕ × ℕ)
text_stretch Text f e ys = (f, e) ∷ ys
text_stretch IfZero f e ys = ys
text_stretch Opens f e ys = ys
text_stretch Branch f e ys = ys
text_stretch LastBranch f e ys = ys
text_stretch Ends f e ys = ys
text_stretch Flat f e ys = ys

abbrev pub text_stretches : List Mark → List (ℕ × ℕ)
text_stretches [] = []
text_stretches (m ∷ marks) = text_stretch m.kind m.first m.end (text_stretches marks)

abbrev pub outside_by : ℕ → Around → Around
outside_by zero around = around
outside_by (suc k) around = outside_by k (outside around)

-- what is taken after the innermost group, where its conditional may still take a branch
abbrev pub later : Around → ℕ → ℕ → List ℕ → List (ℕ × ℕ)
later around r local outer = texts_in (branches_of around) r ++ (texts (group_of around) local ++ left_around (outside around) outer)

pub record Subs (g : Group) (around : Around) (ys : List (ℕ × ℕ)) : Type 0 where
  pub whole : (local : ℕ) (outer : List ℕ) → Sub (left (g, around) local outer) ys
  pub rest : (k r local : ℕ) (outer : List ℕ) → Sub (later (outside_by k around) r local outer) ys

pub none_of : (ys : List (ℕ × ℕ)) → Sub [] ys
none_of [] = stop
none_of (y ∷ ys) = skip (none_of ys)

sub_tail : {x : ℕ × ℕ} {xs zs : List (ℕ × ℕ)} → Sub (x ∷ xs) zs → Sub xs zs
sub_tail (keep s) = skip s
sub_tail (skip s) = skip (sub_tail s)

-- a list without its front is one with more left out
sub_back : (xs more zs : List (ℕ × ℕ)) → Sub (xs ++ more) zs → Sub more zs
sub_back [] more zs s = s
sub_back (x ∷ xs) more zs s = sub_back xs more zs (sub_tail s)

chosen : (c : Bool) (xs ys more zs : List (ℕ × ℕ)) → Sub (xs ++ more) zs → Sub (ys ++ more) zs → Sub ((if c then xs else ys) ++ more) zs
chosen true xs ys more zs a b = a
chosen false xs ys more zs a b = b

branch_sub : (g : Group) (around : Around) (ys : List (ℕ × ℕ)) (r local : ℕ) (outer : List ℕ) → Subs g around ys
    → Sub (texts_in (branch true g (branches_of around)) r ++ (texts (group_of around) local ++ left_around (outside around) outer)) ys
branch_sub g around ys r local outer s =
    chosen (nat_lt r (need g) || not (has_live (branches_of around))) (texts g r) (texts_in (branches_of around) (r - need g)) (texts (group_of around) local ++ left_around (outside around) outer) ys
    (s.whole r (local ∷ outer)) (s.rest 0 (r - need g) local outer)

assoc_sub : (xs ys zs ws : List (ℕ × ℕ)) → Sub (xs ++ (ys ++ zs)) ws → Sub ((xs ++ ys) ++ zs) ws
assoc_sub xs ys zs ws s = rw (append_assoc xs ys zs) s

branches_whole : (g : Group) (around : Around) (ys : List (ℕ × ℕ)) → Subs g around ys → (local : ℕ) (outer : List ℕ)
    → Sub (left (nothing, (branch true g (branches_of around), group_of around) ∷ outside around) local outer) ys
branches_whole g around ys s local [] = none_of ys
branches_whole g around ys s local (number ∷ outer) = sub_back (texts_in (branches_of around) 0) (texts (group_of around) number ++ left_around (outside around) outer) ys (s.rest 0 0 number outer)

branches_rest : (g : Group) (around : Around) (ys : List (ℕ × ℕ)) → Subs g around ys → (k r local : ℕ) (outer : List ℕ)
    → Sub (later (outside_by k ((branch true g (branches_of around), group_of around) ∷ outside around)) r local outer) ys
branches_rest g around ys s zero r local outer = branch_sub g around ys r local outer s
branches_rest g around ys s (suc k) r local outer = s.rest (suc k) r local outer

branches_step : (g : Group) (around : Around) (ys : List (ℕ × ℕ)) → Subs g around ys
    → Subs nothing ((branch true g (branches_of around), group_of around) ∷ outside around) ys
branches_step g around ys s = record { whole = branches_whole g around ys s; rest = branches_rest g around ys s }

ends_whole : (g : Group) (around : Around) (ys : List (ℕ × ℕ)) → Subs g around ys → (local : ℕ) (outer : List ℕ)
    → Sub (left (nothing, (none, g) ∷ around) local outer) ys
ends_whole g around ys s local [] = none_of ys
ends_whole g around ys s local (number ∷ outer) = s.whole number outer

ends_rest : (g : Group) (around : Around) (ys : List (ℕ × ℕ)) → Subs g around ys → (k r local : ℕ) (outer : List ℕ)
    → Sub (later (outside_by k ((none, g) ∷ around)) r local outer) ys
ends_rest g around ys s zero r local outer = s.whole local outer
ends_rest g around ys s (suc k) r local outer = s.rest k r local outer

nothing_left : (outer : List ℕ) → Sub (left_around [] outer) []
nothing_left [] = stop
nothing_left (number ∷ outer) = nothing_left outer

nothing_later : (k r local : ℕ) (outer : List ℕ) → Sub (later (outside_by k []) r local outer) []
nothing_later zero r local outer = nothing_left outer
nothing_later (suc k) r local outer = nothing_later k r local outer

sub_step : (kind : MarkKind) (f e : ℕ) (g : Group) (around : Around) (ys : List (ℕ × ℕ)) → Subs g around ys
    → Subs (rest_with kind f e g around).0 (rest_with kind f e g around).1 (text_stretch kind f e ys)
sub_step Text f e g around ys s = record { whole = λ local outer. keep (s.whole local outer); rest = λ k r local outer. skip (s.rest k r local outer) }
sub_step Flat f e g around ys s = s
sub_step IfZero f e g around ys s = record {
  whole = λ local outer. assoc_sub (texts_in (branches_of around) local) (texts (group_of around) local) (left_around (outside around) outer) ys (s.rest 0 local local outer);
  rest = λ k r local outer. s.rest (suc k) r local outer;
}
sub_step Opens f e g around ys s = record {
  whole = λ local outer. assoc_sub (texts_in (branch true g (branches_of around)) local) (texts (group_of around) local) (left_around (outside around) outer) ys (branch_sub g around ys local local outer s);
  rest = λ k r local outer. s.rest (suc k) r local outer;
}
sub_step Branch f e g around ys s = branches_step g around ys s
sub_step LastBranch f e g around ys s = branches_step g around ys s
sub_step Ends f e g around ys s = record { whole = ends_whole g around ys s; rest = ends_rest g around ys s }

pub subs : (marks : List Mark) → Subs (rest_of marks).0 (rest_of marks).1 (text_stretches marks)
subs [] = record { whole = λ local outer. nothing_left outer; rest = λ k r local outer. nothing_later k r local outer }
subs (m ∷ marks) = sub_step m.kind m.first m.end (rest_of marks).0 (rest_of marks).1 (text_stretches marks) (subs marks)

ascend_lower : (low high : ℕ) (xs : List (ℕ × ℕ)) → low ≤ high → AscendFrom high xs → AscendFrom low xs
ascend_lower low high [] h a = tt
ascend_lower low high (x ∷ xs) h a = (omega (arith, a.0), a.1, a.2)

pub ascend_sub : {xs ys : List (ℕ × ℕ)} (low : ℕ) → Sub xs ys → AscendFrom low ys → AscendFrom low xs
ascend_sub low stop a = tt
ascend_sub low (keep {x} {xs} {ys} s) a = (a.0, a.1, ascend_sub (x.1 + 1) s a.2)
ascend_sub low (skip {y} {xs} {ys} s) a = ascend_lower low (y.1 + 1) xs (omega (arith, a.0, a.1)) (ascend_sub (y.1 + 1) s a.2)

-- the texts of a cut increase, and leave an item out first where no text comes first
stretch_ascends : (kind : MarkKind) (f e at : ℕ) (ys : List (ℕ × ℕ)) → f ≡ at → f < e → (kind ≡ Text → AscendFrom (e + 1) ys) → AscendFrom e ys
    → AscendFrom at (text_stretch kind f e ys)
stretch_ascends Text f e at ys is some t a = (omega (arith, is), some, t refl)
stretch_ascends IfZero f e at ys is some t a = ascend_lower at e ys (omega (arith, is, some)) a
stretch_ascends Opens f e at ys is some t a = ascend_lower at e ys (omega (arith, is, some)) a
stretch_ascends Branch f e at ys is some t a = ascend_lower at e ys (omega (arith, is, some)) a
stretch_ascends LastBranch f e at ys is some t a = ascend_lower at e ys (omega (arith, is, some)) a
stretch_ascends Ends f e at ys is some t a = ascend_lower at e ys (omega (arith, is, some)) a
stretch_ascends Flat f e at ys is some t a = ascend_lower at e ys (omega (arith, is, some)) a

next_ascends : (kind : MarkKind) (f e at : ℕ) (ys : List (ℕ × ℕ)) → f ≡ at → f < e → kind ≢ Text → AscendFrom e ys → AscendFrom (at + 1) (text_stretch kind f e ys)
next_ascends Text f e at ys is some other a = absurd (other refl)
next_ascends IfZero f e at ys is some other a = ascend_lower (at + 1) e ys (omega (arith, is, some)) a
next_ascends Opens f e at ys is some other a = ascend_lower (at + 1) e ys (omega (arith, is, some)) a
next_ascends Branch f e at ys is some other a = ascend_lower (at + 1) e ys (omega (arith, is, some)) a
next_ascends LastBranch f e at ys is some other a = ascend_lower (at + 1) e ys (omega (arith, is, some)) a
next_ascends Ends f e at ys is some other a = ascend_lower (at + 1) e ys (omega (arith, is, some)) a
next_ascends Flat f e at ys is some other a = ascend_lower (at + 1) e ys (omega (arith, is, some)) a

pub stretches_ascend : (marks : List Mark) (at : ℕ) → IsCutFrom at marks → AscendFrom at (text_stretches marks) × (BeginsNoText marks → AscendFrom (at + 1) (text_stretches marks))
stretches_ascend [] at cut = (tt, λ h. tt)
stretches_ascend (m ∷ marks) at cut =
    let more = stretches_ascend marks m.end cut.3 in (
      stretch_ascends m.kind m.first m.end at (text_stretches marks) cut.0 cut.1 (λ is. more.1 (cut.2 is)) more.0,
      λ other. next_ascends m.kind m.first m.end at (text_stretches marks) cut.0 cut.1 other more.0,
    )

-- the texts that a run sees increase
pub texts_ascend : (marks : List Mark) (r : ℕ) → IsCutFrom 0 marks → AscendFrom 0 (texts (read marks) r)
texts_ascend marks r cut =
    let t = texts (read marks) r in
    let s : Sub (t ++ []) (text_stretches marks) = (subs marks).whole r [] in
    let sub : Sub t (text_stretches marks) = subst (λ xs. Sub xs (text_stretches marks)) (append-nil t) s in
    ascend_sub 0 sub (stretches_ascend marks 0 cut).0

begins_still : (marks : List Mark) (stack : List Open) → BeginsNoText marks → BeginsNoText (effects_in stack marks)
begins_still [] stack other = tt
begins_still (m ∷ marks) stack other = λ e. other (still_text m.kind stack e)

pub effects_cut : (marks : List Mark) (at : ℕ) (stack : List Open) → IsCutFrom at marks → IsCutFrom at (effects_in stack marks)
effects_cut [] at stack cut = tt
effects_cut (m ∷ marks) at stack cut = (
  cut.0,
  cut.1,
  λ e. begins_still marks (open_after (kind_in m.kind stack) stack) (cut.2 (still_text m.kind stack e)),
  effects_cut marks m.end (open_after (kind_in m.kind stack) stack) cut.3,
)
