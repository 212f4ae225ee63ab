-- Places of the second part, in the view of both.
use Rattle.std.proofs.Common.{◌≡◌, ◌∙◌, ℕ, zero, suc, ◌+◌, ◌-◌, ◌<◌, Bool, Option, Some, None, List, [], ◌∷◌, ◌++◌, length, map, refl, sym, ap, arith, inl, inr}
use Rattle.std.specs.Prelude.{slice_get, slice_range, take, drop, nat_le, if◌then◌else◌}
use Rattle.std.proofs.lemmas.Bool.{cases_lt, le-leb, lt-leb}
use Rattle.std.proofs.lemmas.List.{take-map, drop-map}
use Rattle.std.proofs.Math.Seq.{drop-append-add, drop-append_seam}
use Rattle.token_roles.specs.declared.left.Around.{Around}
use Rattle.token_classes.specs.declared.class.TokenClass.{TokenClass}
use Rattle.token_roles.specs.declared.mark.Mark.{Mark}
use Rattle.token_roles.specs.Marks.{partner_of, partner_at, mark_at, ends_in_comma, taken_back, last_is_comma}
use Rattle.token_roles.specs.Left.{outside}
use Rattle.part_laws.specs.LinesCut.{partner_behind}

pub slice_behind : {X : Type 0} (xs ys : List X) (k : ℕ) → slice_get (xs ++ ys) (length xs + k) ≡ slice_get ys k
slice_behind [] ys k = ap (slice_get ys) (omega arith)
slice_behind (x ∷ xs) ys k =
    let next : length (x ∷ xs) + k ≡ suc (length xs + k) = omega arith in
    ap (slice_get (x ∷ (xs ++ ys))) next ∙ slice_behind xs ys k

pub slice_before : {X : Type 0} (xs ys : List X) (k : ℕ) → k < length xs → slice_get (xs ++ ys) k ≡ slice_get xs k
slice_before [] ys k within = absurd (omega (arith, within))
slice_before (x ∷ xs) ys zero within = refl
slice_before (x ∷ xs) ys (suc k) within = slice_before xs ys k (omega (arith, within))

-- ## Partners

pub map_partner : (n : ℕ) (partners : List (Option ℕ)) (k : ℕ) → partner_at (map (partner_behind n) partners) k ≡ partner_behind n (partner_at partners k)
map_partner n [] k = refl
map_partner n (partner ∷ partners) zero = refl
map_partner n (partner ∷ partners) (suc k) = map_partner n partners k

pub partner_there : (early partners : List (Option ℕ)) (n k : ℕ) → length early ≡ n → partner_at (early ++ map (partner_behind n) partners) (n + k) ≡ partner_behind n (partner_at partners k)
partner_there early partners n k count =
    ap (λ m. partner_at (early ++ map (partner_behind n) partners) (m + k)) (sym count)
    ∙ (ap partner_of (slice_behind early (map (partner_behind n) partners) k) ∙ map_partner n partners k)

pub mark_there : (early marks : List Mark) (n : ℕ) (partner : Option ℕ) → length early ≡ n → mark_at (early ++ marks) (partner_behind n partner) ≡ mark_at marks partner
mark_there early marks n None count = refl
mark_there early marks n (Some place) count = ap (λ m. slice_get (early ++ marks) (m + place)) (sym count) ∙ slice_behind early marks place

pub comma_there : (n place : ℕ) (partner : Option ℕ) (after : List TokenClass) → ends_in_comma (n + place) (partner_behind n partner) after ≡ ends_in_comma place partner after
comma_there n place None after = refl
comma_there n place (Some partner) after =
    let same : n + partner - (n + place + 1) ≡ partner - (place + 1) = omega arith in
    ap (λ many. last_is_comma (take many after)) same

le_there : (n a b : ℕ) → nat_le (n + a) (n + b) ≡ nat_le a b
le_there n a b = elim (cases_lt b a) [
  | inl less ↦ lt-leb (n + a) (n + b) (omega (arith, less)) ∙ sym (lt-leb a b less)
  | inr most ↦ le-leb (n + a) (n + b) (omega (arith, most)) ∙ sym (le-leb a b most)
]

pub around_there : (n first : ℕ) (partner : Option ℕ) (mark : Option Mark) (around : Around) → taken_back (n + first) (partner_behind n partner) mark around ≡ taken_back first partner mark around
around_there n first None mark around = refl
around_there n first (Some place) None around = refl
around_there n first (Some place) (Some mark) around = ap (λ (b : Bool). if b then mark.around else record outside { assigned = mark.around.assigned }) (le_there n first place)

-- ## Rows

pub row_there : {X : Type 0} (early all past rest : List X) (first end : ℕ) → all ≡ past ++ rest → first ≡ length past → slice_range (early ++ all) (length early + first) (length early + end) ≡ take (end - first) rest
row_there early all past rest first end are from =
    let many : length early + end - (length early + first) ≡ end - first = omega arith in
    ap (λ m. take m (drop (length early + first) (early ++ all))) many
    ∙ ap (take (end - first)) (drop-append-add early all first ∙ (ap (drop first) are ∙ (ap (λ k. drop k (past ++ rest)) from ∙ drop-append_seam past rest)))

pub row_here : {X : Type 0} (all past rest : List X) (first end : ℕ) → all ≡ past ++ rest → first ≡ length past → slice_range all first end ≡ take (end - first) rest
row_here all past rest first end are from = ap (take (end - first)) (ap (drop first) are ∙ (ap (λ k. drop k (past ++ rest)) from ∙ drop-append_seam past rest))

pub range_map : {X Y : Type 0} (f : X → Y) (xs : List X) (first end : ℕ) → slice_range (map f xs) first end ≡ map f (slice_range xs first end)
range_map f xs first end = ap (take (end - first)) (drop-map f first xs) ∙ take-map f (end - first) (drop first xs)
