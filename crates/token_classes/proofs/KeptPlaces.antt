-- From marked braces to the gaps between each and its partner.
use Rattle.std.proofs.Common.{◌≡◌, ℕ, zero, suc, ◌<◌, ◌≤◌, ◌+◌, max, Bool, true, false, ◌&&◌, ◌||◌, nat_lt, nat_le, List, [], ◌∷◌, length, get_or, map, replicate, Option, Some, None, refl, arith, sym, ap, ◌∙◌, inl, inr, add-one, get_or-set_same, get_or-set_other}
use Rattle.std.specs.Prelude.{slice_set}
use Rattle.std.specs.List.{range_with_len}
use Rattle.std.proofs.lemmas.Bool.{and_left, cases_eq, cases_lt, or_from}
use Rattle.std.proofs.lemmas.Bool.Decides.{nat_tests}
use Rattle.std.proofs.lemmas.List.{get_or_past, get_or-replicate, length-replicate}
use Rattle.std.proofs.lemmas.List.FromFn.{fill_by_all, get_or-map-range_with_len, length-map-range_with_len}
use Rattle.std.proofs.Math.ListN.{length-set}
use Rattle.token_classes.specs.declared.class.TokenClass.{TokenClass}
use Rattle.token_classes.specs.declared.class.TokenClass.TheVariants.{OpenRound, CloseRound, OpenSquare, CloseSquare, OpenBrace, CloseBrace, Nothing}
use Rattle.token_classes.specs.Kept.{class_at, is_inside, is_kept, is_statement_brace, is_up_to, kept_gaps_of, some_below}
use Rattle.token_classes.specs.Partners.{Matching, Nearest, bracket_step, closed, is_round, is_square, matching_from, nearest_brace, partners_of, topmost}

-- the brace is marked, and its partner doesn't come before this place
abbrev pub reaches : List Bool → List (Option ℕ) → ℕ → ℕ → Bool
reaches marks partners place brace = get_or marks brace false && is_up_to (get_or partners brace None) place

before_end : (place end partner : ℕ) → nat_lt place (max end (partner + 1)) ≡ (nat_le place partner || nat_lt place end)
before_end place end partner = grind (arith, nat_tests)

pub reached_brace : (marks : List Bool) (partners : List (Option ℕ)) (i end partner place : ℕ) → get_or marks i false ≡ true → get_or partners i None ≡ Some partner
    → nat_lt place end ≡ some_below i (reaches marks partners place) → nat_lt place (max end (partner + 1)) ≡ some_below (i + 1) (reaches marks partners place)
reached_brace marks partners i end partner place m p h =
    let here : reaches marks partners place i ≡ nat_le place partner = rw (m, p) refl in
    rw (add-one i, here) (before_end place end partner ∙ ap (λ b. nat_le place partner || b) h)

pub reached_alone : (marks : List Bool) (partners : List (Option ℕ)) (i end place : ℕ) → get_or marks i false ≡ true → get_or partners i None ≡ None
    → nat_lt place end ≡ some_below i (reaches marks partners place) → nat_lt place end ≡ some_below (i + 1) (reaches marks partners place)
reached_alone marks partners i end place m p h =
    let here : reaches marks partners place i ≡ false = rw (m, p) refl in
    rw (add-one, here) h

pub reached_other : (marks : List Bool) (partners : List (Option ℕ)) (i end place : ℕ) → get_or marks i false ≡ false
    → nat_lt place end ≡ some_below i (reaches marks partners place) → nat_lt place end ≡ some_below (i + 1) (reaches marks partners place)
reached_other marks partners i end place m h =
    let here : reaches marks partners place i ≡ false = rw m refl in
    rw (add-one, here) h

pub done_next : (marks old : List Bool) (partners : List (Option ℕ)) (i end : ℕ) → i < length marks → nat_lt i end ≡ is_inside old partners i
    → ((k : ℕ) → k < i → get_or marks k false ≡ is_inside old partners k)
    → (k : ℕ) → k < i + 1 → get_or (slice_set marks i (nat_lt i end)) k false ≡ is_inside old partners k
done_next marks old partners i end room here before k h = elim (cases_eq k i) [
  | inl y ↦ rw y (get_or-set_same marks i (nat_lt i end) false room ∙ here)
  | inr n ↦ get_or-set_other marks i k (nat_lt i end) false n ∙ before k (omega arith)
]

pub left_next : (marks old : List Bool) (i : ℕ) (b : Bool) → ((k : ℕ) → i ≤ k → get_or marks k false ≡ get_or old k false)
    → (k : ℕ) → i + 1 ≤ k → get_or (slice_set marks i b) k false ≡ get_or old k false
left_next marks old i b h k le =
    get_or-set_other marks i k b false (λ e. omega arith) ∙ h k (omega arith)

-- The gaps of the definition

same_below : (n : ℕ) (f g : ℕ → Bool) → ((k : ℕ) → f k ≡ g k) → some_below n f ≡ some_below n g
same_below zero f g h = refl
same_below (suc n) f g h = ap (λ b. b || some_below n f) (h n) ∙ ap (λ b. g n || b) (same_below n f g h)

same_map : (f g : ℕ → Bool) → ((k : ℕ) → f k ≡ g k) → (xs : List ℕ) → map f xs ≡ map g xs
same_map f g h [] = refl
same_map f g h (x ∷ xs) = ap (λ b. b ∷ map f xs) (h x) ∙ ap (λ bs. g x ∷ bs) (same_map f g h xs)

-- a mark is read at each place, behind the last one too, where no token stands
mark_at : (classes : List TokenClass) (k : ℕ) → get_or (map (is_statement_brace classes) (range_with_len 0 (length classes))) k false ≡ is_statement_brace classes k
mark_at classes k =
    let f = is_statement_brace classes in
    let n = length classes in
    elim (cases_lt k n) [
      | inl y ↦ get_or-map-range_with_len f 0 n k k false y (omega arith)
      | inr m ↦
          let nothing : class_at classes k ≡ Nothing = get_or_past classes k Nothing m in
          get_or_past (map f (range_with_len 0 n)) k false (omega (arith, length-map-range_with_len f 0 n)) ∙ rw nothing refl
    ]

pub length-marks : (classes : List TokenClass) (marks : List Bool) → marks ≡ map (is_statement_brace classes) (range_with_len 0 (length classes)) → length marks ≡ length classes
length-marks classes marks m = ap length m ∙ length-map-range_with_len (is_statement_brace classes) 0 (length classes)

pub kept_is : (classes : List TokenClass) (marks : List Bool) (partners : List (Option ℕ)) → marks ≡ map (is_statement_brace classes) (range_with_len 0 (length classes))
    → partners ≡ partners_of classes → map (is_inside marks partners) (range_with_len 0 (length marks)) ≡ kept_gaps_of classes
kept_is classes marks partners m p =
    let mark = λ (brace : ℕ). ap (λ l. get_or l brace false) m ∙ mark_at classes brace in
    let read = λ (place brace : ℕ).
    ap (λ b. b && is_up_to (get_or partners brace None) place) (mark brace)
    ∙ ap (λ ps. is_statement_brace classes brace && is_up_to (get_or ps brace None) place) p in
    let place = λ (k : ℕ). same_below k (reaches marks partners k) (λ brace. is_statement_brace classes brace && is_up_to (get_or (partners_of classes) brace None) k) (read k) in
    same_map (is_inside marks partners) (is_kept classes) place (range_with_len 0 (length marks))
    ∙ ap (λ n. map (is_kept classes) (range_with_len 0 n)) (length-marks classes marks m)

none_below : (n : ℕ) (f : ℕ → Bool) → ((k : ℕ) → f k ≡ false) → some_below n f ≡ false
none_below zero f h = refl
none_below (suc n) f h = or_from (f n) (some_below n f) (h n) (none_below n f h)

no_mark : (n k : ℕ) → get_or (replicate n false) k false ≡ false
no_mark n k = elim (cases_lt k n) [
  | inl y ↦ get_or-replicate n k false false y
  | inr m ↦ get_or_past (replicate n false) k false (omega (arith, length-replicate n false))
]

-- where no brace is marked no gap is kept
pub none_kept : (classes : List TokenClass) (marks : List Bool) → marks ≡ map (is_statement_brace classes) (range_with_len 0 (length classes))
    → marks ≡ replicate (length classes) false → marks ≡ kept_gaps_of classes
none_kept classes marks m none =
    let n = length classes in
    let no_brace = λ (k : ℕ). sym (mark_at classes k) ∙ ap (λ l. get_or l k false) (sym m ∙ none) ∙ no_mark n k in
    let not_kept = λ (k : ℕ). none_below k (λ brace. is_statement_brace classes brace && is_up_to (get_or (partners_of classes) brace None) k)
    (λ brace. and_left (is_statement_brace classes brace) (is_up_to (get_or (partners_of classes) brace None) k) (no_brace brace)) in
    fill_by_all (is_kept classes) marks n false (length-marks classes marks m) (λ k h. ap (λ l. get_or l k false) none ∙ no_mark n k ∙ sym (not_kept k))

-- There is a partner for each token.

length-closed : (i : ℕ) (found : Option Nearest) (m : Matching) → length (closed i found m).partners ≡ length m.partners
length-closed i None m = refl
length-closed i (Some o) m = length-set (slice_set m.partners o.place (Some i)) i (Some o.place) ∙ length-set m.partners o.place (Some i)

length-step : (c : TokenClass) (i : ℕ) (m : Matching) → length (bracket_step c i m).partners ≡ length m.partners
length-step CloseRound i m = length-closed i (topmost is_round m.open_brackets) m
length-step CloseSquare i m = length-closed i (topmost is_square m.open_brackets) m
length-step CloseBrace i m = length-closed i (nearest_brace m.open_brackets) m
length-step OpenRound i m = refl
length-step OpenSquare i m = refl
length-step OpenBrace i m = refl
length-step _ i m = refl

length-matching_from : (i : ℕ) (m : Matching) (cs : List TokenClass) → length (matching_from i m cs).partners ≡ length m.partners
length-matching_from i m [] = refl
length-matching_from i m (c ∷ cs) = length-matching_from (i + 1) (bracket_step c i m) cs ∙ length-step c i m

pub length-partners_of : (cs : List TokenClass) → length (partners_of cs) ≡ length cs
length-partners_of cs = length-matching_from 0 (record { open_brackets = []; partners = replicate (length cs) None }) cs ∙ length-replicate (length cs) None
