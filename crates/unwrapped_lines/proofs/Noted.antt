-- What is noted of the items of a view, one behind another.
use Rattle.std.proofs.Common.{◌≡◌, ◌∙◌, ℕ, zero, suc, ◌+◌, ◌<◌, ◌≤◌, ◌&&◌, nat_lt, Bool, true, false, List, [], ◌∷◌, ◌++◌, length, map, get_or}
use Rattle.std.proofs.Common.{refl, sym, ap, arith, subst, length-append}
use Rattle.std.specs.Prelude.{if◌then◌else◌, slice_get}
use Rattle.std.proofs.lemmas.List.{get_or_default}
use Rattle.std.proofs.lemmas.Option.{slice_get_past}
use Rattle.token_arena.specs.Gaps.{Contents}
use Rattle.token_classes.specs.declared.class.TokenClass.{TokenClass}
use Rattle.token_classes.specs.declared.class.TokenClass.TheVariants.{Case, Colon, LineComment, BlockComment, Nothing}
use Rattle.token_classes.specs.Classes.{is_colon, is_comment}
use Rattle.item_classes.specs.Part.{part_of}
use Rattle.statement_lines.specs.Tokens.{is_touched}
use Rattle.unwrapped_lines.specs.declared.part.ViewComment.{ViewComment}
use Rattle.unwrapped_lines.specs.Viewed.{colon_touches}
use Rattle.unwrapped_lines.specs.Inside.{AreNoted, AreTouched, comment_place, comment_places_from, comments_from, is_usual}
use Rattle.unwrapped_lines.proofs.CommentParts.{comment_noted, token_noted}

pub usual_code : (c : TokenClass) → is_usual c ≡ true → (is_comment c ≡ false) × (is_colon c ≡ false)
usual_code Case h = cc
usual_code Colon h = cc
usual_code LineComment h = cc
usual_code BlockComment h = cc
usual_code _ h = (refl, refl)

-- ## What is told to be touched

pub push_false : (xs : List Bool) (i : ℕ) → is_touched (slice_get (xs ++ false ∷ []) i) ≡ is_touched (slice_get xs i)
push_false [] zero = refl
push_false [] (suc i) = refl
push_false (x ∷ xs) zero = refl
push_false (x ∷ xs) (suc i) = push_false xs i

pub push_before : (xs : List Bool) (b : Bool) (i : ℕ) → i < length xs → is_touched (slice_get (xs ++ b ∷ []) i) ≡ is_touched (slice_get xs i)
push_before [] b i h = absurd (omega (arith, h))
push_before (x ∷ xs) b zero h = refl
push_before (x ∷ xs) b (suc i) h = push_before xs b i (omega (arith, h))

pub push_here : (xs : List Bool) (b : Bool) (i : ℕ) → i ≡ length xs → is_touched (slice_get (xs ++ b ∷ []) i) ≡ b
push_here [] b zero h = refl
push_here [] b (suc i) h = absurd (omega (arith, h))
push_here (x ∷ xs) b zero h = absurd (omega (arith, h))
push_here (x ∷ xs) b (suc i) h = push_here xs b i (omega (arith, h))

-- one place more
pub touched_more : (arena : Contents) (ids : List ℕ) (classes : List TokenClass) (k : ℕ) (old new : List Bool) → AreTouched arena ids classes k old
    → ((i : ℕ) → i < k → is_touched (slice_get new i) ≡ is_touched (slice_get old i))
    → is_touched (slice_get new k) ≡ (is_colon (get_or classes k Nothing) && colon_touches arena (get_or ids k 0)) → AreTouched arena ids classes (k + 1) new
touched_more arena ids classes k old new h same here i lt =
    elim (nat_lt i k) as (λ x. nat_lt i k ≡ x → is_touched (slice_get new i) ≡ (is_colon (get_or classes i Nothing) && colon_touches arena (get_or ids i 0))) [
      | true ↦ λ q. let below : i < k = grind (arith, q) in same i below ∙ h i below
      | false ↦ λ q.
          let at : k ≡ i = (let no : k ≤ i = grind (arith, q) in omega (arith, no, lt)) in
          let P : ℕ → Type 0 = λ x. is_touched (slice_get new x) ≡ (is_colon (get_or classes x Nothing) && colon_touches arena (get_or ids x 0)) in
          subst P at here
    ] refl

-- the same list tells of one more, where nothing touches that
pub untouched_more : (arena : Contents) (ids : List ℕ) (classes : List TokenClass) (k : ℕ) (old : List Bool) → AreTouched arena ids classes k old → length old ≤ k
    → (is_colon (get_or classes k Nothing) && colon_touches arena (get_or ids k 0)) ≡ false → AreTouched arena ids classes (k + 1) old
untouched_more arena ids classes k old h few none =
    touched_more arena ids classes k old old h (λ i lt. refl) (ap is_touched (slice_get_past old k few) ∙ sym none)

-- ## One item

-- no comment, where what is told to be touched tells of it too
pub token_item : (arena : Contents) (ids : List ℕ) (classes : List TokenClass) (k : ℕ) (c : TokenClass) (comments : List ViewComment) (old new : List Bool)
    → AreNoted arena ids classes k comments old → k < length classes → is_comment (get_or classes k c) ≡ false → AreTouched arena ids classes (k + 1) new → length new ≤ k + 1
    → AreNoted arena ids classes (k + 1) comments new
token_item arena ids classes k c comments old new h lt is touched few =
    record {
      comments = token_noted arena ids classes k c comments h.comments lt is;
      touched = touched;
      few = few;
      fewer = omega (arith, h.fewer);
    }

comment_colon : (c : TokenClass) → is_comment c ≡ true → is_colon c ≡ false
comment_colon LineComment h = refl
comment_colon BlockComment h = refl
comment_colon _ h = cc

pub comment_item : (arena : Contents) (ids : List ℕ) (classes : List TokenClass) (k id : ℕ) (c : TokenClass) (comments : List ViewComment) (touched : List Bool)
    → AreNoted arena ids classes k comments touched → k < length classes → is_comment (get_or classes k c) ≡ true → get_or ids k 0 ≡ id
    → AreNoted arena ids classes (k + 1) (comments ++ record { place = k; part = part_of arena id (nat_lt (length comments) k) (get_or classes k c) } ∷ []) touched
comment_item arena ids classes k id c comments touched h lt is item =
    let own : (i : ℕ) → List ViewComment = λ i. comments ++ record { place = k; part = part_of arena i (nat_lt (length comments) k) (get_or classes k c) } ∷ [] in
    let P : ℕ → Type 0 = λ i. AreNoted arena ids classes (k + 1) (own i) touched in
    let colon : is_colon (get_or classes k Nothing) ≡ false = ap is_colon (get_or_default classes k Nothing c lt) ∙ comment_colon (get_or classes k c) is in
    let none = ap (λ (b : Bool). b && colon_touches arena (get_or ids k 0)) colon in
    subst P item (record {
      comments = comment_noted arena ids classes k c comments h.comments lt is;
      touched = untouched_more arena ids classes k touched h.touched h.few none;
      few = omega (arith, h.few);
      fewer = (let more = length-append comments (record { place = k; part = part_of arena (get_or ids k 0) (nat_lt (length comments) k) (get_or classes k c) } ∷ []) in omega (arith, more, h.fewer));
    })

-- neither a comment nor a colon
pub other_item : (arena : Contents) (ids : List ℕ) (classes : List TokenClass) (k : ℕ) (c : TokenClass) (comments : List ViewComment) (touched : List Bool)
    → AreNoted arena ids classes k comments touched → k < length classes → is_comment (get_or classes k c) ≡ false → is_colon (get_or classes k c) ≡ false
    → AreNoted arena ids classes (k + 1) comments touched
other_item arena ids classes k c comments touched h lt is apart =
    let colon : is_colon (get_or classes k Nothing) ≡ false = ap is_colon (get_or_default classes k Nothing c lt) ∙ apart in
    let none = ap (λ (b : Bool). b && colon_touches arena (get_or ids k 0)) colon in
    token_item arena ids classes k c comments touched touched h lt is (untouched_more arena ids classes k touched h.touched h.few none) (omega (arith, h.few))

pub usual_items : (arena : Contents) (ids : List ℕ) (classes : List TokenClass) (n k : ℕ) (c : TokenClass) (comments : List ViewComment) (touched : List Bool)
    → AreNoted arena ids classes k comments touched → k + n ≤ length classes → ((j : ℕ) → j < n → is_usual (get_or classes (k + j) c) ≡ true)
    → AreNoted arena ids classes (k + n) comments touched
usual_items arena ids classes zero k c comments touched h most each =
    let e : k ≡ k + 0 = omega arith in
    let P : ℕ → Type 0 = λ x. AreNoted arena ids classes x comments touched in
    subst P e h
usual_items arena ids classes (suc n) k c comments touched h most each =
    let here : k + 0 ≡ k = omega arith in
    let usual : is_usual (get_or classes k c) ≡ true = sym (ap (λ x. is_usual (get_or classes x c)) here) ∙ each 0 (omega arith) in
    let code = usual_code (get_or classes k c) usual in
    let one = other_item arena ids classes k c comments touched h (omega (arith, most)) code.0 code.1 in
    let e : k + 1 + n ≡ k + suc n = omega arith in
    let P : ℕ → Type 0 = λ x. AreNoted arena ids classes x comments touched in
    subst P e (usual_items arena ids classes n (k + 1) c comments touched one (omega (arith, most)) (λ j lt. let up : k + 1 + j ≡ k + suc j = omega arith in ap (λ x. is_usual (get_or classes x c)) up ∙ each (suc j) (omega (arith, lt))))

-- ## The places of comments

pub places_noted : (arena : Contents) (ids : List ℕ) (k n : ℕ) (cs : List TokenClass) → map comment_place (comments_from arena ids k n cs) ≡ comment_places_from k cs
places_noted arena ids k n [] = refl
places_noted arena ids k n (c ∷ cs) =
    elim (is_comment c) as (λ x. map comment_place (if x then record { place = k; part = part_of arena (get_or ids k 0) (nat_lt n k) c } ∷ comments_from arena ids (k + 1) (n + 1) cs else comments_from arena ids (k + 1) n cs) ≡ (if x then k ∷ comment_places_from (k + 1) cs else comment_places_from (k + 1) cs)) [
      | true ↦ ap (λ (x : List ℕ). k ∷ x) (places_noted arena ids (k + 1) (n + 1) cs)
      | false ↦ places_noted arena ids (k + 1) n cs
    ]
