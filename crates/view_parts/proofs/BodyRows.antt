-- Bodies of a view that are passed whole.
use Rattle.std.proofs.Common.{◌≡◌, ◌∙◌, ℕ, zero, suc, ◌+◌, ◌<◌, ◌≤◌, true, false, Option, Some, None, List, ◌∷◌, ◌++◌}
use Rattle.std.proofs.Common.{length, map, take, drop, get_or, append_assoc, refl, sym, ap, subst, arith}
use Rattle.std.specs.List.{range_with_len}
use Rattle.std.proofs.lemmas.List.{drop_more, length-drop}
use Rattle.std.proofs.Math.Seq.{take-add}
use Rattle.token_arena.specs.Gaps.{Contents}
use Rattle.token_classes.specs.declared.class.TokenClass.{TokenClass}
use Rattle.token_classes.specs.declared.class.TokenClass.TheVariants.{OpenBrace}
use Rattle.token_classes.specs.Classes.{is_open_brace}
use Rattle.item_classes.specs.Viewed.{item_class, item_classes}
use Rattle.token_classes.specs.declared.pairing.Opener.{Opener}
use Rattle.item_classes.proofs.ItemClasses.{row_classes}
use Rattle.part_walk.specs.declared.walk.Around.{Around}
use Rattle.part_walk.specs.declared.walk.Around.TheVariants as around
use Rattle.part_walk.specs.declared.walk.Before.TheVariants.{Body}
use Rattle.part_walk.specs.declared.walk.Walk.{Walk}
use Rattle.token_arena.specs.Ids.{Increase}
use Rattle.view_parts.proofs.PartEnds.{IsRead, read_quiet}
use Rattle.part_walk.specs.declared.bodies.Head.{Head}
use Rattle.part_walk.specs.Places.{Place}
use Rattle.part_walk.specs.Reading.{Reading, GoesOn}
use Rattle.view_parts.specs.Quiet.{Closes}
use Rattle.part_walk.specs.Steps.{body_passed}
use Rattle.part_walk.specs.Walk.{reading, opened_head, asked_at, end_in_body, ends_or, ends_inside_or, in_body, outside}
use Rattle.part_walk.specs.Brackets.{around_of, bodies_behind, waiting_behind, walk_behind}
use Rattle.view_parts.specs.Parts.{end_of_part, next_end}
use Rattle.view_parts.proofs.BodiesPassed.{body_passes}
use Rattle.view_parts.proofs.Walked.{Passes, by_reading, IsNext}
use Rattle.view_parts.proofs.Waits.{BodiesWaitBelow, opens_so, opens_within}

-- items in a row
row_range : (ids : List ℕ) (place id n : ℕ) → place + n ≤ length ids → ((k : ℕ) → k < n → get_or ids (place + k) 0 ≡ id + k) → take n (drop place ids) ≡ range_with_len id n
row_range ids place id zero within row = refl
row_range ids place id (suc n) within row =
    let here : get_or ids place 0 ≡ id = ap (λ k. get_or ids k 0) (omega arith) ∙ (row 0 (omega arith) ∙ omega arith) in
    ap (λ (xs : List ℕ). take (suc n) xs) (drop_more ids place 0 (omega (arith, within)))
    ∙ (ap (λ k. k ∷ take n (drop (place + 1) ids)) here
    ∙ ap (λ (xs : List ℕ). id ∷ xs)
    (row_range ids (place + 1) (id + 1) n (omega (arith, within)) (λ k low. ap (λ j. get_or ids j 0) (omega arith) ∙ (row (k + 1) (omega (arith, low)) ∙ omega arith))))

-- what is known behind the `{` of a body
record Entered (place id : ℕ) (next : Walk) : Type 0 where
  place_is : next.place ≡ place + 1
  asked : next.asked ≡ None
  behind : next.behind ≡ id + 1

same_next : (a b : Walk) → GoesOn a ≡ GoesOn b → a ≡ b
same_next a b is = cc

enters : (arena : Contents) (walk next : Walk) (stands : Around) (id : ℕ) → (stands ≡ around.Group → ⊥) → reading arena walk stands id OpenBrace ≡ GoesOn next → Entered walk.place id next
enters arena walk next around.Outside id apart is = by_asked (asked_at arena walk id OpenBrace) is
  where
    by_asked : (asked : Option ℕ) → ends_or asked false (GoesOn (outside walk id OpenBrace (asked_at arena walk id OpenBrace))) ≡ GoesOn next → Entered walk.place id next
    by_asked None is =
        subst (λ (w : Walk). Entered walk.place id w) (same_next _ next is) (record { place_is = refl; asked = refl; behind = refl })
    by_asked (Some count) is =
        subst (λ (w : Walk). Entered walk.place id w) (same_next _ next is) (record { place_is = refl; asked = refl; behind = refl })
enters arena walk next around.Body id apart is = by_end (end_in_body walk id OpenBrace) is
  where
    by_end : (end : Option ℕ) → ends_inside_or end (in_body walk id OpenBrace) ≡ GoesOn next → Entered walk.place id next
    by_end None is = subst (λ (w : Walk). Entered walk.place id w) (same_next _ next is) (record { place_is = refl; asked = refl; behind = refl })
    by_end (Some count) is = cc
enters arena walk next around.Group id apart is = absurd (apart refl)

pub brace_of : (class : TokenClass) → is_open_brace class ≡ true → class ≡ OpenBrace
brace_of OpenBrace is = refl
brace_of _ is = cc

-- The part is read so far behind a body with this head that is passed whole.
body_row : (arena : Contents) (begins : Option Place) (ids : List ℕ) (walk next after : Walk) (bodies : List Head) (waiting : List Opener) (read : Reading) (all : List TokenClass) (id len : ℕ) (class : TokenClass) (head : Head)
    → walk.place + len < length ids → ((k : ℕ) → k ≤ len → get_or ids (walk.place + k) 0 ≡ id + k) → id + 1 + len ≤ length arena.tokens → all ≡ item_classes arena
    → class ≡ item_class arena id → read ≡ GoesOn next → read ≡ reading arena walk (around_of bodies waiting) id class → Some head ≡ opened_head walk (around_of bodies waiting) bodies id class
    → BodiesWaitBelow (length bodies) waiting → next.declaration.before ≡ Body → walk.place + 1 + len ≤ 512 → Closes 1 (take len (drop (id + 1) all))
    → after ≡ body_passed next head (walk.place + 1 + len) (id + len)
    → Passes arena begins ids walk bodies waiting → Passes arena begins ids after bodies waiting
body_row arena begins ids walk next after bodies waiting read all id len class head within row stored all_is class_is made is opened holds before low closes passed on =
    subst (λ (w : Walk). Passes arena begins ids w bodies waiting) (sym passed) (λ rest.
    let row_is : take (walk.place + 1 + len) ids ++ rest ≡ take walk.place ids ++ (id ∷ (range_with_len (id + 1) len ++ rest)) =
    ap (λ k. take k ids ++ rest) (omega arith)
    ∙ (ap (λ (xs : List ℕ). xs ++ rest) (take-add walk.place (suc len) ids ∙ ap (λ (xs : List ℕ). take walk.place ids ++ xs) (row_range ids walk.place id (suc len) (omega (arith, within)) (λ k few. row k (omega (arith, few)))))
    ∙ append_assoc (take walk.place ids) (range_with_len id (suc len)) rest) in
    ap (λ (xs : List ℕ). end_of_part arena begins xs) row_is
    ∙ (on (id ∷ (range_with_len (id + 1) len ++ rest)) ∙ behind_brace rest (brace_of class opens.0)))
  where
    stands : Around
    stands = around_of bodies waiting

    opens : (is_open_brace class ≡ true) × (stands ≡ around.Group → ⊥)
    opens = opens_so walk stands bodies id class head (sym opened)

    behind_brace : (rest : List ℕ) → class ≡ OpenBrace
        → next_end arena walk bodies waiting (id ∷ (range_with_len (id + 1) len ++ rest)) ≡ next_end arena (body_passed next head (walk.place + 1 + len) (id + len)) bodies waiting rest
    behind_brace rest brace =
        let read_is : reading arena walk stands id (item_class arena id) ≡ GoesOn next = ap (λ (c : TokenClass). reading arena walk stands id c) (sym class_is) ∙ (sym is ∙ made) in
        let entered = enters arena walk next stands id opens.1 (ap (λ (c : TokenClass). reading arena walk stands id c) (sym brace) ∙ (sym is ∙ made)) in
        let closed : Closes 1 (map (item_class arena) (range_with_len (id + 1) len)) =
        subst (λ (cs : List TokenClass). Closes 1 cs) (ap (λ (cs : List TokenClass). take len (drop (id + 1) cs)) all_is ∙ row_classes arena (id + 1) len stored) closes in
        let opened_is : opened_head walk stands bodies id (item_class arena id) ≡ Some head = ap (λ (c : TokenClass). opened_head walk stands bodies id c) (sym class_is) ∙ sym opened in
        let ids_behind = range_with_len (id + 1) len ++ rest in
        let after_brace = waiting_behind (item_class arena id) walk.place waiting in
        ap (λ (r : Reading). by_reading arena walk stands bodies after_brace id ids_behind r) read_is
        ∙ (ap (λ (o : Option Head). next_end arena (walk_behind next bodies after_brace o id) (bodies_behind bodies after_brace o) after_brace ids_behind) opened_is
        ∙ (ap (λ (c : TokenClass). next_end arena (walk_behind next bodies (waiting_behind c walk.place waiting) (Some head) id) (head ∷ bodies) (waiting_behind c walk.place waiting) ids_behind) (sym class_is ∙ brace)
        ∙ (body_passes arena next head bodies (record { place = walk.place + 1; kind = OpenBrace }) waiting id len rest before entered.behind refl
        (opens_within walk bodies waiting id class head holds (sym opened)) entered.asked closed (omega (arith, low, entered.place_is))
        ∙ ap (λ k. next_end arena (body_passed next head k (id + len)) bodies waiting rest) (omega (arith, entered.place_is)))))

pub read_body : (arena : Contents) (begins : Option Place) (view : List ℕ) (first : ℕ) (walk next after : Walk) (bodies heads : List Head) (waiting : List Opener) (braces : ℕ) (read : Reading) (all : List TokenClass) (id len : ℕ) (class : TokenClass) (stands : Around) (head : Head)
    → Increase view → first + walk.place + len < length view → ((k : ℕ) → k ≤ len → get_or (drop first view) (walk.place + k) 0 ≡ id + k) → id + 1 + len ≤ length arena.tokens → all ≡ item_classes arena
    → IsNext arena (drop first view) walk bodies waiting read id class → read ≡ GoesOn next → Some head ≡ opened_head walk stands heads id class → stands ≡ around_of bodies waiting → heads ≡ bodies
    → next.declaration.before ≡ Body → walk.place + 1 + len ≤ 512 → Closes 1 (take len (drop (id + 1) all)) → after ≡ body_passed next head (walk.place + 1 + len) (id + len)
    → IsRead arena begins view first walk bodies waiting braces → IsRead arena begins view first after bodies waiting braces
read_body arena begins view first walk next after bodies heads waiting braces read all id len class stands head increase within row stored all_is item goes opened here same before low closes passed was =
    let ids = drop first view in
    let number = get_or ids walk.place 0 in
    let class_is : class ≡ item_class arena id = item.class_is ∙ ap (λ n. item_class arena n) (sym item.id_is) in
    let read_is : read ≡ reading arena walk (around_of bodies waiting) id class =
    item.read_is ∙ (ap (λ n. reading arena walk (around_of bodies waiting) n (item_class arena number)) (sym item.id_is) ∙ ap (λ (c : TokenClass). reading arena walk (around_of bodies waiting) id c) (sym item.class_is)) in
    let opened_is = opened ∙ (ap (λ (a : Around). opened_head walk a heads id class) here ∙ ap (λ (hs : List Head). opened_head walk (around_of bodies waiting) hs id class) same) in
    let on = body_row arena begins ids walk next after bodies waiting read all id len class head (omega (arith, within, length-drop first view)) row stored all_is class_is goes read_is opened_is was.holds before low closes passed was.on in
    read_quiet arena begins view first len walk after bodies waiting braces increase (ap (λ (w : Walk). w.place) passed ∙ omega arith) on was
