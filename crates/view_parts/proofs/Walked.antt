-- The items of a part, one after another.
use Rattle.std.proofs.Common.{◌≡◌, ◌∙◌, ℕ, ◌+◌, ◌-◌, ◌<◌, ◌≤◌, Bool, true, false, ◌==◌, nat_le, not, ◌&&◌, ◌||◌, Option}
use Rattle.std.proofs.Common.{Some, None, List, [], ◌∷◌, ◌++◌, length, take, drop, get_or, append_assoc, refl, sym, ap}
use Rattle.std.proofs.Common.{subst, arith}
use Rattle.std.specs.Prelude.{⊤, if◌then◌else◌, slice_range}
use Rattle.std.proofs.lemmas.Bool.Decides.{nat_tests}
use Rattle.std.proofs.lemmas.List.{take_more, take-append-drop, get_or-drop, length-drop}
use Rattle.std.proofs.Math.ListN.{drop_of_length-le}
use Rattle.token_arena.specs.Gaps.{Contents, item_began}
use Rattle.token_classes.specs.declared.class.TokenClass.{TokenClass}
use Rattle.token_classes.specs.Classes.{is_comment, is_word, is_bracket}
use Rattle.item_classes.specs.Viewed.{AreWithin, item_class, item_classes}
use Rattle.item_classes.proofs.ItemClasses.{class_at}
use Rattle.token_classes.specs.declared.pairing.Opener.{Opener}
use Rattle.part_walk.specs.declared.walk.Around.{Around}
use Rattle.part_walk.specs.declared.walk.Around.TheVariants as around
use Rattle.part_walk.specs.declared.bodies.Head.{Head}
use Rattle.part_walk.specs.declared.walk.Walk.{Walk}
use Rattle.part_walk.specs.Places.{Place}
use Rattle.part_walk.specs.Reading.{Reading, EndsOutside, EndsInBody, Never, GoesOn}
use Rattle.part_walk.specs.Walk.{start, reading, opened_head, is_end, is_lost, is_apart, asked_behind, asked_at}
use Rattle.part_walk.specs.Walk.{asked_in_body, end_in_body, ends_apart, ends_in_row, ends_or, ends_inside_or}
use Rattle.part_walk.specs.Walk.{ends_statement, or_place, parts_statements, in_body, in_group, outside, past_bracket}
use Rattle.part_walk.specs.Walk.{past_comment, past_other}
use Rattle.view_parts.specs.Parts.{Ended, count_or, end_of_part, inside_of, next_end, part_inside, part_len, EndsBehind}
use Rattle.part_walk.specs.Brackets.{around_of, bodies_at, bodies_behind, is_left, left_innermost, place_behind}
use Rattle.part_walk.specs.Brackets.{waiting_at, waiting_behind, walk_behind}

-- behind so many items, outside brackets
abbrev pub outside_at : ℕ → Ended
outside_at count = record { count = count; inside = None }

-- behind so many items, in the innermost of these bodies
abbrev pub inside_at : Walk → List Head → ℕ → Ended
inside_at walk bodies count = record { count = count; inside = Some (place_behind walk bodies) }

-- what comes of a list of items whose first, which has this number, is read so, where these openers wait behind it
abbrev pub by_reading : Contents → Walk → Around → List Head → List Opener → ℕ → List ℕ → Reading → Option Ended
by_reading arena walk stands bodies waiting id ids read =
    elim read [
      | EndsOutside count ↦ Some (outside_at count)
      | EndsInBody count ↦ Some (inside_at walk bodies count)
      | Never ↦ None
      | GoesOn next ↦
          let opened = opened_head walk stands bodies id (item_class arena id) in
          next_end arena (walk_behind next bodies waiting opened id) (bodies_behind bodies waiting opened) waiting ids
    ]

-- where the part ends, where its next item is read so
abbrev pub told_by : Walk → List Head → Reading → Option Ended
told_by walk bodies (EndsOutside count) = Some (outside_at count)
told_by walk bodies (EndsInBody count) = Some (inside_at walk bodies count)
told_by walk bodies Never = None
told_by walk bodies (GoesOn next) = None

-- behind so many of these items the part is read so far, whatever follows them
abbrev pub Passes : Contents → Option Place → List ℕ → Walk → List Head → List Opener → Type 0
Passes arena begins ids walk bodies waiting = (rest : List ℕ) → end_of_part arena begins (take walk.place ids ++ rest) ≡ next_end arena walk bodies waiting rest

more : (ids rest : List ℕ) (k : ℕ) → k < length ids → take (k + 1) ids ++ rest ≡ take k ids ++ (get_or ids k 0 ∷ rest)
more ids rest k below = ap (λ (xs : List ℕ). xs ++ rest) (take_more ids k 0 below) ∙ append_assoc (take k ids) (get_or ids k 0 ∷ []) rest

-- behind the next item, whatever follows it
pub reads : (arena : Contents) (begins : Option Place) (ids : List ℕ) (walk : Walk) (bodies : List Head) (waiting : List Opener) (read : Reading) (rest : List ℕ) → walk.place < length ids
    → read ≡ reading arena walk (around_of bodies waiting) (get_or ids walk.place 0) (item_class arena (get_or ids walk.place 0))
    → Passes arena begins ids walk bodies waiting
    → end_of_part arena begins (take (walk.place + 1) ids ++ rest)
    ≡ by_reading arena walk (around_of bodies waiting) bodies (waiting_behind (item_class arena (get_or ids walk.place 0)) walk.place waiting) (get_or ids walk.place 0) rest read
reads arena begins ids walk bodies waiting read rest below is on =
    let id = get_or ids walk.place 0 in
    ap (λ (xs : List ℕ). end_of_part arena begins xs) (more ids rest walk.place below)
    ∙ (on (id ∷ rest) ∙ ap (λ (r : Reading). by_reading arena walk (around_of bodies waiting) bodies (waiting_behind (item_class arena id) walk.place waiting) id rest r) (sym is))

-- the bodies that are open behind the next item, and what is known there, where it goes on so and these openers wait there
abbrev pub walk_past : Contents → Walk → List Head → List Opener → ℕ → Walk → List Opener → Walk
walk_past arena walk bodies waiting id next after = walk_behind next bodies after (opened_head walk (around_of bodies waiting) bodies id (item_class arena id)) id

abbrev pub bodies_past : Contents → Walk → List Head → List Opener → ℕ → List Opener → List Head
bodies_past arena walk bodies waiting id after = bodies_behind bodies after (opened_head walk (around_of bodies waiting) bodies id (item_class arena id))

-- bodies that begin or end change no place
pub behind_place : (next : Walk) (bodies : List Head) (after : List Opener) (opened : Option Head) (id : ℕ) → (walk_behind next bodies after opened id).place ≡ next.place
behind_place next bodies after (Some head) id = refl
behind_place next bodies after None id = by_left (is_left bodies after) bodies
  where
    by_left : (gone : Bool) (bodies : List Head) → (if gone then left_innermost next bodies id else next).place ≡ next.place
    by_left true [] = refl
    by_left true (head ∷ bodies) = refl
    by_left false bodies = refl

pub behind_asked : (next : Walk) (bodies : List Head) (after : List Opener) (opened : Option Head) (id : ℕ) → (walk_behind next bodies after opened id).asked ≡ next.asked
behind_asked next bodies after (Some head) id = refl
behind_asked next bodies after None id = by_left (is_left bodies after) bodies
  where
    by_left : (gone : Bool) (bodies : List Head) → (if gone then left_innermost next bodies id else next).asked ≡ next.asked
    by_left true [] = refl
    by_left true (head ∷ bodies) = refl
    by_left false bodies = refl

pub goes_on : (arena : Contents) (begins : Option Place) (ids : List ℕ) (walk next : Walk) (bodies : List Head) (waiting after : List Opener) (read : Reading) → walk.place < length ids → next.place ≡ walk.place + 1 → read ≡ GoesOn next
    → read ≡ reading arena walk (around_of bodies waiting) (get_or ids walk.place 0) (item_class arena (get_or ids walk.place 0))
    → after ≡ waiting_behind (item_class arena (get_or ids walk.place 0)) walk.place waiting
    → Passes arena begins ids walk bodies waiting
    → Passes arena begins ids (walk_past arena walk bodies waiting (get_or ids walk.place 0) next after) (bodies_past arena walk bodies waiting (get_or ids walk.place 0) after) after
goes_on arena begins ids walk next bodies waiting after read below one made is behind on rest =
    let id = get_or ids walk.place 0 in
    let stands = around_of bodies waiting in
    let opened = opened_head walk stands bodies id (item_class arena id) in
    ap (λ k. end_of_part arena begins (take k ids ++ rest)) (behind_place next bodies after opened id ∙ one)
    ∙ (reads arena begins ids walk bodies waiting read rest below is on
    ∙ (ap (λ (r : Reading). by_reading arena walk stands bodies (waiting_behind (item_class arena id) walk.place waiting) id rest r) made
    ∙ ap (λ (w : List Opener). next_end arena (walk_behind next bodies w opened id) (bodies_behind bodies w opened) w rest) (sym behind)))

ended_so : (arena : Contents) (walk : Walk) (stands : Around) (bodies : List Head) (waiting : List Opener) (id : ℕ) (rest : List ℕ) (read : Reading) (ended : Ended) → told_by walk bodies read ≡ Some ended
    → by_reading arena walk stands bodies waiting id rest read ≡ Some ended
ended_so arena walk stands bodies waiting id rest (EndsOutside count) ended told = told
ended_so arena walk stands bodies waiting id rest (EndsInBody count) ended told = told
ended_so arena walk stands bodies waiting id rest Never ended told = cc
ended_so arena walk stands bodies waiting id rest (GoesOn next) ended told = cc

pub ends_behind : (arena : Contents) (begins : Option Place) (ids : List ℕ) (walk : Walk) (bodies : List Head) (waiting : List Opener) (read : Reading) (ended : Ended) → walk.place < length ids → told_by walk bodies read ≡ Some ended
    → read ≡ reading arena walk (around_of bodies waiting) (get_or ids walk.place 0) (item_class arena (get_or ids walk.place 0))
    → Passes arena begins ids walk bodies waiting → EndsBehind arena begins (take (walk.place + 1) ids) ended
ends_behind arena begins ids walk bodies waiting read ended below told is on rest =
    let id = get_or ids walk.place 0 in
    reads arena begins ids walk bodies waiting read rest below is on
    ∙ ended_so arena walk (around_of bodies waiting) bodies (waiting_behind (item_class arena id) walk.place waiting) id rest read ended told

-- so many items tell it
pub end_behind : (arena : Contents) (begins : Option Place) (ids : List ℕ) (n : ℕ) (ended : Ended) → EndsBehind arena begins (take n ids) ended → end_of_part arena begins ids ≡ Some ended
end_behind arena begins ids n ended ends = ap (λ (xs : List ℕ). end_of_part arena begins xs) (sym (take-append-drop n ids)) ∙ ends (drop n ids)

pub len_behind : (arena : Contents) (begins : Option Place) (ids : List ℕ) (n : ℕ) (ended : Ended) → EndsBehind arena begins (take n ids) ended → part_len arena begins ids ≡ ended.count
len_behind arena begins ids n ended ends = ap (λ (end : Option Ended). count_or end (length ids)) (end_behind arena begins ids n ended ends)

pub inside_behind : (arena : Contents) (begins : Option Place) (ids : List ℕ) (n : ℕ) (ended : Ended) → EndsBehind arena begins (take n ids) ended → part_inside arena begins ids ≡ ended.inside
inside_behind arena begins ids n ended ends = ap (λ (end : Option Ended). inside_of end) (end_behind arena begins ids n ended ends)

pub never_ends : (arena : Contents) (begins : Option Place) (ids : List ℕ) (walk : Walk) (bodies : List Head) (waiting : List Opener) (read : Reading) → walk.place < length ids → read ≡ Never
    → read ≡ reading arena walk (around_of bodies waiting) (get_or ids walk.place 0) (item_class arena (get_or ids walk.place 0))
    → Passes arena begins ids walk bodies waiting → end_of_part arena begins ids ≡ None
never_ends arena begins ids walk bodies waiting read below made is on =
    let id = get_or ids walk.place 0 in
    let rest = drop (walk.place + 1) ids in
    ap (λ (xs : List ℕ). end_of_part arena begins xs) (sym (take-append-drop (walk.place + 1) ids))
    ∙ (reads arena begins ids walk bodies waiting read rest below is on
    ∙ ap (λ (r : Reading). by_reading arena walk (around_of bodies waiting) bodies (waiting_behind (item_class arena id) walk.place waiting) id rest r) made)

pub all_read : (arena : Contents) (begins : Option Place) (ids : List ℕ) (walk : Walk) (bodies : List Head) (waiting : List Opener) → length ids ≤ walk.place → Passes arena begins ids walk bodies waiting → end_of_part arena begins ids ≡ None
all_read arena begins ids walk bodies waiting done on =
    let none : drop walk.place ids ≡ [] = drop_of_length-le ids done in
    ap (λ (xs : List ℕ). end_of_part arena begins xs) (sym (take-append-drop walk.place ids))
    ∙ (on (drop walk.place ids) ∙ ap (λ (xs : List ℕ). next_end arena walk bodies waiting xs) none)

-- ## Places

-- behind so many items a part may end, where it is read up to this place
abbrev pub IsAsked : ℕ → Option ℕ → Type 0
IsAsked place None = ⊤
IsAsked place (Some count) = (0 < count) × (count ≤ place)

abbrev pub Fits : Walk → Reading → Type 0
Fits walk (EndsOutside count) = (0 < count) × (count ≤ walk.place)
Fits walk (EndsInBody count) = (0 < count) × (count ≤ walk.place)
Fits walk Never = ⊤
Fits walk (GoesOn next) = (next.place ≡ walk.place + 1) × IsAsked next.place next.asked

pub asked_later : (place : ℕ) (asked : Option ℕ) → IsAsked place asked → IsAsked (place + 1) asked
asked_later place None is = tt
asked_later place (Some count) is = (is.0, omega (arith, is.1))

asked_here : (arena : Contents) (walk : Walk) (id : ℕ) (class : TokenClass) → (is_end walk.declaration.before ≡ true → 0 < walk.place) → IsAsked walk.place walk.asked → IsAsked walk.place (asked_at arena walk id class)
asked_here arena walk id class later is = by_began (item_began arena id) walk.asked is
  where
    by_end : (end rows : Bool) → is_end walk.declaration.before ≡ end → IsAsked walk.place (if end && rows then Some walk.place else None)
    by_end true true e = (later e, omega arith)
    by_end true false e = tt
    by_end false rows e = tt

    by_began : (began : Bool) (asked : Option ℕ) → IsAsked walk.place asked → IsAsked walk.place (if began then asked_behind asked walk class else None)
    by_began true (Some count) was = was
    by_began true None was = by_end (is_end walk.declaration.before) (is_comment class || not walk.declaration.commented) refl
    by_began false asked was = tt

asked_body : (arena : Contents) (walk : Walk) (id : ℕ) → (ends_statement walk.last ≡ true → 0 < walk.place) → IsAsked walk.place walk.asked → IsAsked walk.place (asked_in_body arena walk id)
asked_body arena walk id told is = by_asked walk.asked is
  where
    by_tests : (ends began : Bool) → ends_statement walk.last ≡ ends → IsAsked walk.place (if ends && began then Some walk.place else None)
    by_tests true true e = (told e, omega arith)
    by_tests true false e = tt
    by_tests false began e = tt

    by_asked : (asked : Option ℕ) → IsAsked walk.place asked
        → IsAsked walk.place (elim asked [ Some place ↦ Some place | None ↦ if ends_statement walk.last && item_began arena id then Some walk.place else None ])
    by_asked (Some count) was = was
    by_asked None was = by_tests (ends_statement walk.last) (item_began arena id) refl

-- where a part ends in a body, it has items
ends_body : (walk : Walk) (id : ℕ) (class : TokenClass) → IsAsked walk.place walk.asked → IsAsked walk.place (end_in_body walk id class)
ends_body walk id class is = by_parts (parts_statements walk class) (is_apart walk id)
  where
    by_long : (long : Bool) → nat_le 64 walk.place ≡ long → IsAsked walk.place (if long then Some (or_place walk.asked walk.place) else None)
    by_long false e = tt
    by_long true e = by_asked walk.asked is
      where
        by_asked : (asked : Option ℕ) → IsAsked walk.place asked → IsAsked walk.place (Some (or_place asked walk.place))
        by_asked None was = (grind (arith, nat_tests, e), omega arith)
        by_asked (Some count) was = was

    by_row : (long next : Bool) → nat_le 512 walk.place ≡ long → IsAsked walk.place (if long && next && not walk.last.commented then Some walk.place else None)
    by_row false next e = tt
    by_row true false e = tt
    by_row true true e = by_comment walk.last.commented
      where
        by_comment : (commented : Bool) → IsAsked walk.place (if not commented then Some walk.place else None)
        by_comment true = tt
        by_comment false = (grind (arith, nat_tests, e), omega arith)

    by_parts : (parts apart : Bool) → IsAsked walk.place (if parts then (if apart then ends_apart walk else ends_in_row walk id) else None)
    by_parts false apart = tt
    by_parts true true = by_long (nat_le 64 walk.place) refl
    by_parts true false = by_row (nat_le 512 walk.place) (id == walk.last.id + 1) refl

-- it isn't asked before the first item
pub record Asks (walk : Walk) (stands : Around) : Type 0 where
  pub later : stands ≡ around.Outside → is_end walk.declaration.before ≡ true → 0 < walk.place
  pub told : ends_statement walk.last ≡ true → 0 < walk.place
  pub asked : IsAsked walk.place walk.asked

pub fits : (arena : Contents) (walk : Walk) (stands : Around) (id : ℕ) (class : TokenClass) → Asks walk stands → Fits walk (reading arena walk stands id class)
fits arena walk stands id class asks = by_stands stands asks
  where
    kept : (asked : Option ℕ) (comment : Bool) → IsAsked walk.place asked → IsAsked (walk.place + 1) (if comment then asked else None)
    kept asked true was = asked_later walk.place asked was
    kept asked false was = tt

    by_lost : (asked : Option ℕ) (lost : Bool) → IsAsked walk.place asked → Fits walk (if lost then Never else GoesOn (outside walk id class asked))
    by_lost asked true was = tt
    by_lost asked false was = (refl, kept asked (is_comment class) was)

    by_word : (count : ℕ) (word : Bool) (next : Reading) → IsAsked walk.place (Some count) → Fits walk next → Fits walk (if word then EndsOutside count else next)
    by_word count true next was on = was
    by_word count false next was on = on

    by_asked : (asked : Option ℕ) (word : Bool) (next : Reading) → IsAsked walk.place asked → Fits walk next → Fits walk (ends_or asked word next)
    by_asked None word next was on = on
    by_asked (Some count) word next was on = by_word count word next was on

    by_end : (ends : Option ℕ) → IsAsked walk.place ends → Fits walk (ends_inside_or ends (in_body walk id class))
    by_end None was = (refl, tt)
    by_end (Some count) was = was

    by_stands : (stands : Around) → Asks walk stands → Fits walk (reading arena walk stands id class)
    by_stands around.Group a = by_bracket (is_bracket class)
      where
        by_bracket : (bracket : Bool) → Fits walk (GoesOn (if bracket then past_bracket walk id class else past_other walk class))
        by_bracket true = (refl, tt)
        by_bracket false = (refl, asked_later walk.place walk.asked a.asked)
    by_stands around.Outside a =
        let was = asked_here arena walk id class (a.later refl) a.asked in
        by_asked (asked_at arena walk id class) (is_word class) (if is_lost class then Never else GoesOn (outside walk id class (asked_at arena walk id class))) was (by_lost (asked_at arena walk id class) (is_lost class) was)
    by_stands around.Body a = by_comment (is_comment class)
      where
        by_comment : (comment : Bool) → Fits walk (if comment then GoesOn (past_comment arena walk id) else ends_inside_or (end_in_body walk id class) (in_body walk id class))
        by_comment true = (refl, asked_later walk.place (asked_in_body arena walk id) (asked_body arena walk id a.told a.asked))
        by_comment false = by_end (end_in_body walk id class) (ends_body walk id class a.asked)

-- ## What the code reads

-- what the code knows of the next item
pub record IsNext (arena : Contents) (ids : List ℕ) (walk : Walk) (bodies : List Head) (waiting : List Opener) (read : Reading) (id : ℕ) (class : TokenClass) : Type 0 where
  pub below : walk.place < length ids
  pub id_is : id ≡ get_or ids walk.place 0
  pub class_is : class ≡ item_class arena (get_or ids walk.place 0)
  pub read_is : read ≡ reading arena walk (around_of bodies waiting) (get_or ids walk.place 0) (item_class arena (get_or ids walk.place 0))

pub class_told : (arena : Contents) (all : List TokenClass) (id : ℕ) (d : TokenClass) → all ≡ item_classes arena → id < length arena.tokens → get_or all id d ≡ item_class arena id
class_told arena all id d told stored = ap (λ (cs : List TokenClass). get_or cs id d) told ∙ class_at arena id d stored

pub next_item : (arena : Contents) (view : List ℕ) (all : List TokenClass) (first count : ℕ) (walk : Walk) (bodies : List Head) (waiting : List Opener) (read : Reading) (stands : Around) (id : ℕ) (d : TokenClass) → AreWithin arena view
    → all ≡ item_classes arena → count ≡ length view → walk.place < count - first → get_or view (first + walk.place) 0 ≡ id → stands ≡ around_of bodies waiting → read ≡ reading arena walk stands id (get_or all id d)
    → IsNext arena (drop first view) walk bodies waiting read id (get_or all id d)
next_item arena view all first count walk bodies waiting read stands id d within told whole below at here is =
    let ids = drop first view in
    let id_is : id ≡ get_or ids walk.place 0 = sym (get_or-drop first view walk.place 0 ∙ at) in
    let stored : id < length arena.tokens = subst (λ n. n < length arena.tokens) at (within (first + walk.place) 0 (omega (arith, below, whole))) in
    let class_is = class_told arena all id d told stored in
    record {
      below = omega (arith, length-drop first view, below, whole);
      id_is = id_is;
      class_is = class_is ∙ ap (λ n. item_class arena n) id_is;
      read_is = is
          ∙ (ap (λ (c : TokenClass). reading arena walk stands id c) class_is
          ∙ (ap (λ (a : Around). reading arena walk a id (item_class arena id)) here
          ∙ ap (λ n. reading arena walk (around_of bodies waiting) n (item_class arena n)) id_is));
    }

-- ## What it tells

-- the part ends there
pub ends_so : (arena : Contents) (begins : Option Place) (ids : List ℕ) (walk : Walk) (bodies : List Head) (waiting : List Opener) (read : Reading) (id : ℕ) (class : TokenClass) (ended : Ended) → IsNext arena ids walk bodies waiting read id class
    → told_by walk bodies read ≡ Some ended → Passes arena begins ids walk bodies waiting → EndsBehind arena begins (take (walk.place + 1) ids) ended
ends_so arena begins ids walk bodies waiting read id class ended next told on = ends_behind arena begins ids walk bodies waiting read ended next.below told next.read_is on

reads_one : (arena : Contents) (walk after : Walk) (stands : Around) (id : ℕ) (class : TokenClass) → GoesOn after ≡ reading arena walk stands id class → after.place ≡ walk.place + 1
reads_one arena walk after stands id class is = by_stands stands is
  where
    same : (a b : Walk) → GoesOn a ≡ GoesOn b → a ≡ b
    same a b e = cc

    one : (b : Walk) → b.place ≡ walk.place + 1 → GoesOn after ≡ GoesOn b → after.place ≡ walk.place + 1
    one b e was = ap (λ (w : Walk). w.place) (same after b was) ∙ e

    by_lost : (lost : Bool) (next : Walk) → next.place ≡ walk.place + 1 → GoesOn after ≡ (if lost then Never else GoesOn next) → after.place ≡ walk.place + 1
    by_lost true next e was = cc
    by_lost false next e was = one next e was

    by_word : (word : Bool) (count : ℕ) (next : Reading) → (GoesOn after ≡ next → after.place ≡ walk.place + 1) → GoesOn after ≡ (if word then EndsOutside count else next) → after.place ≡ walk.place + 1
    by_word true count next on was = cc
    by_word false count next on was = on was

    by_asked : (asked : Option ℕ) (word : Bool) (next : Reading) → (GoesOn after ≡ next → after.place ≡ walk.place + 1) → GoesOn after ≡ ends_or asked word next → after.place ≡ walk.place + 1
    by_asked None word next on was = on was
    by_asked (Some count) word next on was = by_word word count next on was

    by_end : (ends : Option ℕ) → GoesOn after ≡ ends_inside_or ends (in_body walk id class) → after.place ≡ walk.place + 1
    by_end None was = one (in_body walk id class) refl was
    by_end (Some count) was = cc

    by_stands : (stands : Around) → GoesOn after ≡ reading arena walk stands id class → after.place ≡ walk.place + 1
    by_stands around.Group was = one (in_group walk id class) (by_bracket (is_bracket class)) was
      where
        by_bracket : (bracket : Bool) → (if bracket then past_bracket walk id class else past_other walk class).place ≡ walk.place + 1
        by_bracket true = refl
        by_bracket false = refl
    by_stands around.Outside was =
        let next = outside walk id class (asked_at arena walk id class) in
        by_asked (asked_at arena walk id class) (is_word class) (if is_lost class then Never else GoesOn next) (λ e. by_lost (is_lost class) next refl e) was
    by_stands around.Body was = by_comment (is_comment class) was
      where
        by_comment : (comment : Bool) → GoesOn after ≡ (if comment then GoesOn (past_comment arena walk id) else ends_inside_or (end_in_body walk id class) (in_body walk id class)) → after.place ≡ walk.place + 1
        by_comment true was = one (past_comment arena walk id) refl was
        by_comment false was = by_end (end_in_body walk id class) was

pub next_place : (arena : Contents) (ids : List ℕ) (walk after : Walk) (bodies : List Head) (waiting : List Opener) (read : Reading) (id : ℕ) (class : TokenClass) → IsNext arena ids walk bodies waiting read id class → read ≡ GoesOn after
    → after.place ≡ walk.place + 1
next_place arena ids walk after bodies waiting read id class next made =
    let number = get_or ids walk.place 0 in
    reads_one arena walk after (around_of bodies waiting) number (item_class arena number) (sym made ∙ next.read_is)

pub next_passes : (arena : Contents) (begins : Option Place) (ids : List ℕ) (walk after : Walk) (bodies : List Head) (waiting new : List Opener) (opened : Option Head) (read : Reading) (id : ℕ) (class : TokenClass)
    → IsNext arena ids walk bodies waiting read id class → read ≡ GoesOn after → after.place ≡ walk.place + 1 → new ≡ waiting_behind class walk.place waiting → opened ≡ opened_head walk (around_of bodies waiting) bodies id class
    → Passes arena begins ids walk bodies waiting → Passes arena begins ids (walk_behind after bodies new opened id) (bodies_behind bodies new opened) new
next_passes arena begins ids walk after bodies waiting new opened read id class next made one behind opens on =
    let number = get_or ids walk.place 0 in
    let stands = around_of bodies waiting in
    let head = opened_head walk stands bodies number (item_class arena number) in
    let same : opened ≡ head =
    opens
    ∙ (ap (λ (c : TokenClass). opened_head walk stands bodies id c) next.class_is ∙ ap (λ n. opened_head walk stands bodies n (item_class arena number)) next.id_is) in
    let past = goes_on arena begins ids walk after bodies waiting new read next.below one made next.read_is (behind ∙ ap (λ (c : TokenClass). waiting_behind c walk.place waiting) next.class_is) on in
    subst (λ (o : Option Head). Passes arena begins ids (walk_behind after bodies new o id) (bodies_behind bodies new o) new) (sym same)
    (subst (λ n. Passes arena begins ids (walk_behind after bodies new head n) (bodies_behind bodies new head) new) (sym next.id_is) past)

-- before the first item
pub starts_so : (arena : Contents) (begins : Option Place) (ids : List ℕ) → Passes arena begins ids (start begins) (bodies_at begins) (waiting_at begins)
starts_so arena None ids rest = refl
starts_so arena (Some place) ids rest = refl

-- so many places of a view are its items behind the first one
pub whole_end : (first count : ℕ) (view : List ℕ) (len : ℕ) → first < length view → count ≡ length view → len ≡ length (drop first view) → count ≡ first + len
whole_end first count view len some whole is = omega (arith, length-drop first view, some, whole, is)

pub seen_end : (arena : Contents) (begins : Option Place) (view : List ℕ) (first place seen end : ℕ) (ended : Ended) → seen ≡ first + place + 1 → end ≡ first + ended.count → EndsBehind arena begins (take (place + 1) (drop first view)) ended
    → EndsBehind arena begins (slice_range view first seen) (record { count = end - first; inside = ended.inside })
seen_end arena begins view first place seen end ended is at told rest =
    let n : place + 1 ≡ seen - first = omega (arith, is) in
    let m : ended.count ≡ end - first = omega (arith, at) in
    ap (λ k. end_of_part arena begins (take k (drop first view) ++ rest)) (sym n) ∙ (told rest ∙ ap (λ k. Some (record { count = k; inside = ended.inside })) m)
