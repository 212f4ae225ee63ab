-- What a first part is, up to the first end of declarations: its brackets are closed, its last token is a `;` or a `}`, and comments and a word that began their lines follow it.
use Rattle.std.proofs.Common.{◌≡◌, ◌∙◌, ◌⊎◌, inl, inr, ℕ, ◌+◌, Bool, true, false, not, ◌&&◌, ◌||◌, Option, Some, None}
use Rattle.std.proofs.Common.{List, [], ◌∷◌, ◌++◌, length, take, drop, refl, sym, ap, subst, arith}
use Rattle.std.specs.Prelude.{if◌then◌else◌}
use Rattle.std.proofs.Math.Seq.{take-append_seam, drop-append_seam}
use Rattle.token_arena.specs.Gaps.{Contents, item_began}
use Rattle.token_classes.specs.declared.class.TokenClass.{TokenClass}
use Rattle.token_classes.specs.declared.class.TokenClass.TheVariants.{Nothing, OpenRound, CloseRound, OpenSquare}
use Rattle.token_classes.specs.declared.class.TokenClass.TheVariants.{CloseSquare, OpenBrace, CloseBrace}
use Rattle.token_classes.specs.declared.class.TokenClass.TheVariants.{Semicolon as SemicolonClass, LineComment}
use Rattle.token_classes.specs.declared.class.TokenClass.TheVariants.{BlockComment}
use Rattle.token_classes.specs.Classes.{is_comment, is_word, is_open_round, is_open_brace}
use Rattle.item_classes.specs.Viewed.{item_class, classes_of}
use Rattle.token_classes.specs.declared.pairing.Opener.{Opener}
use Rattle.token_classes.specs.Partners.{Nearest, is_brace, is_round, is_square, nearest_brace, topmost, closed}
use Rattle.part_laws.specs.Declarations.{Before, Name, Parameters, Body, Between, Other, Reading, Ends, Never, GoesOn}
use Rattle.part_laws.specs.Declarations.{Walk, start, is_end, is_between, behind_group, behind, asked_behind, asked_at}
use Rattle.part_laws.specs.Declarations.{ends_or, is_lost, outside, inside, waiting_behind, is_open, next_end}
use Rattle.part_laws.specs.LinesCut.{IsFirstPart}
use Rattle.view_parts.proofs.BodiesPassed.{round_is_no_brace, square_is_no_brace, waits_so}

-- what comes of a list of items whose first is read so
abbrev pub by_reading : Contents → List Opener → List ℕ → Reading → Option ℕ
by_reading arena waiting ids read =
    elim read [
      | Ends count ↦ Some count
      | Never ↦ None
      | GoesOn next ↦ next_end arena next waiting ids
    ]

-- the openers that wait behind these tokens, the first of which stands at this place
abbrev pub waiting_from : ℕ → List Opener → List TokenClass → List Opener
waiting_from place waiting [] = waiting
waiting_from place waiting (class ∷ classes) = waiting_from (place + 1) (waiting_behind class place waiting) classes

-- a `;` or a `}`
abbrev pub closes_part : TokenClass → Bool
closes_part SemicolonClass = true
closes_part CloseBrace = true
closes_part _ = false

-- the last of these classes, where this one stands before them
abbrev pub last_of : TokenClass → List TokenClass → TokenClass
last_of class [] = class
last_of class (next ∷ classes) = last_of next classes

-- these items begin with comments that began their lines, and then comes a word that did
abbrev pub Follows : Contents → List ℕ → Type 0
Follows arena [] = ⊥
Follows arena (id ∷ ids) =
    (item_began arena id ≡ true) × ((is_word (item_class arena id) ≡ true) ⊎ ((is_comment (item_class arena id) ≡ true) × Follows arena ids))

-- ## The lowest opener that waits

-- it is a `{`, where one waits
abbrev pub on_brace : List Opener → Bool
on_brace [] = true
on_brace (opener ∷ []) = is_brace opener
on_brace (opener ∷ next ∷ below) = on_brace (next ∷ below)

on_below : (opener : Opener) (below : List Opener) → on_brace (opener ∷ below) ≡ true → on_brace below ≡ true
on_below opener [] on = refl
on_below opener (next ∷ below) on = on

-- another closer takes off no brace
topmost_on : (fits : Opener → Bool) (place : ℕ) (opener : Opener) (below : List Opener) → (fits opener ≡ true → is_brace opener ≡ true → ⊥)
    → on_brace (opener ∷ below) ≡ true → (on_brace (closed place (topmost fits (opener ∷ below)) (waits_so (opener ∷ below))).open_brackets ≡ true)
    × ((closed place (topmost fits (opener ∷ below)) (waits_so (opener ∷ below))).open_brackets ≡ [] → ⊥)
topmost_on fits place opener below other on = by_fit (fits opener) refl below on
  where
    by_fit : (fit : Bool) → fits opener ≡ fit → (below : List Opener) → on_brace (opener ∷ below) ≡ true → (on_brace
        (closed place (elim fit as (λ _. Option Nearest) [ true ↦ Some (record { place = opener.place; below = below }) | false ↦ None ])
        (waits_so (opener ∷ below))).open_brackets ≡ true)
        × ((closed place (elim fit as (λ _. Option Nearest) [ true ↦ Some (record { place = opener.place; below = below }) | false ↦ None ])
        (waits_so (opener ∷ below))).open_brackets ≡ [] → ⊥)
    by_fit true fit [] is = absurd (other fit is)
    by_fit true fit (next ∷ below) is = (is, λ e. cc)
    by_fit false fit below is = (is, λ e. cc)

nearest_on : (place : ℕ) (waiting all : List Opener) → on_brace all ≡ true → on_brace waiting ≡ true
    → on_brace (closed place (nearest_brace waiting) (waits_so all)).open_brackets ≡ true
nearest_on place [] all on is = on
nearest_on place (opener ∷ below) all on is =
    elim (is_brace opener) as (λ b. on_brace
    (closed place (elim b as (λ _. Option Nearest) [ true ↦ Some (record { place = opener.place; below = below }) | false ↦ nearest_brace below ])
    (waits_so all)).open_brackets ≡ true) [
      | true ↦ on_below opener below is
      | false ↦ nearest_on place below all on (on_below opener below is)
    ]

-- behind one more token
inside_on : (class : TokenClass) (place : ℕ) (opener : Opener) (below : List Opener) → on_brace (opener ∷ below) ≡ true
    → (on_brace (waiting_behind class place (opener ∷ below)) ≡ true) × (waiting_behind class place (opener ∷ below) ≡ [] → closes_part class ≡ true)
inside_on OpenRound place opener below on = (on, λ e. cc)
inside_on OpenSquare place opener below on = (on, λ e. cc)
inside_on OpenBrace place opener below on = (on, λ e. cc)
inside_on CloseRound place opener below on =
    let told = topmost_on is_round place opener below (round_is_no_brace opener.place opener.kind) on in
    (told.0, λ e. absurd (told.1 e))
inside_on CloseSquare place opener below on =
    let told = topmost_on is_square place opener below (square_is_no_brace opener.place opener.kind) on in
    (told.0, λ e. absurd (told.1 e))
inside_on CloseBrace place opener below on = (nearest_on place (opener ∷ below) (opener ∷ below) on on, λ e. refl)
inside_on _ place opener below on = (on, λ e. cc)

-- ## One token outside brackets

body_of : (body rest : Bool) → is_end (if body && rest then Body else Other) ≡ true → body ≡ true
body_of true rest e = refl
body_of false rest e = cc

no_parameters : (round : Bool) → is_end (if round then Parameters else Other) ≡ true → ⊥
no_parameters true e = cc
no_parameters false e = cc

-- behind a group a declaration ends that is a body
group_end : (place : ℕ) (before : Before) (assigned commented : Bool) (asked : Option ℕ) (opener : TokenClass)
    → is_end (behind_group (record { place = place; before = before; assigned = assigned; commented = commented; asked = asked }) opener) ≡ true
    → is_open_brace opener ≡ true
group_end place Name assigned commented asked opener e = absurd (no_parameters (is_open_round opener) e)
group_end place Parameters assigned commented asked opener e = body_of (is_open_brace opener) (not (assigned || commented)) e
group_end place _ assigned commented asked opener e = cc

group_is_body : (walk : Walk) (opener : TokenClass) → is_end (behind_group walk opener) ≡ true → is_open_brace opener ≡ true
group_is_body walk opener e = group_end walk.place walk.before walk.assigned walk.commented walk.asked opener e

no_comment_ends : (between : Bool) → is_end (if between then Between else Other) ≡ true → ⊥
no_comment_ends true e = cc
no_comment_ends false e = cc

outside_on : (walk : Walk) (class : TokenClass) → is_end (behind walk class) ≡ true → on_brace (waiting_behind class walk.place []) ≡ true
outside_on walk OpenRound e = (let body : false ≡ true = group_is_body walk OpenRound e in cc)
outside_on walk OpenSquare e = (let body : false ≡ true = group_is_body walk OpenSquare e in cc)
outside_on walk OpenBrace e = refl
outside_on walk _ e = refl

outside_closes : (walk : Walk) (class : TokenClass) → waiting_behind class walk.place [] ≡ [] → is_end (behind walk class) ≡ true → closes_part class ≡ true
outside_closes walk OpenRound none e = cc
outside_closes walk OpenSquare none e = cc
outside_closes walk OpenBrace none e = cc
outside_closes walk SemicolonClass none e = refl
outside_closes walk CloseBrace none e = refl
outside_closes walk LineComment none e = absurd (no_comment_ends (is_between walk.before) e)
outside_closes walk BlockComment none e = absurd (no_comment_ends (is_between walk.before) e)
outside_closes walk _ none e = cc

outside_asked : (class : TokenClass) (place : ℕ) (asked : Option ℕ) → is_open (waiting_behind class place []) ≡ true
    → (if is_comment class then asked else None) ≡ None
outside_asked LineComment place asked e = cc
outside_asked BlockComment place asked e = cc
outside_asked _ place asked e = refl

-- ## What holds on the way

-- no part is asked to end where an opener waits, and the group that ends a declaration is that of a `{`
pub record IsSound (walk : Walk) (waiting : List Opener) : Type 0 where
  pub asked : is_open waiting ≡ true → walk.asked ≡ None
  pub body : is_end walk.before ≡ true → on_brace waiting ≡ true

pub outside_sound : (walk : Walk) (class : TokenClass) (asked : Option ℕ) → IsSound (outside walk class asked) (waiting_behind class walk.place [])
outside_sound walk class asked = record { asked = outside_asked class walk.place asked; body = outside_on walk class }

pub inside_sound : (walk : Walk) (class : TokenClass) (waiting : List Opener) → is_open waiting ≡ true → IsSound walk waiting
    → IsSound (inside walk class) (waiting_behind class walk.place waiting)
inside_sound walk class [] opened sound = cc
inside_sound walk class (opener ∷ below) opened sound = record {
  asked = λ e. sound.asked refl;
  body = λ e. (inside_on class walk.place opener below (sound.body e)).0;
}

-- ## Where the part ends

-- a declaration ends behind these items
abbrev EndsSo : Contents → Walk → List ℕ → Type 0
EndsSo arena walk [] = is_end walk.before ≡ true
EndsSo arena walk (id ∷ ids) = closes_part (last_of (item_class arena id) (classes_of arena ids)) ≡ true

-- among these items
record EndsAmong (arena : Contents) (walk : Walk) (waiting : List Opener) (ids : List ℕ) (count : ℕ) : Type 0 where
  pub earlier : List ℕ
  pub later : List ℕ
  pub both : ids ≡ earlier ++ later
  pub counted : walk.place + length earlier ≡ count
  pub closed_there : waiting_from walk.place waiting (classes_of arena earlier) ≡ []
  pub ends : EndsSo arena walk earlier
  pub follows : Follows arena later

-- among them, or before comments that stand before them
abbrev IsTold : Contents → Walk → List Opener → List ℕ → ℕ → Type 0
IsTold arena walk waiting ids count = ((walk.asked ≡ Some count) × Follows arena ids) ⊎ EndsAmong arena walk waiting ids count

ends_behind : (arena : Contents) (walk next : Walk) (id place : ℕ) (after : List Opener) (earlier : List ℕ)
    → (after ≡ [] → is_end next.before ≡ true → closes_part (item_class arena id) ≡ true)
    → waiting_from place after (classes_of arena earlier) ≡ [] → EndsSo arena next earlier → EndsSo arena walk (id ∷ earlier)
ends_behind arena walk next id place after [] closes none ends = closes none ends
ends_behind arena walk next id place after (other ∷ earlier) closes none ends = ends

-- one item earlier
one_earlier : (arena : Contents) (walk next : Walk) (waiting : List Opener) (id : ℕ) (ids : List ℕ) (count : ℕ) → next.place ≡ walk.place + 1
    → (waiting_behind (item_class arena id) walk.place waiting ≡ [] → is_end next.before ≡ true → closes_part (item_class arena id) ≡ true)
    → EndsAmong arena next (waiting_behind (item_class arena id) walk.place waiting) ids count → EndsAmong arena walk waiting (id ∷ ids) count
one_earlier arena walk next waiting id ids count one closes among =
    let after : List Opener = waiting_behind (item_class arena id) walk.place waiting in
    record {
      earlier = id ∷ among.earlier;
      later = among.later;
      both = ap (λ (xs : List ℕ). id ∷ xs) among.both;
      counted = omega (arith, one, among.counted);
      closed_there = ap (λ (k : ℕ). waiting_from k after (classes_of arena among.earlier)) (sym one) ∙ among.closed_there;
      ends = ends_behind arena walk next id next.place after among.earlier closes among.closed_there among.ends;
      follows = among.follows;
    }

-- a part is asked to end so by an item that began its line
asked_from : (arena : Contents) (walk : Walk) (id count : ℕ) (class : TokenClass) → asked_at arena walk id class ≡ Some count
    → (item_began arena id ≡ true) × ((walk.asked ≡ Some count) ⊎ ((is_end walk.before ≡ true) × (walk.place ≡ count)))
asked_from arena walk id count class = by_began (item_began arena id) refl walk.asked refl
  where
    by_end : (end rest : Bool) → is_end walk.before ≡ end → (if end && rest then Some walk.place else None) ≡ Some count
        → (is_end walk.before ≡ true) × (walk.place ≡ count)
    by_end true true s e = (s, cc)
    by_end true false s e = cc
    by_end false rest s e = cc

    by_began : (began : Bool) → item_began arena id ≡ began → (asked : Option ℕ) → walk.asked ≡ asked
        → (if began then asked_behind asked walk class else None) ≡ Some count
        → (item_began arena id ≡ true) × ((walk.asked ≡ Some count) ⊎ ((is_end walk.before ≡ true) × (walk.place ≡ count)))
    by_began true b (Some end) was e = (b, inl (was ∙ e))
    by_began true b None was e = (b, inr (by_end (is_end walk.before) (is_comment class || not walk.commented) refl e))
    by_began false b asked was e = cc

told_here : (arena : Contents) (walk : Walk) (id count : ℕ) (ids : List ℕ) → asked_at arena walk id (item_class arena id) ≡ Some count
    → (is_word (item_class arena id) ≡ true) ⊎ ((is_comment (item_class arena id) ≡ true) × Follows arena ids) → IsTold arena walk [] (id ∷ ids) count
told_here arena walk id count ids asked rest =
    let from = asked_from arena walk id count (item_class arena id) asked in
    elim from.1 [
      | inl was ↦ inl (was, (from.0, rest))
      | inr end ↦ inr
          (record { earlier = []; later = id ∷ ids; both = refl; counted = omega (arith, end.1); closed_there = refl; ends = end.0; follows = (from.0, rest) })
    ]

told_outside : (arena : Contents) (walk : Walk) (id count : ℕ) (ids : List ℕ)
    → ((next : Walk) → IsSound next (waiting_behind (item_class arena id) walk.place [])
    → next_end arena next (waiting_behind (item_class arena id) walk.place []) ids ≡ Some count
    → IsTold arena next (waiting_behind (item_class arena id) walk.place []) ids count)
    → next_end arena walk [] (id ∷ ids) ≡ Some count → IsTold arena walk [] (id ∷ ids) count
told_outside arena walk id count ids on = by_asked (asked_at arena walk id (item_class arena id)) refl
  where
    class : TokenClass
    class = item_class arena id

    after : List Opener
    after = waiting_behind (item_class arena id) walk.place []

    by_comment : (asked : Option ℕ) → asked_at arena walk id class ≡ asked → (comment : Bool) → is_comment class ≡ comment
        → (if comment then asked else None) ≡ Some count → Follows arena ids → IsTold arena walk [] (id ∷ ids) count
    by_comment asked is true c e follows = told_here arena walk id count ids (is ∙ e) (inr (c, follows))
    by_comment asked is false c e follows = cc

    by_next : (asked : Option ℕ) → asked_at arena walk id class ≡ asked → IsTold arena (outside walk class asked) after ids count
        → IsTold arena walk [] (id ∷ ids) count
    by_next asked is (inl told) = by_comment asked is (is_comment class) refl told.0 told.1
    by_next asked is (inr among) = inr (one_earlier arena walk (outside walk class asked) [] id ids count refl (outside_closes walk class) among)

    by_lost : (asked : Option ℕ) (lost : Bool) → asked_at arena walk id class ≡ asked
        → by_reading arena after ids (if lost then Never else GoesOn (outside walk class asked)) ≡ Some count → IsTold arena walk [] (id ∷ ids) count
    by_lost asked true is e = cc
    by_lost asked false is e = by_next asked is (on (outside walk class asked) (outside_sound walk class asked) e)

    by_word : (end : ℕ) (word : Bool) → is_word class ≡ word → asked_at arena walk id class ≡ Some end
        → by_reading arena after ids (if word then Ends end else (if is_lost class then Never else GoesOn (outside walk class (Some end)))) ≡ Some count
        → IsTold arena walk [] (id ∷ ids) count
    by_word end true w is e = told_here arena walk id count ids (is ∙ e) (inl w)
    by_word end false w is e = by_lost (Some end) (is_lost class) is e

    by_asked : (asked : Option ℕ) → asked_at arena walk id class ≡ asked
        → by_reading arena after ids (ends_or asked class (if is_lost class then Never else GoesOn (outside walk class asked))) ≡ Some count
        → IsTold arena walk [] (id ∷ ids) count
    by_asked None is e = by_lost None (is_lost class) is e
    by_asked (Some end) is e = by_word end (is_word class) refl is e

told_inside : (arena : Contents) (walk : Walk) (opener : Opener) (below : List Opener) (id count : ℕ) (ids : List ℕ) → IsSound walk (opener ∷ below)
    → IsTold arena (inside walk (item_class arena id)) (waiting_behind (item_class arena id) walk.place (opener ∷ below)) ids count
    → IsTold arena walk (opener ∷ below) (id ∷ ids) count
told_inside arena walk opener below id count ids sound (inl told) = (let none : None ≡ Some count = sym (sound.asked refl) ∙ told.0 in cc)
told_inside arena walk opener below id count ids sound (inr among) =
    inr (one_earlier arena walk (inside walk (item_class arena id)) (opener ∷ below) id ids count refl
    (λ none end. (inside_on (item_class arena id) walk.place opener below (sound.body end)).1 none) among)

tells_end : (arena : Contents) (walk : Walk) (waiting : List Opener) (ids : List ℕ) (count : ℕ) → IsSound walk waiting
    → next_end arena walk waiting ids ≡ Some count → IsTold arena walk waiting ids count
tells_end arena walk waiting [] count sound e = cc
tells_end arena walk [] (id ∷ ids) count sound e =
    told_outside arena walk id count ids (λ next was rest. tells_end arena next (waiting_behind (item_class arena id) walk.place []) ids count was rest) e
tells_end arena walk (opener ∷ below) (id ∷ ids) count sound e =
    told_inside arena walk opener below id count ids sound
    (tells_end arena (inside walk (item_class arena id)) (waiting_behind (item_class arena id) walk.place (opener ∷ below)) ids count
    (inside_sound walk (item_class arena id) (opener ∷ below) refl sound) e)

-- the part isn't asked to end behind so many items
abbrev pub IsUnasked : ℕ → Walk → Type 0
IsUnasked count walk = walk.asked ≡ Some count → ⊥

-- where the way stands at the end of a part, which it wasn't asked before to end there
pub record IsEnd (walk : Walk) (waiting : List Opener) : Type 0 where
  pub closed : waiting ≡ []
  pub ends : is_end walk.before ≡ true

pub ended : (arena : Contents) (later : List ℕ) (walk : Walk) (waiting : List Opener) (count : ℕ) → walk.place ≡ count → IsUnasked count walk
    → IsSound walk waiting → next_end arena walk waiting later ≡ Some count → IsEnd walk waiting
ended arena later walk waiting count here unasked sound e = elim (tells_end arena walk waiting later count sound e) [
  | inl told ↦ absurd (unasked told.0)
  | inr among ↦ at_once among.earlier among.counted among.closed_there among.ends
]
  where
    at_once : (earlier : List ℕ) → walk.place + length earlier ≡ count → waiting_from walk.place waiting (classes_of arena earlier) ≡ []
        → EndsSo arena walk earlier → IsEnd walk waiting
    at_once [] counted closed ends = record { closed = closed; ends = ends }
    at_once (id ∷ earlier) counted closed ends = absurd (omega (arith, here, counted))

-- ## First parts

-- the first of two parts
pub record IsEnded (arena : Contents) (earlier later : List ℕ) : Type 0 where
  pub closed_there : waiting_from 0 [] (classes_of arena earlier) ≡ []
  pub ends : closes_part (last_of Nothing (classes_of arena earlier)) ≡ true
  pub follows : Follows arena later

-- these items begin with a first part of so many
pub record HasFirst (arena : Contents) (ids : List ℕ) (count : ℕ) : Type 0 where
  pub earlier : List ℕ
  pub later : List ℕ
  pub both : ids ≡ earlier ++ later
  pub counted : length earlier ≡ count
  pub ended : IsEnded arena earlier later

ends_by_a_token : (arena : Contents) (ids : List ℕ) → EndsSo arena start ids → closes_part (last_of Nothing (classes_of arena ids)) ≡ true
ends_by_a_token arena [] ends = cc
ends_by_a_token arena (id ∷ ids) ends = ends

pub has_first : (arena : Contents) (ids : List ℕ) (count : ℕ) → next_end arena start [] ids ≡ Some count → HasFirst arena ids count
has_first arena ids count e = elim (tells_end arena start [] ids count (record { asked = λ o. refl; body = λ b. refl }) e) [
  | inl told ↦ absurd (none_is_some told.0)
  | inr among ↦ record {
    earlier = among.earlier;
    later = among.later;
    both = among.both;
    counted = omega (arith, among.counted);
    ended = record { closed_there = among.closed_there; ends = ends_by_a_token arena among.earlier among.ends; follows = among.follows };
  }
]
  where
    none_is_some : None ≡ Some count → ⊥
    none_is_some e = cc

-- two lists that are cut at one place
same_cut : (earlier later before behind : List ℕ) → earlier ++ later ≡ before ++ behind → length before ≡ length earlier → (before ≡ earlier) × (behind ≡ later)
same_cut earlier later before behind both many = (
  sym (take-append_seam before behind)
      ∙ (ap (λ (xs : List ℕ). take (length before) xs) (sym both) ∙ (ap (λ (k : ℕ). take k (earlier ++ later)) many ∙ take-append_seam earlier later)),
  sym (drop-append_seam before behind)
      ∙ (ap (λ (xs : List ℕ). drop (length before) xs) (sym both) ∙ (ap (λ (k : ℕ). drop k (earlier ++ later)) many ∙ drop-append_seam earlier later)),
)

pub first_part : (arena : Contents) (earlier later : List ℕ) → IsFirstPart arena earlier later → IsEnded arena earlier later
first_part arena earlier later is =
    let first = has_first arena (earlier ++ later) (length earlier) is.ends in
    let same = same_cut earlier later first.earlier first.later first.both first.counted in
    subst (λ (xs : List ℕ). IsEnded arena xs later) same.0 (subst (λ (ys : List ℕ). IsEnded arena first.earlier ys) same.1 first.ended)

-- ## Before the end

none_some : (count : ℕ) → None ≡ Some count → ⊥
none_some count e = cc

left_unasked : (asked : Option ℕ) (comment : Bool) (count : ℕ) → (asked ≡ Some count → ⊥) → (if comment then asked else None) ≡ Some count → ⊥
left_unasked asked true count was e = was e
left_unasked asked false count was e = none_some count e

asked_other : (arena : Contents) (walk : Walk) (id : ℕ) (class : TokenClass) (count : ℕ) → (walk.place ≡ count → ⊥) → IsUnasked count walk
    → asked_at arena walk id class ≡ Some count → ⊥
asked_other arena walk id class count other unasked = by_began (item_began arena id) walk.asked unasked
  where
    by_end : (b : Bool) → (if b then Some walk.place else None) ≡ Some count → ⊥
    by_end true e = (let same : walk.place ≡ count = cc in other same)
    by_end false e = none_some count e

    by_began : (began : Bool) (asked : Option ℕ) → (asked ≡ Some count → ⊥) → (if began then asked_behind asked walk class else None) ≡ Some count → ⊥
    by_began true (Some place) was e = was e
    by_began true None was e = by_end (is_end walk.before && (is_comment class || not walk.commented)) e
    by_began false asked was e = none_some count e

-- the way goes on behind the next item, which stands outside brackets before the end
pub record GoesOutside (arena : Contents) (walk : Walk) (id : ℕ) (ids : List ℕ) (count : ℕ) : Type 0 where
  pub asked : Option ℕ
  pub lost : is_lost (item_class arena id) ≡ false
  pub unasked : IsUnasked count (outside walk (item_class arena id) asked)
  pub ends : next_end arena (outside walk (item_class arena id) asked) (waiting_behind (item_class arena id) walk.place []) ids ≡ Some count

pub goes_outside : (arena : Contents) (walk : Walk) (id : ℕ) (ids : List ℕ) (count : ℕ) → (walk.place ≡ count → ⊥) → IsUnasked count walk
    → next_end arena walk [] (id ∷ ids) ≡ Some count → GoesOutside arena walk id ids count
goes_outside arena walk id ids count other unasked e =
    by_asked (asked_at arena walk id (item_class arena id)) (asked_other arena walk id (item_class arena id) count other unasked) e
  where
    by_lost : (asked : Option ℕ) (lost : Bool) → is_lost (item_class arena id) ≡ lost → (asked ≡ Some count → ⊥)
        → by_reading arena (waiting_behind (item_class arena id) walk.place []) ids (if lost then Never else GoesOn (outside walk (item_class arena id) asked))
        ≡ Some count → GoesOutside arena walk id ids count
    by_lost asked true l was e = absurd (none_some count e)
    by_lost asked false l was e = record { asked = asked; lost = l; unasked = left_unasked asked (is_comment (item_class arena id)) count was; ends = e }

    by_word : (end : ℕ) (word : Bool) → (Some end ≡ Some count → ⊥) → by_reading arena (waiting_behind (item_class arena id) walk.place []) ids
        (if word then Ends end else (if is_lost (item_class arena id) then Never else GoesOn (outside walk (item_class arena id) (Some end)))) ≡ Some count
        → GoesOutside arena walk id ids count
    by_word end true was e = absurd (was e)
    by_word end false was e = by_lost (Some end) (is_lost (item_class arena id)) refl was e

    by_asked : (asked : Option ℕ) → (asked ≡ Some count → ⊥) → by_reading arena (waiting_behind (item_class arena id) walk.place []) ids
        (ends_or asked (item_class arena id) (if is_lost (item_class arena id) then Never else GoesOn (outside walk (item_class arena id) asked))) ≡ Some count
        → GoesOutside arena walk id ids count
    by_asked None was e = by_lost None (is_lost (item_class arena id)) refl was e
    by_asked (Some end) was e = by_word end (is_word (item_class arena id)) was e
