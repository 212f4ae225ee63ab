-- What the end of a part tells of declarations: outside brackets one ends there, and in a body none ends before.
use Rattle.std.proofs.Common.{◌≡◌, ◌∙◌, ◌==◌, ℕ, ◌+◌, ◌<◌, ◌≤◌, ◌⊎◌, inl, inr, Bool, true, false, not, ◌&&◌, ◌||◌}
use Rattle.std.proofs.Common.{nat_le, Option, Some, None, List, [], ◌∷◌, length, drop, reverse, refl, sym, ap, subst}
use Rattle.std.proofs.Common.{arith}
use Rattle.std.specs.Prelude.{⊤, if◌then◌else◌}
use Rattle.std.proofs.lemmas.Bool.{eqb-true}
use Rattle.std.proofs.lemmas.List.{drop-drop, length-reverse}
use Rattle.token_arena.specs.Gaps.{Contents, item_began}
use Rattle.token_classes.specs.declared.class.TokenClass.{TokenClass}
use Rattle.token_classes.specs.declared.class.TokenClass.TheVariants.{OpenRound, CloseRound, OpenSquare, CloseSquare}
use Rattle.token_classes.specs.declared.class.TokenClass.TheVariants.{OpenBrace, CloseBrace, LineComment, BlockComment}
use Rattle.token_classes.specs.Classes.{is_bracket, is_comment, is_word}
use Rattle.item_classes.specs.Viewed.{item_class}
use Rattle.token_classes.specs.declared.pairing.Opener.{Opener}
use Rattle.part_walk.specs.declared.walk.Around.TheVariants as around
use Rattle.part_walk.specs.declared.walk.Declaration.{Declaration}
use Rattle.part_walk.specs.declared.bodies.Head.{Head}
use Rattle.part_walk.specs.declared.walk.Walk.{Walk as PartWalk}
use Rattle.part_walk.specs.Places.{Place}
use Rattle.part_walk.specs.Reading.{Reading as PartReading}
use Rattle.part_walk.specs.Reading as part
use Rattle.part_walk.specs.Walk.{start as part_start, reading as part_reading, is_end as part_is_end}
use Rattle.part_walk.specs.Walk.{is_body as part_is_body, asked_behind as part_asked_behind, asked_at as part_asked_at}
use Rattle.part_walk.specs.Walk.{outside as part_outside, ends_or as part_ends_or, is_lost as part_is_lost}
use Rattle.part_walk.specs.Walk.{next_declaration, inside_declaration, asked_in_body, begins_statement, ends_statement}
use Rattle.part_walk.specs.Walk.{ends_apart, ends_in_row, ends_inside_or, end_in_body, in_body, is_apart, may_part}
use Rattle.part_walk.specs.Walk.{left, opened_head, or_place, past_bracket, past_comment, past_other}
use Rattle.view_parts.specs.Parts.{Ended, end_of_part, next_end as part_next_end}
use Rattle.part_walk.specs.Brackets.{around_of, bodies_behind, braces_of, is_left, left_innermost, place_behind}
use Rattle.part_walk.specs.Brackets.{walk_behind, waiting_at, waiting_behind as part_waiting_behind}
use Rattle.part_laws.specs.Declarations.{Ends, Never, GoesOn, Walk, start, is_lost, ends_or, outside, inside}
use Rattle.part_laws.specs.Declarations.{waiting_behind, is_open, next_end}
use Rattle.part_laws.proofs.FirstPart.{by_reading}
use Rattle.part_laws.proofs.SameKinds.{SameKinds, kinds_of_braces, same_kinds, same_behind, same_ends}
use Rattle.part_laws.proofs.SameSteps.{later, along, at_place, asked_told, outside_told, inside_told, code_keeps}
use Rattle.part_laws.proofs.SameSteps.{bracket_is_code, IsCommented, commented_stays, comment_told}
use Rattle.view_parts.proofs.Waits.{BodiesWaitBelow, all_braces, holds_on, holds_start}

-- ## What is told

-- behind so many items declarations go on at this place of a body so that they end there
abbrev pub EndsFrom : Contents → Option ℕ → ℕ → Place → List ℕ → Type 0
EndsFrom arena end k place ids = (0 < length place.heads) × (end ≡ next_end arena (at_place k place.declaration) (waiting_at (Some place)) ids)

-- what the end of a part tells of where declarations end: the part begins behind so many items of declarations, which end there
abbrev pub Tells : Contents → Option ℕ → ℕ → List ℕ → ℕ → Option Place → Type 0
Tells arena end k ids count None = end ≡ Some (k + count)
Tells arena end k ids count (Some place) = (count < length ids) × EndsFrom arena end (k + count) place (drop count ids)

abbrev pub TellsEnd : Contents → Option ℕ → ℕ → List ℕ → Option Ended → Type 0
TellsEnd arena end k ids None = end ≡ None
TellsEnd arena end k ids (Some ended) = (0 < ended.count) × Tells arena end k ids ended.count ended.inside

-- ## On the way

-- the part may end behind so many items; where a group is open, only comments stand behind them
abbrev FitsAsked : Contents → Option ℕ → ℕ → List ℕ → ℕ → Declaration → List Opener → Option ℕ → Type 0
FitsAsked arena end k ids place declaration waiting None = ⊤
FitsAsked arena end k ids place declaration waiting (Some count) = (0 < count) × (count ≤ place)
    × (is_open waiting ≡ true → IsCommented declaration × (end ≡ next_end arena (at_place (k + count) declaration) waiting (drop count ids)))

-- declarations go on as the part does
record Along (arena : Contents) (end : Option ℕ) (k : ℕ) (ids : List ℕ) (place : ℕ) (declaration : Declaration) (asked : Option ℕ) (waiting : List Opener) (rest : List ℕ) : Type 0 where
  pub whole : place + length rest ≡ length ids
  pub left : drop place ids ≡ rest
  pub fits : FitsAsked arena end k ids place declaration waiting asked
  pub same : end ≡ next_end arena (along k (is_open waiting) place declaration asked) waiting rest

-- nothing ends before the first item
abbrev NotYet : PartWalk → List Opener → Type 0
NotYet walk waiting = walk.place ≡ 0 → (is_open waiting ≡ false → part_is_end walk.declaration.before ≡ false) × (ends_statement walk.last ≡ false)

record Goes (arena : Contents) (end : Option ℕ) (k : ℕ) (ids : List ℕ) (walk : PartWalk) (bodies : List Head) (waiting : List Opener) (rest : List ℕ) : Type 0 where
  pub way : Along arena end k ids walk.place walk.declaration walk.asked waiting rest
  pub waits : BodiesWaitBelow (length bodies) waiting
  pub first : NotYet walk waiting

-- what comes of a part whose next item is read so, in these bodies
abbrev part_by_reading : Contents → PartWalk → List Head → List Opener → Option Head → List Opener → ℕ → List ℕ → PartReading → Option Ended
part_by_reading arena walk bodies waiting opened after id ids read =
    elim read [
      | part.EndsOutside count ↦ Some (record { count = count; inside = None })
      | part.EndsInBody count ↦ Some (record { count = count; inside = Some (place_behind walk bodies) })
      | part.Never ↦ None
      | part.GoesOn next ↦ part_next_end arena (walk_behind next bodies after opened id) (bodies_behind bodies after opened) after ids
    ]

-- a body that begins or ends changes nothing of that
unmoved : (P : ℕ → Declaration → Option ℕ → Type 0) (walk : PartWalk) (bodies : List Head) (waiting : List Opener) (opened : Option Head) (id : ℕ)
    → P walk.place walk.declaration walk.asked
    → P (walk_behind walk bodies waiting opened id).place (walk_behind walk bodies waiting opened id).declaration (walk_behind walk bodies waiting opened id).asked
unmoved P walk bodies waiting (Some head) id is = is
unmoved P walk bodies waiting None id is = by_left (is_left bodies waiting) bodies
  where
    by_left : (b : Bool) (bodies : List Head) → P (if b then left_innermost walk bodies id else walk).place
        (if b then left_innermost walk bodies id else walk).declaration (if b then left_innermost walk bodies id else walk).asked
    by_left false bodies = is
    by_left true [] = is
    by_left true (head ∷ bodies) = is

-- what follows behind an item
abbrev On : Contents → Option ℕ → ℕ → List ℕ → List Opener → List ℕ → Type 0
On arena end k ids after rest = (next : PartWalk) (bodies : List Head) → Goes arena end k ids next bodies after rest
    → TellsEnd arena end k ids (part_next_end arena next bodies after rest)

goes_on : (arena : Contents) (end : Option ℕ) (k : ℕ) (ids : List ℕ) (walk next : PartWalk) (bodies : List Head) (waiting : List Opener) (id : ℕ) (rest : List ℕ)
    → Goes arena end k ids walk bodies waiting (id ∷ rest) → next.place ≡ walk.place + 1
    → Along arena end k ids next.place next.declaration next.asked (part_waiting_behind (item_class arena id) walk.place waiting) rest
    → On arena end k ids (part_waiting_behind (item_class arena id) walk.place waiting) rest
    → TellsEnd arena end k ids (part_by_reading arena walk bodies waiting (opened_head walk (around_of bodies waiting) bodies id (item_class arena id))
    (part_waiting_behind (item_class arena id) walk.place waiting) id rest (part.GoesOn next))
goes_on arena end k ids walk next bodies waiting id rest goes one way on =
    on (walk_behind next bodies after opened id) (bodies_behind bodies after opened)
    (record {
      way = unmoved (λ place declaration asked. Along arena end k ids place declaration asked after rest) next bodies after opened id way;
      waits = holds_on walk bodies waiting id class goes.waits;
      first = λ none. absurd (unmoved (λ place declaration asked. place ≡ 0 → ⊥) next bodies after opened id (λ none. omega (arith, none, one)) none);
    })
  where
    class : TokenClass
    class = item_class arena id

    after : List Opener
    after = part_waiting_behind (item_class arena id) walk.place waiting

    opened : Option Head
    opened = opened_head walk (around_of bodies waiting) bodies id (item_class arena id)

left_on : (ids : List ℕ) (place id : ℕ) (rest : List ℕ) → drop place ids ≡ id ∷ rest → drop (place + 1) ids ≡ rest
left_on ids place id rest left = sym (drop-drop 1 place ids) ∙ ap (λ (xs : List ℕ). drop 1 xs) left

zero_or_more : (n : ℕ) → (n ≡ 0) ⊎ (0 < n)
zero_or_more n = grind arith

-- ## Outside brackets

comment_opens_none : (class : TokenClass) (place : ℕ) → is_comment class ≡ true → is_open (waiting_behind class place []) ≡ false
comment_opens_none LineComment place comment = refl
comment_opens_none BlockComment place comment = refl
comment_opens_none _ place comment = cc

asked_on : (arena : Contents) (end : Option ℕ) (k : ℕ) (ids : List ℕ) (place : ℕ) (old new : Declaration) (after : List Opener) (comment : Bool) (asked : Option ℕ)
    → (comment ≡ true → is_open after ≡ false) → FitsAsked arena end k ids place old [] asked
    → FitsAsked arena end k ids (place + 1) new after (if comment then asked else None)
asked_on arena end k ids place old new after true None closed fits = tt
asked_on arena end k ids place old new after false None closed fits = tt
asked_on arena end k ids place old new after true (Some count) closed fits = (fits.0, omega (arith, fits.1), λ e. absurd (let both : true ≡ false = sym e ∙ closed refl in cc))
asked_on arena end k ids place old new after false (Some count) closed fits = tt

asked_outside : (arena : Contents) (end : Option ℕ) (k : ℕ) (ids : List ℕ) (walk : PartWalk) (bodies : List Head) (id : ℕ) (rest : List ℕ) (class : TokenClass)
    → Goes arena end k ids walk bodies [] (id ∷ rest) → FitsAsked arena end k ids walk.place walk.declaration [] (part_asked_at arena walk id class)
asked_outside arena end k ids walk bodies id rest class goes = by_began (item_began arena id) walk.asked goes.way.fits
  where
    some : part_is_end walk.declaration.before ≡ true → 0 < walk.place
    some ends = elim (zero_or_more walk.place) [
      | inl none ↦ (let both : true ≡ false = sym ends ∙ (goes.first none).0 refl in cc)
      | inr more ↦ more
    ]

    by_end : (ends rest : Bool) → part_is_end walk.declaration.before ≡ ends
        → FitsAsked arena end k ids walk.place walk.declaration [] (if ends && rest then Some walk.place else None)
    by_end true true is = (some is, omega arith, λ e. cc)
    by_end true false is = tt
    by_end false rest is = tt

    by_began : (began : Bool) (asked : Option ℕ) → FitsAsked arena end k ids walk.place walk.declaration [] asked
        → FitsAsked arena end k ids walk.place walk.declaration [] (if began then part_asked_behind asked walk class else None)
    by_began false asked fits = tt
    by_began true (Some count) fits = fits
    by_began true None fits = by_end (part_is_end walk.declaration.before) (is_comment class || not walk.declaration.commented) refl

along_outside : (arena : Contents) (end : Option ℕ) (k : ℕ) (ids : List ℕ) (walk : PartWalk) (bodies : List Head) (id : ℕ) (rest : List ℕ) (asked : Option ℕ)
    → Goes arena end k ids walk bodies [] (id ∷ rest) → FitsAsked arena end k ids walk.place walk.declaration [] asked
    → end ≡ next_end arena (outside (along k false walk.place walk.declaration walk.asked) (item_class arena id) (later k asked))
    (waiting_behind (item_class arena id) (k + walk.place) []) rest
    → Along arena end k ids (walk.place + 1) (next_declaration walk.declaration (item_class arena id)) (if is_comment (item_class arena id) then asked else None)
    (part_waiting_behind (item_class arena id) walk.place []) rest
along_outside arena end k ids walk bodies id rest asked goes fits on =
    let class : TokenClass = item_class arena id in
    let after : List Opener = part_waiting_behind (item_class arena id) walk.place [] in
    let there : List Opener = waiting_behind (item_class arena id) (k + walk.place) [] in
    let kinds : SameKinds there after = same_behind (item_class arena id) (k + walk.place) (walk.place + 1) [] [] tt in
    let here : Walk = along k false walk.place walk.declaration walk.asked in
    record {
      whole = omega (arith, goes.way.whole);
      left = left_on ids walk.place id rest goes.way.left;
      fits = asked_on arena end k ids walk.place walk.declaration (next_declaration walk.declaration class) after (is_comment class) asked
          (comment_opens_none class (walk.place + 1)) fits;
      same = on
          ∙ (same_ends arena (outside here class (later k asked)) there after rest kinds
          ∙ ap (λ (w : Walk). next_end arena w after rest) (outside_told k walk.place walk.declaration walk.asked asked class));
    }

tells_outside : (arena : Contents) (end : Option ℕ) (k : ℕ) (ids : List ℕ) (walk : PartWalk) (bodies : List Head) (id : ℕ) (rest : List ℕ)
    → Goes arena end k ids walk bodies [] (id ∷ rest) → On arena end k ids (part_waiting_behind (item_class arena id) walk.place []) rest
    → TellsEnd arena end k ids (part_next_end arena walk bodies [] (id ∷ rest))
tells_outside arena end k ids walk bodies id rest goes on =
    by_asked (part_asked_at arena walk id class) (asked_outside arena end k ids walk bodies id rest class goes)
    (goes.way.same ∙ ap (λ (asked : Option ℕ). by_reading arena there rest (ends_or asked class (if is_lost class then Never else GoesOn (outside here class asked))))
    (asked_told k arena walk id class))
  where
    class : TokenClass
    class = item_class arena id

    after : List Opener
    after = part_waiting_behind (item_class arena id) walk.place []

    there : List Opener
    there = waiting_behind (item_class arena id) (k + walk.place) []

    here : Walk
    here = along k false walk.place walk.declaration walk.asked

    opened : Option Head
    opened = opened_head walk around.Outside bodies id (item_class arena id)

    by_lost : (asked : Option ℕ) (lost : Bool) → FitsAsked arena end k ids walk.place walk.declaration [] asked
        → end ≡ by_reading arena there rest (if lost then Never else GoesOn (outside here class (later k asked)))
        → TellsEnd arena end k ids (part_by_reading arena walk bodies [] opened after id rest (if lost then part.Never else part.GoesOn (part_outside walk id class asked)))
    by_lost asked true fits e = e
    by_lost asked false fits e =
        goes_on arena end k ids walk (part_outside walk id class asked) bodies [] id rest goes refl (along_outside arena end k ids walk bodies id rest asked goes fits e) on

    by_word : (count : ℕ) (word : Bool) → FitsAsked arena end k ids walk.place walk.declaration [] (Some count)
        → end ≡ by_reading arena there rest
        (if word then Ends (k + count) else (if is_lost class then Never else GoesOn (outside here class (Some (k + count)))))
        → TellsEnd arena end k ids (part_by_reading arena walk bodies [] opened after id rest
        (if word then part.EndsOutside count else (if part_is_lost class then part.Never else part.GoesOn (part_outside walk id class (Some count)))))
    by_word count true fits e = (fits.0, e)
    by_word count false fits e = by_lost (Some count) (is_lost class) fits e

    by_asked : (asked : Option ℕ) → FitsAsked arena end k ids walk.place walk.declaration [] asked
        → end ≡ by_reading arena there rest (ends_or (later k asked) class (if is_lost class then Never else GoesOn (outside here class (later k asked))))
        → TellsEnd arena end k ids (part_by_reading arena walk bodies [] opened after id rest
        (part_ends_or asked (is_word class) (if part_is_lost class then part.Never else part.GoesOn (part_outside walk id class asked))))
    by_asked None fits e = by_lost None (is_lost class) fits e
    by_asked (Some count) fits e = by_word count (is_word class) fits e

-- ## In a group

closer_is_bracket : (class : TokenClass) (place : ℕ) (opener : Opener) (below : List Opener)
    → is_open (waiting_behind class place (opener ∷ below)) ≡ false → is_bracket class ≡ true
closer_is_bracket CloseRound place opener below closed = refl
closer_is_bracket CloseSquare place opener below closed = refl
closer_is_bracket CloseBrace place opener below closed = refl
closer_is_bracket _ place opener below closed = cc

-- another token opens and closes nothing
other_waits : (class : TokenClass) (place : ℕ) (waiting : List Opener) → is_bracket class ≡ false → waiting_behind class place waiting ≡ waiting
other_waits OpenRound place waiting other = cc
other_waits OpenSquare place waiting other = cc
other_waits OpenBrace place waiting other = cc
other_waits CloseRound place waiting other = cc
other_waits CloseSquare place waiting other = cc
other_waits CloseBrace place waiting other = cc
other_waits _ place waiting other = refl

-- declarations go on behind an item of a group or a body, whatever is asked of the part
same_inside : (arena : Contents) (end : Option ℕ) (k : ℕ) (ids : List ℕ) (place : ℕ) (declaration : Declaration) (was asked : Option ℕ) (opener : Opener) (below : List Opener) (id : ℕ) (rest : List ℕ)
    → Along arena end k ids place declaration was (opener ∷ below) (id ∷ rest)
    → (is_open (part_waiting_behind (item_class arena id) place (opener ∷ below)) ≡ false → asked ≡ None)
    → end ≡ next_end arena (along k (is_open (part_waiting_behind (item_class arena id) place (opener ∷ below))) (place + 1) (inside_declaration declaration (item_class arena id)) asked)
    (part_waiting_behind (item_class arena id) place (opener ∷ below)) rest
same_inside arena end k ids place declaration was asked opener below id rest way none =
    let class : TokenClass = item_class arena id in
    let waiting : List Opener = opener ∷ below in
    let after : List Opener = part_waiting_behind (item_class arena id) place (opener ∷ below) in
    let there : List Opener = waiting_behind (item_class arena id) (k + place) (opener ∷ below) in
    let kinds : SameKinds there after = same_behind (item_class arena id) (k + place) (place + 1) waiting waiting (same_kinds waiting) in
    way.same
    ∙ (same_ends arena (inside (along k true place declaration was) class) there after rest kinds
    ∙ ap (λ (w : Walk). next_end arena w after rest) (inside_told k place declaration was asked (is_open after) class none))

along_inside : (arena : Contents) (end : Option ℕ) (k : ℕ) (ids : List ℕ) (place : ℕ) (declaration : Declaration) (was asked : Option ℕ) (opener : Opener) (below : List Opener) (id : ℕ) (rest : List ℕ)
    → Along arena end k ids place declaration was (opener ∷ below) (id ∷ rest)
    → (is_open (part_waiting_behind (item_class arena id) place (opener ∷ below)) ≡ false → asked ≡ None)
    → FitsAsked arena end k ids (place + 1) (inside_declaration declaration (item_class arena id)) (part_waiting_behind (item_class arena id) place (opener ∷ below)) asked
    → Along arena end k ids (place + 1) (inside_declaration declaration (item_class arena id)) asked (part_waiting_behind (item_class arena id) place (opener ∷ below)) rest
along_inside arena end k ids place declaration was asked opener below id rest way none fits = record {
  whole = omega (arith, way.whole);
  left = left_on ids place id rest way.left;
  fits = fits;
  same = same_inside arena end k ids place declaration was asked opener below id rest way none;
}

-- behind a token that isn't a comment, where nothing more is asked
along_code : (arena : Contents) (end : Option ℕ) (k : ℕ) (ids : List ℕ) (place : ℕ) (declaration : Declaration) (was : Option ℕ) (opener : Opener) (below : List Opener) (id : ℕ) (rest : List ℕ)
    → Along arena end k ids place declaration was (opener ∷ below) (id ∷ rest) → is_comment (item_class arena id) ≡ false
    → Along arena end k ids (place + 1) declaration None (part_waiting_behind (item_class arena id) place (opener ∷ below)) rest
along_code arena end k ids place declaration was opener below id rest way code =
    subst (λ (next : Declaration). Along arena end k ids (place + 1) next None (part_waiting_behind (item_class arena id) place (opener ∷ below)) rest)
    (code_keeps declaration (item_class arena id) code)
    (along_inside arena end k ids place declaration was None opener below id rest way (λ closed. refl) tt)

-- what is asked already stays so behind a token that is no bracket
asked_stays : (arena : Contents) (end : Option ℕ) (k : ℕ) (ids : List ℕ) (place : ℕ) (declaration : Declaration) (waiting : List Opener) (class : TokenClass) (asked : Option ℕ)
    → is_bracket class ≡ false → is_open waiting ≡ true → FitsAsked arena end k ids place declaration waiting asked
    → FitsAsked arena end k ids (place + 1) (inside_declaration declaration class) (part_waiting_behind class place waiting) asked
asked_stays arena end k ids place declaration waiting class None other opens fits = tt
asked_stays arena end k ids place declaration waiting class (Some count) other opens fits =
    let told = fits.2 opens in (
      fits.0,
      omega (arith, fits.1),
      λ e.
          subst (λ (next : Declaration). IsCommented next × (end ≡ next_end arena (at_place (k + count) next) (part_waiting_behind class place waiting) (drop count ids)))
          (sym (commented_stays declaration class told.0))
          (subst (λ (after : List Opener). IsCommented declaration × (end ≡ next_end arena (at_place (k + count) declaration) after (drop count ids)))
          (sym (other_waits class (place + 1) waiting other)) told),
    )

tells_group : (arena : Contents) (end : Option ℕ) (k : ℕ) (ids : List ℕ) (walk : PartWalk) (bodies : List Head) (opener : Opener) (below : List Opener) (id : ℕ) (rest : List ℕ)
    → Goes arena end k ids walk bodies (opener ∷ below) (id ∷ rest) → On arena end k ids (part_waiting_behind (item_class arena id) walk.place (opener ∷ below)) rest
    → TellsEnd arena end k ids (part_by_reading arena walk bodies (opener ∷ below) (opened_head walk (around_of bodies (opener ∷ below)) bodies id (item_class arena id))
    (part_waiting_behind (item_class arena id) walk.place (opener ∷ below)) id rest (part_reading arena walk around.Group id (item_class arena id)))
tells_group arena end k ids walk bodies opener below id rest goes on = by_bracket (is_bracket class) refl
  where
    class : TokenClass
    class = item_class arena id

    after : List Opener
    after = part_waiting_behind (item_class arena id) walk.place (opener ∷ below)

    opened : Option Head
    opened = opened_head walk (around_of bodies (opener ∷ below)) bodies id (item_class arena id)

    by_bracket : (bracket : Bool) → is_bracket class ≡ bracket → TellsEnd arena end k ids
        (part_by_reading arena walk bodies (opener ∷ below) opened after id rest (part.GoesOn (if bracket then past_bracket walk id class else past_other walk class)))
    by_bracket true is =
        goes_on arena end k ids walk (past_bracket walk id class) bodies (opener ∷ below) id rest goes refl
        (along_code arena end k ids walk.place walk.declaration walk.asked opener below id rest goes.way (bracket_is_code class is)) on
    by_bracket false is =
        goes_on arena end k ids walk (past_other walk class) bodies (opener ∷ below) id rest goes refl
        (along_inside arena end k ids walk.place walk.declaration walk.asked walk.asked opener below id rest goes.way
        (λ closed. absurd (let both : true ≡ false = sym (closer_is_bracket class (walk.place + 1) opener below closed) ∙ is in cc))
        (asked_stays arena end k ids walk.place walk.declaration (opener ∷ below) class walk.asked is refl goes.way.fits)) on

-- ## In a body

comment_is_other : (class : TokenClass) → is_comment class ≡ true → is_bracket class ≡ false
comment_is_other LineComment comment = refl
comment_is_other BlockComment comment = refl
comment_is_other _ comment = cc

-- no statement ends before the first item
statement_ends : (arena : Contents) (end : Option ℕ) (k : ℕ) (ids : List ℕ) (walk : PartWalk) (bodies : List Head) (opener : Opener) (below : List Opener) (rest : List ℕ)
    → Goes arena end k ids walk bodies (opener ∷ below) rest → ends_statement walk.last ≡ true → 0 < walk.place
statement_ends arena end k ids walk bodies opener below rest goes ends = elim (zero_or_more walk.place) [
  | inl none ↦ (let both : true ≡ false = sym ends ∙ (goes.first none).1 in cc)
  | inr more ↦ more
]

-- what is asked behind a comment, which may be the first behind the end of a statement
asked_comment : (arena : Contents) (end : Option ℕ) (k : ℕ) (ids : List ℕ) (walk : PartWalk) (bodies : List Head) (opener : Opener) (below : List Opener) (id : ℕ) (rest : List ℕ)
    → Goes arena end k ids walk bodies (opener ∷ below) (id ∷ rest) → is_comment (item_class arena id) ≡ true
    → FitsAsked arena end k ids (walk.place + 1) (inside_declaration walk.declaration (item_class arena id))
    (part_waiting_behind (item_class arena id) walk.place (opener ∷ below)) (asked_in_body arena walk id)
asked_comment arena end k ids walk bodies opener below id rest goes comment = by_asked walk.asked goes.way.fits
  where
    class : TokenClass
    class = item_class arena id

    next : Declaration
    next = inside_declaration walk.declaration (item_class arena id)

    after : List Opener
    after = part_waiting_behind (item_class arena id) walk.place (opener ∷ below)

    waits : after ≡ opener ∷ below
    waits = other_waits class (walk.place + 1) (opener ∷ below) (comment_is_other class comment)

    -- the comment is met again from there
    from_here : end ≡ next_end arena (at_place (k + walk.place) next) after (drop walk.place ids)
    from_here =
        same_inside arena end k ids walk.place walk.declaration walk.asked None opener below id rest goes.way (λ closed. refl) ∙ sym again
      where
        here : Along arena (next_end arena (at_place (k + walk.place) next) (opener ∷ below) (id ∷ rest)) k ids walk.place next None (opener ∷ below) (id ∷ rest)
        here = record { whole = goes.way.whole; left = goes.way.left; fits = tt; same = refl }

        again : next_end arena (at_place (k + walk.place) next) after (drop walk.place ids) ≡ next_end arena (along k (is_open after) (walk.place + 1) next None) after rest
        again =
            ap (λ (xs : List ℕ). next_end arena (at_place (k + walk.place) next) after xs) goes.way.left
            ∙ (ap (λ (openers : List Opener). next_end arena (at_place (k + walk.place) next) openers (id ∷ rest)) waits
            ∙ (same_inside arena (next_end arena (at_place (k + walk.place) next) (opener ∷ below) (id ∷ rest)) k ids walk.place next None None opener below id rest here (λ closed. refl)
            ∙ ap (λ (it : Declaration). next_end arena (along k (is_open after) (walk.place + 1) it None) after rest)
            (commented_stays next class (comment_told walk.declaration class comment))))

    by_end : (ends began : Bool) → ends_statement walk.last ≡ ends
        → FitsAsked arena end k ids (walk.place + 1) next after (if ends && began then Some walk.place else None)
    by_end true true is =
        let some : 0 < walk.place = statement_ends arena end k ids walk bodies opener below (id ∷ rest) goes is in
        (some, omega arith, λ e. (comment_told walk.declaration class comment, from_here))
    by_end true false is = tt
    by_end false began is = tt

    by_asked : (asked : Option ℕ) → FitsAsked arena end k ids walk.place walk.declaration (opener ∷ below) asked
        → FitsAsked arena end k ids (walk.place + 1) next after
        (elim asked as (λ _. Option ℕ) [ Some place ↦ Some place | None ↦ if ends_statement walk.last && item_began arena id then Some walk.place else None ])
    by_asked (Some count) fits =
        asked_stays arena end k ids walk.place walk.declaration (opener ∷ below) class (Some count) (comment_is_other class comment) refl fits
    by_asked None fits = by_end (ends_statement walk.last) (item_began arena id) refl

-- where a part ends in a body
abbrev TellsPlace : Contents → Option ℕ → ℕ → List ℕ → PartWalk → List Head → Option ℕ → Type 0
TellsPlace arena end k ids walk bodies None = ⊤
TellsPlace arena end k ids walk bodies (Some count) = (0 < count) × Tells arena end k ids count (Some (place_behind walk bodies))

tells_place : (arena : Contents) (end : Option ℕ) (k : ℕ) (ids : List ℕ) (walk : PartWalk) (bodies : List Head) (opener : Opener) (below : List Opener) (id : ℕ) (rest : List ℕ)
    → Goes arena end k ids walk bodies (opener ∷ below) (id ∷ rest) → length (opener ∷ below) ≡ length bodies
    → TellsPlace arena end k ids walk bodies (end_in_body walk id (item_class arena id))
tells_place arena end k ids walk bodies opener below id rest goes alone =
    by_end (ends_statement walk.last) (begins_statement walk.last class) (may_part walk class) refl
  where
    class : TokenClass
    class = item_class arena id

    waiting : List Opener
    waiting = opener ∷ below

    many : length (reverse bodies) ≡ length bodies
    many = length-reverse bodies

    kinds : SameKinds (opener ∷ below) (braces_of (reverse bodies))
    kinds = kinds_of_braces (opener ∷ below) (reverse bodies)
        (all_braces (opener ∷ below) (subst (λ (count : ℕ). BodiesWaitBelow count (opener ∷ below)) (sym alone) goes.waits)) (alone ∙ sym many)

    at : (count : ℕ) → 0 < count → count ≤ walk.place → end ≡ next_end arena (at_place (k + count) walk.declaration) waiting (drop count ids)
        → TellsPlace arena end k ids walk bodies (Some count)
    at count some few is = (
      some,
      (
        omega (arith, few, goes.way.whole),
        (omega (arith, many, alone), is ∙ same_ends arena (at_place (k + count) walk.declaration) waiting (braces_of (reverse bodies)) (drop count ids) kinds),
      ),
    )

    here : 0 < walk.place → TellsPlace arena end k ids walk bodies (Some walk.place)
    here some = at walk.place some (omega arith)
        (goes.way.same ∙ ap (λ (xs : List ℕ). next_end arena (at_place (k + walk.place) walk.declaration) waiting xs) (sym goes.way.left))

    or_here : (asked : Option ℕ) → FitsAsked arena end k ids walk.place walk.declaration waiting asked → 0 < walk.place
        → TellsPlace arena end k ids walk bodies (Some (or_place asked walk.place))
    or_here None fits some = here some
    or_here (Some count) fits some = at count fits.0 fits.1 (fits.2 refl).1

    by_many : (b : Bool) (count : ℕ) → TellsPlace arena end k ids walk bodies (Some count) → TellsPlace arena end k ids walk bodies (if b then Some count else None)
    by_many true count told = told
    by_many false count told = tt

    by_apart : (apart : Bool) → 0 < walk.place → TellsPlace arena end k ids walk bodies (if apart then ends_apart walk else ends_in_row walk id)
    by_apart true some = by_many (nat_le 64 walk.place) (or_place walk.asked walk.place) (or_here walk.asked goes.way.fits some)
    by_apart false some = by_many (nat_le 512 walk.place && id == walk.last.id + 1 && not walk.last.commented) walk.place (here some)

    by_end : (ends begins free : Bool) → ends_statement walk.last ≡ ends
        → TellsPlace arena end k ids walk bodies (if ends && begins && free then (if is_apart walk id then ends_apart walk else ends_in_row walk id) else None)
    by_end true true true is = by_apart (is_apart walk id) (statement_ends arena end k ids walk bodies opener below (id ∷ rest) goes is)
    by_end true true false is = tt
    by_end true false free is = tt
    by_end false begins free is = tt

tells_body : (arena : Contents) (end : Option ℕ) (k : ℕ) (ids : List ℕ) (walk : PartWalk) (bodies : List Head) (opener : Opener) (below : List Opener) (id : ℕ) (rest : List ℕ)
    → Goes arena end k ids walk bodies (opener ∷ below) (id ∷ rest) → length (opener ∷ below) ≡ length bodies
    → On arena end k ids (part_waiting_behind (item_class arena id) walk.place (opener ∷ below)) rest
    → TellsEnd arena end k ids (part_by_reading arena walk bodies (opener ∷ below) (opened_head walk (around_of bodies (opener ∷ below)) bodies id (item_class arena id))
    (part_waiting_behind (item_class arena id) walk.place (opener ∷ below)) id rest (part_reading arena walk around.Body id (item_class arena id)))
tells_body arena end k ids walk bodies opener below id rest goes alone on = by_comment (is_comment class) refl
  where
    class : TokenClass
    class = item_class arena id

    after : List Opener
    after = part_waiting_behind (item_class arena id) walk.place (opener ∷ below)

    opened : Option Head
    opened = opened_head walk (around_of bodies (opener ∷ below)) bodies id (item_class arena id)

    by_end : (ends : Option ℕ) → is_comment class ≡ false → TellsPlace arena end k ids walk bodies ends
        → TellsEnd arena end k ids (part_by_reading arena walk bodies (opener ∷ below) opened after id rest (ends_inside_or ends (in_body walk id class)))
    by_end (Some count) code told = told
    by_end None code told =
        goes_on arena end k ids walk (in_body walk id class) bodies (opener ∷ below) id rest goes refl
        (along_code arena end k ids walk.place walk.declaration walk.asked opener below id rest goes.way code) on

    past : (comment : Bool) → comment ≡ true → Along arena end k ids (walk.place + 1)
        (record walk.declaration { commented = walk.declaration.commented || (comment && not (part_is_body walk.declaration.before)) }) (asked_in_body arena walk id) after rest
        → Along arena end k ids (walk.place + 1) (past_comment arena walk id).declaration (asked_in_body arena walk id) after rest
    past true is way = way
    past false is way = cc

    by_comment : (comment : Bool) → is_comment class ≡ comment
        → TellsEnd arena end k ids (part_by_reading arena walk bodies (opener ∷ below) opened after id rest
        (if comment then part.GoesOn (past_comment arena walk id) else ends_inside_or (end_in_body walk id class) (in_body walk id class)))
    by_comment true is =
        goes_on arena end k ids walk (past_comment arena walk id) bodies (opener ∷ below) id rest goes refl
        (past (is_comment class) is
        (along_inside arena end k ids walk.place walk.declaration walk.asked (asked_in_body arena walk id) opener below id rest goes.way
        (λ closed. absurd (let both : true ≡ false = sym (closer_is_bracket class (walk.place + 1) opener below closed) ∙ comment_is_other class is in cc))
        (asked_comment arena end k ids walk bodies opener below id rest goes is))) on
    by_comment false is = by_end (end_in_body walk id class) is (tells_place arena end k ids walk bodies opener below id rest goes alone)

tells_inside : (arena : Contents) (end : Option ℕ) (k : ℕ) (ids : List ℕ) (walk : PartWalk) (bodies : List Head) (opener : Opener) (below : List Opener) (id : ℕ) (rest : List ℕ)
    → Goes arena end k ids walk bodies (opener ∷ below) (id ∷ rest) → On arena end k ids (part_waiting_behind (item_class arena id) walk.place (opener ∷ below)) rest
    → TellsEnd arena end k ids (part_next_end arena walk bodies (opener ∷ below) (id ∷ rest))
tells_inside arena end k ids walk bodies opener below id rest goes on = by_alone (length (opener ∷ below) == length bodies) refl
  where
    by_alone : (alone : Bool) → (length (opener ∷ below) == length bodies) ≡ alone
        → TellsEnd arena end k ids (part_by_reading arena walk bodies (opener ∷ below) (opened_head walk (around_of bodies (opener ∷ below)) bodies id (item_class arena id))
        (part_waiting_behind (item_class arena id) walk.place (opener ∷ below)) id rest
        (part_reading arena walk (if alone then around.Body else around.Group) id (item_class arena id)))
    by_alone true is = tells_body arena end k ids walk bodies opener below id rest goes (eqb-true (length (opener ∷ below)) (length bodies) is) on
    by_alone false is = tells_group arena end k ids walk bodies opener below id rest goes on

-- ## Where a part ends

tells : (arena : Contents) (end : Option ℕ) (k : ℕ) (ids : List ℕ) (rest : List ℕ) (walk : PartWalk) (bodies : List Head) (waiting : List Opener)
    → Goes arena end k ids walk bodies waiting rest → TellsEnd arena end k ids (part_next_end arena walk bodies waiting rest)
tells arena end k ids [] walk bodies waiting goes = goes.way.same
tells arena end k ids (id ∷ rest) walk bodies [] goes =
    tells_outside arena end k ids walk bodies id rest goes
    (λ next later goes. tells arena end k ids rest next later (part_waiting_behind (item_class arena id) walk.place []) goes)
tells arena end k ids (id ∷ rest) walk bodies (opener ∷ below) goes =
    tells_inside arena end k ids walk bodies opener below id rest goes
    (λ next later goes. tells arena end k ids rest next later (part_waiting_behind (item_class arena id) walk.place (opener ∷ below)) goes)

-- the end of a part that begins outside brackets, or at a place of a body behind so many items of declarations
pub tells_outer : (arena : Contents) (ids : List ℕ) → TellsEnd arena (next_end arena start [] ids) 0 ids (end_of_part arena None ids)
tells_outer arena ids =
    tells arena (next_end arena start [] ids) 0 ids ids (part_start None) [] []
    (record {
      way = record { whole = omega arith; left = refl; fits = tt; same = refl };
      waits = holds_start [];
      first = λ none. (λ outside. refl, refl);
    })

pub tells_inner : (arena : Contents) (end : Option ℕ) (k : ℕ) (place : Place) (ids : List ℕ) → EndsFrom arena end k place ids
    → TellsEnd arena end k ids (end_of_part arena (Some place) ids)
tells_inner arena end k place ids from =
    tells arena end k ids ids (part_start (Some place)) (reverse place.heads) (braces_of place.heads)
    (record {
      way = record { whole = omega arith; left = refl; fits = tt; same = from.1 ∙ ap (λ (w : Walk). next_end arena w (braces_of place.heads) ids) (here (opens place.heads from.0)) };
      waits = holds_start place.heads;
      first = λ none. (λ outside. absurd (let both : true ≡ false = sym (opens place.heads from.0) ∙ outside in cc), refl);
    })
  where
    opens : (heads : List Head) → 0 < length heads → is_open (braces_of heads) ≡ true
    opens [] some = absurd (omega (arith, some))
    opens (head ∷ heads) some = refl

    here : is_open (braces_of place.heads) ≡ true → at_place k place.declaration ≡ along k (is_open (braces_of place.heads)) 0 place.declaration None
    here opens =
        let same : k ≡ k + 0 = omega arith in
        ap (λ (n : ℕ). at_place n place.declaration) same ∙ ap (λ (b : Bool). along k b 0 place.declaration None) (sym opens)
