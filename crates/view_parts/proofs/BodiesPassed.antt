-- Bodies in which no part ends: those that end in the row of their `{`, before the place from which a part may end anywhere.
use Rattle.std.proofs.Common.{◌≡◌, ◌∙◌, ◌⊎◌, inl, inr, ℕ, zero, suc, ◌+◌, ◌-◌, ◌<◌, ◌≤◌, ◌==◌, Bool, true, false, not}
use Rattle.std.proofs.Common.{◌&&◌, ◌||◌, Option, Some, None, List, [], ◌∷◌, ◌++◌, length, map, refl, sym, ap, subst}
use Rattle.std.proofs.Common.{arith}
use Rattle.std.specs.Prelude.{if◌then◌else◌}
use Rattle.std.specs.List.{range_with_len}
use Rattle.std.proofs.lemmas.Bool.{eqb-true, eq-eqb, le-ltb, lt-ltb, lt-leb}
use Rattle.std.proofs.lemmas.List.{length-append}
use Rattle.token_arena.specs.Gaps.{Contents}
use Rattle.token_classes.specs.declared.class.TokenClass.{TokenClass}
use Rattle.token_classes.specs.declared.class.TokenClass.TheVariants.{OpenRound, CloseRound, OpenSquare, CloseSquare}
use Rattle.token_classes.specs.declared.class.TokenClass.TheVariants.{OpenBrace, CloseBrace, LineComment, BlockComment}
use Rattle.token_classes.specs.Classes.{is_bracket, is_comment}
use Rattle.item_classes.specs.Viewed.{item_class}
use Rattle.token_classes.specs.declared.pairing.Opener.{Opener}
use Rattle.token_classes.specs.Partners.{Matching, Nearest, count_braces, is_brace, is_round, is_square, nearest_brace}
use Rattle.token_classes.specs.Partners.{topmost, closed}
use Rattle.part_walk.specs.declared.walk.Around.{Around}
use Rattle.part_walk.specs.declared.walk.Around.TheVariants as around
use Rattle.part_walk.specs.declared.walk.Before.TheVariants.{Body}
use Rattle.part_walk.specs.declared.walk.Declaration.{Declaration}
use Rattle.part_walk.specs.declared.walk.Walk.{Walk}
use Rattle.part_walk.specs.declared.bodies.Head.{Head}
use Rattle.part_walk.specs.Reading.{Reading, EndsOutside, EndsInBody, Never, GoesOn}
use Rattle.part_walk.specs.Walk.{reading, opened_head, opening, begun_behind, block_behind, entered, left, is_apart}
use Rattle.part_walk.specs.Walk.{is_body, end_in_body, ends_apart, ends_in_row, ends_inside_or, parts_statements}
use Rattle.part_walk.specs.Walk.{in_body, past_bracket, past_comment, past_other}
use Rattle.view_parts.specs.Parts.{Ended, next_end}
use Rattle.part_walk.specs.Brackets.{around_of, bodies_behind, left_innermost, place_behind, waiting_behind}
use Rattle.part_walk.specs.Brackets.{walk_behind, without_innermost}
use Rattle.view_parts.specs.Quiet.{Closes, depth_behind}
use Rattle.part_walk.specs.Steps.{body_passed}
use Rattle.view_parts.proofs.Waits.{AreBraces, opens_so}

-- behind the body with this head, whose `}` is the last token that was read
abbrev behind_body : Declaration → Head → ℕ → ℕ → Walk
behind_body declaration head place id = record {
  place = place;
  declaration = declaration;
  asked = None;
  begun = begun_behind head;
  behind = id + 1;
  last = record (opening id CloseBrace) { block = block_behind head };
}

-- ## What is read in a body

no_bracket : (class : TokenClass) → is_comment class ≡ true → is_bracket class ≡ true → ⊥
no_bracket LineComment comment bracket = cc
no_bracket BlockComment comment bracket = cc
no_bracket _ comment bracket = cc

stays_so : (declaration : Declaration) (body comment : Bool) → body ≡ true
    → record declaration { commented = declaration.commented || (comment && not body) } ≡ declaration
stays_so declaration true true is = by_commented declaration.commented refl
  where
    by_commented : (commented : Bool) → declaration.commented ≡ commented → record declaration { commented = commented || false } ≡ declaration
    by_commented true e = ap (λ c. record declaration { commented = c }) (sym e)
    by_commented false e = ap (λ c. record declaration { commented = c }) (sym e)
stays_so declaration true false is = by_commented declaration.commented refl
  where
    by_commented : (commented : Bool) → declaration.commented ≡ commented → record declaration { commented = commented || false } ≡ declaration
    by_commented true e = ap (λ c. record declaration { commented = c }) (sym e)
    by_commented false e = ap (λ c. record declaration { commented = c }) (sym e)
stays_so declaration false comment is = cc

-- comments of a function's body change nothing of its declaration
declaration_stays : (declaration : Declaration) (comment : Bool) → declaration.before ≡ Body
    → record declaration { commented = declaration.commented || (comment && not (is_body declaration.before)) } ≡ declaration
declaration_stays declaration comment is = stays_so declaration (is_body declaration.before) comment (ap (λ before. is_body before) is)

-- the way goes on behind an item of a body
record GoesPast (walk : Walk) (stands : Around) (id : ℕ) (class : TokenClass) (read : Reading) : Type 0 where
  next : Walk
  is : read ≡ GoesOn next
  place : next.place ≡ walk.place + 1
  declaration : next.declaration ≡ walk.declaration
  apart : next.last.apart ≡ false
  behind : (stands ≡ around.Body) ⊎ (is_bracket class ≡ true) → next.behind ≡ id + 1
  asked : is_bracket class ≡ true → next.asked ≡ None

-- no part ends there before this place, where nothing stands between the items
no_end : (walk : Walk) (id : ℕ) (class : TokenClass) → walk.last.apart ≡ false → walk.place < 512 → walk.behind ≡ id → end_in_body walk id class ≡ None
no_end walk id class apart low here = by_parts (parts_statements walk class)
  where
    in_row : is_apart walk id ≡ false
    in_row = ap (λ b. b || not (id == walk.behind)) apart ∙ ap (λ b. not b) (subst (λ k. (id == k) ≡ true) (sym here) (eq-eqb id id refl))

    none_in_row : ends_in_row walk id ≡ None
    none_in_row = ap (λ b. if b && id == walk.last.id + 1 && not walk.last.commented then Some walk.place else None) (lt-leb 512 walk.place low)

    by_parts : (parts : Bool) → (if parts then (if is_apart walk id then ends_apart walk else ends_in_row walk id) else None) ≡ None
    by_parts true = ap (λ b. if b then ends_apart walk else ends_in_row walk id) in_row ∙ none_in_row
    by_parts false = refl

goes_past : (arena : Contents) (walk : Walk) (stands : Around) (id : ℕ) (class : TokenClass) → walk.declaration.before ≡ Body → walk.last.apart ≡ false → walk.place < 512
    → (stands ≡ around.Body → walk.behind ≡ id) → (stands ≡ around.Outside → ⊥) → GoesPast walk stands id class (reading arena walk stands id class)
goes_past arena walk around.Outside id class before apart low here inside = absurd (inside refl)
goes_past arena walk around.Group id class before apart low here inside = by_bracket (is_bracket class) refl
  where
    by_bracket : (bracket : Bool) → is_bracket class ≡ bracket
        → GoesPast walk around.Group id class (GoesOn (if bracket then past_bracket walk id class else past_other walk class))
    by_bracket true is = record {
      next = past_bracket walk id class;
      is = refl;
      place = refl;
      declaration = refl;
      apart = refl;
      behind = λ known. refl;
      asked = λ bracket. refl;
    }
    by_bracket false is = record {
      next = past_other walk class;
      is = refl;
      place = refl;
      declaration = declaration_stays walk.declaration (is_comment class) before;
      apart = apart;
      behind = λ known. elim known [ inl e ↦ cc | inr bracket ↦ cc ];
      asked = λ bracket. cc;
    }
goes_past arena walk around.Body id class before apart low here inside = by_comment (is_comment class) refl
  where
    by_end : (end : Option ℕ) → end ≡ None → ends_inside_or end (in_body walk id class) ≡ GoesOn (in_body walk id class)
    by_end None is = refl
    by_end (Some count) is = cc

    by_comment : (comment : Bool) → is_comment class ≡ comment
        → GoesPast walk around.Body id class (if comment then GoesOn (past_comment arena walk id) else ends_inside_or (end_in_body walk id class) (in_body walk id class))
    by_comment true is = record {
      next = past_comment arena walk id;
      is = refl;
      place = refl;
      declaration = declaration_stays walk.declaration true before;
      apart = ap (λ b. b || not (id == walk.behind)) apart ∙ ap (λ b. not b) (subst (λ k. (id == k) ≡ true) (sym (here refl)) (eq-eqb id id refl));
      behind = λ known. refl;
      asked = λ bracket. absurd (no_bracket class is bracket);
    }
    by_comment false is = record {
      next = in_body walk id class;
      is = by_end (end_in_body walk id class) (no_end walk id class apart low (here refl));
      place = refl;
      declaration = refl;
      apart = refl;
      behind = λ known. refl;
      asked = λ bracket. refl;
    }

-- ## What it stands in

never_outside : (bodies : List Head) (waiting : List Opener) → 0 < length waiting → around_of bodies waiting ≡ around.Outside → ⊥
never_outside bodies [] some is = absurd (omega (arith, some))
never_outside bodies (opener ∷ waiting) some is = by_same (length (opener ∷ waiting) == length bodies) is
  where
    by_same : (same : Bool) → (if same then around.Body else around.Group) ≡ around.Outside → ⊥
    by_same true e = cc
    by_same false e = cc

in_body_alone : (bodies : List Head) (waiting : List Opener) → around_of bodies waiting ≡ around.Body → length waiting ≡ length bodies
in_body_alone bodies [] is = cc
in_body_alone bodies (opener ∷ waiting) is = by_same (length (opener ∷ waiting) == length bodies) refl is
  where
    by_same : (same : Bool) → (length (opener ∷ waiting) == length bodies) ≡ same → (if same then around.Body else around.Group) ≡ around.Body
        → length (opener ∷ waiting) ≡ length bodies
    by_same true told e = eqb-true (length (opener ∷ waiting)) (length bodies) told
    by_same false told e = cc

alone_in_body : (bodies : List Head) (waiting : List Opener) → 0 < length waiting → length waiting ≡ length bodies → around_of bodies waiting ≡ around.Body
alone_in_body bodies [] some same = absurd (omega (arith, some))
alone_in_body bodies (opener ∷ waiting) some same =
    let is : (length (opener ∷ waiting) == length bodies) ≡ true = subst (λ k. (length (opener ∷ waiting) == k) ≡ true) same (eq-eqb (length (opener ∷ waiting)) (length (opener ∷ waiting)) refl) in
    ap (λ b. if b then around.Body else around.Group) is

-- ## The openers that wait

-- these openers wait
abbrev pub waits_so : List Opener → Matching
waits_so waiting = record { open_brackets = waiting; partners = [] }

pub round_is_no_brace : (place : ℕ) (kind : TokenClass) → is_round (record { place = place; kind = kind }) ≡ true
    → is_brace (record { place = place; kind = kind }) ≡ true → ⊥
round_is_no_brace place OpenRound round brace = cc
round_is_no_brace place _ round brace = cc

pub square_is_no_brace : (place : ℕ) (kind : TokenClass) → is_square (record { place = place; kind = kind }) ≡ true
    → is_brace (record { place = place; kind = kind }) ≡ true → ⊥
square_is_no_brace place OpenSquare square brace = cc
square_is_no_brace place _ square brace = cc

-- the topmost of these is a brace
abbrev pub OnBrace : List Opener → Type 0
OnBrace [] = ⊥
OnBrace (opener ∷ below) = is_brace opener ≡ true

-- these wait above those, with so many braces among them
record Above (count : ℕ) (base after : List Opener) : Type 0 where
  above : List Opener
  both : after ≡ above ++ base
  counted : count_braces above ≡ count

braces_so : (braces : List Opener) → AreBraces braces → (opener : Opener) (waiting : List Opener) → is_brace opener ≡ true → OnBrace (braces ++ (opener ∷ waiting))
braces_so [] are opener waiting brace = brace
braces_so (first ∷ braces) are opener waiting brace = are.0

no_count : (opener : Opener) (above : List Opener) → (is_brace opener ≡ true → ⊥) → count_braces (opener ∷ above) ≡ count_braces above
no_count opener above other = by_brace (is_brace opener) other
  where
    by_brace : (brace : Bool) → (brace ≡ true → ⊥) → (elim brace as (λ _. ℕ) [ true ↦ suc (count_braces above) | false ↦ count_braces above ]) ≡ count_braces above
    by_brace true other = absurd (other refl)
    by_brace false other = refl

-- another closer takes off no brace
topmost_above : (fits : Opener → Bool) (place : ℕ) (above base : List Opener) → ((opener : Opener) → fits opener ≡ true → is_brace opener ≡ true → ⊥) → OnBrace base
    → Above (count_braces above) base (closed place (topmost fits (above ++ base)) (waits_so (above ++ base))).open_brackets
topmost_above fits place [] [] other on = absurd on
topmost_above fits place [] (opener ∷ base) other on = by_fit (fits opener) refl
  where
    by_fit : (fit : Bool) → fits opener ≡ fit → Above 0 (opener ∷ base)
        (closed place (elim fit as (λ _. Option Nearest) [ true ↦ Some (record { place = opener.place; below = base }) | false ↦ None ])
        (waits_so (opener ∷ base))).open_brackets
    by_fit true is = absurd (other opener is on)
    by_fit false is = record { above = []; both = refl; counted = refl }
topmost_above fits place (opener ∷ above) base other on = by_fit (fits opener) refl
  where
    by_fit : (fit : Bool) → fits opener ≡ fit → Above (count_braces (opener ∷ above)) base
        (closed place (elim fit as (λ _. Option Nearest) [ true ↦ Some (record { place = opener.place; below = above ++ base }) | false ↦ None ])
        (waits_so (opener ∷ above ++ base))).open_brackets
    by_fit true is = record { above = above; both = refl; counted = sym (no_count opener above (other opener is)) }
    by_fit false is = record { above = opener ∷ above; both = refl; counted = refl }

-- a `}` takes off one of the braces above, or the topmost of those where none is
record TakesOne (count : ℕ) (base after : List Opener) : Type 0 where
  rest : ℕ
  one : count ≡ suc rest
  left : Above rest base after

nearest_takes : (place count : ℕ) (above base : List Opener) (opener : Opener) (all : List Opener) → count ≡ count_braces above → is_brace opener ≡ true
    → TakesOne count (opener ∷ base) (closed place (nearest_brace (above ++ (opener ∷ base))) (waits_so all)).open_brackets
    ⊎ ((count ≡ 0) × ((closed place (nearest_brace (above ++ (opener ∷ base))) (waits_so all)).open_brackets ≡ base))
nearest_takes place count [] base opener all counted brace = by_brace (is_brace opener) brace
  where
    Goal : List Opener → Type 0
    Goal after = TakesOne count (opener ∷ base) after ⊎ ((count ≡ 0) × (after ≡ base))

    by_brace : (brace : Bool) → brace ≡ true
        → Goal (closed place (elim brace as (λ _. Option Nearest) [ true ↦ Some (record { place = opener.place; below = base }) | false ↦ nearest_brace base ]) (waits_so all)).open_brackets
    by_brace true is = inr (counted, refl)
    by_brace false is = cc
nearest_takes place count (first ∷ above) base opener all counted brace =
    by_brace (is_brace first) counted (λ counted. nearest_takes place count above base opener all counted brace)
  where
    Goal : List Opener → Type 0
    Goal after = TakesOne count (opener ∷ base) after ⊎ ((count ≡ 0) × (after ≡ base))

    by_brace : (is_first : Bool) → count ≡ (elim is_first as (λ _. ℕ) [ true ↦ suc (count_braces above) | false ↦ count_braces above ])
        → (count ≡ count_braces above → Goal (closed place (nearest_brace (above ++ (opener ∷ base))) (waits_so all)).open_brackets)
        → Goal (closed place
        (elim is_first as (λ _. Option Nearest) [ true ↦ Some (record { place = first.place; below = above ++ (opener ∷ base) }) | false ↦ nearest_brace (above ++ (opener ∷ base)) ])
        (waits_so all)).open_brackets
    by_brace true counted later = inl (record { rest = count_braces above; one = counted; left = record { above = above; both = refl; counted = refl } })
    by_brace false counted later = later counted

-- ## In a body

-- a body, and what it stands in
record Outer : Type 0 where
  head : Head
  bodies : List Head
  opener : Opener
  waiting : List Opener
  declaration : Declaration
  brace : is_brace opener ≡ true
  alone : length waiting ≡ length bodies
  before : declaration.before ≡ Body

abbrev waits_in : Outer → List Opener → List Opener → List Opener
waits_in it above below = above ++ (below ++ (it.opener ∷ it.waiting))

abbrev open_in : Outer → List Head → List Head
open_in it inner = inner ++ (it.head ∷ it.bodies)

-- the way, before this item at this place of the part
record Follows (it : Outer) (place id : ℕ) (above : List Opener) (walk : Walk) : Type 0 where
  place_is : walk.place ≡ place
  declaration : walk.declaration ≡ it.declaration
  apart : walk.last.apart ≡ false
  behind : length above ≡ 0 → walk.behind ≡ id

-- before this item, where so many braces are open
record Inside (it : Outer) (place id depth : ℕ) (walk : Walk) (bodies : List Head) (waiting : List Opener) : Type 0 where
  above : List Opener
  below : List Opener
  inner : List Head
  waits : waiting ≡ waits_in it above below
  open_there : bodies ≡ open_in it inner
  same : length below ≡ length inner
  braces : AreBraces below
  counted : depth ≡ count_braces above + length below + 1
  follows : Follows it place id above walk

waits_len : (it : Outer) (above below : List Opener) → length (waits_in it above below) ≡ length above + (length below + suc (length it.waiting))
waits_len it above below = length-append above (below ++ (it.opener ∷ it.waiting)) ∙ ap (λ k. length above + k) (length-append below (it.opener ∷ it.waiting))

open_len : (it : Outer) (inner : List Head) → length (open_in it inner) ≡ length inner + suc (length it.bodies)
open_len it inner = length-append inner (it.head ∷ it.bodies)

-- the same bodies are open where other openers wait above their braces
kept : (it : Outer) (place id depth : ℕ) (next : Walk) (above below : List Opener) (inner : List Head) (after : List Opener) → length below ≡ length inner → AreBraces below
    → depth ≡ count_braces above + length below + 1 → after ≡ waits_in it above below → Follows it place (id + 1) above next
    → Inside it place (id + 1) depth (walk_behind next (open_in it inner) after None id) (bodies_behind (open_in it inner) after None) after
kept it place id depth next above below inner after same braces counted is follows =
    let many : length (open_in it inner) ≤ length after =
    omega (arith, ap (λ (openers : List Opener). length openers) is, waits_len it above below, open_len it inner, same, it.alone) in
    subst (λ (b : Bool). Inside it place (id + 1) depth (if b then left_innermost next (open_in it inner) id else next)
    (if b then without_innermost (open_in it inner) else open_in it inner) after)
    (sym (le-ltb (length after) (length (open_in it inner)) many))
    (record { above = above; below = below; inner = inner; waits = is; open_there = refl; same = same; braces = braces; counted = counted; follows = follows })

-- behind an item that is read so
follows_on : (it : Outer) (place id : ℕ) (above after : List Opener) (walk : Walk) (stands : Around) (class : TokenClass) (read : Reading) (past : GoesPast walk stands id class read)
    → Follows it place id above walk → (length after ≡ 0 → past.next.behind ≡ id + 1) → Follows it (place + 1) (id + 1) after past.next
follows_on it place id above after walk stands class read past follows behind = record {
  place_is = past.place ∙ ap (λ k. k + 1) follows.place_is;
  declaration = past.declaration ∙ follows.declaration;
  apart = past.apart;
  behind = behind;
}

-- no other bracket is open there but those of the bodies
none_above : (it : Outer) (above below : List Opener) (inner : List Head) → length below ≡ length inner
    → (around_of (open_in it inner) (waits_in it above below) ≡ around.Group → ⊥) → length above ≡ 0
none_above it above below inner same other = by_around (around_of (open_in it inner) (waits_in it above below)) refl
  where
    by_around : (stands : Around) → around_of (open_in it inner) (waits_in it above below) ≡ stands → length above ≡ 0
    by_around around.Outside is =
        absurd (never_outside (open_in it inner) (waits_in it above below) (omega (arith, waits_len it above below)) is)
    by_around around.Body is =
        omega (arith, in_body_alone (open_in it inner) (waits_in it above below) is, waits_len it above below, open_len it inner, same, it.alone)
    by_around around.Group is = absurd (other is)

alone_above : (it : Outer) (above below : List Opener) (inner : List Head) → length below ≡ length inner → length above ≡ 0
    → around_of (open_in it inner) (waits_in it above below) ≡ around.Body
alone_above it above below inner same none =
    alone_in_body (open_in it inner) (waits_in it above below) (omega (arith, waits_len it above below))
    (omega (arith, waits_len it above below, open_len it inner, same, it.alone, none))

-- ## Behind one item

abbrev stands_in : Outer → List Opener → List Opener → List Head → Around
stands_in it above below inner = around_of (open_in it inner) (waits_in it above below)

-- behind an item of this class, where the way goes on so
abbrev Behind : Outer → ℕ → ℕ → ℕ → Walk → Walk → List Opener → List Opener → List Head → TokenClass → Type 0
Behind it place id depth walk next above below inner class =
    Inside it (place + 1) (id + 1) (depth_behind depth class)
    (walk_behind next (open_in it inner) (waiting_behind class walk.place (waits_in it above below)) (opened_head walk (stands_in it above below inner) (open_in it inner) id class) id)
    (bodies_behind (open_in it inner) (waiting_behind class walk.place (waits_in it above below)) (opened_head walk (stands_in it above below inner) (open_in it inner) id class))
    (waiting_behind class walk.place (waits_in it above below))

-- what is known before an item
record Reached (it : Outer) (place id depth : ℕ) (walk : Walk) (above below : List Opener) (inner : List Head) : Type 0 where
  same : length below ≡ length inner
  braces : AreBraces below
  counted : depth ≡ count_braces above + length below + 1
  follows : Follows it place id above walk

opens_brace : (it : Outer) (place id depth : ℕ) (walk next : Walk) (above below : List Opener) (inner : List Head) → Reached it place id depth walk above below inner
    → ((after : List Opener) → Follows it (place + 1) (id + 1) after next) → Behind it place id depth walk next above below inner OpenBrace
opens_brace it place id depth walk next above below inner now follows = by_opened (opened_head walk (stands_in it above below inner) (open_in it inner) id OpenBrace) refl
  where
    after : List Opener
    after = record { place = walk.place + 1; kind = OpenBrace } ∷ waits_in it above below

    by_above : (head : Head) (above : List Opener) → length above ≡ 0 → Reached it place id depth walk above below inner
        → Inside it (place + 1) (id + 1) (suc depth) (entered next id) (head ∷ open_in it inner) (record { place = walk.place + 1; kind = OpenBrace } ∷ waits_in it above below)
    by_above head [] none now = record {
      above = [];
      below = record { place = walk.place + 1; kind = OpenBrace } ∷ below;
      inner = head ∷ inner;
      waits = refl;
      open_there = refl;
      same = ap suc now.same;
      braces = (refl, now.braces);
      counted = omega (arith, now.counted);
      follows = record { place_is = (follows []).place_is; declaration = (follows []).declaration; apart = refl; behind = (follows []).behind };
    }
    by_above head (opener ∷ above) none now = absurd (omega (arith, none))

    by_opened : (opened : Option Head) → opened_head walk (stands_in it above below inner) (open_in it inner) id OpenBrace ≡ opened
        → Inside it (place + 1) (id + 1) (suc depth) (walk_behind next (open_in it inner) after opened id) (bodies_behind (open_in it inner) after opened) after
    by_opened (Some head) is =
        let opens = opens_so walk (stands_in it above below inner) (open_in it inner) id OpenBrace head is in
        by_above head above (none_above it above below inner now.same opens.1) now
    by_opened None is =
        let more = record { place = walk.place + 1; kind = OpenBrace } ∷ above in
        kept it (place + 1) id (suc depth) next more below inner after now.same now.braces (omega (arith, now.counted)) refl (follows more)

closes_brace : (it : Outer) (place id depth : ℕ) (walk next : Walk) (above below : List Opener) (inner : List Head) → Reached it place id depth walk above below inner → 0 < depth - 1
    → ((after : List Opener) → Follows it (place + 1) (id + 1) after next) → Behind it place id depth walk next above below inner CloseBrace
closes_brace it place id depth walk next above [] [] now some follows =
    elim (nearest_takes (walk.place + 1) (count_braces above) above it.waiting it.opener (waits_in it above []) refl it.brace) [
      | inl takes ↦
          kept it (place + 1) id (depth - 1) next takes.left.above [] [] (waiting_behind CloseBrace walk.place (waits_in it above [])) now.same now.braces
          (omega (arith, now.counted, takes.one, takes.left.counted)) takes.left.both (follows takes.left.above)
      | inr none ↦ absurd (omega (arith, now.counted, none.0, some))
    ]
closes_brace it place id depth walk next above [] (head ∷ inner) now some follows = absurd (omega (arith, now.same))
closes_brace it place id depth walk next above (first ∷ below) [] now some follows = absurd (omega (arith, now.same))
closes_brace it place id depth walk next above (first ∷ below) (head ∷ inner) now some follows =
    elim (nearest_takes (walk.place + 1) (count_braces above) above (below ++ (it.opener ∷ it.waiting)) first (waits_in it above (first ∷ below)) refl now.braces.0) [
      | inl takes ↦
          kept it (place + 1) id (depth - 1) next takes.left.above (first ∷ below) (head ∷ inner) after now.same now.braces
          (omega (arith, now.counted, takes.one, takes.left.counted)) takes.left.both (follows takes.left.above)
      | inr none ↦
          let same : length below ≡ length inner = omega (arith, now.same) in
          let low : length after < length (open_in it (head ∷ inner)) =
          omega (arith, ap (λ (openers : List Opener). length openers) none.1, waits_len it [] below, open_len it (head ∷ inner), same, it.alone) in
          subst (λ (b : Bool). Inside it (place + 1) (id + 1) (depth - 1) (if b then left next head id else next) (if b then open_in it inner else open_in it (head ∷ inner)) after)
          (sym (lt-ltb (length after) (length (open_in it (head ∷ inner))) low))
          (record {
            above = [];
            below = below;
            inner = inner;
            waits = none.1;
            open_there = refl;
            same = same;
            braces = now.braces.1;
            counted = omega (arith, now.counted, none.0);
            follows = record { place_is = (follows []).place_is; declaration = (follows []).declaration; apart = refl; behind = (follows []).behind };
          })
    ]
  where
    after : List Opener
    after = waiting_behind CloseBrace walk.place (waits_in it above (first ∷ below))

-- behind a bracket that is no brace
other_bracket : (it : Outer) (place id depth : ℕ) (next : Walk) (above below : List Opener) (inner : List Head) (after : List Opener) → length below ≡ length inner → AreBraces below
    → depth ≡ count_braces above + length below + 1 → ((after : List Opener) → Follows it (place + 1) (id + 1) after next)
    → Above (count_braces above) (below ++ (it.opener ∷ it.waiting)) after
    → Inside it (place + 1) (id + 1) depth (walk_behind next (open_in it inner) after None id) (bodies_behind (open_in it inner) after None) after
other_bracket it place id depth next above below inner after same braces counted follows other =
    kept it (place + 1) id depth next other.above below inner after same braces (omega (arith, counted, other.counted)) other.both (follows other.above)

behind_item : (it : Outer) (place id depth : ℕ) (walk : Walk) (above below : List Opener) (inner : List Head) (class : TokenClass) (read : Reading)
    → Reached it place id depth walk above below inner → (past : GoesPast walk (stands_in it above below inner) id class read) → 0 < depth_behind depth class
    → Behind it place id depth walk past.next above below inner class
behind_item it place id depth walk above below inner OpenRound read now past some =
    other_bracket it place id depth past.next above below inner (record { place = walk.place + 1; kind = OpenRound } ∷ waits_in it above below) now.same now.braces now.counted
    (λ after. follows_on it place id above after walk (stands_in it above below inner) OpenRound read past now.follows (λ none. past.behind (inr refl)))
    (record { above = record { place = walk.place + 1; kind = OpenRound } ∷ above; both = refl; counted = refl })
behind_item it place id depth walk above below inner OpenSquare read now past some =
    other_bracket it place id depth past.next above below inner (record { place = walk.place + 1; kind = OpenSquare } ∷ waits_in it above below) now.same now.braces now.counted
    (λ after. follows_on it place id above after walk (stands_in it above below inner) OpenSquare read past now.follows (λ none. past.behind (inr refl)))
    (record { above = record { place = walk.place + 1; kind = OpenSquare } ∷ above; both = refl; counted = refl })
behind_item it place id depth walk above below inner CloseRound read now past some =
    other_bracket it place id depth past.next above below inner (waiting_behind CloseRound walk.place (waits_in it above below)) now.same now.braces now.counted
    (λ after. follows_on it place id above after walk (stands_in it above below inner) CloseRound read past now.follows (λ none. past.behind (inr refl)))
    (topmost_above is_round (walk.place + 1) above (below ++ (it.opener ∷ it.waiting)) (λ opener. round_is_no_brace opener.place opener.kind) (braces_so below now.braces it.opener it.waiting it.brace))
behind_item it place id depth walk above below inner CloseSquare read now past some =
    other_bracket it place id depth past.next above below inner (waiting_behind CloseSquare walk.place (waits_in it above below)) now.same now.braces now.counted
    (λ after. follows_on it place id above after walk (stands_in it above below inner) CloseSquare read past now.follows (λ none. past.behind (inr refl)))
    (topmost_above is_square (walk.place + 1) above (below ++ (it.opener ∷ it.waiting)) (λ opener. square_is_no_brace opener.place opener.kind) (braces_so below now.braces it.opener it.waiting it.brace))
behind_item it place id depth walk above below inner OpenBrace read now past some =
    opens_brace it place id depth walk past.next above below inner now
    (λ after. follows_on it place id above after walk (stands_in it above below inner) OpenBrace read past now.follows (λ none. past.behind (inr refl)))
behind_item it place id depth walk above below inner CloseBrace read now past some =
    closes_brace it place id depth walk past.next above below inner now some
    (λ after. follows_on it place id above after walk (stands_in it above below inner) CloseBrace read past now.follows (λ none. past.behind (inr refl)))
behind_item it place id depth walk above below inner class read now past some =
    kept it (place + 1) id depth past.next above below inner (waits_in it above below) now.same now.braces now.counted refl
    (follows_on it place id above above walk (stands_in it above below inner) class read past now.follows
    (λ none. past.behind (inl (alone_above it above below inner now.same none))))

-- ## Behind the body

left_so : (next : Walk) (declaration : Declaration) (head : Head) (place id : ℕ) → next.place ≡ place → next.declaration ≡ declaration → next.asked ≡ None → next.behind ≡ id + 1
    → left next head id ≡ behind_body declaration head place id
left_so next declaration head place id at declared asked behind =
    ap (λ (p : ℕ). record (left next head id) { place = p }) at
    ∙ (ap (λ (d : Declaration). record (left next head id) { place = place; declaration = d }) declared
    ∙ (ap (λ (a : Option ℕ). record (left next head id) { place = place; declaration = declaration; asked = a }) asked
    ∙ ap (λ (b : ℕ). record (left next head id) { place = place; declaration = declaration; asked = None; behind = b }) behind))

-- the `}` of the body
closes_body : (arena : Contents) (it : Outer) (place id depth : ℕ) (walk next : Walk) (above below : List Opener) (inner : List Head) (ids : List ℕ) → Reached it place id depth walk above below inner
    → depth - 1 ≡ 0 → next.place ≡ place + 1 → next.declaration ≡ it.declaration → next.asked ≡ None → next.behind ≡ id + 1
    → next_end arena (walk_behind next (open_in it inner) (waiting_behind CloseBrace walk.place (waits_in it above below)) None id)
    (bodies_behind (open_in it inner) (waiting_behind CloseBrace walk.place (waits_in it above below)) None) (waiting_behind CloseBrace walk.place (waits_in it above below)) ids
    ≡ next_end arena (behind_body it.declaration it.head (place + 1) id) it.bodies it.waiting ids
closes_body arena it place id depth walk next above [] [] ids now none at declared asked behind =
    elim (nearest_takes (walk.place + 1) (count_braces above) above it.waiting it.opener (waits_in it above []) refl it.brace) [
      | inl takes ↦ absurd (omega (arith, now.counted, takes.one, none))
      | inr taken ↦
          let low : length after < length (open_in it []) = omega (arith, ap (λ (openers : List Opener). length openers) taken.1, it.alone) in
          ap (λ (b : Bool). next_end arena (if b then left next it.head id else next) (if b then it.bodies else open_in it []) after ids) (lt-ltb (length after) (length (open_in it [])) low)
          ∙ (ap (λ (w : Walk). next_end arena w it.bodies after ids) (left_so next it.declaration it.head (place + 1) id at declared asked behind)
          ∙ ap (λ (openers : List Opener). next_end arena (behind_body it.declaration it.head (place + 1) id) it.bodies openers ids) taken.1)
    ]
  where
    after : List Opener
    after = waiting_behind CloseBrace walk.place (waits_in it above [])
closes_body arena it place id depth walk next above [] (head ∷ inner) ids now none at declared asked behind = absurd (omega (arith, now.same))
closes_body arena it place id depth walk next above (first ∷ below) inner ids now none at declared asked behind = absurd (omega (arith, now.counted, none))

-- where the part ends behind an item of this class, behind which the way goes on so
abbrev end_behind : Contents → Outer → ℕ → Walk → Walk → List Opener → List Opener → List Head → List ℕ → TokenClass → Option Ended
end_behind arena it id walk next above below inner ids class =
    next_end arena
    (walk_behind next (open_in it inner) (waiting_behind class walk.place (waits_in it above below)) (opened_head walk (stands_in it above below inner) (open_in it inner) id class) id)
    (bodies_behind (open_in it inner) (waiting_behind class walk.place (waits_in it above below)) (opened_head walk (stands_in it above below inner) (open_in it inner) id class))
    (waiting_behind class walk.place (waits_in it above below)) ids

last_item : (arena : Contents) (it : Outer) (place id depth : ℕ) (walk : Walk) (above below : List Opener) (inner : List Head) (ids : List ℕ) (class : TokenClass) (read : Reading)
    → Reached it place id depth walk above below inner → (past : GoesPast walk (stands_in it above below inner) id class read) → 0 < depth → depth_behind depth class ≡ 0
    → end_behind arena it id walk past.next above below inner ids class ≡ next_end arena (behind_body it.declaration it.head (place + 1) id) it.bodies it.waiting ids
last_item arena it place id depth walk above below inner ids OpenBrace read now past some none = absurd (omega (arith, none))
last_item arena it place id depth walk above below inner ids CloseBrace read now past some none =
    closes_body arena it place id depth walk past.next above below inner ids now none (past.place ∙ ap (λ k. k + 1) now.follows.place_is) (past.declaration ∙ now.follows.declaration)
    (past.asked refl) (past.behind (inr refl))
last_item arena it place id depth walk above below inner ids class read now past some none = absurd (omega (arith, some, none))

-- what comes of a list of items whose first is read so
abbrev read_end : Contents → Outer → ℕ → Walk → List Opener → List Opener → List Head → List ℕ → Reading → Option Ended
read_end arena it id walk above below inner ids read =
    elim read [
      | EndsOutside count ↦ Some (record { count = count; inside = None })
      | EndsInBody count ↦ Some (record { count = count; inside = Some (place_behind walk (open_in it inner)) })
      | Never ↦ None
      | GoesOn next ↦ end_behind arena it id walk next above below inner ids (item_class arena id)
    ]

none_left : (classes : List TokenClass) → Closes 0 classes → classes ≡ []
none_left [] closes = refl
none_left (class ∷ classes) closes = absurd (omega (arith, closes.0))

passes_on : (arena : Contents) (it : Outer) (rest : List ℕ) (n id place depth last : ℕ) (walk : Walk) (bodies : List Head) (waiting : List Opener) → Inside it place id depth walk bodies waiting
    → Closes depth (map (item_class arena) (range_with_len id n)) → place + n ≤ 512 → id + n ≡ last + 1
    → next_end arena walk bodies waiting (range_with_len id n ++ rest) ≡ next_end arena (behind_body it.declaration it.head (place + n) last) it.bodies it.waiting rest
passes_on arena it rest zero id place depth last walk bodies waiting now closes low at = absurd (omega (arith, now.counted, closes))
passes_on arena it rest (suc n) id place depth last walk bodies waiting now closes low at =
    ap (λ (b : List Head). next_end arena walk b waiting (id ∷ ids)) now.open_there
    ∙ (ap (λ (w : List Opener). next_end arena walk (open_in it now.inner) w (id ∷ ids)) now.waits
    ∙ (ap (λ (read : Reading). read_end arena it id walk now.above now.below now.inner ids read) past.is
    ∙ by_depth n (depth_behind depth class) refl closes.1 low at
    (λ next bodies waiting inside. passes_on arena it rest n (id + 1) (place + 1) (depth_behind depth class) last next bodies waiting inside closes.1 (omega (arith, low)) (omega (arith, at)))))
  where
    class : TokenClass
    class = item_class arena id

    ids : List ℕ
    ids = range_with_len (id + 1) n ++ rest

    stands : Around
    stands = stands_in it now.above now.below now.inner

    before : Reached it place id depth walk now.above now.below now.inner
    before = record { same = now.same; braces = now.braces; counted = now.counted; follows = now.follows }

    here : stands ≡ around.Body → walk.behind ≡ id
    here is =
        now.follows.behind (none_above it now.above now.below now.inner now.same (λ group. around_apart stands is group))
      where
        around_apart : (a : Around) → a ≡ around.Body → a ≡ around.Group → ⊥
        around_apart around.Body e f = cc
        around_apart around.Outside e f = cc
        around_apart around.Group e f = cc

    past : GoesPast walk stands id class (reading arena walk stands id class)
    past = goes_past arena walk stands id class (ap (λ (d : Declaration). d.before) now.follows.declaration ∙ it.before) now.follows.apart (omega (arith, low, now.follows.place_is)) here
        (never_outside (open_in it now.inner) (waits_in it now.above now.below) (omega (arith, waits_len it now.above now.below)))

    by_depth : (n behind : ℕ) → depth_behind depth class ≡ behind → Closes (depth_behind depth class) (map (item_class arena) (range_with_len (id + 1) n)) → place + suc n ≤ 512 → id + suc n ≡ last + 1
        → ((next : Walk) (bodies : List Head) (waiting : List Opener) → Inside it (place + 1) (id + 1) (depth_behind depth class) next bodies waiting
        → next_end arena next bodies waiting (range_with_len (id + 1) n ++ rest) ≡ next_end arena (behind_body it.declaration it.head (place + 1 + n) last) it.bodies it.waiting rest)
        → end_behind arena it id walk past.next now.above now.below now.inner (range_with_len (id + 1) n ++ rest) class
        ≡ next_end arena (behind_body it.declaration it.head (place + suc n) last) it.bodies it.waiting rest
    by_depth zero zero is closes low at later =
        last_item arena it place id depth walk now.above now.below now.inner rest class (reading arena walk stands id class) before past (omega (arith, now.counted)) is
        ∙ ap (λ k. next_end arena (behind_body it.declaration it.head (place + 1) k) it.bodies it.waiting rest) (omega (arith, at))
    by_depth (suc n) zero is closes low at later =
        absurd (omega (arith, closes.0, is))
    by_depth n (suc depth) is closes low at later =
        later _ _ _ (behind_item it place id _ walk now.above now.below now.inner class (reading arena walk stands id class) before past (omega (arith, is)))
        ∙ ap (λ k. next_end arena (behind_body it.declaration it.head k last) it.bodies it.waiting rest) (omega arith)

-- A body is passed whole whose items stand in a row directly behind its `{`, where no comment changes what is known of the declaration, and no part may end in a row yet.
pub body_passes : (arena : Contents) (walk : Walk) (head : Head) (bodies : List Head) (opener : Opener) (waiting : List Opener) (id n : ℕ) (rest : List ℕ) → walk.declaration.before ≡ Body → walk.behind ≡ id + 1
    → is_brace opener ≡ true → length waiting ≡ length bodies → walk.asked ≡ None → Closes 1 (map (item_class arena) (range_with_len (id + 1) n)) → walk.place + n ≤ 512
    → next_end arena (entered walk id) (head ∷ bodies) (opener ∷ waiting) (range_with_len (id + 1) n ++ rest)
    ≡ next_end arena (body_passed walk head (walk.place + n) (id + n)) bodies waiting rest
body_passes arena walk head bodies opener waiting id n rest before behind brace alone asked closes low =
    passes_on arena it rest n (id + 1) walk.place 1 (id + n) (entered walk id) (head ∷ bodies) (opener ∷ waiting) inside closes low (omega arith)
    ∙ ap (λ (w : Walk). next_end arena w bodies waiting rest)
    (sym (left_so (record walk { place = walk.place + n; behind = id + n + 1 }) walk.declaration head (walk.place + n) (id + n) refl refl asked refl))
  where
    it : Outer
    it = record { head = head; bodies = bodies; opener = opener; waiting = waiting; declaration = walk.declaration; brace = brace; alone = alone; before = before }

    inside : Inside it walk.place (id + 1) 1 (entered walk id) (head ∷ bodies) (opener ∷ waiting)
    inside = record {
      above = [];
      below = [];
      inner = [];
      waits = refl;
      open_there = refl;
      same = refl;
      braces = tt;
      counted = refl;
      follows = record { place_is = refl; declaration = refl; apart = refl; behind = λ none. behind };
    }
