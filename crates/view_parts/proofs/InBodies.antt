-- The places of bodies where parts begin.
use Rattle.std.proofs.Common.{◌≡◌, ◌∙◌, ℕ, zero, suc, ◌+◌, ◌-◌, ◌<◌, ◌≤◌, nat_le, ◌==◌, Bool, true, false, not, ◌&&◌}
use Rattle.std.proofs.Common.{◌||◌, Option, Some, None, List, [], ◌∷◌, ◌++◌, length, get_or, reverse, refl, sym, ap}
use Rattle.std.proofs.Common.{subst, arith}
use Rattle.std.specs.Prelude.{⊤, All, if◌then◌else◌}
use Rattle.std.specs.Option.{ForSome}
use Rattle.std.proofs.lemmas.Bool.{eqb-true, leb-true}
use Rattle.std.proofs.lemmas.List.{get_or_default, length-append}
use Rattle.std.proofs.lemmas.List.Elements.{All-append}
use Rattle.std.proofs.Math.ListN.{get_or-append}
use Rattle.token_arena.specs.Gaps.{Contents, item_began}
use Rattle.token_arena.specs.Ids.{Increase, IncreaseFrom}
use Rattle.token_classes.specs.declared.class.TokenClass.{TokenClass}
use Rattle.token_classes.specs.declared.class.TokenClass.TheVariants.{OpenBrace, CloseBrace, LineComment, BlockComment}
use Rattle.token_classes.specs.Classes.{is_bracket, is_close_brace, is_comment, is_else, is_open_brace, is_semicolon}
use Rattle.token_classes.specs.Classes.{is_word}
use Rattle.item_classes.specs.Viewed.{item_class}
use Rattle.token_classes.specs.declared.pairing.Opener.{Opener}
use Rattle.part_walk.specs.declared.bodies.BodyKind.{BodyKind}
use Rattle.part_walk.specs.declared.bodies.BodyKind.TheVariants as kind
use Rattle.part_walk.specs.declared.bodies.Head.{Head}
use Rattle.part_walk.specs.declared.walk.Around.{Around}
use Rattle.part_walk.specs.declared.walk.Around.TheVariants as around
use Rattle.part_walk.specs.declared.walk.Begun.{Begun}
use Rattle.part_walk.specs.declared.walk.Begun.TheVariants.{Unknown, With, Behind}
use Rattle.part_walk.specs.declared.walk.LastToken.{LastToken}
use Rattle.part_walk.specs.declared.walk.Walk.{Walk}
use Rattle.part_walk.specs.Places.{Place}
use Rattle.part_walk.specs.Reading.{Reading, EndsOutside, EndsInBody, Never, GoesOn}
use Rattle.part_walk.specs.Walk.{start, reading, asked_at, begins_behind, begins_block, begins_outside}
use Rattle.part_walk.specs.Walk.{begins_statement, begun_before, body_kind, end_in_body, ends_apart, ends_in_row}
use Rattle.part_walk.specs.Walk.{ends_inside_or, ends_or, ends_statement, entered, goes_on_with, head_from}
use Rattle.part_walk.specs.Walk.{head_of_kind, heads_len, in_body, in_group, is_apart, is_leading, is_lost, kept_begun}
use Rattle.part_walk.specs.Walk.{may_part, next_begun, next_last, opened_head, or_place, outside, parts_statements}
use Rattle.part_walk.specs.Walk.{past_bracket, past_comment, past_other}
use Rattle.view_parts.specs.Parts.{Ended, count_or, end_of_part, head_items, heads_end, inside_of, items_before}
use Rattle.view_parts.specs.Parts.{items_of_place, next_end, opened_items, part_inside, part_len, StandsBefore}
use Rattle.part_walk.specs.Brackets.{around_of, bodies_behind, is_left, left_innermost, place_behind, waiting_at}
use Rattle.part_walk.specs.Brackets.{waiting_behind, walk_behind, without_innermost}
use Rattle.view_parts.proofs.Heads.{BodiesStand, IsHead, bodies_end, bodies_so, end_low, head_before, reversed_end}
use Rattle.view_parts.proofs.Heads.{reversed_have, reversed_stand, stand_before}
use Rattle.part_walk.proofs.Heads.{heads_len-reverse}
use Rattle.view_parts.proofs.InOrder.{HasHeads, IsEnd, end_fits, inside_headed}
use Rattle.view_parts.proofs.Quiet.{quiet_waits}
use Rattle.view_parts.proofs.RowParts.{some_is}
use Rattle.view_parts.proofs.Rows.{row_item}
use Rattle.view_parts.proofs.Waits.{BodiesWaitBelow, holds_on, holds_start, none_left}
use Rattle.view_parts.proofs.Walked.{behind_place, bodies_past, by_reading, walk_past}

-- ## What is kept of the items that were read

-- how a statement began, in a body whose head ends so
abbrev IsBegun : (ℕ → Type 0) → List ℕ → ℕ → ℕ → Begun → Type 0
IsBegun P all end low Unknown = ⊤
IsBegun P all end low (With token) = (token.id ≡ get_or all token.place 0) × (end ≤ token.id)
IsBegun P all end low (Behind head) = IsHead P head low × (end ≤ head.first)

-- the token with which a statement ends in such a body, before this item
record IsLast (P : ℕ → Type 0) (end last low : ℕ) : Type 0 where
  has : P last
  behind : end ≤ last
  before : last < low

-- the `{` of a block in it, before the last token where that is a `}`
record IsBlock (P : ℕ → Type 0) (end opened : ℕ) (class : TokenClass) (last low : ℕ) : Type 0 where
  has : P opened
  behind : end ≤ opened
  before : opened < low
  closed : is_close_brace class ≡ true → opened < last

record KeepsLast (P : ℕ → Type 0) (end : ℕ) (last : LastToken) (low : ℕ) : Type 0 where
  block : (opened : ℕ) → last.block ≡ Some opened → IsBlock P end opened last.class last.id low
  ended : ends_statement last ≡ true → IsLast P end last.id low

record Keeps (P : ℕ → Type 0) (all : List ℕ) (walk : Walk) (bodies : List Head) (low : ℕ) : Type 0 where
  begun : IsBegun P all (bodies_end bodies) low walk.begun
  stand : BodiesStand P bodies low
  few : heads_len bodies ≤ 64
  last : KeepsLast P (bodies_end bodies) walk.last low
  asked : (count : ℕ) → ends_statement walk.last ≡ true → walk.asked ≡ Some count → walk.last.id < get_or all count 0

-- all items have this, and the next one is among them
record AreAll (P : ℕ → Type 0) (all : List ℕ) (place id : ℕ) : Type 0 where
  increase : Increase all
  have : All P all
  below : place < length all
  at : id ≡ get_or all place 0

-- ## Tests

open_or_close : (class : TokenClass) → is_open_brace class ≡ true → is_close_brace class ≡ true → ⊥
open_or_close OpenBrace opens closes = cc
open_or_close _ opens closes = cc

comment_or_bracket : (class : TokenClass) → is_comment class ≡ true → is_bracket class ≡ true → ⊥
comment_or_bracket LineComment comment bracket = cc
comment_or_bracket BlockComment comment bracket = cc
comment_or_bracket _ comment bracket = cc

comment_ends : (class : TokenClass) (block : Bool) → is_comment class ≡ true → is_semicolon class || (is_close_brace class && block) ≡ true → ⊥
comment_ends LineComment block comment ends = cc
comment_ends BlockComment block comment ends = cc
comment_ends _ block comment ends = cc

if_some : {A : Type 0} (test : Bool) (o : Option A) (x : A) → (if test then o else None) ≡ Some x → (test ≡ true) × (o ≡ Some x)
if_some true o x e = (refl, e)
if_some false o x e = absurd (differ e)
  where
    differ : None ≡ Some x → ⊥
    differ e = cc

none_some : {A : Type 0} (x : A) → None ≡ Some x → ⊥
none_some x e = cc

false_true : false ≡ true → ⊥
false_true e = cc

both_true : (a b : Bool) → a && b ≡ true → (a ≡ true) × (b ≡ true)
both_true true b e = (refl, e)
both_true false b e = absurd (false_true e)

by_three : (a b c : Bool) → a && b && c ≡ true → (a ≡ true) × ((b ≡ true) × (c ≡ true))
by_three true true true e = (refl, (refl, refl))
by_three true true false e = cc
by_three true false true e = cc
by_three true false false e = cc
by_three false true true e = cc
by_three false true false e = cc
by_three false false true e = cc
by_three false false false e = cc

-- ## How statements begin

begun_later : (P : ℕ → Type 0) (all : List ℕ) (end low id : ℕ) (begun : Begun) → low ≤ id → IsBegun P all end low begun → IsBegun P all end (id + 1) begun
begun_later P all end low id Unknown after is = tt
begun_later P all end low id (With token) after is = is
begun_later P all end low id (Behind head) after is = (let upto = is.0.upto in head_before P head low (id + 1) (omega (arith, upto, after)) is.0, is.1)

-- behind the next token of a body
begun_on : (P : ℕ → Type 0) (all : List ℕ) (end low : ℕ) (walk : Walk) (id : ℕ) (class : TokenClass) → low ≤ id → end ≤ id → id ≡ get_or all walk.place 0 → IsBegun P all end low walk.begun → IsBegun P all end (id + 1) (next_begun walk id class)
begun_on P all end low walk id class after inside at is = by_test (begins_behind walk.last && is_leading class)
  where
    kept : (begun : Begun) → IsBegun P all end (id + 1) begun → IsBegun P all end (id + 1) (kept_begun walk.last class begun)
    kept Unknown is = tt
    kept (With token) is = is
    kept (Behind head) is = by_goes ((is_leading class || is_else class) && not (goes_on_with walk.last class))
      where
        by_goes : (lost : Bool) → IsBegun P all end (id + 1) (if lost then Unknown else Behind head)
        by_goes true = tt
        by_goes false = is

    by_test : (test : Bool) → IsBegun P all end (id + 1) (if test then With (record { id = id; place = walk.place }) else kept_begun walk.last class walk.begun)
    by_test true = (at, inside)
    by_test false = kept walk.begun (begun_later P all end low id walk.begun after is)

-- ## Bodies that begin

-- the head of a body in these bodies, before the item behind this one
record IsOpened (P : ℕ → Type 0) (bodies : List Head) (head : Head) (id : ℕ) : Type 0 where
  is : IsHead P head (id + 1)
  behind : bodies_end bodies ≤ head.first
  few : heads_len bodies + (head.end - head.first) ≤ 64

head_on : (P : ℕ → Type 0) (all : List ℕ) (bodies : List Head) (begun : Begun) (place id : ℕ) (k : BodyKind) (head : Head) → AreAll P all place id → IsBegun P all (bodies_end bodies) (id + 1) begun → head_from begun place id k (heads_len bodies) ≡ Some head
    → IsOpened P bodies head id
head_on P all bodies Unknown place id k head is began e = absurd (none_some head e)
head_on P all bodies (Behind h) place id k head is began e =
    let test = if_some (nat_le (heads_len bodies + (h.end - h.first)) 64) (Some h) head e in
    subst (λ (x : Head). IsOpened P bodies x id) (some_is h head test.1) (record { is = began.0; behind = began.1; few = leb-true (heads_len bodies + (h.end - h.first)) 64 test.0 })
head_on P all bodies (With token) place id k head is began e =
    let made : Head = record { first = token.id; end = id + 1; kind = k } in
    let count = heads_len bodies in
    let test = if_some (nat_le token.id id && token.id + place == id + token.place && nat_le (count + (id + 1 - token.id)) 64) (Some made) head e in
    let three = by_three (nat_le token.id id) (token.id + place == id + token.place) (nat_le (count + (id + 1 - token.id)) 64) test.0 in
    let low : token.id ≤ id = leb-true token.id id three.0 in
    let row : token.id + place ≡ id + token.place = eqb-true (token.id + place) (id + token.place) three.1.0 in
    let behind = id - token.id in
    let here : token.place + behind ≡ place = omega (arith, low, row) in
    let ends : get_or all (token.place + behind) 0 ≡ token.id + behind = ap (λ n. get_or all n 0) here ∙ (sym is.at ∙ omega (arith, low)) in
    let below = is.below in
    subst (λ (x : Head). IsOpened P bodies x id) (some_is made head test.1) (record {
      is = record {
        some = omega (arith, low);
        upto = omega arith;
        has = λ n after before.
            let j = n - token.id in
            let item : get_or all (token.place + j) 0 ≡ token.id + j = row_item all token.place token.id behind is.increase (omega (arith, below, here)) (sym began.0) ends j (omega (arith, after, before, low)) in
            subst (λ x. P x) (item ∙ omega (arith, after)) (is.have (token.place + j) 0 (omega (arith, after, before, low, row, below)));
      };
      behind = began.1;
      few = leb-true (count + (id + 1 - token.id)) 64 three.1.1;
    })

opened_on : (P : ℕ → Type 0) (all : List ℕ) (walk : Walk) (stands : Around) (bodies : List Head) (id low : ℕ) (class : TokenClass) (head : Head) → low ≤ id → AreAll P all walk.place id → Keeps P all walk bodies low
    → opened_head walk stands bodies id class ≡ Some head → (is_open_brace class ≡ true) × IsOpened P bodies head id
opened_on P all walk stands bodies id low class head after is keeps e =
    let test = if_some (is_open_brace class) (head_of_kind (body_kind walk stands) (begun_before walk stands id) walk.place id (heads_len bodies)) head e in
    (test.0, by_kind (body_kind walk stands) test.1)
  where
    later : IsBegun P all (bodies_end bodies) (id + 1) walk.begun
    later = begun_later P all (bodies_end bodies) low id walk.begun after keeps.begun

    by_first : (first : Bool) → IsBegun P all (bodies_end bodies) (id + 1) (if first then With (record { id = id; place = walk.place }) else walk.begun)
    by_first true = (let inside = end_low P bodies low keeps.stand in (is.at, omega (arith, inside, after)))
    by_first false = later

    began : (stands : Around) → IsBegun P all (bodies_end bodies) (id + 1) (begun_before walk stands id)
    began around.Body = by_first (begins_behind walk.last)
    began around.Outside = later
    began around.Group = later

    by_kind : (k : Option BodyKind) → head_of_kind k (begun_before walk stands id) walk.place id (heads_len bodies) ≡ Some head → IsOpened P bodies head id
    by_kind None e = absurd (none_some head e)
    by_kind (Some k) e = head_on P all bodies (begun_before walk stands id) walk.place id k head is (began stands) e

-- only behind a bracket a body is left
left_at : (class : TokenClass) (place : ℕ) (bodies : List Head) (waiting : List Opener) → BodiesWaitBelow (length bodies) waiting → is_left bodies (waiting_behind class place waiting) ≡ true → is_bracket class ≡ true
left_at class place bodies waiting holds gone = by_bracket (is_bracket class) refl
  where
    by_bracket : (bracket : Bool) → is_bracket class ≡ bracket → bracket ≡ true
    by_bracket true e = refl
    by_bracket false e = absurd (false_true (sym (none_left bodies waiting holds) ∙ (ap (λ (openers : List Opener). is_left bodies openers) (quiet_waits class place waiting e) ∙ gone)))

-- ## The last token

-- another one, where the last block stays the same
renamed_last : (P : ℕ → Type 0) (end : ℕ) (last new : LastToken) (low : ℕ) → new.block ≡ last.block → low ≤ new.id → end ≤ new.id → P new.id → KeepsLast P end last low → KeepsLast P end new (new.id + 1)
renamed_last P end last new low same after inside has keeps = record {
  block = λ opened e. (let old = keeps.block opened (sym same ∙ e) in let before = old.before in record { has = old.has; behind = old.behind; before = omega (arith, before, after); closed = λ c. omega (arith, before, after) });
  ended = λ e. record { has = has; behind = inside; before = omega arith };
}

-- that behind a token of a body
token_last : (P : ℕ → Type 0) (end place : ℕ) (last : LastToken) (id low : ℕ) (class : TokenClass) → low ≤ id → end ≤ id → P id → KeepsLast P end last low → KeepsLast P end (next_last place last id class) (id + 1)
token_last P end place last id low class after inside has keeps = record {
  block = λ opened e. by_block (is_open_brace class) (begins_block last) opened refl e;
  ended = λ e. record { has = has; behind = inside; before = omega arith };
}
  where
    by_block : (brace begins : Bool) (opened : ℕ) → is_open_brace class ≡ brace → (if brace then (if begins then Some id else None) else last.block) ≡ Some opened → IsBlock P end opened class id (id + 1)
    by_block true true opened kind e =
        subst (λ n. IsBlock P end n class id (id + 1)) (some_is id opened e) (record { has = has; behind = inside; before = omega arith; closed = λ c. absurd (open_or_close class kind c) })
    by_block true false opened kind e = absurd (none_some opened e)
    by_block false begins opened kind e = (let old = keeps.block opened e in let before = old.before in record { has = old.has; behind = old.behind; before = omega (arith, before, after); closed = λ c. omega (arith, before, after) })

-- what changes no token
told_last : (P : ℕ → Type 0) (end : ℕ) (last : LastToken) (id low : ℕ) (apart commented : Bool) → low ≤ id → KeepsLast P end last low → KeepsLast P end (record last { apart = apart; commented = commented }) (id + 1)
told_last P end last id low apart commented after keeps = record {
  block = λ opened e. (let old = keeps.block opened e in let before = old.before in record { has = old.has; behind = old.behind; before = omega (arith, before, after); closed = old.closed });
  ended = λ e. (let old = keeps.ended e in let before = old.before in record { has = old.has; behind = old.behind; before = omega (arith, before, after) });
}

-- ## One item

later_stand : (P : ℕ → Type 0) (bodies : List Head) (id low : ℕ) → low ≤ id → BodiesStand P bodies low → BodiesStand P bodies (id + 1)
later_stand P bodies id low after stand = (let inside = end_low P bodies low stand in stand_before P bodies low (id + 1) (omega (arith, inside, after)) stand)

-- behind a token of a body
body_on : (P : ℕ → Type 0) (all : List ℕ) (walk : Walk) (bodies : List Head) (id low : ℕ) (class : TokenClass) → low ≤ id → P id → id ≡ get_or all walk.place 0 → Keeps P all walk bodies low → Keeps P all (in_body walk id class) bodies (id + 1)
body_on P all walk bodies id low class after has at keeps =
    let end = end_low P bodies low keeps.stand in
    record {
      begun = begun_on P all (bodies_end bodies) low walk id class after (omega (arith, end, after)) at keeps.begun;
      stand = later_stand P bodies id low after keeps.stand;
      few = keeps.few;
      last = token_last P (bodies_end bodies) walk.place walk.last id low class after (omega (arith, end, after)) has keeps.last;
      asked = λ count ends e. absurd (none_some count e);
    }

-- behind a comment of a body
comment_on : (P : ℕ → Type 0) (arena : Contents) (all : List ℕ) (walk : Walk) (bodies : List Head) (id low : ℕ) → low ≤ id → id ≡ get_or all walk.place 0 → Keeps P all walk bodies low → Keeps P all (past_comment arena walk id) bodies (id + 1)
comment_on P arena all walk bodies id low after at keeps = record {
  begun = begun_later P all (bodies_end bodies) low id walk.begun after keeps.begun;
  stand = later_stand P bodies id low after keeps.stand;
  few = keeps.few;
  last = told_last P (bodies_end bodies) walk.last id low (is_apart walk id) true after keeps.last;
  asked = λ count ends e. by_asked walk.asked refl count ends e;
}
  where
    by_asked : (asked : Option ℕ) → walk.asked ≡ asked → (count : ℕ) → ends_statement walk.last ≡ true
        → ◌≡◌ {A = Option ℕ} (elim asked [ Some place ↦ Some place | None ↦ if ends_statement walk.last && item_began arena id then Some walk.place else None ]) (Some count)
        → walk.last.id < get_or all count 0
    by_asked (Some place) is count ends e = keeps.asked count ends (is ∙ e)
    by_asked None is count ends e =
        let test = if_some (ends_statement walk.last && item_began arena id) (Some walk.place) count e in
        let same : get_or all walk.place 0 ≡ get_or all count 0 = ap (λ n. get_or all n 0) (some_is walk.place count test.1) in
        let before = (keeps.last.ended ends).before in
        omega (arith, before, after, at, same)

-- behind an item of a group
group_on : (P : ℕ → Type 0) (all : List ℕ) (walk : Walk) (bodies : List Head) (id low : ℕ) (class : TokenClass) → low ≤ id → P id → Keeps P all walk bodies low → Keeps P all (in_group walk id class) bodies (id + 1)
group_on P all walk bodies id low class after has keeps = by_bracket (is_bracket class)
  where
    by_bracket : (bracket : Bool) → Keeps P all (if bracket then past_bracket walk id class else past_other walk class) bodies (id + 1)
    by_bracket true =
        let end = end_low P bodies low keeps.stand in
        record {
          begun = begun_later P all (bodies_end bodies) low id walk.begun after keeps.begun;
          stand = later_stand P bodies id low after keeps.stand;
          few = keeps.few;
          last = renamed_last P (bodies_end bodies) walk.last (record walk.last { class = class; id = id; apart = false }) low refl after (omega (arith, end, after)) has keeps.last;
          asked = λ count ends e. absurd (none_some count e);
        }
    by_bracket false = record {
      begun = begun_later P all (bodies_end bodies) low id walk.begun after keeps.begun;
      stand = later_stand P bodies id low after keeps.stand;
      few = keeps.few;
      last = told_last P (bodies_end bodies) walk.last id low walk.last.apart (walk.last.commented || is_comment class) after keeps.last;
      asked = keeps.asked;
    }

-- behind a token outside brackets
outside_on : (P : ℕ → Type 0) (all : List ℕ) (walk : Walk) (bodies : List Head) (id low : ℕ) (class : TokenClass) (asked : Option ℕ) → low ≤ id → P id → id ≡ get_or all walk.place 0 → Keeps P all walk bodies low
    → Keeps P all (outside walk id class asked) bodies (id + 1)
outside_on P all walk bodies id low class asked after has at keeps = record {
  begun = by_begins (begins_outside walk id);
  stand = later_stand P bodies id low after keeps.stand;
  few = keeps.few;
  last = renamed_last P (bodies_end bodies) walk.last (outside walk id class asked).last low refl after inside has keeps.last;
  asked = λ count ends e. absurd (comment_ends class _ (if_some (is_comment class) asked count e).0 ends);
}
  where
    inside : bodies_end bodies ≤ id
    inside = (let end = end_low P bodies low keeps.stand in omega (arith, end, after))

    by_begins : (begins : Bool) → IsBegun P all (bodies_end bodies) (id + 1) (if begins then With (record { id = id; place = walk.place }) else walk.begun)
    by_begins true = (at, inside)
    by_begins false = begun_later P all (bodies_end bodies) low id walk.begun after keeps.begun

-- ## Bodies that begin or end

entered_on : (P : ℕ → Type 0) (all : List ℕ) (next : Walk) (bodies : List Head) (head : Head) (id : ℕ) → IsOpened P bodies head id → Keeps P all next bodies (id + 1) → Keeps P all (entered next id) (head ∷ bodies) (id + 1)
entered_on P all next bodies head id is keeps = record {
  begun = tt;
  stand = (is.is, stand_before P bodies (id + 1) head.first is.behind keeps.stand);
  few = (let few = is.few in omega (arith, few));
  last = record { block = λ opened e. absurd (none_some opened e); ended = λ e. absurd (false_true e) };
  asked = λ count ends e. absurd (false_true ends);
}

left_on : (P : ℕ → Type 0) (all : List ℕ) (next : Walk) (bodies : List Head) (id low : ℕ) → low ≤ id → P id → next.asked ≡ None → BodiesStand P bodies low → Keeps P all next bodies (id + 1)
    → Keeps P all (left_innermost next bodies id) (without_innermost bodies) (id + 1)
left_on P all next [] id low after has none stand keeps = keeps
left_on P all next (head ∷ bodies) id low after has none stand keeps =
    let few = keeps.few in
    record {
      begun = by_begun head.kind;
      stand = stand_before P bodies head.first (id + 1) (omega (arith, outer, some, upto, after)) stand.1;
      few = omega (arith, few);
      last = record { block = λ opened e. by_block head.kind opened e; ended = λ e. record { has = has; behind = omega (arith, outer, some, upto, after); before = omega arith } };
      asked = λ count ends e. absurd (none_some count (sym none ∙ e));
    }
  where
    some : head.first < head.end
    some = stand.0.some

    upto : head.end ≤ low
    upto = stand.0.upto

    outer : bodies_end bodies ≤ head.first
    outer = end_low P bodies head.first stand.1

    by_begun : (k : BodyKind) → IsBegun P all (bodies_end bodies) (id + 1) (elim k [ kind.If ↦ Behind head | _ ↦ Unknown ])
    by_begun kind.If = (head_before P head low (id + 1) (omega (arith, upto, after)) stand.0, outer)
    by_begun kind.Function = tt
    by_begun kind.Block = tt
    by_begun kind.Members = tt
    by_begun kind.Linkage = tt

    block_is : (opened : ℕ) → ◌≡◌ {A = Option ℕ} (Some (head.end - 1)) (Some opened) → IsBlock P (bodies_end bodies) opened CloseBrace id (id + 1)
    block_is opened e = subst (λ n. IsBlock P (bodies_end bodies) n CloseBrace id (id + 1)) (some_is (head.end - 1) opened e) (record {
      has = stand.0.has (head.end - 1) (omega (arith, some)) (omega (arith, some));
      behind = omega (arith, outer, some);
      before = omega (arith, some, upto, after);
      closed = λ c. omega (arith, some, upto, after);
    })

    by_block : (k : BodyKind) (opened : ℕ) → ◌≡◌ {A = Option ℕ} (elim k [ kind.Members ↦ None | _ ↦ Some (head.end - 1) ]) (Some opened) → IsBlock P (bodies_end bodies) opened CloseBrace id (id + 1)
    by_block kind.Members opened e = absurd (none_some opened e)
    by_block kind.If opened e = block_is opened e
    by_block kind.Function opened e = block_is opened e
    by_block kind.Block opened e = block_is opened e
    by_block kind.Linkage opened e = block_is opened e

-- behind a token that opens a body, or none, with this head
past_on : (P : ℕ → Type 0) (all : List ℕ) (next : Walk) (bodies : List Head) (after : List Opener) (opened : Option Head) (id low : ℕ) → low ≤ id → P id → (is_left bodies after ≡ true → next.asked ≡ None) → BodiesStand P bodies low
    → ((head : Head) → opened ≡ Some head → IsOpened P bodies head id) → Keeps P all next bodies (id + 1) → Keeps P all (walk_behind next bodies after opened id) (bodies_behind bodies after opened) (id + 1)
past_on P all next bodies after (Some head) id low later has none stand opens keeps = entered_on P all next bodies head id (opens head refl) keeps
past_on P all next bodies after None id low later has none stand opens keeps = by_left (is_left bodies after) none
  where
    by_left : (gone : Bool) → (gone ≡ true → next.asked ≡ None) → Keeps P all (if gone then left_innermost next bodies id else next) (if gone then without_innermost bodies else bodies) (id + 1)
    by_left true none = left_on P all next bodies id low later has (none refl) stand keeps
    by_left false none = keeps

-- ## Where the part ends

-- the place of a body where a part begins before this item, all items of which have this
record IsPlace (P : ℕ → Type 0) (place : Place) (id : ℕ) : Type 0 where
  before : 0 < length place.heads → StandsBefore place id
  heads : All P (head_items place.heads)
  opened : (opened : ℕ) → place.opened ≡ Some opened → P opened
  ended : P place.ended

-- where the part ends in a body, it ends at such a place
abbrev EndsAtPlace : (ℕ → Type 0) → List ℕ → Option Ended → Type 0
EndsAtPlace P all None = ⊤
EndsAtPlace P all (Some ended) = (place : Place) → ended.inside ≡ Some place → IsPlace P place (get_or all ended.count 0)

abbrev Reads : (ℕ → Type 0) → List ℕ → Walk → List Head → ℕ → TokenClass → Reading → Type 0
Reads P all walk bodies id class (EndsOutside count) = ⊤
Reads P all walk bodies id class (EndsInBody count) = IsPlace P (place_behind walk bodies) (get_or all count 0)
Reads P all walk bodies id class Never = ⊤
Reads P all walk bodies id class (GoesOn next) = (next.place ≡ walk.place + 1) × Keeps P all next bodies (id + 1) × (is_bracket class ≡ true → next.asked ≡ None)

place_so : (P : ℕ → Type 0) (all : List ℕ) (walk : Walk) (bodies : List Head) (low id : ℕ) → Keeps P all walk bodies low → ends_statement walk.last ≡ true → walk.last.id < id → IsPlace P (place_behind walk bodies) id
place_so P all walk bodies low id keeps ends before =
    let last = keeps.last.ended ends in
    let inside = last.behind in
    let end = reversed_end bodies in
    let len = heads_len-reverse bodies in
    let few = keeps.few in
    let test = λ (opened : ℕ) (o : (if is_close_brace walk.last.class then walk.last.block else None) ≡ Some opened). if_some (is_close_brace walk.last.class) walk.last.block opened o in
    record {
      before = λ some. record {
        some = some;
        few = omega (arith, few, len);
        stand = reversed_stand P bodies low keeps.stand;
        opened = λ opened o. (let block = keeps.last.block opened (test opened o).1 in let within = block.behind in (omega (arith, within, end), block.closed (test opened o).0));
        ended = omega (arith, inside, end);
        before = before;
      };
      heads = reversed_have P bodies low keeps.stand;
      opened = λ opened o. (keeps.last.block opened (test opened o).1).has;
      ended = last.has;
    }

-- where it ends in a body, the last token ends a statement of it
ends_told : (P : ℕ → Type 0) (all : List ℕ) (walk : Walk) (bodies : List Head) (id low count : ℕ) (class : TokenClass) → low ≤ id → id ≡ get_or all walk.place 0 → Keeps P all walk bodies low → end_in_body walk id class ≡ Some count
    → IsPlace P (place_behind walk bodies) (get_or all count 0)
ends_told P all walk bodies id low count class after at keeps e =
    let test = if_some (parts_statements walk class) (if is_apart walk id then ends_apart walk else ends_in_row walk id) count e in
    let ends = (by_three (ends_statement walk.last) (begins_statement walk.last class) (may_part walk class) test.0).0 in
    place_so P all walk bodies low (get_or all count 0) keeps ends (by_apart ends (is_apart walk id) test.1)
  where
    here : ends_statement walk.last ≡ true → walk.place ≡ count → walk.last.id < get_or all count 0
    here ends same = (let before = (keeps.last.ended ends).before in let item = ap (λ n. get_or all n 0) same in omega (arith, before, after, at, item))

    by_asked : (asked : Option ℕ) → walk.asked ≡ asked → ends_statement walk.last ≡ true → or_place asked walk.place ≡ count → walk.last.id < get_or all count 0
    by_asked None is ends same = here ends same
    by_asked (Some n) is ends same = keeps.asked count ends (is ∙ ap (λ k. Some k) same)

    by_apart : ends_statement walk.last ≡ true → (apart : Bool) → (if apart then ends_apart walk else ends_in_row walk id) ≡ Some count → walk.last.id < get_or all count 0
    by_apart ends true e = by_asked walk.asked refl ends (some_is (or_place walk.asked walk.place) count (if_some (nat_le 64 walk.place) (Some (or_place walk.asked walk.place)) count e).1)
    by_apart ends false e = here ends (some_is walk.place count (if_some (nat_le 512 walk.place && id == walk.last.id + 1 && not walk.last.commented) (Some walk.place) count e).1)

reads_on : (P : ℕ → Type 0) (arena : Contents) (all : List ℕ) (walk : Walk) (stands : Around) (bodies : List Head) (id low : ℕ) (class : TokenClass) → low ≤ id → P id → id ≡ get_or all walk.place 0 → Keeps P all walk bodies low
    → Reads P all walk bodies id class (reading arena walk stands id class)
reads_on P arena all walk stands bodies id low class after has at keeps = by_stands stands
  where
    by_lost : (lost : Bool) (next : Walk) → Reads P all walk bodies id class (GoesOn next) → Reads P all walk bodies id class (if lost then Never else GoesOn next)
    by_lost true next on = tt
    by_lost false next on = on

    by_word : (word : Bool) (count : ℕ) (later : Reading) → Reads P all walk bodies id class later → Reads P all walk bodies id class (if word then EndsOutside count else later)
    by_word true count later on = tt
    by_word false count later on = on

    by_asked : (asked : Option ℕ) (word : Bool) (later : Reading) → Reads P all walk bodies id class later → Reads P all walk bodies id class (ends_or asked word later)
    by_asked None word later on = on
    by_asked (Some count) word later on = by_word word count later on

    by_end : (end : Option ℕ) (next : Walk) → ((count : ℕ) → end ≡ Some count → IsPlace P (place_behind walk bodies) (get_or all count 0)) → Reads P all walk bodies id class (GoesOn next) → Reads P all walk bodies id class (ends_inside_or end next)
    by_end None next told on = on
    by_end (Some count) next told on = told count refl

    by_comment : (comment : Bool) → is_comment class ≡ comment → Reads P all walk bodies id class (if comment then GoesOn (past_comment arena walk id) else ends_inside_or (end_in_body walk id class) (in_body walk id class))
    by_comment true is = (refl, comment_on P arena all walk bodies id low after at keeps, λ bracket. absurd (comment_or_bracket class is bracket))
    by_comment false is = by_end (end_in_body walk id class) (in_body walk id class) (λ count e. ends_told P all walk bodies id low count class after at keeps e) (refl, body_on P all walk bodies id low class after has at keeps, λ bracket. refl)

    group_place : (bracket : Bool) → (if bracket then past_bracket walk id class else past_other walk class).place ≡ walk.place + 1
    group_place true = refl
    group_place false = refl

    group_asked : (bracket : Bool) → bracket ≡ true → (if bracket then past_bracket walk id class else past_other walk class).asked ≡ None
    group_asked true is = refl
    group_asked false is = absurd (false_true is)

    outside_asked : (comment : Bool) (asked : Option ℕ) → (comment ≡ true → ⊥) → (if comment then asked else None) ≡ None
    outside_asked true asked never = absurd (never refl)
    outside_asked false asked never = refl

    by_stands : (stands : Around) → Reads P all walk bodies id class (reading arena walk stands id class)
    by_stands around.Group = (group_place (is_bracket class), group_on P all walk bodies id low class after has keeps, λ bracket. group_asked (is_bracket class) bracket)
    by_stands around.Outside =
        let asked = asked_at arena walk id class in
        by_asked asked (is_word class) (if is_lost class then Never else GoesOn (outside walk id class asked))
        (by_lost (is_lost class) (outside walk id class asked) (refl, outside_on P all walk bodies id low class asked after has at keeps, λ bracket. outside_asked (is_comment class) asked (λ comment. comment_or_bracket class comment bracket)))
    by_stands around.Body = by_comment (is_comment class) refl

told_on : (P : ℕ → Type 0) (arena : Contents) (all ids : List ℕ) (walk : Walk) (bodies : List Head) (waiting : List Opener) (low : ℕ) → Increase all → All P all → walk.place + length ids ≤ length all → IncreaseFrom low ids
    → ((k : ℕ) → k < length ids → get_or ids k 0 ≡ get_or all (walk.place + k) 0) → BodiesWaitBelow (length bodies) waiting → Keeps P all walk bodies low → EndsAtPlace P all (next_end arena walk bodies waiting ids)
told_on P arena all [] walk bodies waiting low whole have within increase same holds keeps = tt
told_on P arena all (id ∷ ids) walk bodies waiting low whole have within increase same holds keeps =
    let class = item_class arena id in
    let stands = around_of bodies waiting in
    let after = waiting_behind class walk.place waiting in
    let opened = opened_head walk stands bodies id class in
    let p : walk.place + 0 ≡ walk.place = omega arith in
    let at : id ≡ get_or all walk.place 0 = same 0 (omega arith) ∙ ap (λ k. get_or all k 0) p in
    let has : P id = subst (λ x. P x) (sym at) (have walk.place 0 (omega (arith, within))) in
    let is : AreAll P all walk.place id = record { increase = whole; have = have; below = omega (arith, within); at = at } in
    let opens = λ (head : Head) (e : opened ≡ Some head). opened_on P all walk stands bodies id low class head increase.0 is keeps e in
    by_reads (reading arena walk stands id class) (reads_on P arena all walk stands bodies id low class increase.0 has at keeps)
    (λ next one on none.
    let past = walk_behind next bodies after opened id in
    let place : past.place ≡ walk.place + 1 = behind_place next bodies after opened id ∙ one in
    told_on P arena all ids past (bodies_behind bodies after opened) after (id + 1) whole have (omega (arith, place, within)) increase.1
    (λ k below. let e : walk.place + suc k ≡ past.place + k = omega (arith, place) in same (suc k) (omega (arith, below)) ∙ ap (λ j. get_or all j 0) e)
    (holds_on walk bodies waiting id class holds)
    (past_on P all next bodies after opened id low increase.0 has (λ gone. none (left_at class walk.place bodies waiting holds gone)) keeps.stand (λ head e. (opens head e).1) on))
  where
    by_reads : (read : Reading) → Reads P all walk bodies id (item_class arena id) read
        → ((next : Walk) → next.place ≡ walk.place + 1 → Keeps P all next bodies (id + 1) → (is_bracket (item_class arena id) ≡ true → next.asked ≡ None)
        → EndsAtPlace P all (next_end arena (walk_past arena walk bodies waiting id next (waiting_behind (item_class arena id) walk.place waiting)) (bodies_past arena walk bodies waiting id (waiting_behind (item_class arena id) walk.place waiting))
        (waiting_behind (item_class arena id) walk.place waiting) ids))
        → EndsAtPlace P all (by_reading arena walk (around_of bodies waiting) bodies (waiting_behind (item_class arena id) walk.place waiting) id ids read)
    by_reads (EndsOutside count) told on = λ place e. absurd (none_some place e)
    by_reads (EndsInBody count) told on = λ place e. subst (λ (p : Place). IsPlace P p (get_or all count 0)) (some_is (place_behind walk bodies) place e) told
    by_reads Never told on = tt
    by_reads (GoesOn next) told on = on next told.0 told.1 told.2

-- ## The first item

one_has : (P : ℕ → Type 0) (x : ℕ) → P x → All P (x ∷ [])
one_has P x has zero d below = has
one_has P x has (suc k) d below = absurd (omega (arith, below))

opened_have : (P : ℕ → Type 0) (opened : Option ℕ) → ((x : ℕ) → opened ≡ Some x → P x) → All P (opened_items opened)
opened_have P None has = λ k d below. absurd (omega (arith, below))
opened_have P (Some x) has = one_has P x (has x refl)

items_have : (P : ℕ → Type 0) (place : Place) (id : ℕ) → IsPlace P place id → All P (items_of_place place)
items_have P place id is =
    All-append P (head_items place.heads) (opened_items place.opened ++ place.ended ∷ []) is.heads (All-append P (opened_items place.opened) (place.ended ∷ []) (opened_have P place.opened is.opened) (one_has P place.ended is.ended))

first_have : (P : ℕ → Type 0) (xs ys : List ℕ) → All P (xs ++ ys) → All P xs
first_have P xs ys have = λ k d below. (let all = length-append xs ys in subst (λ x. P x) (get_or-append xs ys d k below) (have k d (omega (arith, below, all))))

increase_from : (low d : ℕ) (ids : List ℕ) → low < get_or ids 0 d → Increase ids → IncreaseFrom (low + 1) ids
increase_from low d [] after increase = tt
increase_from low d (id ∷ ids) after increase = (omega (arith, after), increase.1)

-- a part that begins with these items ends in no body, or at a place of one
place_told : (P : ℕ → Type 0) (arena : Contents) (begins : Option Place) (ids : List ℕ) (d : ℕ) → Increase ids → ForSome begins (λ place. StandsBefore place (get_or ids 0 d)) → All P (items_before begins) → All P ids → EndsAtPlace P ids (end_of_part arena begins ids)
place_told P arena None ids d increase stands before have = told_on P arena ids ids (start None) [] [] 0 increase have (omega arith) increase (λ k below. ap (λ j. get_or ids j 0) (omega arith)) (holds_start []) (record {
  begun = tt;
  stand = tt;
  few = omega arith;
  last = record { block = λ opened e. absurd (none_some opened e); ended = λ e. absurd (false_true e) };
  asked = λ count ends e. absurd (none_some count e);
})
place_told P arena (Some place) ids d increase stands before have =
    let is = stands place refl in
    let end = is.ended in
    let few = is.few in
    let len = heads_len-reverse place.heads in
    let bodies = reverse place.heads in
    let stand = bodies_so P place.heads is.stand (first_have P (head_items place.heads) (opened_items place.opened ++ place.ended ∷ []) before) in
    let low = end_low P bodies (heads_end 0 place.heads) stand in
    told_on P arena ids ids (start (Some place)) bodies (waiting_at (Some place)) (place.ended + 1) increase have (omega arith) (increase_from place.ended d ids is.before increase) (λ k below. ap (λ j. get_or ids j 0) (omega arith)) (holds_start place.heads) (record {
      begun = tt;
      stand = stand_before P bodies (heads_end 0 place.heads) (place.ended + 1) (omega (arith, low, end)) stand;
      few = omega (arith, few, len);
      last = record { block = λ opened e. absurd (none_some opened e); ended = λ e. absurd (false_true e) };
      asked = λ count ends e. absurd (none_some count e);
    })

-- ## The place

-- What all items of a part and those before it have, those have that stand for the place where it ends.
pub places_have : (P : ℕ → Type 0) (arena : Contents) (begins : Option Place) (ids : List ℕ) (d : ℕ) → Increase ids → ForSome begins (λ place. StandsBefore place (get_or ids 0 d)) → All P (items_before begins) → All P ids
    → All P (items_before (part_inside arena begins ids))
places_have P arena begins ids d increase stands before have = by_end (end_of_part arena begins ids) (place_told P arena begins ids d increase stands before have)
  where
    none : All P []
    none = λ k d below. absurd (omega (arith, below))

    by_place : (inside : Option Place) (id : ℕ) → ((place : Place) → inside ≡ Some place → IsPlace P place id) → All P (items_before inside)
    by_place None id told = none
    by_place (Some place) id told = items_have P place id (told place refl)

    by_end : (end : Option Ended) → EndsAtPlace P ids end → All P (items_before (inside_of end))
    by_end None told = none
    by_end (Some ended) told = by_place ended.inside (get_or ids ended.count 0) told

-- They stand before the item behind the part.
pub stands_before : (arena : Contents) (begins : Option Place) (ids : List ℕ) (d : ℕ) → Increase ids → ForSome begins (λ place. StandsBefore place (get_or ids 0 d))
    → ForSome (part_inside arena begins ids) (λ place. StandsBefore place (get_or ids (part_len arena begins ids) d))
stands_before arena begins ids d increase stands =
    by_end (end_of_part arena begins ids) (end_fits arena begins ids (headed begins stands)) (inside_headed arena begins ids) (place_told (λ n. ⊤) arena begins ids d increase stands (λ k e below. tt) (λ k e below. tt))
  where
    headed : (begins : Option Place) → ForSome begins (λ place. StandsBefore place (get_or ids 0 d)) → HasHeads begins
    headed None stands = tt
    headed (Some place) stands = (stands place refl).some

    by_end : (end : Option Ended) → IsEnd (length ids) end → HasHeads (inside_of end) → EndsAtPlace (λ n. ⊤) ids end → ForSome (inside_of end) (λ place. StandsBefore place (get_or ids (count_or end (length ids)) d))
    by_end None fit has told = λ place e. absurd (none_some place e)
    by_end (Some ended) fit has told = λ place e.
        let same : get_or ids ended.count 0 ≡ get_or ids ended.count d = get_or_default ids ended.count 0 d fit.1 in
        subst (λ n. StandsBefore place n) same ((told place e).before (subst (λ (o : Option Place). HasHeads o) e has))
