-- The `{` of bodies among the openers that wait behind the tokens of a part.
use Rattle.std.proofs.Common.{◌≡◌, ◌∙◌, ◌⊎◌, inl, inr, ℕ, zero, suc, ◌+◌, ◌-◌, ◌<◌, ◌≤◌, Bool, true, false, ◌==◌, nat_le, ◌&&◌, Option, Some, None, List, [], ◌∷◌, ◌++◌, length, reverse, refl, sym, ap, subst, arith}
use Rattle.std.specs.Prelude.{⊤, if◌then◌else◌, replicate}
use Rattle.std.proofs.lemmas.Bool.{eqb-true, ltb-true, ltb-false}
use Rattle.std.proofs.lemmas.Bool.Decides.{nat_tests}
use Rattle.std.proofs.lemmas.List.{length-reverse}
use Rattle.std.proofs.lemmas.Grind.{replicate_next}
use Rattle.token_classes.specs.declared.class.TokenClass.{TokenClass}
use Rattle.token_classes.specs.declared.class.TokenClass.TheVariants.{OpenRound, CloseRound, OpenSquare, CloseSquare, OpenBrace, CloseBrace}
use Rattle.token_classes.specs.Classes.{is_open_brace}
use Rattle.token_classes.specs.declared.pairing.Opener.{Opener}
use Rattle.token_classes.specs.Partners.{Matching, Nearest, StandBefore, closed, count_braces, is_brace, is_round, is_square, nearest_brace, topmost}
use Rattle.part_walk.specs.declared.walk.Around.{Around}
use Rattle.part_walk.specs.declared.walk.Around.TheVariants as around
use Rattle.part_walk.specs.declared.walk.Begun.{Begun}
use Rattle.part_walk.specs.declared.walk.Begun.TheVariants.{Unknown, With, Behind}
use Rattle.part_walk.specs.declared.bodies.BodyKind.{BodyKind}
use Rattle.part_walk.specs.declared.bodies.Head.{Head}
use Rattle.part_walk.specs.declared.walk.Walk.{Walk}
use Rattle.part_walk.specs.Walk.{begun_before, body_kind, head_from, head_of_kind, heads_len, opened_head}
use Rattle.part_walk.specs.Brackets.{around_of, bodies_behind, braces_of, is_left, waiting_behind, without_innermost}
use Rattle.view_parts.specs.Parts.{Stand, StandsBefore, heads_end}
use Rattle.part_walk.specs.Places.{Place}
use Rattle.part_walk.proofs.Waits.{brace, braces_many, reverse_last}

differ : true ≡ false → ⊥
differ e = cc

-- ## Which openers are theirs

abbrev pub AreBraces : List Opener → Type 0
AreBraces [] = ⊤
AreBraces (opener ∷ below) = (is_brace opener ≡ true) × AreBraces below

-- the `{` of so many bodies wait below all other openers
abbrev pub BodiesWaitBelow : ℕ → List Opener → Type 0
BodiesWaitBelow zero waiting = ⊤
BodiesWaitBelow (suc n) [] = ⊥
BodiesWaitBelow (suc n) (o ∷ below) = BodiesWaitBelow (suc n) below ⊎ ((is_brace o ≡ true) × (length below ≡ n) × BodiesWaitBelow n below)

holds_many : (n : ℕ) (waiting : List Opener) → BodiesWaitBelow n waiting → n ≤ length waiting
holds_many zero waiting holds = omega arith
holds_many (suc n) [] holds = absurd holds
holds_many (suc n) (o ∷ below) holds =
    elim holds [
      | inl up ↦ (let many = holds_many (suc n) below up in omega (arith, many))
      | inr at ↦ (let many = at.1 in omega (arith, many))
    ]

holds_pushed : (n : ℕ) (o : Opener) (waiting : List Opener) → BodiesWaitBelow n waiting → BodiesWaitBelow n (o ∷ waiting)
holds_pushed zero o waiting holds = tt
holds_pushed (suc n) o waiting holds = inl holds

holds_below : (n : ℕ) (o : Opener) (below : List Opener) → is_brace o ≡ false → BodiesWaitBelow n (o ∷ below) → BodiesWaitBelow n below
holds_below zero o below other holds = tt
holds_below (suc n) o below other holds =
    elim holds [
      | inl up ↦ up
      | inr at ↦ absurd (differ (sym at.0 ∙ other))
    ]

below_is : (a b : Nearest) → Some a ≡ Some b → a.below ≡ b.below
below_is a b e = ap (λ (o : Nearest). o.below) (same a b e)
  where
    same : (a b : Nearest) → Some a ≡ Some b → a ≡ b
    same a b e = cc

-- behind a token: all of them wait, or all but one
abbrev Leaves : ℕ → List Opener → Type 0
Leaves n after = ((n ≤ length after) × BodiesWaitBelow n after) ⊎ ((length after < n) × BodiesWaitBelow (n - 1) after)

leaves_all : (n : ℕ) (after : List Opener) → BodiesWaitBelow n after → Leaves n after
leaves_all n after holds = inl (holds_many n after holds, holds)

leaves_nearest : (n : ℕ) (waiting below : List Opener) (place : ℕ) → nearest_brace waiting ≡ Some (record { place = place; below = below }) → BodiesWaitBelow n waiting → Leaves n below
leaves_nearest zero waiting below place is holds = inl (omega arith, tt)
leaves_nearest (suc n) [] below place is holds = absurd holds
leaves_nearest (suc n) (o ∷ rest) below place is holds = by_kind (is_brace o) refl is (λ found up. leaves_nearest (suc n) rest below place found up)
  where
    by_kind : (brace : Bool) → is_brace o ≡ brace
        → ◌≡◌ {A = Option Nearest} (elim brace [ true ↦ Some (record { place = o.place; below = rest }) | false ↦ nearest_brace rest ]) (Some (record { place = place; below = below }))
        → (nearest_brace rest ≡ Some (record { place = place; below = below }) → BodiesWaitBelow (suc n) rest → Leaves (suc n) below) → Leaves (suc n) below
    by_kind true e found on =
        let same : rest ≡ below = below_is _ _ found in
        elim holds [
          | inl up ↦ leaves_all (suc n) below (subst (λ (os : List Opener). BodiesWaitBelow (suc n) os) same up)
          | inr at ↦
              let many = at.1 in
              let less : length below ≡ n = ap (λ (os : List Opener). length os) (sym same) ∙ many in
              let one : n ≡ suc n - 1 = omega arith in
              inr (omega (arith, less), subst (λ k. BodiesWaitBelow k below) one (subst (λ (os : List Opener). BodiesWaitBelow n os) same at.2))
        ]
    by_kind false e found on =
        elim holds [
          | inl up ↦ on found up
          | inr at ↦ absurd (differ (sym at.0 ∙ e))
        ]

leaves_topmost : (fits : Opener → Bool) → ((o : Opener) → fits o ≡ true → is_brace o ≡ false) → (n : ℕ) (waiting below : List Opener) (place : ℕ) → topmost fits waiting ≡ Some (record { place = place; below = below }) → BodiesWaitBelow n waiting → Leaves n below
leaves_topmost fits none n [] below place is holds = cc
leaves_topmost fits none n (o ∷ rest) below place is holds = by_kind (fits o) refl is
  where
    by_kind : (fit : Bool) → fits o ≡ fit → ◌≡◌ {A = Option Nearest} (elim fit [ true ↦ Some (record { place = o.place; below = rest }) | false ↦ None ]) (Some (record { place = place; below = below })) → Leaves n below
    by_kind true e found =
        let same : rest ≡ below = below_is _ _ found in
        leaves_all n below (subst (λ (os : List Opener). BodiesWaitBelow n os) same (holds_below n o rest (none o e) holds))
    by_kind false e found = cc

leaves_step : (class : TokenClass) (place n : ℕ) (waiting : List Opener) → BodiesWaitBelow n waiting → Leaves n (waiting_behind class place waiting)
leaves_step class place n waiting holds = by_class class
  where
    before : Matching
    before = record { open_brackets = waiting; partners = [] }

    by_taken : (found : Option Nearest) → ((o : Nearest) → found ≡ Some o → Leaves n o.below) → Leaves n (closed (place + 1) found before).open_brackets
    by_taken None leaves = leaves_all n waiting holds
    by_taken (Some o) leaves = leaves o refl

    no_round : (o : Opener) → is_round o ≡ true → is_brace o ≡ false
    no_round o e = by_kind o.kind e
      where
        by_kind : (kind : TokenClass) → (elim kind [ OpenRound ↦ true | _ ↦ false ]) ≡ true → (elim kind [ OpenBrace ↦ true | _ ↦ false ]) ≡ false
        by_kind OpenBrace e = cc
        by_kind _ e = refl

    no_square : (o : Opener) → is_square o ≡ true → is_brace o ≡ false
    no_square o e = by_kind o.kind e
      where
        by_kind : (kind : TokenClass) → (elim kind [ OpenSquare ↦ true | _ ↦ false ]) ≡ true → (elim kind [ OpenBrace ↦ true | _ ↦ false ]) ≡ false
        by_kind OpenBrace e = cc
        by_kind _ e = refl

    by_class : (class : TokenClass) → Leaves n (waiting_behind class place waiting)
    by_class OpenRound = leaves_all n _ (holds_pushed n _ waiting holds)
    by_class OpenSquare = leaves_all n _ (holds_pushed n _ waiting holds)
    by_class OpenBrace = leaves_all n _ (holds_pushed n _ waiting holds)
    by_class CloseRound = by_taken (topmost is_round waiting) (λ o is. leaves_topmost is_round no_round n waiting o.below o.place is holds)
    by_class CloseSquare = by_taken (topmost is_square waiting) (λ o is. leaves_topmost is_square no_square n waiting o.below o.place is holds)
    by_class CloseBrace = by_taken (nearest_brace waiting) (λ o is. leaves_nearest n waiting o.below o.place is holds)
    by_class _ = leaves_all n waiting holds

-- the body that is left is the innermost
settled : (bodies : List Head) (after : List Opener) → Leaves (length bodies) after → BodiesWaitBelow (length (if is_left bodies after then without_innermost bodies else bodies)) after
settled bodies after leaves = by_test (is_left bodies after) refl leaves
  where
    fewer : (bodies : List Head) → length bodies - 1 ≡ length (without_innermost bodies)
    fewer [] = omega arith
    fewer (head ∷ bodies) = omega arith

    by_test : (gone : Bool) → is_left bodies after ≡ gone → Leaves (length bodies) after → BodiesWaitBelow (length (if gone then without_innermost bodies else bodies)) after
    by_test true e leaves =
        elim leaves [
          | inl all ↦ (let less = ltb-true (length after) (length bodies) e in let many = all.0 in absurd (omega (arith, less, many)))
          | inr one ↦ subst (λ n. BodiesWaitBelow n after) (fewer bodies) one.1
        ]
    by_test false e leaves =
        elim leaves [
          | inl all ↦ all.1
          | inr one ↦ (let many = ltb-false (length after) (length bodies) e in let less = one.0 in absurd (omega (arith, less, many)))
        ]

-- ## Bodies that begin

-- a body is opened by a `{` that stands in no other group
pub opens_so : (walk : Walk) (stands : Around) (bodies : List Head) (id : ℕ) (class : TokenClass) (head : Head) → opened_head walk stands bodies id class ≡ Some head
    → (is_open_brace class ≡ true) × (stands ≡ around.Group → ⊥)
opens_so walk stands bodies id class head is = by_brace (is_open_brace class) refl is
  where
    by_stands : (stands : Around) → head_of_kind (body_kind walk stands) (begun_before walk stands id) walk.place id (heads_len bodies) ≡ Some head
        → stands ≡ around.Group → ⊥
    by_stands around.Outside is group = cc
    by_stands around.Body is group = cc
    by_stands around.Group is group = cc

    by_brace : (brace : Bool) → is_open_brace class ≡ brace
        → (if brace then head_of_kind (body_kind walk stands) (begun_before walk stands id) walk.place id (heads_len bodies) else None) ≡ Some head
        → (is_open_brace class ≡ true) × (stands ≡ around.Group → ⊥)
    by_brace true brace is = (brace, by_stands stands is)
    by_brace false brace is = cc

pub opens_within : (walk : Walk) (bodies : List Head) (waiting : List Opener) (id : ℕ) (class : TokenClass) (head : Head) → BodiesWaitBelow (length bodies) waiting → opened_head walk (around_of bodies waiting) bodies id class ≡ Some head
    → length waiting ≡ length bodies
opens_within walk bodies [] id class head holds is = (let many = holds_many (length bodies) [] holds in omega (arith, many))
opens_within walk bodies (o ∷ waiting) id class head holds is = by_test (suc (length waiting) == length bodies) refl is
  where
    by_test : (same : Bool) → (suc (length waiting) == length bodies) ≡ same → opened_head walk (if same then around.Body else around.Group) bodies id class ≡ Some head → suc (length waiting) ≡ length bodies
    by_test true e is = eqb-true (suc (length waiting)) (length bodies) e
    by_test false e is = absurd ((opens_so walk around.Group bodies id class head is).1 refl)

-- the `{` of the bodies that are open wait below the others
pub holds_on : (walk : Walk) (bodies : List Head) (waiting : List Opener) (id : ℕ) (class : TokenClass) → BodiesWaitBelow (length bodies) waiting
    → BodiesWaitBelow (length (bodies_behind bodies (waiting_behind class walk.place waiting) (opened_head walk (around_of bodies waiting) bodies id class))) (waiting_behind class walk.place waiting)
holds_on walk bodies waiting id class holds = by_opened (opened_head walk (around_of bodies waiting) bodies id class) refl
  where
    of_brace : (class : TokenClass) → is_open_brace class ≡ true → length waiting ≡ length bodies → BodiesWaitBelow (suc (length bodies)) (waiting_behind class walk.place waiting)
    of_brace OpenBrace e many = inr (refl, many, holds)
    of_brace _ e many = cc

    by_opened : (opened : Option Head) → opened_head walk (around_of bodies waiting) bodies id class ≡ opened → BodiesWaitBelow (length (bodies_behind bodies (waiting_behind class walk.place waiting) opened)) (waiting_behind class walk.place waiting)
    by_opened None is = settled bodies (waiting_behind class walk.place waiting) (leaves_step class walk.place (length bodies) waiting holds)
    by_opened (Some head) is = of_brace class (opens_so walk (around_of bodies waiting) bodies id class head is).0 (opens_within walk bodies waiting id class head holds is)

-- where they alone wait, all are a `{`
pub all_braces : (waiting : List Opener) → BodiesWaitBelow (length waiting) waiting → AreBraces waiting
all_braces [] holds = tt
all_braces (o ∷ below) holds =
    elim holds [
      | inl up ↦ (let many = holds_many (suc (length below)) below up in absurd (omega (arith, many)))
      | inr at ↦ (at.0, all_braces below at.2)
    ]

pub none_left : (bodies : List Head) (waiting : List Opener) → BodiesWaitBelow (length bodies) waiting → is_left bodies waiting ≡ false
none_left bodies waiting holds = by_test (is_left bodies waiting) refl
  where
    by_test : (gone : Bool) → is_left bodies waiting ≡ gone → gone ≡ false
    by_test true e = (let less = ltb-true (length waiting) (length bodies) e in let many = holds_many (length bodies) waiting holds in absurd (omega (arith, less, many)))
    by_test false e = refl

-- ## Their heads

opened_few : (walk : Walk) (stands : Around) (bodies : List Head) (id : ℕ) (class : TokenClass) (head : Head) → opened_head walk stands bodies id class ≡ Some head → heads_len (head ∷ bodies) ≤ 64
opened_few walk stands bodies id class head is = by_brace (is_open_brace class) is
  where
    count : ℕ
    count = heads_len bodies

    by_token : (begun place : ℕ) (kind : BodyKind) (row few : Bool) → nat_le (count + (id + 1 - begun)) 64 ≡ few
        → (if row && few then Some (record { first = begun; end = id + 1; kind = kind }) else None) ≡ Some head → head.end - head.first + count ≤ 64
    by_token begun place kind false few t e = cc
    by_token begun place kind true false t e = cc
    by_token begun place kind true true t e =
        let first : begun ≡ head.first = cc in
        let end : id + 1 ≡ head.end = cc in
        let low : count + (id + 1 - begun) ≤ 64 = grind (arith, nat_tests, t) in
        omega (arith, first, end, low)

    by_head : (h : Head) (few : Bool) → nat_le (count + (h.end - h.first)) 64 ≡ few → (if few then Some h else None) ≡ Some head → head.end - head.first + count ≤ 64
    by_head h false t e = cc
    by_head h true t e =
        let same : h ≡ head = cc in
        let low : count + (h.end - h.first) ≤ 64 = grind (arith, nat_tests, t) in
        let first = ap (λ (x : Head). x.first) same in
        let end = ap (λ (x : Head). x.end) same in
        omega (arith, first, end, low)

    by_begun : (begun : Begun) (kind : BodyKind) → head_from begun walk.place id kind count ≡ Some head → head.end - head.first + count ≤ 64
    by_begun Unknown kind e = cc
    by_begun (Behind h) kind e = by_head h (nat_le (count + (h.end - h.first)) 64) refl e
    by_begun (With token) kind e = by_tests (nat_le token.id id) (token.id + walk.place == id + token.place) (nat_le (count + (id + 1 - token.id)) 64) refl e
      where
        by_tests : (low row few : Bool) → nat_le (count + (id + 1 - token.id)) 64 ≡ few → (if low && row && few then Some (record { first = token.id; end = id + 1; kind = kind }) else None) ≡ Some head → head.end - head.first + count ≤ 64
        by_tests false row few t e = cc
        by_tests true false few t e = cc
        by_tests true true few t e = by_token token.id token.place kind true few t e

    by_kind : (kind : Option BodyKind) → head_of_kind kind (begun_before walk stands id) walk.place id count ≡ Some head → head.end - head.first + count ≤ 64
    by_kind None e = cc
    by_kind (Some kind) e = by_begun (begun_before walk stands id) kind e

    by_brace : (brace : Bool) → (if brace then head_of_kind (body_kind walk stands) (begun_before walk stands id) walk.place id count else None) ≡ Some head → head.end - head.first + count ≤ 64
    by_brace false e = cc
    by_brace true e = by_kind (body_kind walk stands) e

-- the bodies that are open have few items in their heads
pub few_on : (walk : Walk) (stands : Around) (bodies : List Head) (id : ℕ) (class : TokenClass) (after : List Opener) → heads_len bodies ≤ 64 → heads_len (bodies_behind bodies after (opened_head walk stands bodies id class)) ≤ 64
few_on walk stands bodies id class after few = by_opened (opened_head walk stands bodies id class) refl
  where
    by_left : (gone : Bool) (bodies : List Head) → heads_len bodies ≤ 64 → heads_len (if gone then without_innermost bodies else bodies) ≤ 64
    by_left false bodies few = few
    by_left true [] few = few
    by_left true (head ∷ bodies) few = omega (arith, few)

    by_opened : (opened : Option Head) → opened_head walk stands bodies id class ≡ opened → heads_len (bodies_behind bodies after opened) ≤ 64
    by_opened None is = by_left (is_left bodies after) bodies few
    by_opened (Some head) is = opened_few walk stands bodies id class head is

-- ## Where a part begins

braces_are : (heads : List Head) → braces_of heads ≡ replicate (length heads) brace
braces_are [] = refl
braces_are (head ∷ heads) = ap (λ (os : List Opener). brace ∷ os) (braces_are heads)

same_turned : (n : ℕ) → reverse (replicate n brace) ≡ replicate n brace
same_turned zero = refl
same_turned (suc n) =
    let one : suc n ≡ n + 1 = omega arith in
    ap (λ (os : List Opener). reverse os) (ap (λ k. replicate k brace) one ∙ replicate_next n brace)
    ∙ (reverse_last (replicate n brace) (replicate n brace ++ brace ∷ []) brace refl ∙ ap (λ (os : List Opener). brace ∷ os) (same_turned n))

pub braces_turned : (heads : List Head) → reverse (braces_of heads) ≡ braces_of heads
braces_turned heads = ap (λ (os : List Opener). reverse os) (braces_are heads) ∙ (same_turned (length heads) ∙ sym (braces_are heads))

pub braces_count : (heads : List Head) → count_braces (braces_of heads) ≡ length heads
braces_count [] = refl
braces_count (head ∷ heads) = ap (λ n. suc n) (braces_count heads)

pub braces_before : (n : ℕ) (heads : List Head) → 0 < n → StandBefore n (braces_of heads)
braces_before n [] some = tt
braces_before n (head ∷ heads) some = (some, braces_before n heads some)

holds_first : (heads : List Head) → BodiesWaitBelow (length heads) (braces_of heads)
holds_first [] = tt
holds_first (head ∷ heads) = inr (refl, braces_many heads, holds_first heads)

pub holds_start : (heads : List Head) → BodiesWaitBelow (length (reverse heads)) (braces_of heads)
holds_start heads = subst (λ n. BodiesWaitBelow n (braces_of heads)) (sym (length-reverse heads)) (holds_first heads)

-- each head has an item
heads_low : (low : ℕ) (heads : List Head) → Stand low heads → low + length heads ≤ heads_end low heads
heads_low low [] stand = omega arith
heads_low low (head ∷ heads) stand = (let rest = heads_low head.end heads stand.2 in let here = stand.0 in let some = stand.1 in omega (arith, rest, here, some))

pub heads_before : (place : Place) (id : ℕ) → StandsBefore place id → length place.heads < id
heads_before place id stands = (let low = heads_low 0 place.heads stands.stand in let ended = stands.ended in let before = stands.before in omega (arith, low, ended, before))
