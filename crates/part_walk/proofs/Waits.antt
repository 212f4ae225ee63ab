-- The openers that wait behind a token of a part.
use Rattle.std.proofs.Common.{◌≡◌, ◌∙◌, ℕ, suc, ◌+◌, ◌<◌, ◌≤◌, Bool, true, false, Option, Some, None, List, [], ◌∷◌, ◌++◌, length, take, reverse, get_or, refl, sym, ap, subst, arith}
use Rattle.std.specs.Prelude.{if◌then◌else◌}
use Rattle.std.proofs.lemmas.List.{reverse-append, take_more}
use Rattle.token_classes.specs.declared.class.TokenClass.{TokenClass}
use Rattle.token_classes.specs.declared.class.TokenClass.TheVariants.{OpenRound, CloseRound, OpenSquare, CloseSquare, OpenBrace, CloseBrace}
use Rattle.token_classes.specs.Classes.{is_opener, is_open_brace}
use Rattle.token_classes.specs.declared.pairing.Opener.{Opener}
use Rattle.token_classes.specs.Partners.{Matching, Nearest, StandBefore, TakesStep, bracket_step, closed, count_braces, is_round, is_square, nearest_brace, topmost}
use Rattle.part_walk.specs.declared.walk.Around.{Around}
use Rattle.part_walk.specs.declared.bodies.BodyKind.TheVariants.{Function}
use Rattle.part_walk.specs.declared.bodies.Head.{Head}
use Rattle.part_walk.specs.Brackets.{around_of, braces_of, waiting_behind}

pub reverse_last : (xs ys : List Opener) (x : Opener) → ys ≡ xs ++ x ∷ [] → reverse ys ≡ x ∷ reverse xs
reverse_last xs ys x e = rw (e, reverse-append) refl

pub pushed_before : (n : ℕ) (o : Opener) (old new : List Opener) → o.place < n → new ≡ old ++ o ∷ [] → StandBefore n (reverse old) → StandBefore n (reverse new)
pushed_before n o old new low e stand = subst (λ (os : List Opener). StandBefore n os) (sym (reverse_last old new o e)) (low, stand)

pub opener_waits : (class : TokenClass) (place : ℕ) (waiting : List Opener) → is_opener class ≡ true → record { place = place + 1; kind = class } ∷ waiting ≡ waiting_behind class place waiting
opener_waits OpenRound place waiting e = refl
opener_waits OpenSquare place waiting e = refl
opener_waits OpenBrace place waiting e = refl
opener_waits _ place waiting e = cc

-- how many `{` wait behind an opener
pub opener_counts : (class : TokenClass) (place braces made : ℕ) (old new : List Opener) → new ≡ record { place = place; kind = class } ∷ old → braces ≡ count_braces old → made ≡ (if is_open_brace class then braces + 1 else braces) → made ≡ count_braces new
opener_counts class place braces made old new is count makes = (makes ∙ by_class class) ∙ ap (λ (os : List Opener). count_braces os) (sym is)
  where
    by_class : (class : TokenClass) → (if is_open_brace class then braces + 1 else braces) ≡ count_braces (record { place = place; kind = class } ∷ old)
    by_class OpenBrace = omega (arith, count)
    by_class _ = count

pub opener_small : (brace : Bool) (braces made id : ℕ) → made ≡ (if brace then braces + 1 else braces) → braces ≤ id + 1 → made ≤ id + 2
opener_small true braces made id makes small = omega (arith, makes, small)
opener_small false braces made id makes small = omega (arith, makes, small)

-- what a closer leaves is the same wherever it stands
pub closer_waits : (class : TokenClass) (place later : ℕ) (old new : List Opener) (taken : Option ℕ) → is_opener class ≡ false → TakesStep class later old taken new → new ≡ waiting_behind class place old
closer_waits class place later old new taken closes step = ap (λ (m : Matching). m.open_brackets) (step []) ∙ same class closes
  where
    before : Matching
    before = record { open_brackets = old; partners = [] }

    by_taken : (found : Option Nearest) → (closed later found before).open_brackets ≡ (closed (place + 1) found before).open_brackets
    by_taken None = refl
    by_taken (Some o) = refl

    same : (class : TokenClass) → is_opener class ≡ false → (bracket_step class later before).open_brackets ≡ (bracket_step class (place + 1) before).open_brackets
    same OpenRound e = cc
    same OpenSquare e = cc
    same OpenBrace e = cc
    same CloseRound e = by_taken (topmost is_round old)
    same CloseSquare e = by_taken (topmost is_square old)
    same CloseBrace e = by_taken (nearest_brace old)
    same _ e = refl

pub more_before : (n later : ℕ) (waiting : List Opener) → n ≤ later → StandBefore n waiting → StandBefore later waiting
more_before n later [] low stand = tt
more_before n later (o ∷ waiting) low stand = (let q = stand.0 in omega (arith, q, low), more_before n later waiting low stand.1)

-- the slices that the code reads hold what was kept
pub stands_so : (stands : Around) (heads bodies : List Head) (openers waiting : List Opener) → stands ≡ around_of (reverse heads) (reverse openers) → heads ≡ bodies → openers ≡ waiting
    → stands ≡ around_of (reverse bodies) (reverse waiting)
stands_so stands heads bodies openers waiting is same all =
    is ∙ (ap (λ (hs : List Head). around_of (reverse hs) (reverse openers)) same ∙ ap (λ (os : List Opener). around_of (reverse bodies) (reverse os)) all)

-- ## Where a part begins

abbrev pub brace : Opener
brace = record { place = 0; kind = OpenBrace }

pub braces_more : (heads : List Head) (k : ℕ) → k < length heads → braces_of (take k heads) ++ record { place = 0; kind = OpenBrace } ∷ [] ≡ braces_of (take (k + 1) heads)
braces_more heads k below =
    let none : Head = record { first = 0; end = 0; kind = Function } in
    sym (braces_last (take k heads) (get_or heads k none)) ∙ ap (λ (hs : List Head). braces_of hs) (sym (take_more heads k none below))
  where
    braces_last : (heads : List Head) (head : Head) → braces_of (heads ++ head ∷ []) ≡ braces_of heads ++ brace ∷ []
    braces_last [] head = refl
    braces_last (h ∷ heads) head = ap (λ (os : List Opener). brace ∷ os) (braces_last heads head)

pub braces_many : (heads : List Head) → length (braces_of heads) ≡ length heads
braces_many [] = refl
braces_many (head ∷ heads) = ap (λ n. suc n) (braces_many heads)
