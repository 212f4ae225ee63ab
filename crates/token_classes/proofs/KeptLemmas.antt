-- Lemmas on gaps that are kept.
use Rattle.std.proofs.Common.{◌≡◌, suc, ◌<◌, ◌≤◌, ◌-◌, Bool, true, false, ◌&&◌, nat_lt, List, [], ◌∷◌, reverse, length, get_or, Some, refl, arith, subst, sym, ap, ◌∙◌, inl, inr}
use Rattle.std.specs.Prelude.{slice_set, slice_get, if◌then◌else◌}
use Rattle.std.specs.List.{list_any}
use Rattle.std.proofs.lemmas.List.{length-reverse, get_or-reverse}
use Rattle.std.proofs.Math.Nat.{sub-zero}
use Rattle.std.proofs.lemmas.Option.{get_or_from_slice_get}
use Rattle.std.proofs.lemmas.Bool.{lt-ltb, cases_Bool}
use Rattle.std.proofs.lemmas.Bool.Decides.{nat_tests}
use Rattle.token_classes.specs.declared.pairing.Opener.{Opener}
use Rattle.token_classes.specs.declared.class.TokenClass.{TokenClass}
use Rattle.token_classes.specs.declared.class.TokenClass.TheVariants.{OpenBrace}
use Rattle.token_classes.specs.Classes.{is_open_brace}
use Rattle.token_classes.specs.Partners.{count_braces, is_brace}
use Rattle.token_classes.specs.Kept.{AreOpeners, is_round_or_square, marked}

-- The topmost opener

same_class : (c : TokenClass) → (elim c [ OpenBrace ↦ true | _ ↦ false ]) ≡ is_open_brace c
same_class OpenBrace = refl
same_class _ = refl

pub same_brace : (o : Opener) → is_brace o ≡ is_open_brace o.kind
same_brace o = same_class o.kind

pub braces_with : (o : Opener) (os : List Opener) → is_open_brace o.kind ≡ true → count_braces (o ∷ os) ≡ suc (count_braces os)
braces_with o os e = rw (same_brace o ∙ e, count_braces) refl

pub braces_without : (o : Opener) (os : List Opener) → is_open_brace o.kind ≡ false → count_braces (o ∷ os) ≡ count_braces os
braces_without o os e = rw (same_brace o ∙ e, count_braces) refl

pub few_braces : (os : List Opener) → count_braces os ≤ length os
few_braces [] = omega arith
few_braces (o ∷ os) = elim (cases_Bool (is_open_brace o.kind)) [
  | inl y ↦ omega (arith, braces_with o os y, few_braces os)
  | inr n ↦ omega (arith, braces_without o os n, few_braces os)
]

-- among openers there is one that is no brace where there are fewer braces than openers
pub some_no_brace : (os : List Opener) → AreOpeners os → list_any is_round_or_square os ≡ nat_lt (count_braces os) (length os)
some_no_brace [] h = refl
some_no_brace (o ∷ os) h = elim (cases_Bool (is_open_brace o.kind)) [
  | inl y ↦ rw (h.0, y, some_no_brace os h.1, braces_with o os y) (grind (arith, nat_tests))
  | inr n ↦ rw (h.0, n, braces_without o os n) (sym (lt-ltb (count_braces os) (suc (length os)) (omega (arith, few_braces os))))
]

-- the last opener of the code's stack is the topmost one
pub record Topmost (xs : List Opener) (o : Opener) : Type 0 where
  pub below : List Opener
  pub same : reverse xs ≡ o ∷ below

top_from : (xs : List Opener) (o : Opener) → 0 < length xs → Some o ≡ slice_get xs (length xs - 1) → (r : List Opener) → reverse xs ≡ r → Topmost xs o
top_from xs o some e [] q = absurd (omega (arith, length-reverse xs, ap length q))
top_from xs o some e (y ∷ below) q =
    let last : get_or xs (length xs - 1 - 0) o ≡ o = rw sub-zero (get_or_from_slice_get xs (length xs - 1) o o (sym e)) in
    let first : y ≡ o = ap (λ l. get_or l 0 o) (sym q) ∙ get_or-reverse xs 0 o some ∙ last in
    record { below = below; same = q ∙ ap (λ z. z ∷ below) first }

pub top_of : (xs : List Opener) (o : Opener) → Some o ≡ slice_get xs (length xs - 1) → Topmost xs o
top_of [] o e = cc
top_of (x ∷ xs) o e = top_from (x ∷ xs) o (omega arith) e (reverse (x ∷ xs)) refl

-- the test of the topmost opener, by counts
below_test : (o : Opener) (below : List Opener) → AreOpeners below
    → (is_open_brace o.kind && list_any is_round_or_square below) ≡ (is_open_brace o.kind && nat_lt (count_braces (o ∷ below)) (length (o ∷ below)))
below_test o below h = elim (cases_Bool (is_open_brace o.kind)) [
  | inl y ↦ rw (y, some_no_brace below h, braces_with o below y) (grind (arith, nat_tests))
  | inr n ↦ rw n refl
]

pub marked_top : (stack : List Opener) (o : Opener) (marks : List Bool) → Some o ≡ slice_get stack (length stack - 1) → AreOpeners (reverse stack)
    → marked (reverse stack) marks ≡ (if is_open_brace o.kind && nat_lt (count_braces (reverse stack)) (length stack) then slice_set marks o.place true else marks)
marked_top stack o marks e h =
    let t = top_of stack o e in
    let openers : AreOpeners (o ∷ t.below) = (let P : List Opener → Type 0 = λ l. AreOpeners l in subst P t.same h) in
    rw (← length-reverse stack, t.same, below_test o t.below openers.1) refl

pub no_top : (stack : List Opener) (marks : List Bool) → length stack ≤ 0 → marks ≡ marked (reverse stack) marks
no_top [] marks e = refl
no_top (x ∷ xs) marks e = absurd (omega arith)
