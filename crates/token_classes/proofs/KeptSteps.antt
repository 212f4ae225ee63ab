-- One token after another: the openers that wait, and the braces that are marked.
use Rattle.std.proofs.Common.{◌≡◌, ◌==◌, ℕ, ◌<◌, ◌≤◌, ◌+◌, Bool, true, false, not, ◌&&◌, ◌||◌, List, [], ◌∷◌, ◌++◌, length, get_or, map, take, drop, Option, Some, None, refl, arith, subst, sym, ap, ◌∙◌, inl, inr, add-one, get_or-set_same, get_or-set_other}
use Rattle.std.specs.Prelude.{slice_set, if◌then◌else◌}
use Rattle.std.specs.List.{list_any, range_with_len}
use Rattle.std.proofs.lemmas.List.{drop_more, get_or_default, length-take, take_more}
use Rattle.std.proofs.lemmas.List.FromFn.{fill_by_all}
use Rattle.std.proofs.Math.ListN.{length-set}
use Rattle.std.proofs.lemmas.Bool.{cases_Bool, cases_eq, eq-eqb, ne_eqb}
use Rattle.token_classes.specs.declared.pairing.Opener.{Opener}
use Rattle.token_classes.specs.declared.class.TokenClass.{TokenClass}
use Rattle.token_classes.specs.declared.class.TokenClass.TheVariants.{OpenRound, CloseRound, OpenSquare, CloseSquare, OpenBrace, CloseBrace, Nothing}
use Rattle.token_classes.specs.Classes.{is_open_brace, is_semicolon}
use Rattle.token_classes.specs.Partners.{Matching, Nearest, bracket_step, closed, is_brace, is_round, is_square, nearest_brace, topmost, matching_from, paired, partners_of, StandBefore, TakesStep}
use Rattle.token_classes.specs.Kept.{AreOpeners, class_at, is_brace_in_brackets, is_round_or_square, is_semicolon_inside, is_statement_brace, marked, none_waits, some_below, waiting_at}

-- The openers that wait

matching_more : (xs : List TokenClass) (c : TokenClass) (n : ℕ) (m : Matching) → matching_from n m (xs ++ c ∷ []) ≡ bracket_step c (n + length xs) (matching_from n m xs)
matching_more [] c n m = ap (λ i. bracket_step c i m) (omega arith)
matching_more (x ∷ xs) c n m =
    matching_more xs c (n + 1) (bracket_step x n m)
    ∙ ap (λ i. bracket_step c i (matching_from (n + 1) (bracket_step x n m) xs)) (omega arith)

matching_next : (classes : List TokenClass) (i : ℕ) → i < length classes
    → matching_from 0 none_waits (take (i + 1) classes) ≡ bracket_step (class_at classes i) i (matching_from 0 none_waits (take i classes))
matching_next classes i h =
    let whole : 0 + length (take i classes) ≡ i = omega (arith, length-take i classes) in
    ap (matching_from 0 none_waits) (take_more classes i Nothing h)
    ∙ matching_more (take i classes) (class_at classes i) 0 none_waits
    ∙ ap (λ n. bracket_step (class_at classes i) n (matching_from 0 none_waits (take i classes))) whole

pub waits_next : (classes : List TokenClass) (i : ℕ) (old new : List Opener) (taken : Option ℕ) → i < length classes → old ≡ waiting_at classes i
    → TakesStep (class_at classes i) i old taken new → new ≡ waiting_at classes (i + 1)
waits_next classes i old new taken h e step =
    let before = matching_from 0 none_waits (take i classes) in
    ap (λ m. m.open_brackets) (step before.partners
    ∙ ap (λ os. bracket_step (class_at classes i) i (record { open_brackets = os; partners = before.partners })) e
    ∙ sym (matching_next classes i h))

-- an opener is a bracket, stands where it says, and was put on the openers that waited there
pub record IsBuilt (classes : List TokenClass) (o : Opener) (below : List Opener) : Type 0 where
  pub opener : is_round_or_square o ≡ not (is_open_brace o.kind)
  pub stands : class_at classes o.place ≡ o.kind
  pub waits : waiting_at classes o.place ≡ below

abbrev pub AreBuilt : List TokenClass → List Opener → Type 0
AreBuilt classes [] = Unit {0}
AreBuilt classes (o ∷ os) = IsBuilt classes o os × AreBuilt classes os

pub openers_of : (classes : List TokenClass) (os : List Opener) → AreBuilt classes os → AreOpeners os
openers_of classes [] h = tt
openers_of classes (o ∷ os) h = (h.0.opener, openers_of classes os h.1)

some_built : (classes : List TokenClass) (f g : Nearest) → Some f ≡ Some g → AreBuilt classes f.below → AreBuilt classes g.below
some_built classes f g e h = let same : f ≡ g = cc in let P : Nearest → Type 0 = λ x. AreBuilt classes x.below in subst P same h

nearest_built : (classes : List TokenClass) (os : List Opener) (f : Nearest) → nearest_brace os ≡ Some f → AreBuilt classes os → AreBuilt classes f.below
nearest_built classes [] f e h = cc
nearest_built classes (o ∷ os) f e h =
    elim (is_brace o) as (λ b. (elim b as (λ _. Option Nearest) [ true ↦ Some (record { place = o.place; below = os }) | false ↦ nearest_brace os ]) ≡ Some f → AreBuilt classes f.below) [
      | true ↦ λ q. some_built classes _ f q h.1
      | false ↦ λ q. nearest_built classes os f q h.1
    ] e

topmost_built : (fits : Opener → Bool) (classes : List TokenClass) (os : List Opener) (f : Nearest) → topmost fits os ≡ Some f → AreBuilt classes os → AreBuilt classes f.below
topmost_built fits classes [] f e h = cc
topmost_built fits classes (o ∷ os) f e h =
    elim (fits o) as (λ b. (elim b as (λ _. Option Nearest) [ true ↦ Some (record { place = o.place; below = os }) | false ↦ None ]) ≡ Some f → AreBuilt classes f.below) [
      | true ↦ λ q. some_built classes _ f q h.1
      | false ↦ λ q. cc
    ] e

closed_built : (classes : List TokenClass) (i : ℕ) (found : Option Nearest) (m : Matching) → ((f : Nearest) → found ≡ Some f → AreBuilt classes f.below)
    → AreBuilt classes m.open_brackets → AreBuilt classes (closed i found m).open_brackets
closed_built classes i None m f h = h
closed_built classes i (Some o) m f h = f o refl

step_built : (classes : List TokenClass) (c : TokenClass) (i : ℕ) (m : Matching) → class_at classes i ≡ c → waiting_at classes i ≡ m.open_brackets
    → AreBuilt classes m.open_brackets → AreBuilt classes (bracket_step c i m).open_brackets
step_built classes OpenRound i m e w h = (record { opener = refl; stands = e; waits = w }, h)
step_built classes OpenSquare i m e w h = (record { opener = refl; stands = e; waits = w }, h)
step_built classes OpenBrace i m e w h = (record { opener = refl; stands = e; waits = w }, h)
step_built classes CloseRound i m e w h = closed_built classes i (topmost is_round m.open_brackets) m (λ f q. topmost_built is_round classes m.open_brackets f q h) h
step_built classes CloseSquare i m e w h = closed_built classes i (topmost is_square m.open_brackets) m (λ f q. topmost_built is_square classes m.open_brackets f q h) h
step_built classes CloseBrace i m e w h = closed_built classes i (nearest_brace m.open_brackets) m (λ f q. nearest_built classes m.open_brackets f q h) h
step_built classes _ i m e w h = h

pub built_next : (classes : List TokenClass) (i : ℕ) (old new : List Opener) (taken : Option ℕ) → old ≡ waiting_at classes i
    → TakesStep (class_at classes i) i old taken new → AreBuilt classes old → AreBuilt classes new
built_next classes i old new taken e step h =
    let m : Matching = record { open_brackets = old; partners = [] } in
    let P : List Opener → Type 0 = λ os. AreBuilt classes os in
    subst P (ap (λ n. n.open_brackets) (sym (step []))) (step_built classes (class_at classes i) i m refl (sym e) h)

-- The marks

pub before_more : (n m : ℕ) (os : List Opener) → n ≤ m → StandBefore n os → StandBefore m os
before_more n m [] e h = tt
before_more n m (o ∷ os) e h = (let q = h.0 in omega arith, before_more n m os e h.1)

-- a brace in brackets stands there, and before this place a `;` directly inside it
abbrev pub is_marked_before : List TokenClass → ℕ → ℕ → Bool
is_marked_before classes place brace = is_brace_in_brackets classes brace && some_below place (is_semicolon_inside classes brace)

mark_at : (marks : List Bool) (p : ℕ) (b : Bool) (j : ℕ) (brace inside : Bool) → p < length marks → (p ≡ j → brace ≡ b) → get_or marks j false ≡ (brace && inside)
    → get_or (if b then slice_set marks p true else marks) j false ≡ (brace && (p == j || inside))
mark_at marks p true j brace inside room same e = elim (cases_eq p j) [
  | inl y ↦ rw (eq-eqb p j y, same y, ← y) (get_or-set_same marks p true false room)
  | inr n ↦ rw (ne_eqb p j n, get_or-set_other marks p j true false (λ q. n (sym q))) e
]
mark_at marks p false j brace inside room same e = elim (cases_eq p j) [
  | inl y ↦ let none : brace ≡ false = same y in rw none (e ∙ rw none refl)
  | inr n ↦ rw (ne_eqb p j n) e
]

pub marked_next : (classes : List TokenClass) (i : ℕ) (waiting : List Opener) (marks : List Bool) → waiting ≡ waiting_at classes i → AreBuilt classes waiting
    → StandBefore (length marks) waiting → is_semicolon (class_at classes i) ≡ true
    → (j : ℕ) → get_or marks j false ≡ is_marked_before classes i j → get_or (marked waiting marks) j false ≡ is_marked_before classes (i + 1) j
marked_next classes i [] marks w h before semicolon j e =
    let inside : is_semicolon_inside classes j i ≡ false = rw (semicolon, ← w) refl in
    rw (add-one, inside) e
marked_next classes i (o ∷ os) marks w h before semicolon j e =
    let inside : is_semicolon_inside classes j i ≡ (o.place == j) = rw (semicolon, ← w) refl in
    let brace : is_brace_in_brackets classes o.place ≡ (is_open_brace o.kind && list_any is_round_or_square os) = rw (h.0.stands, h.0.waits) refl in
    rw (add-one, inside) (mark_at marks o.place (is_open_brace o.kind && list_any is_round_or_square os) j _ _ before.0 (λ q. ap (is_brace_in_brackets classes) (sym q) ∙ brace) e)

pub unmarked_next : (classes : List TokenClass) (i : ℕ) (marks : List Bool) → is_semicolon (class_at classes i) ≡ false
    → (j : ℕ) → get_or marks j false ≡ is_marked_before classes i j → get_or marks j false ≡ is_marked_before classes (i + 1) j
unmarked_next classes i marks other j e =
    let inside : is_semicolon_inside classes j i ≡ false = rw other refl in
    rw (add-one, inside) e

pub length-marked : (os : List Opener) (marks : List Bool) → length (marked os marks) ≡ length marks
length-marked [] marks = refl
length-marked (o ∷ os) marks = elim (cases_Bool (is_open_brace o.kind && list_any is_round_or_square os)) [
  | inl y ↦ rw y (length-set marks o.place true)
  | inr n ↦ rw n refl
]

-- the step at the class of the token that is read
pub step_at : (classes : List TokenClass) (i : ℕ) (c d : TokenClass) (old new : List Opener) (taken : Option ℕ) → c ≡ get_or classes i d → i < length classes
    → TakesStep c i old taken new → TakesStep (class_at classes i) i old taken new
step_at classes i c d old new taken e h step =
    let P : TokenClass → Type 0 = λ k. TakesStep k i old taken new in
    subst P (e ∙ get_or_default classes i d Nothing h) step

-- every place has its mark
pub all_marks : (classes : List TokenClass) (i : ℕ) (marks : List Bool) → i ≡ length classes → length marks ≡ length classes
    → ((j : ℕ) → get_or marks j false ≡ is_marked_before classes i j) → marks ≡ map (is_statement_brace classes) (range_with_len 0 (length classes))
all_marks classes i marks e room h =
    let f = is_statement_brace classes in
    fill_by_all f marks (length classes) false room (λ k within. h k ∙ ap (λ n. is_marked_before classes n k) e)

-- The partners

-- what a token does to the partners, where those that are found from its place on are those of the whole
pub pairs_next : (classes : List TokenClass) (i : ℕ) (old new : List Opener) (taken : Option ℕ) (partners after : List (Option ℕ)) → i < length classes
    → TakesStep (class_at classes i) i old taken new → after ≡ paired partners taken i
    → (matching_from i (record { open_brackets = old; partners = partners }) (drop i classes)).partners ≡ partners_of classes
    → (matching_from (i + 1) (record { open_brackets = new; partners = after }) (drop (i + 1) classes)).partners ≡ partners_of classes
pairs_next classes i old new taken partners after within step made before =
    let rest = drop (i + 1) classes in
    ap (λ ps. (matching_from (i + 1) (record { open_brackets = new; partners = ps }) rest).partners) made
    ∙ ap (λ m. (matching_from (i + 1) m rest).partners) (step partners)
    ∙ ap (λ cs. (matching_from i (record { open_brackets = old; partners = partners }) cs).partners) (sym (drop_more classes i Nothing within))
    ∙ before
