-- A group that is opened outside brackets ends in the first part: its opener leaves the openers that wait by its own partner, which is kept.
use Rattle.std.proofs.Common.{◌≡◌, ◌∙◌, ◌⊎◌, inl, inr, ℕ, ◌+◌, Bool, true, false, Option, Some, None, List, [], ◌∷◌}
use Rattle.std.proofs.Common.{◌++◌, length, refl, sym, ap, subst, arith, ◌<◌}
use Rattle.std.proofs.lemmas.List.{length-set}
use Rattle.std.specs.Prelude.{slice_set, ⊤, slice_get}
use Rattle.token_arena.specs.Gaps.{Contents}
use Rattle.token_classes.specs.declared.class.TokenClass.{TokenClass}
use Rattle.token_classes.specs.declared.class.TokenClass.TheVariants.{OpenRound, CloseRound, OpenSquare, CloseSquare}
use Rattle.token_classes.specs.declared.class.TokenClass.TheVariants.{OpenBrace, CloseBrace}
use Rattle.token_classes.specs.Classes.{is_comment}
use Rattle.item_classes.specs.Viewed.{item_class, classes_of}
use Rattle.token_classes.specs.declared.pairing.Opener.{Opener}
use Rattle.token_classes.specs.Partners.{Matching, Nearest, is_brace, is_round, is_square, nearest_brace, topmost}
use Rattle.token_classes.specs.Partners.{closed, bracket_step, paired, TakesStep, matching_from}
use Rattle.part_laws.specs.Declarations.{Walk, inside, reading, waiting_behind, is_open, next_end}
use Rattle.part_laws.proofs.WalkAgrees.{matching, waits}
use Rattle.part_laws.proofs.FirstPart.{by_reading, IsUnasked, IsSound, inside_sound, ended}
use Rattle.part_laws.proofs.Choices.{either}
use Rattle.part_laws.proofs.Places.{set_other, set_same}

-- ## One token, where this opener waits below the others

-- what a closer finds among openers that wait above this one
abbrev Finds : Opener → Option Nearest → Type 0
Finds bottom found =
    (found ≡ None)
    ⊎ (((place : ℕ) × ((left : List Opener) × (found ≡ Some (record { place = place; below = left ++ bottom ∷ [] }))))
    ⊎ (found ≡ Some (record { place = bottom.place; below = [] })))

finds_brace : (above : List Opener) (bottom : Opener) → Finds bottom (nearest_brace (above ++ bottom ∷ []))
finds_brace [] bottom = either (Finds bottom) (is_brace bottom) (Some (record { place = bottom.place; below = [] })) None (λ _. inr (inr refl)) (λ _. inl refl)
finds_brace (opener ∷ above) bottom =
    either (Finds bottom) (is_brace opener) (Some (record { place = opener.place; below = above ++ bottom ∷ [] })) (nearest_brace (above ++ bottom ∷ []))
    (λ _. inr (inl (opener.place, (above, refl)))) (λ _. finds_brace above bottom)

finds_topmost : (fits : Opener → Bool) (above : List Opener) (bottom : Opener) → Finds bottom (topmost fits (above ++ bottom ∷ []))
finds_topmost fits [] bottom = either (Finds bottom) (fits bottom) (Some (record { place = bottom.place; below = [] })) None (λ _. inr (inr refl))
    (λ _. inl refl)
finds_topmost fits (opener ∷ above) bottom =
    either (Finds bottom) (fits opener) (Some (record { place = opener.place; below = above ++ bottom ∷ [] })) None
    (λ _. inr (inl (opener.place, (above, refl)))) (λ _. inl refl)

-- behind it the opener waits below others
abbrev Stays : TokenClass → ℕ → List Opener → Opener → Type 0
Stays class place above bottom = (left : List Opener) × ((taken : Option ℕ) × TakesStep class place (above ++ bottom ∷ []) taken (left ++ bottom ∷ []))

-- it takes the opener off, and none is left
abbrev Leaves : TokenClass → ℕ → List Opener → Opener → Type 0
Leaves class place above bottom = TakesStep class place (above ++ bottom ∷ []) (Some bottom.place) [] × (is_comment class ≡ false)

closer_steps : (class : TokenClass) (place : ℕ) (above : List Opener) (bottom : Opener) (found : Option Nearest) → is_comment class ≡ false
    → ((partners : List (Option ℕ)) → closed place found (matching (above ++ bottom ∷ []) partners) ≡ bracket_step class place
    (matching (above ++ bottom ∷ []) partners))
    → Finds bottom found → Stays class place above bottom ⊎ Leaves class place above bottom
closer_steps class place above bottom found code is (inl none) =
    inl (above, (None, λ partners. ap (λ (f : Option Nearest). closed place f (matching (above ++ bottom ∷ []) partners)) (sym none) ∙ is partners))
closer_steps class place above bottom found code is (inr (inl some)) =
    let close : List (Option ℕ) → Option Nearest → Matching = λ partners f. closed place f (matching (above ++ bottom ∷ []) partners) in
    inl (some.1.0, (Some some.0, λ partners. ap (close partners) (sym some.1.1) ∙ is partners))
closer_steps class place above bottom found code is (inr (inr last)) =
    inr (λ partners. ap (λ (f : Option Nearest). closed place f (matching (above ++ bottom ∷ []) partners)) (sym last) ∙ is partners, code)

steps : (class : TokenClass) (place : ℕ) (above : List Opener) (bottom : Opener) → Stays class place above bottom ⊎ Leaves class place above bottom
steps OpenRound place above bottom = inl (record { place = place; kind = OpenRound } ∷ above, (None, λ partners. refl))
steps OpenSquare place above bottom = inl (record { place = place; kind = OpenSquare } ∷ above, (None, λ partners. refl))
steps OpenBrace place above bottom = inl (record { place = place; kind = OpenBrace } ∷ above, (None, λ partners. refl))
steps CloseRound place above bottom =
    closer_steps CloseRound place above bottom (topmost is_round (above ++ bottom ∷ [])) refl (λ partners. refl) (finds_topmost is_round above bottom)
steps CloseSquare place above bottom =
    closer_steps CloseSquare place above bottom (topmost is_square (above ++ bottom ∷ [])) refl (λ partners. refl) (finds_topmost is_square above bottom)
steps CloseBrace place above bottom =
    closer_steps CloseBrace place above bottom (nearest_brace (above ++ bottom ∷ [])) refl (λ partners. refl) (finds_brace above bottom)
steps _ place above bottom = inl (above, (None, λ partners. refl))

-- ## The group

-- the partners are found so where the opener's partner stands at this place and these tokens follow
abbrev PairsThere : ℕ → ℕ → List TokenClass → List (Option ℕ) → List (Option ℕ) → Type 0
PairsThere opener place after partners all =
    (before : List (Option ℕ))
    × ((length before ≡ length partners) × (all ≡ (matching_from (place + 1) (matching [] (paired before (Some opener) place)) after).partners))

-- these items begin with the rest of the group of the opener that waits below the others
pub record IsGroup (arena : Contents) (later : List ℕ) (count : ℕ) (walk : Walk) (above : List Opener) (bottom : Opener) (rest : List ℕ) : Type 0 where
  pub inner : List ℕ
  pub closer : ℕ
  pub behind : List ℕ
  pub next : Walk
  pub place : ℕ
  pub split : rest ≡ inner ++ closer ∷ behind
  pub stands : place ≡ walk.place + length inner
  pub next_place : next.place ≡ place + 1
  pub before : next.before ≡ walk.before
  pub assigned : next.assigned ≡ walk.assigned
  pub unasked : IsUnasked count next
  pub ends : next_end arena next [] (behind ++ later) ≡ Some count
  pub code : is_comment (item_class arena closer) ≡ false
  pub pairs : (partners : List (Option ℕ)) → PairsThere bottom.place place (classes_of arena behind) partners
      (matching_from walk.place (matching (above ++ bottom ∷ []) partners) (classes_of arena rest)).partners

some_wait : (above : List Opener) (bottom : Opener) → above ++ bottom ∷ [] ≡ [] → ⊥
some_wait [] bottom e = cc
some_wait (opener ∷ above) bottom e = cc

is_open_there : (above : List Opener) (bottom : Opener) → is_open (above ++ bottom ∷ []) ≡ true
is_open_there [] bottom = refl
is_open_there (opener ∷ above) bottom = refl

pub paired_length : (partners : List (Option ℕ)) (taken : Option ℕ) (place : ℕ) → length (paired partners taken place) ≡ length partners
paired_length partners None place = refl
paired_length partners (Some opener) place = length-set (slice_set partners opener (Some place)) place (Some opener) ∙ length-set partners opener (Some place)

pub grouped : (arena : Contents) (later : List ℕ) (count : ℕ) (rest : List ℕ) (walk : Walk) (above : List Opener) (bottom : Opener)
    → walk.place + length rest ≡ count → IsUnasked count walk → IsSound walk (above ++ bottom ∷ [])
    → next_end arena walk (above ++ bottom ∷ []) (rest ++ later) ≡ Some count → IsGroup arena later count walk above bottom rest
grouped arena later count [] walk above bottom all unasked sound e =
    let here : walk.place ≡ count = omega (arith, all) in
    absurd (some_wait above bottom (ended arena later walk (above ++ bottom ∷ []) count here unasked sound e).closed)
grouped arena later count (id ∷ rest) walk above bottom all unasked sound e =
    by_step (steps (item_class arena id) walk.place above bottom)
    (λ next left one was still end. grouped arena later count rest next left bottom (omega (arith, one, all)) was still end)
  where
    class : TokenClass
    class = item_class arena id

    next : Walk
    next = inside walk (item_class arena id)

    goes : next_end arena next (waiting_behind (item_class arena id) walk.place (above ++ bottom ∷ [])) (rest ++ later) ≡ Some count
    goes =
        let waiting = waiting_behind (item_class arena id) walk.place (above ++ bottom ∷ []) in
        subst (λ (b : Bool). by_reading arena waiting (rest ++ later) (reading arena walk b id (item_class arena id)) ≡ Some count)
        (is_open_there above bottom) e

    on_from : Matching → List (Option ℕ)
    on_from m = (matching_from (walk.place + 1) m (classes_of arena rest)).partners

    by_step : Stays (item_class arena id) walk.place above bottom ⊎ Leaves (item_class arena id) walk.place above bottom
        → ((next : Walk) (left : List Opener) → next.place ≡ walk.place + 1 → IsUnasked count next → IsSound next (left ++ bottom ∷ [])
        → next_end arena next (left ++ bottom ∷ []) (rest ++ later) ≡ Some count → IsGroup arena later count next left bottom rest)
        → IsGroup arena later count walk above bottom (id ∷ rest)
    by_step (inl stays) on =
        let left : List Opener = stays.0 in
        let waiting = waits (item_class arena id) walk.place (above ++ bottom ∷ []) (left ++ bottom ∷ []) stays.1.0 stays.1.1 in
        let still = inside_sound walk (item_class arena id) (above ++ bottom ∷ []) (is_open_there above bottom) sound in
        let group = on next left refl unasked (subst (IsSound next) (sym waiting) still)
        (subst (λ (w : List Opener). next_end arena next w (rest ++ later) ≡ Some count) (sym waiting) goes) in
        record {
          inner = id ∷ group.inner;
          closer = group.closer;
          behind = group.behind;
          next = group.next;
          place = group.place;
          split = ap (λ (xs : List ℕ). id ∷ xs) group.split;
          stands = omega (arith, group.stands);
          next_place = group.next_place;
          before = group.before;
          assigned = group.assigned;
          unasked = group.unasked;
          ends = group.ends;
          code = group.code;
          pairs = λ partners.
              let found = group.pairs (paired partners stays.1.0 walk.place) in
              (found.0, (found.1.0 ∙ paired_length partners stays.1.0 walk.place, ap on_from (sym (stays.1.1 partners)) ∙ found.1.1));
        }
    by_step (inr leaves) on =
        let waiting = waits (item_class arena id) walk.place (above ++ bottom ∷ []) [] (Some bottom.place) leaves.0 in
        record {
          inner = [];
          closer = id;
          behind = rest;
          next = next;
          place = walk.place;
          split = refl;
          stands = omega arith;
          next_place = refl;
          before = refl;
          assigned = refl;
          unasked = unasked;
          ends = subst (λ (w : List Opener). next_end arena next w (rest ++ later) ≡ Some count) (sym waiting) goes;
          code = leaves.1;
          pairs = λ partners. (partners, (refl, ap on_from (sym (leaves.0 partners))));
        }

-- ## Its partner is kept

-- every opener stands behind this place
abbrev pub Above : ℕ → List Opener → Type 0
Above k [] = ⊤
Above k (opener ∷ below) = (k < opener.place) × Above k below

abbrev FoundAbove : ℕ → Option Nearest → Type 0
FoundAbove k None = ⊤
FoundAbove k (Some found) = (k < found.place) × Above k found.below

nearest_above : (k : ℕ) (waiting : List Opener) → Above k waiting → FoundAbove k (nearest_brace waiting)
nearest_above k [] above = tt
nearest_above k (opener ∷ below) above = by_brace (is_brace opener) (nearest_above k below above.1)
  where
    by_brace : (brace : Bool) → FoundAbove k (nearest_brace below)
        → FoundAbove k (elim brace as (λ _. Option Nearest) [ true ↦ Some (record { place = opener.place; below = below }) | false ↦ nearest_brace below ])
    by_brace true on = above
    by_brace false on = on

topmost_above : (fits : Opener → Bool) (k : ℕ) (waiting : List Opener) → Above k waiting → FoundAbove k (topmost fits waiting)
topmost_above fits k [] above = tt
topmost_above fits k (opener ∷ below) above = by_fit (fits opener)
  where
    by_fit : (fit : Bool) → FoundAbove k (elim fit as (λ _. Option Nearest) [ true ↦ Some (record { place = opener.place; below = below }) | false ↦ None ])
    by_fit true = above
    by_fit false = tt

-- an opener and its closer
pub pair_found : (partners : List (Option ℕ)) (opener place : ℕ) → opener < place → opener < length partners
    → slice_get (paired partners (Some opener) place) opener ≡ Some (Some place)
pair_found partners opener place behind within = set_other (slice_set partners opener (Some place)) place opener (Some opener) (λ e. omega (arith, e, behind))
    ∙ set_same partners opener (Some place) within

kept_closed : (k i : ℕ) (waiting : List Opener) (partners : List (Option ℕ)) (classes : List TokenClass) (found : Option Nearest) → k < i → Above k waiting
    → FoundAbove k found → ((waiting : List Opener) (partners : List (Option ℕ)) → Above k waiting
    → slice_get (matching_from (i + 1) (record { open_brackets = waiting; partners = partners }) classes).partners k ≡ slice_get partners k)
    → slice_get (matching_from (i + 1) (closed i found (record { open_brackets = waiting; partners = partners })) classes).partners k ≡ slice_get partners k
kept_closed k i waiting partners classes None low above there on = on waiting partners above
kept_closed k i waiting partners classes (Some found) low above there on =
    on found.below (slice_set (slice_set partners found.place (Some i)) i (Some found.place)) there.1
    ∙ (set_other (slice_set partners found.place (Some i)) i k (Some found.place) (λ e. omega (arith, e, low))
    ∙ set_other partners found.place k (Some i) (λ e. omega (arith, e, there.0)))

-- tokens behind a place, where only openers behind it wait, leave its partner
pub partner_kept : (k i : ℕ) (waiting : List Opener) (partners : List (Option ℕ)) (classes : List TokenClass) → k < i → Above k waiting
    → slice_get (matching_from i (record { open_brackets = waiting; partners = partners }) classes).partners k ≡ slice_get partners k
partner_kept k i waiting partners [] low above = refl
partner_kept k i waiting partners (class ∷ classes) low above =
    by_class class (λ waiting partners more. partner_kept k (i + 1) waiting partners classes (omega (arith, low)) more)
  where
    by_class : (class : TokenClass) → ((waiting : List Opener) (partners : List (Option ℕ)) → Above k waiting
        → slice_get (matching_from (i + 1) (record { open_brackets = waiting; partners = partners }) classes).partners k ≡ slice_get partners k)
        → slice_get (matching_from i (record { open_brackets = waiting; partners = partners }) (class ∷ classes)).partners k ≡ slice_get partners k
    by_class OpenRound on = on (record { place = i; kind = OpenRound } ∷ waiting) partners (low, above)
    by_class OpenSquare on = on (record { place = i; kind = OpenSquare } ∷ waiting) partners (low, above)
    by_class OpenBrace on = on (record { place = i; kind = OpenBrace } ∷ waiting) partners (low, above)
    by_class CloseRound on = kept_closed k i waiting partners classes (topmost is_round waiting) low above (topmost_above is_round k waiting above) on
    by_class CloseSquare on = kept_closed k i waiting partners classes (topmost is_square waiting) low above (topmost_above is_square k waiting above) on
    by_class CloseBrace on = kept_closed k i waiting partners classes (nearest_brace waiting) low above (nearest_above k waiting above) on
    by_class _ on = on waiting partners above
