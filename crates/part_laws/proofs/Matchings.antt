-- The partners of brackets: there are as many as tokens, they are places of these tokens, and they are told part by part.
use Rattle.std.proofs.Common.{◌≡◌, ◌∙◌, ℕ, zero, suc, ◌+◌, ◌-◌, ◌<◌, ◌≤◌, true, false, Option, Some, None, List, [], ◌∷◌, ◌++◌, length, map, replicate, refl, sym, ap, arith, subst}
use Rattle.std.specs.Prelude.{slice_set, ⊤}
use Rattle.std.proofs.lemmas.List.{length-append, length-set, length-replicate, set-append_left, set-append_right, map-set, replicate-append-replicate}
use Rattle.token_classes.specs.declared.class.TokenClass.{TokenClass}
use Rattle.token_classes.specs.declared.class.TokenClass.TheVariants.{OpenRound, CloseRound, OpenSquare, CloseSquare, OpenBrace, CloseBrace}
use Rattle.token_classes.specs.declared.pairing.Opener.{Opener}
use Rattle.token_classes.specs.Partners.{Matching, Nearest, is_brace, is_round, is_square, nearest_brace, topmost, closed, bracket_step, matching_from, partners_of, StandBefore, opened}
use Rattle.token_classes.proofs.BracketLemmas.{more, Low, nearest_low, topmost_low}
use Rattle.part_laws.specs.Declarations.{waiting_behind}
use Rattle.part_laws.specs.LinesCut.{partner_behind}
use Rattle.part_laws.proofs.FirstPart.{waiting_from}

-- ## One list behind another

both_from : (place : ℕ) (matching : Matching) (earlier later : List TokenClass)
    → matching_from place matching (earlier ++ later) ≡ matching_from (place + length earlier) (matching_from place matching earlier) later
both_from place matching [] later =
    let same : place ≡ place + 0 = omega arith in
    ap (λ (k : ℕ). matching_from k matching later) same
both_from place matching (class ∷ earlier) later =
    let on : place + 1 + length earlier ≡ place + length (class ∷ earlier) = omega arith in
    both_from (place + 1) (bracket_step class place matching) earlier later
    ∙ ap (λ (k : ℕ). matching_from k (matching_from (place + 1) (bracket_step class place matching) earlier) later) on

-- ## The openers that wait

closed_waits : (place : ℕ) (found : Option Nearest) (waiting : List Opener) (partners others : List (Option ℕ))
    → (closed place found (record { open_brackets = waiting; partners = partners })).open_brackets
    ≡ (closed place found (record { open_brackets = waiting; partners = others })).open_brackets
closed_waits place None waiting partners others = refl
closed_waits place (Some opener) waiting partners others = refl

step_waits : (class : TokenClass) (place : ℕ) (waiting : List Opener) (partners : List (Option ℕ))
    → (bracket_step class place (record { open_brackets = waiting; partners = partners })).open_brackets ≡ waiting_behind class place waiting
step_waits OpenRound place waiting partners = refl
step_waits OpenSquare place waiting partners = refl
step_waits OpenBrace place waiting partners = refl
step_waits CloseRound place waiting partners = closed_waits place (topmost is_round waiting) waiting partners []
step_waits CloseSquare place waiting partners = closed_waits place (topmost is_square waiting) waiting partners []
step_waits CloseBrace place waiting partners = closed_waits place (nearest_brace waiting) waiting partners []
step_waits _ place waiting partners = refl

pub waits_from : (place : ℕ) (matching : Matching) (classes : List TokenClass)
    → (matching_from place matching classes).open_brackets ≡ waiting_from place matching.open_brackets classes
waits_from place matching [] = refl
waits_from place matching (class ∷ classes) =
    waits_from (place + 1) (bracket_step class place matching) classes
    ∙ ap (λ (waiting : List Opener). waiting_from (place + 1) waiting classes) (step_waits class place matching.open_brackets matching.partners)

-- ## Places of these tokens

-- a partner is one of so many places
abbrev pub IsBelow : ℕ → Option ℕ → Type 0
IsBelow count None = ⊤
IsBelow count (Some place) = place < count

abbrev pub AreBelow : ℕ → List (Option ℕ) → Type 0
AreBelow count [] = ⊤
AreBelow count (partner ∷ partners) = IsBelow count partner × AreBelow count partners

set_below : (count : ℕ) (partners : List (Option ℕ)) (k : ℕ) (partner : Option ℕ) → IsBelow count partner → AreBelow count partners
    → AreBelow count (slice_set partners k partner)
set_below count [] k partner one all = all
set_below count (p ∷ partners) zero partner one all = (one, all.1)
set_below count (p ∷ partners) (suc k) partner one all = (all.0, set_below count partners k partner one all.1)

none_below : (count n : ℕ) → AreBelow count (replicate n None)
none_below count zero = tt
none_below count (suc n) = (tt, none_below count n)

-- ## What holds between two tokens

-- where so many follow or are read
record Holds (count : ℕ) (place : ℕ) (matching : Matching) : Type 0 where
  pub openers : StandBefore place matching.open_brackets
  pub below : AreBelow count matching.partners
  pub many : length matching.partners ≡ count

opened_holds : (count place : ℕ) (class : TokenClass) (matching : Matching) → Holds count place matching → Holds count (place + 1) (opened class place matching)
opened_holds count place class matching holds = record {
  openers = (omega arith, more place matching.open_brackets holds.openers);
  below = holds.below;
  many = holds.many;
}

closed_holds : (count place : ℕ) (found : Option Nearest) (matching : Matching) → place < count → ((opener : Nearest) → found ≡ Some opener → Low place opener)
    → Holds count place matching → Holds count (place + 1) (closed place found matching)
closed_holds count place None matching within low holds =
    record { openers = more place matching.open_brackets holds.openers; below = holds.below; many = holds.many }
closed_holds count place (Some opener) matching within low holds =
    let stands = low opener refl in
    let before : opener.place < place = stands.place in
    let once : List (Option ℕ) = slice_set matching.partners opener.place (Some place) in
    record {
      openers = more place opener.below stands.below;
      below = set_below count once place (Some opener.place) (omega (arith, before, within))
          (set_below count matching.partners opener.place (Some place) within holds.below);
      many = length-set once place (Some opener.place) ∙ (length-set matching.partners opener.place (Some place) ∙ holds.many);
    }

same_holds : (count place : ℕ) (matching : Matching) → Holds count place matching → Holds count (place + 1) matching
same_holds count place matching holds = record { openers = more place matching.open_brackets holds.openers; below = holds.below; many = holds.many }

step_holds : (count place : ℕ) (class : TokenClass) (matching : Matching) → place < count → Holds count place matching
    → Holds count (place + 1) (bracket_step class place matching)
step_holds count place OpenRound matching within holds = opened_holds count place OpenRound matching holds
step_holds count place OpenSquare matching within holds = opened_holds count place OpenSquare matching holds
step_holds count place OpenBrace matching within holds = opened_holds count place OpenBrace matching holds
step_holds count place CloseRound matching within holds =
    closed_holds count place (topmost is_round matching.open_brackets) matching within
    (λ opener e. topmost_low is_round place matching.open_brackets opener e holds.openers) holds
step_holds count place CloseSquare matching within holds =
    closed_holds count place (topmost is_square matching.open_brackets) matching within
    (λ opener e. topmost_low is_square place matching.open_brackets opener e holds.openers) holds
step_holds count place CloseBrace matching within holds =
    closed_holds count place (nearest_brace matching.open_brackets) matching within
    (λ opener e. nearest_low place matching.open_brackets opener e holds.openers) holds
step_holds count place _ matching within holds = same_holds count place matching holds

all_hold : (count place : ℕ) (classes : List TokenClass) (matching : Matching) → place + length classes ≤ count → Holds count place matching
    → Holds count (place + length classes) (matching_from place matching classes)
all_hold count place [] matching within holds =
    let same : place ≡ place + 0 = omega arith in
    subst (λ (n : ℕ). Holds count n matching) same holds
all_hold count place (class ∷ classes) matching within holds =
    let on : place + 1 + length classes ≡ place + length (class ∷ classes) = omega arith in
    subst (λ (n : ℕ). Holds count n (matching_from (place + 1) (bracket_step class place matching) classes)) on
    (all_hold count (place + 1) classes (bracket_step class place matching) (omega (arith, within))
    (step_holds count place class matching (omega (arith, within)) holds))

abbrev begun : List TokenClass → Matching
begun classes = record { open_brackets = []; partners = replicate (length classes) None }

started : (classes : List TokenClass) → Holds (length classes) 0 (begun classes)
started classes = record { openers = tt; below = none_below (length classes) (length classes); many = length-replicate (length classes) None }

-- each partner is a place
pub partners_below : (classes : List TokenClass) → AreBelow (length classes) (partners_of classes)
partners_below classes = (all_hold (length classes) 0 classes _ (omega arith) (started classes)).below

-- there are as many as tokens
pub partners_count : (classes : List TokenClass) → length (partners_of classes) ≡ length classes
partners_count classes = (all_hold (length classes) 0 classes _ (omega arith) (started classes)).many

-- ## Before other tokens

-- the partners of tokens that follow are none so far
abbrev wider : Matching → List (Option ℕ) → Matching
wider matching others = record { open_brackets = matching.open_brackets; partners = matching.partners ++ others }

closed_wider : (place : ℕ) (found : Option Nearest) (matching : Matching) (others : List (Option ℕ)) → place < length matching.partners
    → ((opener : Nearest) → found ≡ Some opener → Low place opener) → closed place found (wider matching others) ≡ wider (closed place found matching) others
closed_wider place None matching others within low = refl
closed_wider place (Some opener) matching others within low =
    let before : opener.place < place = (low opener refl).place in
    let once : List (Option ℕ) = slice_set matching.partners opener.place (Some place) in
    let first = set-append_left matching.partners others opener.place (Some place) (omega (arith, before, within)) in
    let second = set-append_left once others place (Some opener.place) (omega (arith, length-set matching.partners opener.place (Some place), within)) in
    ap (λ (partners : List (Option ℕ)). record { open_brackets = opener.below; partners = slice_set partners place (Some opener.place) }) first
    ∙ ap (λ (partners : List (Option ℕ)). record { open_brackets = opener.below; partners = partners }) second

step_wider : (place : ℕ) (class : TokenClass) (matching : Matching) (others : List (Option ℕ)) → place < length matching.partners
    → StandBefore place matching.open_brackets → bracket_step class place (wider matching others) ≡ wider (bracket_step class place matching) others
step_wider place OpenRound matching others within stand = refl
step_wider place OpenSquare matching others within stand = refl
step_wider place OpenBrace matching others within stand = refl
step_wider place CloseRound matching others within stand =
    closed_wider place (topmost is_round matching.open_brackets) matching others within
    (λ opener e. topmost_low is_round place matching.open_brackets opener e stand)
step_wider place CloseSquare matching others within stand =
    closed_wider place (topmost is_square matching.open_brackets) matching others within
    (λ opener e. topmost_low is_square place matching.open_brackets opener e stand)
step_wider place CloseBrace matching others within stand =
    closed_wider place (nearest_brace matching.open_brackets) matching others within (λ opener e. nearest_low place matching.open_brackets opener e stand)
step_wider place _ matching others within stand = refl

all_wider : (count place : ℕ) (classes : List TokenClass) (matching : Matching) (others : List (Option ℕ)) → place + length classes ≤ count
    → Holds count place matching → matching_from place (wider matching others) classes ≡ wider (matching_from place matching classes) others
all_wider count place [] matching others within holds = refl
all_wider count place (class ∷ classes) matching others within holds =
    ap (λ (m : Matching). matching_from (place + 1) m classes) (step_wider place class matching others (omega (arith, within, holds.many)) holds.openers)
    ∙ all_wider count (place + 1) classes (bracket_step class place matching) others (omega (arith, within))
    (step_holds count place class matching (omega (arith, within)) holds)

-- ## Behind other tokens

abbrev opener_behind : ℕ → Opener → Opener
opener_behind count opener = record { place = count + opener.place; kind = opener.kind }

abbrev found_behind : ℕ → Option Nearest → Option Nearest
found_behind count None = None
found_behind count (Some opener) = Some (record { place = count + opener.place; below = map (opener_behind count) opener.below })

nearest_behind : (count : ℕ) (waiting : List Opener) → nearest_brace (map (opener_behind count) waiting) ≡ found_behind count (nearest_brace waiting)
nearest_behind count [] = refl
nearest_behind count (opener ∷ below) =
    elim (is_brace opener) as (λ b. (elim b as (λ _. Option Nearest) [
      | true ↦ Some
          (record { place = count + opener.place; below = map (opener_behind count) below })
      | false ↦ nearest_brace (map (opener_behind count) below)
    ])
    ≡ found_behind count (elim b as (λ _. Option Nearest) [ true ↦ Some (record { place = opener.place; below = below }) | false ↦ nearest_brace below ])) [
      | true ↦ refl
      | false ↦ nearest_behind count below
    ]

round_behind : (count : ℕ) (waiting : List Opener) → topmost is_round (map (opener_behind count) waiting) ≡ found_behind count (topmost is_round waiting)
round_behind count [] = refl
round_behind count (opener ∷ below) =
    elim (is_round opener) as (λ b. (elim b as (λ _. Option Nearest) [
      | true ↦ Some
          (record { place = count + opener.place; below = map (opener_behind count) below })
      | false ↦ None
    ])
    ≡ found_behind count (elim b as (λ _. Option Nearest) [ true ↦ Some (record { place = opener.place; below = below }) | false ↦ None ])) [
      | true ↦ refl
      | false ↦ refl
    ]

square_behind : (count : ℕ) (waiting : List Opener) → topmost is_square (map (opener_behind count) waiting) ≡ found_behind count (topmost is_square waiting)
square_behind count [] = refl
square_behind count (opener ∷ below) =
    elim (is_square opener) as (λ b. (elim b as (λ _. Option Nearest) [
      | true ↦ Some
          (record { place = count + opener.place; below = map (opener_behind count) below })
      | false ↦ None
    ])
    ≡ found_behind count (elim b as (λ _. Option Nearest) [ true ↦ Some (record { place = opener.place; below = below }) | false ↦ None ])) [
      | true ↦ refl
      | false ↦ refl
    ]

-- what is matched behind tokens with these partners
abbrev behind : List (Option ℕ) → Matching → Matching
behind before matching = record {
  open_brackets = map (opener_behind (length before)) matching.open_brackets;
  partners = before ++ map (partner_behind (length before)) matching.partners;
}

set_behind : (before partners : List (Option ℕ)) (place : ℕ) (partner : Option ℕ)
    → slice_set (before ++ map (partner_behind (length before)) partners) (length before + place) (partner_behind (length before) partner)
    ≡ before ++ map (partner_behind (length before)) (slice_set partners place partner)
set_behind before partners place partner =
    let shift : Option ℕ → Option ℕ = partner_behind (length before) in
    let back : length before + place - length before ≡ place = omega arith in
    set-append_right before (map shift partners) (length before) (length before + place) (shift partner) refl (omega arith)
    ∙ (ap (λ (k : ℕ). before ++ slice_set (map shift partners) k (shift partner)) back
    ∙ ap (λ (ps : List (Option ℕ)). before ++ ps) (sym (map-set shift partners place partner)))

closed_behind : (before : List (Option ℕ)) (place : ℕ) (found : Option Nearest) (matching : Matching)
    → closed (length before + place) (found_behind (length before) found) (behind before matching) ≡ behind before (closed place found matching)
closed_behind before place None matching = refl
closed_behind before place (Some opener) matching =
    let count : ℕ = length before in
    let below : List Opener = map (opener_behind (length before)) opener.below in
    ap (λ (partners : List (Option ℕ)). record { open_brackets = below; partners = slice_set partners (count + place) (Some (count + opener.place)) })
    (set_behind before matching.partners opener.place (Some place))
    ∙ ap (λ (partners : List (Option ℕ)). record { open_brackets = below; partners = partners })
    (set_behind before (slice_set matching.partners opener.place (Some place)) place (Some opener.place))

step_behind : (before : List (Option ℕ)) (place : ℕ) (class : TokenClass) (matching : Matching)
    → bracket_step class (length before + place) (behind before matching) ≡ behind before (bracket_step class place matching)
step_behind before place OpenRound matching = refl
step_behind before place OpenSquare matching = refl
step_behind before place OpenBrace matching = refl
step_behind before place CloseRound matching =
    ap (λ (found : Option Nearest). closed (length before + place) found (behind before matching)) (round_behind (length before) matching.open_brackets)
    ∙ closed_behind before place (topmost is_round matching.open_brackets) matching
step_behind before place CloseSquare matching =
    ap (λ (found : Option Nearest). closed (length before + place) found (behind before matching)) (square_behind (length before) matching.open_brackets)
    ∙ closed_behind before place (topmost is_square matching.open_brackets) matching
step_behind before place CloseBrace matching =
    ap (λ (found : Option Nearest). closed (length before + place) found (behind before matching)) (nearest_behind (length before) matching.open_brackets)
    ∙ closed_behind before place (nearest_brace matching.open_brackets) matching
step_behind before place _ matching = refl

all_behind : (before : List (Option ℕ)) (place : ℕ) (classes : List TokenClass) (matching : Matching)
    → matching_from (length before + place) (behind before matching) classes ≡ behind before (matching_from place matching classes)
all_behind before place [] matching = refl
all_behind before place (class ∷ classes) matching =
    let on : length before + place + 1 ≡ length before + (place + 1) = omega arith in
    ap (λ (m : Matching). matching_from (length before + place + 1) m classes) (step_behind before place class matching)
    ∙ (ap (λ (k : ℕ). matching_from k (behind before (bracket_step class place matching)) classes) on
    ∙ all_behind before (place + 1) classes (bracket_step class place matching))

none_behind : (count n : ℕ) → replicate n None ≡ map (partner_behind count) (replicate n None)
none_behind count zero = refl
none_behind count (suc n) = ap (λ (partners : List (Option ℕ)). None ∷ partners) (none_behind count n)

-- ## Both

-- where no opener waits behind the earlier tokens
pub partners_of_both : (earlier later : List TokenClass) → waiting_from 0 [] earlier ≡ []
    → partners_of (earlier ++ later) ≡ partners_of earlier ++ map (partner_behind (length earlier)) (partners_of later)
partners_of_both earlier later none =
    let many : List (Option ℕ) = replicate (length later) None in
    let first : Matching = matching_from 0 (begun earlier) earlier in
    let count : length first.partners ≡ length earlier = partners_count earlier in
    let whole : replicate (length (earlier ++ later)) None ≡ replicate (length earlier) None ++ many =
    ap (λ (n : ℕ). replicate n None) (length-append earlier later) ∙ sym (replicate-append-replicate (length earlier) (length later) None) in
    let at : 0 + length earlier ≡ length first.partners + 0 = omega (arith, count) in
    let wide = all_wider (length earlier) 0 earlier (begun earlier) many (omega arith) (started earlier) in
    ap (λ (partners : List (Option ℕ)). (matching_from 0 (record { open_brackets = []; partners = partners }) (earlier ++ later)).partners) whole
    ∙ (ap (λ (m : Matching). m.partners) (both_from 0 (wider (begun earlier) many) earlier later)
    ∙ (ap (λ (m : Matching). (matching_from (0 + length earlier) m later).partners) wide
    ∙ (ap (λ (k : ℕ). (matching_from k (wider first many) later).partners) at
    ∙ (ap (λ (waiting : List Opener). (matching_from (length first.partners + 0)
    (record { open_brackets = waiting; partners = first.partners ++ many }) later).partners) (waits_from 0 (begun earlier) earlier ∙ none)
    ∙ (ap (λ (partners : List (Option ℕ)). (matching_from (length first.partners + 0)
    (record { open_brackets = []; partners = first.partners ++ partners }) later).partners) (none_behind (length first.partners) (length later))
    ∙ (ap (λ (m : Matching). m.partners) (all_behind first.partners 0 later (begun later))
    ∙ ap (λ (n : ℕ). partners_of earlier ++ map (partner_behind n) (partners_of later)) count))))))
