-- The partners of brackets are one another's, and that of a `(` is a `)`: among all tokens, and among those that are no comments.
use Rattle.std.proofs.Common.{◌≡◌, ◌∙◌, ◌⊎◌, inl, inr, ℕ, zero, suc, ◌+◌, ◌<◌, ◌≤◌, true, false, Option, Some, None}
use Rattle.std.proofs.Common.{List, [], ◌∷◌, ◌++◌, length, get_or, refl, sym, ap, arith, Bool, replicate, append_assoc}
use Rattle.std.proofs.Common.{subst}
use Rattle.std.specs.Prelude.{slice_get, ⊤, slice_set}
use Rattle.std.proofs.lemmas.Bool.{cases_lt, cases_Bool, cases_eq}
use Rattle.std.proofs.lemmas.List.{length-map, length-set, length-replicate, length-append}
use Rattle.std.proofs.lemmas.Option.{slice_get_past, slice_get_within}
use Rattle.token_arena.specs.Gaps.{Contents}
use Rattle.token_classes.specs.declared.class.TokenClass.{TokenClass}
use Rattle.token_classes.specs.declared.class.TokenClass.TheVariants.{CloseRound, Nothing, OpenRound, OpenSquare}
use Rattle.token_classes.specs.declared.class.TokenClass.TheVariants.{CloseSquare, OpenBrace, CloseBrace}
use Rattle.token_classes.specs.Classes.{is_comment, is_open_round, is_close_round}
use Rattle.item_classes.specs.Viewed.{item_class, classes_of}
use Rattle.statement_lines.specs.declared.token.CodeToken.{CodeToken}
use Rattle.statement_lines.specs.Forms.{class_of, class_at, partner_of, partner_in, within}
use Rattle.unwrapped_lines.specs.Viewed.{numbers_of, partner_number}
use Rattle.part_laws.specs.LinesCut.{partners_in}
use Rattle.part_laws.proofs.CodeCut.{ArePaired, code_of}
use Rattle.part_laws.proofs.Counted.{count_of, counts_one, counts_none, counts_all, token_there, class_there}
use Rattle.part_laws.proofs.Counted.{code_class, number_there}
use Rattle.part_laws.proofs.PartnerPlaces.{within_parts}
use Rattle.unwrapped_lines.proofs.NumberLemmas.{numbers_count}
use Rattle.std.proofs.Math.Seq.{get_or-append_seam}
use Rattle.token_classes.specs.declared.pairing.Opener.{Opener}
use Rattle.token_classes.specs.Partners.{Matching, Nearest, is_brace, is_round, is_square, nearest_brace, topmost}
use Rattle.token_classes.specs.Partners.{closed, bracket_step, matching_from, partners_of}
use Rattle.part_laws.proofs.Places.{set_other, set_same}
use Rattle.part_laws.proofs.Choices.{never}

-- the class at a place
abbrev class_in : List TokenClass → ℕ → TokenClass
class_in classes k = get_or classes k Nothing

-- a place has a partner
abbrev Has : List (Option ℕ) → ℕ → ℕ → Type 0
Has partners k q = slice_get partners k ≡ Some (Some q)

-- it has none
abbrev HasNone : List (Option ℕ) → ℕ → Type 0
HasNone partners k = (q : ℕ) → Has partners k q → ⊥

-- ## What stays

-- the openers that wait stand in order before this place, are of their classes and have no partner yet
abbrev AreWaiting : List TokenClass → List (Option ℕ) → ℕ → List Opener → Type 0
AreWaiting classes partners end [] = ⊤
AreWaiting classes partners end (opener ∷ below) =
    (opener.place < end) × ((class_in classes opener.place ≡ opener.kind) × (HasNone partners opener.place × AreWaiting classes partners opener.place below))

-- partners that were found before a place
record Matches (classes : List TokenClass) (place : ℕ) (waiting : List Opener) (partners : List (Option ℕ)) : Type 0 where
  pub many : length partners ≡ length classes
  pub waits : AreWaiting classes partners place waiting
  pub later : (k : ℕ) → place ≤ k → HasNone partners k
  pub returns : (k q : ℕ) → Has partners k q → Has partners q k
  pub rounds : (k q : ℕ) → Has partners k q → is_open_round (class_in classes k) ≡ true → is_close_round (class_in classes q) ≡ true

wait_longer : (classes : List TokenClass) (partners : List (Option ℕ)) (end more : ℕ) (waiting : List Opener) → end ≤ more
    → AreWaiting classes partners end waiting → AreWaiting classes partners more waiting
wait_longer classes partners end more [] less waits = tt
wait_longer classes partners end more (opener ∷ below) less waits = (omega (arith, less, waits.0), waits.1)

-- what a closer takes off
abbrev FoundSo : List TokenClass → List (Option ℕ) → ℕ → (TokenClass → Type 0) → Option Nearest → Type 0
FoundSo classes partners end Fits None = ⊤
FoundSo classes partners end Fits (Some found) =
    (found.place < end) × (Fits (class_in classes found.place) × (HasNone partners found.place × AreWaiting classes partners found.place found.below))

found_longer : (classes : List TokenClass) (partners : List (Option ℕ)) (end more : ℕ) (Fits : TokenClass → Type 0) (found : Option Nearest) → end ≤ more
    → FoundSo classes partners end Fits found → FoundSo classes partners more Fits found
found_longer classes partners end more Fits None less so = tt
found_longer classes partners end more Fits (Some found) less so = (omega (arith, less, so.0), so.1)

nearest_so : (classes : List TokenClass) (partners : List (Option ℕ)) (end : ℕ) (waiting : List Opener) → AreWaiting classes partners end waiting
    → FoundSo classes partners end (λ c. is_open_round c ≡ false) (nearest_brace waiting)
nearest_so classes partners end [] waits = tt
nearest_so classes partners end (opener ∷ below) waits =
    by_brace (is_brace opener) refl
    (found_longer classes partners opener.place end (λ c. is_open_round c ≡ false) (nearest_brace below) (omega (arith, waits.0))
    (nearest_so classes partners opener.place below waits.1.1.1))
  where
    brace_kind : (place : ℕ) (kind : TokenClass) → is_brace (record { place = place; kind = kind }) ≡ true → is_open_round kind ≡ false
    brace_kind place OpenRound e = cc
    brace_kind place _ e = refl

    by_brace : (brace : Bool) → is_brace opener ≡ brace → FoundSo classes partners end (λ c. is_open_round c ≡ false) (nearest_brace below)
        → FoundSo classes partners end (λ c. is_open_round c ≡ false)
        (elim brace as (λ _. Option Nearest) [ true ↦ Some (record { place = opener.place; below = below }) | false ↦ nearest_brace below ])
    by_brace true is on = (waits.0, (ap is_open_round waits.1.0 ∙ brace_kind opener.place opener.kind is, waits.1.1))
    by_brace false is on = on

topmost_so : (fits : Opener → Bool) (Fits : TokenClass → Type 0) (classes : List TokenClass) (partners : List (Option ℕ)) (end : ℕ) (waiting : List Opener)
    → ((place : ℕ) (kind : TokenClass) → fits (record { place = place; kind = kind }) ≡ true → Fits kind)
    → AreWaiting classes partners end waiting → FoundSo classes partners end Fits (topmost fits waiting)
topmost_so fits Fits classes partners end [] kinds waits = tt
topmost_so fits Fits classes partners end (opener ∷ below) kinds waits = by_fit (fits opener) refl
  where
    by_fit : (fit : Bool) → fits opener ≡ fit
        → FoundSo classes partners end Fits (elim fit as (λ _. Option Nearest) [ true ↦ Some (record { place = opener.place; below = below }) | false ↦ None ])
    by_fit true is = (waits.0, (subst Fits (sym waits.1.0) (kinds opener.place opener.kind is), waits.1.1))
    by_fit false is = tt

-- ## One token

some_same : (p q : ℕ) → Some (Some p) ≡ Some (Some q) → p ≡ q
some_same p q e = cc

-- a place that is neither of these two
abbrev paired_at : List (Option ℕ) → ℕ → ℕ → List (Option ℕ)
paired_at partners opener place = slice_set (slice_set partners opener (Some place)) place (Some opener)

paired_other : (partners : List (Option ℕ)) (opener place k : ℕ) → (k ≡ opener → ⊥) → (k ≡ place → ⊥)
    → slice_get (paired_at partners opener place) k ≡ slice_get partners k
paired_other partners opener place k first second = set_other (slice_set partners opener (Some place)) place k (Some opener) second
    ∙ set_other partners opener k (Some place) first

still_none : (partners : List (Option ℕ)) (opener place k : ℕ) → (k ≡ opener → ⊥) → (k ≡ place → ⊥) → HasNone partners k
    → HasNone (paired_at partners opener place) k
still_none partners opener place k first second none q has = none q (sym (paired_other partners opener place k first second) ∙ has)

still_wait : (classes : List TokenClass) (partners : List (Option ℕ)) (opener place end : ℕ) (waiting : List Opener) → end ≤ opener → opener < place
    → AreWaiting classes partners end waiting → AreWaiting classes (paired_at partners opener place) end waiting
still_wait classes partners opener place end [] low less waits = tt
still_wait classes partners opener place end (first ∷ below) low less waits =
    let none = still_none partners opener place first.place (λ e. omega (arith, e, low, waits.0)) (λ e. omega (arith, e, low, less, waits.0)) waits.1.1.0 in
    let rest = still_wait classes partners opener place first.place below (omega (arith, low, waits.0)) less waits.1.1.1 in
    (waits.0, (waits.1.0, (none, rest)))

-- a place and its partner: those of this pair, or others
abbrev IsOneOf : List (Option ℕ) → ℕ → ℕ → ℕ → ℕ → Type 0
IsOneOf partners opener place k q =
    ((k ≡ opener) × (q ≡ place)) ⊎ (((k ≡ place) × (q ≡ opener)) ⊎ (Has partners k q × ((k ≡ opener → ⊥) × (k ≡ place → ⊥))))

-- a closer and its opener
pair_matches : (classes : List TokenClass) (place opener : ℕ) (waiting below : List Opener) (partners : List (Option ℕ)) → place < length classes
    → Matches classes place waiting partners → opener < place → HasNone partners opener → AreWaiting classes partners opener below
    → (is_open_round (class_in classes opener) ≡ true → is_close_round (class_in classes place) ≡ true) → is_open_round (class_in classes place) ≡ false
    → Matches classes (place + 1) below (paired_at partners opener place)
pair_matches classes place opener waiting below partners within so less none waits closes closer = record {
  many = length-set (slice_set partners opener (Some place)) place (Some opener) ∙ (length-set partners opener (Some place) ∙ so.many);
  waits = wait_longer classes (paired_at partners opener place) opener (place + 1) below (omega (arith, less))
      (still_wait classes partners opener place opener below (omega arith) less waits);
  later = λ k past. still_none partners opener place k (λ e. omega (arith, e, less, past)) (λ e. omega (arith, e, past)) (so.later k (omega (arith, past)));
  returns = returns;
  rounds = rounds;
}
  where
    there : slice_get (paired_at partners opener place) opener ≡ Some (Some place)
    there = set_other (slice_set partners opener (Some place)) place opener (Some opener) (λ e. omega (arith, e, less))
        ∙ set_same partners opener (Some place) (omega (arith, less, within, so.many))

    here : slice_get (paired_at partners opener place) place ≡ Some (Some opener)
    here = set_same (slice_set partners opener (Some place)) place (Some opener) (omega (arith, within, so.many, length-set partners opener (Some place)))

    -- which places have a partner
    cases : (k q : ℕ) → Has (paired_at partners opener place) k q → IsOneOf partners opener place k q
    cases k q has = elim (cases_eq k opener) [
      | inl first ↦ inl (first, some_same q place (sym has ∙ (ap (slice_get (paired_at partners opener place)) first ∙ there)))
      | inr first ↦ elim (cases_eq k place) [
        | inl second ↦ inr (inl (second, some_same q opener (sym has ∙ (ap (slice_get (paired_at partners opener place)) second ∙ here))))
        | inr second ↦ inr (inr (sym (paired_other partners opener place k first second) ∙ has, (first, second)))
      ]
    ]

    returns_by : (k q : ℕ) → IsOneOf partners opener place k q → Has (paired_at partners opener place) q k
    returns_by k q (inl ends) = ap (slice_get (paired_at partners opener place)) ends.1 ∙ (here ∙ ap (λ n. Some (Some n)) (sym ends.0))
    returns_by k q (inr (inl ends)) = ap (slice_get (paired_at partners opener place)) ends.1 ∙ (there ∙ ap (λ n. Some (Some n)) (sym ends.0))
    returns_by k q (inr (inr old)) =
        let back : Has partners q k = so.returns k q old.0 in
        let first : q ≡ opener → ⊥ = λ e. none k (ap (slice_get partners) (sym e) ∙ back) in
        let second : q ≡ place → ⊥ = λ e. so.later place (omega arith) k (ap (slice_get partners) (sym e) ∙ back) in
        paired_other partners opener place q first second ∙ back

    returns : (k q : ℕ) → Has (paired_at partners opener place) k q → Has (paired_at partners opener place) q k
    returns k q has = returns_by k q (cases k q has)

    rounds_by : (k q : ℕ) → IsOneOf partners opener place k q → is_open_round (class_in classes k) ≡ true → is_close_round (class_in classes q) ≡ true
    rounds_by k q (inl ends) round =
        ap (λ n. is_close_round (class_in classes n)) ends.1 ∙ closes (ap (λ n. is_open_round (class_in classes n)) (sym ends.0) ∙ round)
    rounds_by k q (inr (inl ends)) round = absurd (never (sym closer ∙ (ap (λ n. is_open_round (class_in classes n)) (sym ends.0) ∙ round)))
    rounds_by k q (inr (inr old)) round = so.rounds k q old.0 round

    rounds : (k q : ℕ) → Has (paired_at partners opener place) k q → is_open_round (class_in classes k) ≡ true → is_close_round (class_in classes q) ≡ true
    rounds k q has round = rounds_by k q (cases k q has) round

-- the partners are kept, and these openers wait
same_partners : (classes : List TokenClass) (place : ℕ) (waiting new : List Opener) (partners : List (Option ℕ)) → Matches classes place waiting partners
    → AreWaiting classes partners (place + 1) new → Matches classes (place + 1) new partners
same_partners classes place waiting new partners so waits =
    record { many = so.many; waits = waits; later = λ k past. so.later k (omega (arith, past)); returns = so.returns; rounds = so.rounds }

abbrev MatchesSo : List TokenClass → ℕ → Matching → Type 0
MatchesSo classes place m = Matches classes place m.open_brackets m.partners

opened_matches : (classes : List TokenClass) (place : ℕ) (kind : TokenClass) (waiting : List Opener) (partners : List (Option ℕ))
    → class_in classes place ≡ kind → Matches classes place waiting partners
    → Matches classes (place + 1) (record { place = place; kind = kind } ∷ waiting) partners
opened_matches classes place kind waiting partners is so =
    same_partners classes place waiting (record { place = place; kind = kind } ∷ waiting) partners so
    (omega arith, (is, (so.later place (omega arith), so.waits)))

closed_matches : (classes : List TokenClass) (place : ℕ) (Fits : TokenClass → Type 0) (waiting : List Opener) (partners : List (Option ℕ))
    (found : Option Nearest) → place < length classes → Matches classes place waiting partners
    → FoundSo classes partners place Fits found → ((c : TokenClass) → Fits c → is_open_round c ≡ true → is_close_round (class_in classes place) ≡ true)
    → is_open_round (class_in classes place) ≡ false
    → MatchesSo classes (place + 1) (closed place found (record { open_brackets = waiting; partners = partners }))
closed_matches classes place Fits waiting partners None within so found closes closer =
    same_partners classes place waiting waiting partners so (wait_longer classes partners place (place + 1) waiting (omega arith) so.waits)
closed_matches classes place Fits waiting partners (Some found) within so there closes closer =
    pair_matches classes place found.place waiting found.below partners within so there.0 there.1.1.0 there.1.1.1
    (closes (class_in classes found.place) there.1.0) closer

round_or : (class : TokenClass) → class ≡ CloseRound → is_close_round class ≡ true
round_or class is = ap is_close_round is

step_matches : (classes : List TokenClass) (place : ℕ) (class : TokenClass) (waiting : List Opener) (partners : List (Option ℕ)) → place < length classes
    → class_in classes place ≡ class → Matches classes place waiting partners
    → MatchesSo classes (place + 1) (bracket_step class place (record { open_brackets = waiting; partners = partners }))
step_matches classes place OpenRound waiting partners within is so = opened_matches classes place OpenRound waiting partners is so
step_matches classes place OpenSquare waiting partners within is so = opened_matches classes place OpenSquare waiting partners is so
step_matches classes place OpenBrace waiting partners within is so = opened_matches classes place OpenBrace waiting partners is so
step_matches classes place CloseRound waiting partners within is so =
    closed_matches classes place (λ c. ⊤) waiting partners (topmost is_round waiting) within so
    (topmost_so is_round (λ c. ⊤) classes partners place waiting (λ at kind fits. tt) so.waits)
    (λ c fits round. round_or (class_in classes place) is) (ap is_open_round is)
step_matches classes place CloseSquare waiting partners within is so =
    closed_matches classes place (λ c. is_open_round c ≡ false) waiting partners (topmost is_square waiting) within so
    (topmost_so is_square (λ c. is_open_round c ≡ false) classes partners place waiting square_kind so.waits)
    (λ c fits round. absurd (never (sym fits ∙ round))) (ap is_open_round is)
  where
    square_kind : (at : ℕ) (kind : TokenClass) → is_square (record { place = at; kind = kind }) ≡ true → is_open_round kind ≡ false
    square_kind at OpenRound e = cc
    square_kind at _ e = refl
step_matches classes place CloseBrace waiting partners within is so =
    closed_matches classes place (λ c. is_open_round c ≡ false) waiting partners (nearest_brace waiting) within so
    (nearest_so classes partners place waiting so.waits)
    (λ c fits round. absurd (never (sym fits ∙ round))) (ap is_open_round is)
step_matches classes place _ waiting partners within is so =
    same_partners classes place waiting waiting partners so (wait_longer classes partners place (place + 1) waiting (omega arith) so.waits)

-- ## All tokens

pub record ArePairs (classes : List TokenClass) (partners : List (Option ℕ)) : Type 0 where
  pub returns : (k q : ℕ) → slice_get partners k ≡ Some (Some q) → slice_get partners q ≡ Some (Some k)
  pub rounds : (k q : ℕ) → slice_get partners k ≡ Some (Some q) → is_open_round (get_or classes k Nothing) ≡ true
      → is_close_round (get_or classes q Nothing) ≡ true

all_match : (classes past rest : List TokenClass) (place : ℕ) (m : Matching) → classes ≡ past ++ rest → place ≡ length past → MatchesSo classes place m
    → ArePairs classes (matching_from place m rest).partners
all_match classes past [] place m split at so = record { returns = so.returns; rounds = so.rounds }
all_match classes past (class ∷ rest) place m split at so =
    let is : class_in classes place ≡ class = ap (class_in classes) at
    ∙ (ap (λ (cs : List TokenClass). class_in cs (length past)) split ∙ get_or-append_seam past class rest Nothing) in
    let within : place < length classes = omega (arith, at, ap length split, length-append past (class ∷ rest)) in
    let next : place + 1 ≡ length (past ++ class ∷ []) = omega (arith, at, length-append past (class ∷ [])) in
    all_match classes (past ++ class ∷ []) rest (place + 1) (bracket_step class place m) (split ∙ sym (append_assoc past (class ∷ []) rest)) next
    (step_matches classes place class m.open_brackets m.partners within is so)

replicate_none : (n k : ℕ) → HasNone (replicate n None) k
replicate_none zero k q has = cc
replicate_none (suc n) zero q has = cc
replicate_none (suc n) (suc k) q has = replicate_none n k q has

pub partners_match : (classes : List TokenClass) → ArePairs classes (partners_of classes)
partners_match classes =
    let none : (k : ℕ) → HasNone (replicate (length classes) None) k = replicate_none (length classes) in
    all_match classes [] classes 0 (record { open_brackets = []; partners = replicate (length classes) None }) refl refl (record {
      many = length-replicate (length classes) None;
      waits = tt;
      later = λ k past. none k;
      returns = λ k q has. absurd (none k q has);
      rounds = λ k q has round. absurd (none k q has);
    })

-- ## Tokens that are no comments

-- ## The item of a token, and of a place

-- this many of the items before it are no comments, and it is none
record IsCodeItem (arena : Contents) (ids : List ℕ) (i : ℕ) : Type 0 where
  pub before : List ℕ
  pub id : ℕ
  pub after : List ℕ
  pub split : ids ≡ before ++ id ∷ after
  pub code : is_comment (item_class arena id) ≡ false
  pub counted : count_of arena before ≡ i

code_item : (arena : Contents) (ids : List ℕ) (i : ℕ) → i < count_of arena ids → IsCodeItem arena ids i
code_item arena [] i low = absurd (omega (arith, low))
code_item arena (id ∷ ids) i low = by_comment (cases_Bool (is_comment (item_class arena id))) (λ j lower. code_item arena ids j lower)
  where
    behind : (j : ℕ) → IsCodeItem arena ids j → count_of arena (id ∷ []) + j ≡ i → IsCodeItem arena (id ∷ ids) i
    behind j item e = record {
      before = id ∷ item.before;
      id = item.id;
      after = item.after;
      split = ap (λ (xs : List ℕ). id ∷ xs) item.split;
      code = item.code;
      counted = counted (cases_Bool (is_comment (item_class arena id)));
    }
      where
        counted : (is_comment (item_class arena id) ≡ true) ⊎ (is_comment (item_class arena id) ≡ false) → count_of arena (id ∷ item.before) ≡ i
        counted (inl comment) = omega (arith, counts_none arena id item.before comment, counts_none arena id [] comment, item.counted, e)
        counted (inr code) = omega (arith, counts_one arena id item.before code, counts_one arena id [] code, item.counted, e)

    by_number : is_comment (item_class arena id) ≡ false → (i : ℕ) → i < count_of arena (id ∷ ids) → ((j : ℕ) → j < count_of arena ids → IsCodeItem arena ids j)
        → ((j : ℕ) → IsCodeItem arena ids j → count_of arena (id ∷ []) + j ≡ i → IsCodeItem arena (id ∷ ids) i) → IsCodeItem arena (id ∷ ids) i
    by_number code zero low on behind = record { before = []; id = id; after = ids; split = refl; code = code; counted = refl }
    by_number code (suc j) low on behind = behind j (on j (omega (arith, low, counts_one arena id ids code))) (omega (arith, counts_one arena id [] code))

    by_comment : (is_comment (item_class arena id) ≡ true) ⊎ (is_comment (item_class arena id) ≡ false)
        → ((j : ℕ) → j < count_of arena ids → IsCodeItem arena ids j) → IsCodeItem arena (id ∷ ids) i
    by_comment (inl comment) on = behind i (on i (omega (arith, low, counts_none arena id ids comment))) (omega (arith, counts_none arena id [] comment))
    by_comment (inr code) on = by_number code i low on behind

record IsItem (ids : List ℕ) (place : ℕ) : Type 0 where
  pub before : List ℕ
  pub id : ℕ
  pub after : List ℕ
  pub split : ids ≡ before ++ id ∷ after
  pub stands : place ≡ length before

item_there : (ids : List ℕ) (place : ℕ) → place < length ids → IsItem ids place
item_there [] place low = absurd (omega (arith, low))
item_there (id ∷ ids) zero low = record { before = []; id = id; after = ids; split = refl; stands = refl }
item_there (id ∷ ids) (suc place) low =
    let item = item_there ids place (omega (arith, low)) in
    record { before = id ∷ item.before; id = item.id; after = item.after; split = ap (λ (xs : List ℕ). id ∷ xs) item.split; stands = ap suc item.stands }

-- ## The partner of a token

-- the partner of the item at a place, and its number
record IsNumbered (partners : List (Option ℕ)) (numbers : List ℕ) (place number : ℕ) : Type 0 where
  pub partner : ℕ
  pub found : slice_get partners place ≡ Some (Some partner)
  pub numbered : slice_get numbers partner ≡ Some number

numbered : (partners : List (Option ℕ)) (numbers : List ℕ) (place i end number : ℕ)
    → within i end (partner_number numbers (slice_get partners place)) ≡ Some number → IsNumbered partners numbers place number
numbered partners numbers place i end number e = by_partner (slice_get partners place) refl e
  where
    by_partner : (found : Option (Option ℕ)) → slice_get partners place ≡ found → within i end (partner_number numbers found) ≡ Some number
        → IsNumbered partners numbers place number
    by_partner None is e = cc
    by_partner (Some None) is e = cc
    by_partner (Some (Some partner)) is e = record { partner = partner; found = is; numbered = (within_parts i end number (slice_get numbers partner) e).0 }

close_is_code : (class : TokenClass) → is_close_round class ≡ true → is_comment class ≡ false
close_is_code CloseRound e = refl
close_is_code _ e = absurd (never e)

-- of a `(`
round_partner : (arena : Contents) (ids before : List ℕ) (id : ℕ) (after : List ℕ) (p : ℕ) → ids ≡ before ++ id ∷ after
    → is_comment (item_class arena id) ≡ false → is_open_round (item_class arena id) ≡ true
    → partner_in (code_of arena ids) (length (code_of arena ids)) (count_of arena before) ≡ Some p
    → (is_close_round (class_at (code_of arena ids) p) ≡ true) × (partner_of (slice_get (code_of arena ids) p) ≡ Some (count_of arena before))
round_partner arena ids before id after p split code round found =
    let tokens : List CodeToken = code_of arena ids in
    let classes : List TokenClass = classes_of arena ids in
    let partners : List (Option ℕ) = partners_in arena ids in
    let numbers : List ℕ = numbers_of (classes_of arena ids) in
    let count : ℕ = count_of arena before in
    let pairs : ArePairs (classes_of arena ids) (partners_in arena ids) = partners_match (classes_of arena ids) in
    let told = numbered (partners_in arena ids) (numbers_of (classes_of arena ids)) (length before) (count_of arena before) (length (code_of arena ids)) p
    (sym (ap (λ (t : Option CodeToken). within (count_of arena before) (length (code_of arena ids)) (partner_of t))
    (token_there arena ids before id after split code)) ∙ found) in
    let low : told.partner < length ids =
    let numbered_there = slice_get_within (numbers_of (classes_of arena ids)) told.partner p told.numbered in
    omega (arith, numbered_there, numbers_count 0 (classes_of arena ids), length-map ids (item_class arena)) in
    let item = item_there ids told.partner low in
    let number : Some p ≡ Some (count_of arena item.before) =
    sym told.numbered ∙ (ap (slice_get (numbers_of (classes_of arena ids))) item.stands ∙ number_there arena ids item.before item.id item.after item.split) in
    let at : p ≡ count_of arena item.before = cc in
    let closes : is_close_round (item_class arena item.id) ≡ true =
    ap is_close_round
    (sym (ap (λ k. get_or (classes_of arena ids) k Nothing) item.stands ∙ class_there arena ids item.before item.id item.after item.split))
    ∙ pairs.rounds (length before) told.partner told.found (ap is_open_round (class_there arena ids before id after split) ∙ round) in
    let closer_code = close_is_code (item_class arena item.id) closes in
    let back : slice_get (partners_in arena ids) (length item.before) ≡ Some (Some (length before)) =
    ap (slice_get (partners_in arena ids)) (sym item.stands) ∙ pairs.returns (length before) told.partner told.found in (
      ap (λ k. is_close_round (class_at (code_of arena ids) k)) at
          ∙ (ap is_close_round (code_class arena ids item.before item.id item.after item.split closer_code) ∙ closes),
      ap (λ k. partner_of (slice_get (code_of arena ids) k)) at
          ∙ (ap partner_of (token_there arena ids item.before item.id item.after item.split closer_code)
          ∙ (ap (partner_number (numbers_of (classes_of arena ids))) back ∙ number_there arena ids before id after split)),
    )

pub code_paired : (arena : Contents) (ids : List ℕ) → ArePaired (code_of arena ids)
code_paired arena ids i p round found = by_place (cases_lt i (length (code_of arena ids)))
  where
    by_item : IsCodeItem arena ids i → (is_close_round (class_at (code_of arena ids) p) ≡ true) × (partner_of (slice_get (code_of arena ids) p) ≡ Some i)
    by_item item =
        let class : class_at (code_of arena ids) i ≡ item_class arena item.id = ap (class_at (code_of arena ids)) (sym item.counted)
        ∙ code_class arena ids item.before item.id item.after item.split item.code in
        let told = round_partner arena ids item.before item.id item.after p item.split item.code (ap is_open_round (sym class) ∙ round)
        (ap (partner_in (code_of arena ids) (length (code_of arena ids))) item.counted ∙ found) in
        (told.0, told.1 ∙ ap (λ k. Some k) item.counted)

    by_place : (i < length (code_of arena ids)) ⊎ (length (code_of arena ids) ≤ i)
        → (is_close_round (class_at (code_of arena ids) p) ≡ true) × (partner_of (slice_get (code_of arena ids) p) ≡ Some i)
    by_place (inl low) = by_item (code_item arena ids i (omega (arith, low, counts_all arena ids)))
    by_place (inr past) = absurd (never (sym (ap (λ (t : Option CodeToken). is_open_round (class_of t)) (slice_get_past (code_of arena ids) i past)) ∙ round))
