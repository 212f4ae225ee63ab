-- Tokens among others: what stands at a place, and what is found from there in a list that ends among them, is the same wherever these tokens stand.
use Rattle.std.proofs.Common.{◌≡◌, ◌∙◌, ℕ, zero, suc, ◌+◌, ◌-◌, ◌<◌, ◌≤◌, nat_lt, Bool, true, false, not, ◌&&◌, ◌||◌, Option, Some, None, List, length, refl, sym, ap, arith, inl, inr, nat_le, [], ◌∷◌, ◌++◌, map, ◌⊎◌}
use Rattle.std.specs.Prelude.{slice_get}
use Rattle.std.proofs.lemmas.Bool.{cases_lt, lt-ltb, le-ltb, ltb-true, and_parts, le-leb, or_right, or_left}
use Rattle.token_classes.specs.declared.class.TokenClass.{TokenClass}
use Rattle.token_classes.specs.declared.class.TokenClass.TheVariants.{Nothing}
use Rattle.token_classes.specs.Classes.{is_opener, is_open_round, is_open_brace, is_question, is_colon, is_comma, is_semicolon, is_before_list, is_close_round, is_assigning, is_call_word, is_word}
use Rattle.statement_lines.specs.declared.token.CodeToken.{CodeToken}
use Rattle.statement_lines.specs.declared.form.Stop.{Stop}
use Rattle.statement_lines.specs.Forms.{class_at, class_before, seen, partner_of, partner_in, behind_partner, partner_or, after_group, step_over, block_end, case_colon, enumerator_end, opens_list, opens_block, assigns, statement_stop, behind, call_opener, is_member_word, enum_or, tag_before, class_of, within, began_of, began_at, touched_of, touched_at, is_missing, has_no_partner, ends_macro}
use Rattle.part_laws.specs.LinesCut.{partner_behind}
use Rattle.part_laws.proofs.Choices.{choose, chosen, at_true, at_false}
use Rattle.part_laws.proofs.CodeCut.{token_behind, IsCutBehind, IsCutBefore}
use Rattle.part_laws.proofs.Places.{slice_before, slice_behind, slice_at_seam}
use Rattle.std.proofs.lemmas.Option.{slice_get-map}
use Rattle.std.proofs.lemmas.List.{length-map, length-append}
use Rattle.std.specs.Option.{option_map}
use Rattle.part_laws.proofs.PartnerPlaces.{within_past}

-- These tokens stand in a whole behind so many others, behind which a `{` opens no list of values; a macro's line may end behind them.
pub record IsWindow (n : ℕ) (whole tokens : List CodeToken) : Type 0 where
  pub there : (i : ℕ) → i < length tokens → slice_get whole (n + i) ≡ option_map (token_behind n) (slice_get tokens i)
  pub list : is_before_list (class_before whole n) ≡ false
  pub closes : is_close_round (class_before whole n) ≡ false
  pub ends : ends_macro whole (n + length tokens) ≡ true
  pub long : n + length tokens ≤ length whole

-- ## Such tokens

moved : (n : ℕ) (tokens later : List CodeToken) (i : ℕ) → i < length tokens
    → slice_get (map (token_behind n) tokens ++ later) i ≡ option_map (token_behind n) (slice_get tokens i)
moved n tokens later i inside = slice_before (map (token_behind n) tokens) later i (omega (arith, inside, length-map tokens (token_behind n)))
    ∙ slice_get-map (token_behind n) tokens i

behind_moved : (n : ℕ) (tokens later : List CodeToken) → slice_get (map (token_behind n) tokens ++ later) (length tokens) ≡ slice_get later 0
behind_moved n tokens later =
    ap (slice_get (map (token_behind n) tokens ++ later)) (sym (length-map tokens (token_behind n))) ∙ slice_at_seam (map (token_behind n) tokens) later

-- as many as the first and these, and more
moved_count : (earlier tokens later : List CodeToken)
    → length (earlier ++ (map (token_behind (length earlier)) tokens ++ later)) ≡ length earlier + (length tokens + length later)
moved_count earlier tokens later =
    let n : ℕ = length earlier in
    let rest : List CodeToken = map (token_behind (length earlier)) tokens ++ later in
    omega (arith, length-append earlier rest, length-append (map (token_behind n) tokens) later, length-map tokens (token_behind n))

before_cut : (earlier rest : List CodeToken) → class_before (earlier ++ rest) (length earlier) ≡ class_before earlier (length earlier)
before_cut [] rest = refl
before_cut (token ∷ earlier) rest =
    ap (λ (o : Option CodeToken). elim (nat_lt 0 (length (token ∷ earlier))) as (λ _. TokenClass) [ true ↦ class_of o | false ↦ Nothing ])
    (slice_before (token ∷ earlier) rest (length (token ∷ earlier) - 1) (omega arith))

-- a macro's line may end behind these tokens
ends_behind : (earlier tokens later : List CodeToken) → IsCutBefore later
    → ends_macro (earlier ++ (map (token_behind (length earlier)) tokens ++ later)) (length earlier + length tokens) ≡ true
ends_behind earlier tokens later (inl none) =
    let n : ℕ = length earlier in
    let rest : List CodeToken = map (token_behind n) tokens ++ later in
    let many : length (earlier ++ rest) ≤ n + length tokens = omega (arith, moved_count earlier tokens later, ap length none) in
    or_left (nat_le (length (earlier ++ rest)) (n + length tokens)) _ (le-leb (length (earlier ++ rest)) (n + length tokens) many)
ends_behind earlier tokens [] (inr word) = absurd word
ends_behind earlier tokens (token ∷ later) (inr word) =
    let n : ℕ = length earlier in
    let rest : List CodeToken = map (token_behind n) tokens ++ (token ∷ later) in
    let found : slice_get (earlier ++ rest) (n + length tokens) ≡ Some token = slice_behind earlier rest (length tokens)
    ∙ behind_moved n tokens (token ∷ later) in
    let parts = and_parts (is_word token.class) token.began word in
    let began : began_at (earlier ++ rest) (n + length tokens) ≡ true = ap began_of found ∙ parts.1 in
    let is : is_word (class_at (earlier ++ rest) (n + length tokens)) ≡ true = ap (λ (o : Option CodeToken). is_word (class_of o)) found ∙ parts.0 in
    rw (began, is) (or_right (nat_le (length (earlier ++ rest)) (n + length tokens)) true refl)

pub is_window : (earlier tokens later : List CodeToken) → IsCutBehind earlier → IsCutBefore later
    → IsWindow (length earlier) (earlier ++ (map (token_behind (length earlier)) tokens ++ later)) tokens
is_window earlier tokens later behind before =
    let n : ℕ = length earlier in
    let rest : List CodeToken = map (token_behind n) tokens ++ later in
    record {
      there = λ i inside. slice_behind earlier rest i ∙ moved n tokens later i inside;
      list = ap is_before_list (before_cut earlier rest) ∙ behind.list;
      closes = ap is_close_round (before_cut earlier rest) ∙ behind.closes;
      ends = ends_behind earlier tokens later before;
      long = omega (arith, moved_count earlier tokens later);
    }

-- ## What stands at a place

pub lt_there : (n a b : ℕ) → nat_lt (n + a) (n + b) ≡ nat_lt a b
lt_there n a b = elim (cases_lt a b) [
  | inl less ↦ lt-ltb (n + a) (n + b) (omega (arith, less)) ∙ sym (lt-ltb a b less)
  | inr most ↦ le-ltb (n + a) (n + b) (omega (arith, most)) ∙ sym (le-ltb a b most)
]

class_moved : (n : ℕ) (found : Option CodeToken) → class_of (option_map (token_behind n) found) ≡ class_of found
class_moved n None = refl
class_moved n (Some token) = refl

began_moved : (n : ℕ) (found : Option CodeToken) → began_of (option_map (token_behind n) found) ≡ began_of found
began_moved n None = refl
began_moved n (Some token) = refl

touched_moved : (n : ℕ) (found : Option CodeToken) → touched_of (option_map (token_behind n) found) ≡ touched_of found
touched_moved n None = refl
touched_moved n (Some token) = refl

partner_moved : (n : ℕ) (found : Option CodeToken) → partner_of (option_map (token_behind n) found) ≡ partner_behind n (partner_of found)
partner_moved n None = refl
partner_moved n (Some token) = refl

missing_moved : (n : ℕ) (partner : Option ℕ) → is_missing (partner_behind n partner) ≡ is_missing partner
missing_moved n None = refl
missing_moved n (Some place) = refl

pub class_there : {n : ℕ} {whole tokens : List CodeToken} → IsWindow n whole tokens → (i : ℕ) → i < length tokens → class_at whole (n + i) ≡ class_at tokens i
class_there {n} {tokens = tokens} w i inside = ap class_of (w.there i inside) ∙ class_moved n (slice_get tokens i)

pub began_there : {n : ℕ} {whole tokens : List CodeToken} → IsWindow n whole tokens → (i : ℕ) → i < length tokens → began_at whole (n + i) ≡ began_at tokens i
began_there {n} {tokens = tokens} w i inside = ap began_of (w.there i inside) ∙ began_moved n (slice_get tokens i)

pub touched_there : {n : ℕ} {whole tokens : List CodeToken} → IsWindow n whole tokens → (i : ℕ) → i < length tokens
    → touched_at whole (n + i) ≡ touched_at tokens i
touched_there {n} {tokens = tokens} w i inside = ap touched_of (w.there i inside) ∙ touched_moved n (slice_get tokens i)

pub partner_there : {n : ℕ} {whole tokens : List CodeToken} → IsWindow n whole tokens → (i : ℕ) → i < length tokens
    → partner_of (slice_get whole (n + i)) ≡ partner_behind n (partner_of (slice_get tokens i))
partner_there {n} {tokens = tokens} w i inside = ap partner_of (w.there i inside) ∙ partner_moved n (slice_get tokens i)

pub missing_there : {n : ℕ} {whole tokens : List CodeToken} → IsWindow n whole tokens → (i : ℕ) → i < length tokens
    → has_no_partner whole (n + i) ≡ has_no_partner tokens i
missing_there {n} {tokens = tokens} w i inside = ap is_missing (partner_there w i inside) ∙ missing_moved n (partner_of (slice_get tokens i))

-- of a list that ends among them
pub seen_there : {n : ℕ} {whole tokens : List CodeToken} → IsWindow n whole tokens → (end i : ℕ) → end ≤ length tokens
    → seen whole (n + end) (n + i) ≡ seen tokens end i
seen_there {n} {whole} {tokens} w end i most =
    ap (λ (b : Bool). elim b as (λ _. TokenClass) [ true ↦ class_at whole (n + i) | false ↦ Nothing ]) (lt_there n i end)
    ∙ by (cases_lt i end)
  where
    by : (i < end) ⊎ (end ≤ i) → (elim (nat_lt i end) as (λ _. TokenClass) [ true ↦ class_at whole (n + i) | false ↦ Nothing ]) ≡ seen tokens end i
    by (inl less) = ap (λ (c : TokenClass). elim (nat_lt i end) as (λ _. TokenClass) [ true ↦ c | false ↦ Nothing ])
        (class_there w i (omega (arith, less, most)))
    by (inr past) = at_false (nat_lt i end) (class_at whole (n + i)) Nothing (le-ltb i end past)
        ∙ sym (at_false (nat_lt i end) (class_at tokens i) Nothing (le-ltb i end past))

within_there : (n i end : ℕ) (partner : Option ℕ) → within (n + i) (n + end) (partner_behind n partner) ≡ partner_behind n (within i end partner)
within_there n i end None = refl
within_there n i end (Some p) =
    choose (partner_behind n) (nat_lt (n + i) (n + p) && nat_lt (n + p) (n + end)) (nat_lt i p && nat_lt p end) (Some p) None (Some (n + p)) None
    (ap (λ (b : Bool). b && nat_lt (n + p) (n + end)) (lt_there n i p) ∙ ap (λ (b : Bool). nat_lt i p && b) (lt_there n p end))
    (λ _. refl)
    (λ _. refl)

pub partner_in_there : {n : ℕ} {whole tokens : List CodeToken} → IsWindow n whole tokens → (end i : ℕ) → end ≤ length tokens
    → partner_in whole (n + end) (n + i) ≡ partner_behind n (partner_in tokens end i)
partner_in_there {n} {whole} {tokens} w end i most = by (cases_lt i end)
  where
    by : (i < end) ⊎ (end ≤ i) → partner_in whole (n + end) (n + i) ≡ partner_behind n (partner_in tokens end i)
    by (inl less) = ap (within (n + i) (n + end)) (partner_there w i (omega (arith, less, most))) ∙ within_there n i end (partner_of (slice_get tokens i))
    by (inr past) =
        within_past (n + i) (n + end) (partner_of (slice_get whole (n + i))) (omega (arith, past))
        ∙ ap (partner_behind n) (sym (within_past i end (partner_of (slice_get tokens i)) past))

-- ## Groups

behind_partner_there : (n otherwise : ℕ) (partner : Option ℕ) → behind_partner (n + otherwise) (partner_behind n partner) ≡ n + behind_partner otherwise partner
behind_partner_there n otherwise None = refl
behind_partner_there n otherwise (Some p) = omega arith

partner_or_there : (n otherwise : ℕ) (partner : Option ℕ) → partner_or (n + otherwise) (partner_behind n partner) ≡ n + partner_or otherwise partner
partner_or_there n otherwise None = refl
partner_or_there n otherwise (Some p) = refl

pub group_there : {n : ℕ} {whole tokens : List CodeToken} → IsWindow n whole tokens → (end i : ℕ) → end ≤ length tokens
    → after_group whole (n + end) (n + i) ≡ n + after_group tokens end i
group_there {n} {whole} {tokens} w end i most =
    choose (λ (x : ℕ). n + x) (is_open_round (seen whole (n + end) (n + i))) (is_open_round (seen tokens end i)) (behind_partner i (partner_in tokens end i)) i
    (behind_partner (n + i) (partner_in whole (n + end) (n + i))) (n + i) (ap is_open_round (seen_there w end i most))
    (λ _. ap (behind_partner (n + i)) (partner_in_there w end i most) ∙ behind_partner_there n i (partner_in tokens end i))
    (λ _. refl)

pub block_there : {n : ℕ} {whole tokens : List CodeToken} → IsWindow n whole tokens → (end i : ℕ) → end ≤ length tokens
    → block_end whole (n + end) (n + i) ≡ n + block_end tokens end i
block_there {n} {whole} {tokens} w end i most = ap (partner_or (n + end)) (partner_in_there w end i most) ∙ partner_or_there n end (partner_in tokens end i)

step_there : {n : ℕ} {whole tokens : List CodeToken} → IsWindow n whole tokens → (end i : ℕ) → end ≤ length tokens → i < end
    → step_over whole (n + end) (n + i) ≡ n + step_over tokens end i
step_there {n} {whole} {tokens} w end i most inside =
    choose (λ (x : ℕ). n + x) (is_opener (class_at whole (n + i))) (is_opener (class_at tokens i)) (behind_partner end (partner_in tokens end i)) (i + 1)
    (behind_partner (n + end) (partner_in whole (n + end) (n + i))) (n + i + 1) (ap is_opener (class_there w i (omega arith)))
    (λ _. ap (behind_partner (n + end)) (partner_in_there w end i most) ∙ behind_partner_there n end (partner_in tokens end i))
    (λ _. omega arith)

-- ## Outside brackets

pub colon_there : {n : ℕ} {whole tokens : List CodeToken} → IsWindow n whole tokens → (fuel end i asked : ℕ) → end ≤ length tokens
    → case_colon fuel whole (n + end) (n + i) asked ≡ n + case_colon fuel tokens end i asked
colon_there w zero end i asked most = refl
colon_there {n} {whole} {tokens} w (suc fuel) end i asked most =
    let one : n + i + 1 ≡ n + (i + 1) = omega arith in
    let next : (more : ℕ) → case_colon fuel whole (n + end) (n + i + 1) more ≡ n + case_colon fuel tokens end (i + 1) more =
    λ more. ap (λ (j : ℕ). case_colon fuel whole (n + end) j more) one ∙ colon_there w fuel end (i + 1) more most in
    choose (λ (x : ℕ). n + x) (nat_lt (n + i) (n + end)) (nat_lt i end) _ end _ (n + end) (lt_there n i end)
    (λ less. let inside : i < end = ltb-true i end less in
    choose (λ (x : ℕ). n + x) (is_question (class_at whole (n + i))) (is_question (class_at tokens i)) _ _ _ _ (ap is_question (class_there w i (omega arith)))
    (λ _. next (asked + 1))
    (λ _. choose (λ (x : ℕ). n + x) (is_colon (class_at whole (n + i))) (is_colon (class_at tokens i)) _ _ _ _ (ap is_colon (class_there w i (omega arith)))
    (λ _. choose (λ (x : ℕ). n + x) (nat_lt 0 asked) (nat_lt 0 asked) _ i _ (n + i) refl (λ _. next (asked - 1)) (λ _. refl))
    (λ _. ap (λ (j : ℕ). case_colon fuel whole (n + end) j asked) (step_there w end i most inside)
    ∙ colon_there w fuel end (step_over tokens end i) asked most)))
    (λ _. refl)

pub enumerator_there : {n : ℕ} {whole tokens : List CodeToken} → IsWindow n whole tokens → (fuel end i : ℕ) → end ≤ length tokens
    → enumerator_end fuel whole (n + end) (n + i) ≡ n + enumerator_end fuel tokens end i
enumerator_there w zero end i most = refl
enumerator_there {n} {whole} {tokens} w (suc fuel) end i most =
    choose (λ (x : ℕ). n + x) (nat_lt (n + i) (n + end)) (nat_lt i end) _ end _ (n + end) (lt_there n i end)
    (λ less. let inside : i < end = ltb-true i end less in
    choose (λ (x : ℕ). n + x) (is_comma (class_at whole (n + i))) (is_comma (class_at tokens i)) (i + 1) _ (n + i + 1) _
    (ap is_comma (class_there w i (omega arith)))
    (λ _. omega arith)
    (λ _. ap (enumerator_end fuel whole (n + end)) (step_there w end i most inside) ∙ enumerator_there w fuel end (step_over tokens end i) most))
    (λ _. refl)

-- ## Statements

-- the first of the tokens has one before it, which opens no list either
pub list_there : {n : ℕ} {whole tokens : List CodeToken} → IsWindow n whole tokens → (assigned : Bool) (i : ℕ) → i < length tokens
    → opens_list whole assigned (n + i) ≡ opens_list tokens assigned i
list_there {n} {whole} w assigned zero inside =
    let none : n + zero ≡ n = omega arith in
    ap (opens_list whole assigned) none ∙ rw (w.list, w.closes) refl
list_there {n} {whole} {tokens} w assigned (suc i) inside =
    let less : n + suc i - 1 ≡ n + i = omega arith in
    let one : suc i - 1 ≡ i = omega arith in
    let before : class_before whole (n + suc i) ≡ class_before tokens (suc i) =
    at_true (nat_lt 0 (n + suc i)) (class_at whole (n + suc i - 1)) Nothing (lt-ltb 0 (n + suc i) (omega arith))
    ∙ (ap (class_at whole) less
    ∙ (class_there w i (omega arith)
    ∙ (sym (ap (class_at tokens) one) ∙ sym (at_true (nat_lt 0 (suc i)) (class_at tokens (suc i - 1)) Nothing (lt-ltb 0 (suc i) (omega arith)))))) in
    ap (λ (c : TokenClass). is_before_list c || (is_close_round c && assigned)) before

abbrev pub stop_behind : ℕ → Stop → Stop
stop_behind n stop = record { at = n + stop.at; opens = stop.opens; assigned = stop.assigned }

opens_there : {n : ℕ} {whole tokens : List CodeToken} → IsWindow n whole tokens → (assigned : Bool) (i : ℕ) → i < length tokens
    → opens_block whole assigned (n + i) ≡ opens_block tokens assigned i
opens_there {n} {whole} {tokens} w assigned i inside =
    ap (λ (c : TokenClass). is_open_brace c && not (opens_list whole assigned (n + i))) (class_there w i inside)
    ∙ ap (λ (b : Bool). is_open_brace (class_at tokens i) && not b) (list_there w assigned i inside)

pub stop_there : {n : ℕ} {whole tokens : List CodeToken} → IsWindow n whole tokens → (fuel end i : ℕ) (assigned : Bool) → end ≤ length tokens
    → statement_stop fuel whole (n + end) (n + i) assigned ≡ stop_behind n (statement_stop fuel tokens end i assigned)
stop_there w zero end i assigned most = refl
stop_there {n} {whole} {tokens} w (suc fuel) end i assigned most =
    let one : n + i + 1 ≡ n + (i + 1) = omega arith in
    choose (stop_behind n) (nat_lt (n + i) (n + end)) (nat_lt i end) _ _ _ _ (lt_there n i end)
    (λ less. let inside : i < end = ltb-true i end less in
    let within : i < length tokens = omega arith in
    choose (stop_behind n) (is_semicolon (class_at whole (n + i))) (is_semicolon (class_at tokens i)) _ _ _ _ (ap is_semicolon (class_there w i within))
    (λ _. ap (λ (x : ℕ). record { at = x; opens = false; assigned = assigned }) one)
    (λ _. choose (stop_behind n) (opens_block whole assigned (n + i)) (opens_block tokens assigned i) _ _ _ _ (opens_there w assigned i within)
    (λ _. refl)
    (λ _. ap (λ (x : ℕ). statement_stop fuel whole (n + end) x (assigns whole assigned (n + i))) (step_there w end i most inside)
    ∙ (ap (λ (c : TokenClass). statement_stop fuel whole (n + end) (n + step_over tokens end i) (assigned || is_assigning c)) (class_there w i within)
    ∙ stop_there w fuel end (step_over tokens end i) (assigns tokens assigned i) most))))
    (λ _. refl)

-- ## Openers

-- an opener's place, and 0 for none
opener_behind : ℕ → ℕ → ℕ
opener_behind n o = elim (nat_lt 0 o) as (λ _. ℕ) [ true ↦ n + o | false ↦ 0 ]

opener_some : (n o : ℕ) → 0 < o → opener_behind n o ≡ n + o
unfolding opener_behind
opener_some n o some = at_true (nat_lt 0 o) (n + o) 0 (lt-ltb 0 o some)

is_some_there : (n o : ℕ) → nat_lt 0 (opener_behind n o) ≡ nat_lt 0 o
unfolding opener_behind
is_some_there n o = elim (cases_lt 0 o) [
  | inl some ↦ ap (nat_lt 0) (opener_some n o some) ∙ (lt-ltb 0 (n + o) (omega arith) ∙ sym (lt-ltb 0 o some))
  | inr none ↦ ap (nat_lt 0) (at_false (nat_lt 0 o) (n + o) 0 (le-ltb 0 o none)) ∙ sym (le-ltb 0 o none)
]

behind_there : (n first i : ℕ) (partner : Option ℕ) → behind (n + first) (n + i) (partner_behind n partner) ≡ opener_behind n (behind first i partner)
unfolding opener_behind
behind_there n first i None = refl
behind_there n first i (Some p) =
    let same : (nat_lt (n + first) (n + p) && nat_lt (n + p) (n + i)) ≡ (nat_lt first p && nat_lt p i) = rw (lt_there n first p, lt_there n p i) refl in
    choose (opener_behind n) (nat_lt (n + first) (n + p) && nat_lt (n + p) (n + i)) (nat_lt first p && nat_lt p i) p 0 (n + p) 0 same
    (λ both. let more : first < p = ltb-true first p (and_parts (nat_lt first p) (nat_lt p i) both).0 in sym (opener_some n p (omega arith)))
    (λ _. refl)

behind_low : (first i : ℕ) (partner : Option ℕ) → behind first i partner ≤ i
behind_low first i None = omega arith
behind_low first i (Some p) = keep (nat_lt first p) (nat_lt p i) refl
  where
    keep : (a b : Bool) → nat_lt p i ≡ b → (elim (a && b) as (λ _. ℕ) [ true ↦ p | false ↦ 0 ]) ≤ i
    keep true true less = let q : p < i = ltb-true p i less in omega arith
    keep true false less = omega arith
    keep false b less = omega arith

-- the opener itself where a call word stands before it
called : List CodeToken → ℕ → ℕ
called tokens o = elim (nat_lt 0 o && is_call_word (class_at tokens (o - 1))) as (λ _. ℕ) [ true ↦ o | false ↦ 0 ]

called_there : {n : ℕ} {whole tokens : List CodeToken} → IsWindow n whole tokens → (o : ℕ) → o ≤ length tokens
    → called whole (opener_behind n o) ≡ opener_behind n (called tokens o)
unfolding called opener_behind
called_there w zero most = refl
called_there {n} {whole} {tokens} w (suc k) most =
    let back : n + suc k - 1 ≡ n + k = omega arith in
    let one : suc k - 1 ≡ k = omega arith in
    let same : class_at whole (n + suc k - 1) ≡ class_at tokens (suc k - 1) = ap (class_at whole) back
    ∙ (class_there w k (omega arith) ∙ sym (ap (class_at tokens) one)) in
    ap (called whole) (opener_some n (suc k) (omega arith))
    ∙ choose (opener_behind n) (nat_lt 0 (n + suc k) && is_call_word (class_at whole (n + suc k - 1)))
    (nat_lt 0 (suc k) && is_call_word (class_at tokens (suc k - 1))) (suc k) 0 (n + suc k) 0
    (rw (lt-ltb 0 (n + suc k) (omega arith), lt-ltb 0 (suc k) (omega arith)) (ap is_call_word same))
    (λ _. sym (opener_some n (suc k) (omega arith)))
    (λ _. refl)

called_low : (tokens : List CodeToken) (o most : ℕ) → o ≤ most → called tokens o ≤ most
unfolding called
called_low tokens o most low = keep (nat_lt 0 o && is_call_word (class_at tokens (o - 1)))
  where
    keep : (b : Bool) → (elim b as (λ _. ℕ) [ true ↦ o | false ↦ 0 ]) ≤ most
    keep true = low
    keep false = omega arith

call_there : {n : ℕ} {whole tokens : List CodeToken} → IsWindow n whole tokens → (first i : ℕ) → 0 < i → i ≤ length tokens
    → call_opener whole (n + first) (n + i) ≡ opener_behind n (call_opener tokens first i)
unfolding called opener_behind
call_there {n} {whole} {tokens} w first i some most =
    let back : n + i - 1 ≡ n + (i - 1) = omega arith in
    let partner : partner_of (slice_get whole (n + i - 1)) ≡ partner_behind n (partner_of (slice_get tokens (i - 1))) =
    ap (λ (k : ℕ). partner_of (slice_get whole k)) back ∙ partner_there w (i - 1) (omega arith) in
    let opener : behind (n + first) (n + i - 1) (partner_of (slice_get whole (n + i - 1))) ≡ opener_behind n
    (behind first (i - 1) (partner_of (slice_get tokens (i - 1)))) =
    ap (λ (k : ℕ). behind (n + first) k (partner_of (slice_get whole (n + i - 1)))) back
    ∙ (ap (behind (n + first) (n + (i - 1))) partner ∙ behind_there n first (i - 1) (partner_of (slice_get tokens (i - 1)))) in
    let low = behind_low first (i - 1) (partner_of (slice_get tokens (i - 1))) in
    choose (opener_behind n) (is_close_round (class_at whole (n + i - 1))) (is_close_round (class_at tokens (i - 1)))
    (called tokens (behind first (i - 1) (partner_of (slice_get tokens (i - 1))))) 0
    (called whole (behind (n + first) (n + i - 1) (partner_of (slice_get whole (n + i - 1))))) 0
    (ap (λ (k : ℕ). is_close_round (class_at whole k)) back ∙ ap is_close_round (class_there w (i - 1) (omega arith)))
    (λ _. ap (called whole) opener ∙ called_there w (behind first (i - 1) (partner_of (slice_get tokens (i - 1)))) (omega (arith, low)))
    (λ _. refl)

call_low : (tokens : List CodeToken) (first i : ℕ) → call_opener tokens first i ≤ i
unfolding called
call_low tokens first i = keep (is_close_round (class_at tokens (i - 1)))
  where
    o : ℕ
    o = behind first (i - 1) (partner_of (slice_get tokens (i - 1)))

    keep : (b : Bool) → (elim b as (λ _. ℕ) [ false ↦ 0 | true ↦ called tokens o ]) ≤ i
    keep true = called_low tokens o i (let low = behind_low first (i - 1) (partner_of (slice_get tokens (i - 1))) in omega (arith, low))
    keep false = omega arith

pub tag_there : {n : ℕ} {whole tokens : List CodeToken} → IsWindow n whole tokens → (fuel first i : ℕ) (found : TokenClass) → i ≤ length tokens
    → tag_before fuel whole (n + first) (n + i) found ≡ tag_before fuel tokens first i found
tag_there w zero first i found most = refl
tag_there {n} {whole} {tokens} w (suc fuel) first i found most =
    chosen (nat_lt (n + first) (n + i)) (nat_lt first i) _ _ _ _ (lt_there n first i)
    (λ less. let inside : first < i = ltb-true first i less in
    let back : n + i - 1 ≡ n + (i - 1) = omega arith in
    let same : class_at whole (n + i - 1) ≡ class_at tokens (i - 1) = ap (class_at whole) back ∙ class_there w (i - 1) (omega arith) in
    let opener : call_opener whole (n + first) (n + i) ≡ opener_behind n (call_opener tokens first i) = call_there w first i (omega arith) most in
    let low = call_low tokens first i in
    chosen (is_member_word (class_at whole (n + i - 1))) (is_member_word (class_at tokens (i - 1))) _ _ _ _ (ap is_member_word same) (λ _. same)
    (λ _. chosen (is_word (class_at whole (n + i - 1))) (is_word (class_at tokens (i - 1))) _ _ _ _ (ap is_word same)
    (λ _. ap (λ (k : ℕ). tag_before fuel whole (n + first) k (enum_or (class_at whole (n + i - 1)) found)) back
    ∙ (ap (λ (c : TokenClass). tag_before fuel whole (n + first) (n + (i - 1)) (enum_or c found)) same
    ∙ tag_there w fuel first (i - 1) (enum_or (class_at tokens (i - 1)) found) (omega arith)))
    (λ _. chosen (nat_lt 0 (call_opener whole (n + first) (n + i))) (nat_lt 0 (call_opener tokens first i)) _ _ _ _
    (ap (nat_lt 0) opener ∙ is_some_there n (call_opener tokens first i))
    (λ some. let is : 0 < call_opener tokens first i = ltb-true 0 (call_opener tokens first i) some in
    ap (λ (k : ℕ). tag_before fuel whole (n + first) k found) (opener ∙ opener_some n (call_opener tokens first i) is)
    ∙ tag_there w fuel first (call_opener tokens first i) found (omega (arith, low)))
    (λ _. refl))))
    (λ _. refl)
