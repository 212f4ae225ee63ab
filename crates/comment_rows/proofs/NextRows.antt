-- Whether the next trailing comment stands on the next row.
use Rattle.std.proofs.Common.{◌≡◌, ◌==◌, ℕ, suc, ◌+◌, ◌-◌, ◌<◌, Bool, true, false, Option, List, [], ◌∷◌, ◌++◌, length, get_or, drop, refl, ap, sym, ◌∙◌, subst, arith}
use Rattle.std.proofs.Math.Seq.{drop-cons}
use Rattle.std.specs.Prelude.{if◌then◌else◌}
use Rattle.std.proofs.lemmas.Bool.Decides.{nat_tests}
use Rattle.line_tokens.specs.Roles.{is_trailing}
use Rattle.line_tokens.specs.declared.LineTok.{LineTok}
use Rattle.replacements.specs.declared.slot.Slot.{Slot}
use Rattle.replacements.specs.Decisions.{slot_of}
use Rattle.comment_rows.specs.Comments.{is_next, rows_before}

past_by : (directive trailing : Bool) (here : ℕ) (later : Bool) → 1 < here → later ≡ false → (if directive then false else (if trailing then here == 1 else later)) ≡ false
past_by true trailing here later past r = refl
past_by false true here later past r = grind (arith, nat_tests)
past_by false false here later past r = r

-- no comment stands on the next row where more than one row ended
pub none_next : (plan : List (Option Slot)) (ended : ℕ) (tokens : List LineTok) → 1 < ended → is_next plan ended tokens ≡ false
none_next plan ended [] past = refl
none_next plan ended (token ∷ tokens) past =
    let here : ℕ = ended + rows_before (slot_of plan token.id.0) token in
    past_by token.directive (is_trailing token.role) here (is_next plan (here + (token.rows - 1)) tokens) (omega arith) (none_next plan (here + (token.rows - 1)) tokens (omega arith))

-- where so many rows ended before the next token and in it
pub next_stops : (plan : List (Option Slot)) (tokens after : List LineTok) (i ended : ℕ) (d : LineTok) (slot : Option Slot) → i < length tokens → (get_or tokens i d).directive ≡ false → is_trailing (get_or tokens i d).role ≡ false
    → slot ≡ slot_of plan (get_or tokens i d).id.0 → 1 < ended + rows_before slot (get_or tokens i d) + ((get_or tokens i d).rows - 1) → is_next plan ended (drop i tokens ++ after) ≡ false
next_stops plan tokens after i ended d slot within directive trailing slot_is past =
    let token : LineTok = get_or tokens i d in
    let later : List LineTok = drop (suc i) tokens ++ after in
    let here : ℕ = ended + rows_before (slot_of plan token.id.0) token in
    ap (λ (xs : List LineTok). is_next plan ended (xs ++ after)) (drop-cons tokens i d within)
    ∙ by_flags token.directive (is_trailing token.role) (here == 1) (is_next plan (here + (token.rows - 1)) later) directive trailing
    (none_next plan (here + (token.rows - 1)) later (subst (λ (o : Option Slot). 1 < ended + rows_before o token + (token.rows - 1)) slot_is past))
  where
    by_flags : (f t one rest : Bool) → f ≡ false → t ≡ false → rest ≡ false → (if f then false else (if t then one else rest)) ≡ false
    by_flags true t one rest a b r = cc
    by_flags false true one rest a b r = cc
    by_flags false false one rest a b r = r

-- behind a token that tells nothing those behind it tell the rest
pub next_goes_on : (plan : List (Option Slot)) (tokens after : List LineTok) (i ended now : ℕ) (d : LineTok) → i < length tokens → (get_or tokens i d).directive ≡ false → is_trailing (get_or tokens i d).role ≡ false
    → now ≡ ended + rows_before (slot_of plan (get_or tokens i d).id.0) (get_or tokens i d) + ((get_or tokens i d).rows - 1) → is_next plan now (drop (i + 1) tokens ++ after) ≡ is_next plan ended (drop i tokens ++ after)
next_goes_on plan tokens after i ended now d within directive trailing ends =
    let token : LineTok = get_or tokens i d in
    let here : ℕ = ended + rows_before (slot_of plan token.id.0) token in
    let rest : Bool = is_next plan (here + (token.rows - 1)) (drop (suc i) tokens ++ after) in
    let on : i + 1 ≡ suc i = omega arith in
    ap (λ n. is_next plan n (drop (i + 1) tokens ++ after)) ends
    ∙ (ap (λ n. is_next plan (here + (token.rows - 1)) (drop n tokens ++ after)) on
    ∙ sym (ap (λ (xs : List LineTok). is_next plan ended (xs ++ after)) (drop-cons tokens i d within)
    ∙ (ap (λ (f : Bool). if f then false else (if is_trailing token.role then here == 1 else rest)) directive ∙ ap (λ (t : Bool). if t then here == 1 else rest) trailing)))

-- behind a directive no comment stands on the next row
pub next_told : (plan : List (Option Slot)) (tokens after : List LineTok) (i ended : ℕ) (d : LineTok) → i < length tokens → (get_or tokens i d).directive ≡ true → false ≡ is_next plan ended (drop i tokens ++ after)
next_told plan tokens after i ended d within directive =
    let token : LineTok = get_or tokens i d in
    let here : ℕ = ended + rows_before (slot_of plan token.id.0) token in
    let rest : Bool = is_next plan (here + (token.rows - 1)) (drop (suc i) tokens ++ after) in
    sym (ap (λ (xs : List LineTok). is_next plan ended (xs ++ after)) (drop-cons tokens i d within)
    ∙ ap (λ (f : Bool). if f then false else (if is_trailing token.role then here == 1 else rest)) directive)

-- at a comment the rows that ended before it tell it
pub next_found : (plan : List (Option Slot)) (tokens after : List LineTok) (i ended : ℕ) (d : LineTok) → i < length tokens → (get_or tokens i d).directive ≡ false → is_trailing (get_or tokens i d).role ≡ true
    → (ended + rows_before (slot_of plan (get_or tokens i d).id.0) (get_or tokens i d) == 1) ≡ is_next plan ended (drop i tokens ++ after)
next_found plan tokens after i ended d within directive trailing =
    let token : LineTok = get_or tokens i d in
    let here : ℕ = ended + rows_before (slot_of plan token.id.0) token in
    let rest : Bool = is_next plan (here + (token.rows - 1)) (drop (suc i) tokens ++ after) in
    sym (ap (λ (xs : List LineTok). is_next plan ended (xs ++ after)) (drop-cons tokens i d within)
    ∙ (ap (λ (f : Bool). if f then false else (if is_trailing token.role then here == 1 else rest)) directive ∙ ap (λ (t : Bool). if t then here == 1 else rest) trailing))
