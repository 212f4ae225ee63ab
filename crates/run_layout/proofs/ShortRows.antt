-- The columns of a short row, and what stands behind it.
use Rattle.std.proofs.Common.{◌≡◌, ◌∙◌, ◌⊎◌, inl, inr, ℕ, zero, suc, ◌+◌, ◌-◌, ◌<◌, ◌≤◌, Bool, true, false, Some, List}
use Rattle.std.proofs.Common.{[], ◌∷◌, length, drop, refl, sym, ap, arith, subst, slice_get}
use Rattle.std.specs.Prelude.{All, if◌then◌else◌}
use Rattle.std.proofs.Math.Nat.{eq-or-lt_of_le}
use Rattle.std.proofs.lemmas.List.{drop_all}
use Rattle.std.proofs.lemmas.Option.{get_or_from_slice_get}
use Rattle.style_table.specs.declared.style.Style.{Style}
use Rattle.line_tokens.specs.declared.LineTok.{LineTok}
use Rattle.line_tokens.specs.Tokens.{no_token}
use Rattle.line_tokens.specs.Columns.{end_of}
use Rattle.line_tokens.specs.Roles.{is_trailing}
use Rattle.layout_tables.specs.Spaces.{spaces_before}
use Rattle.replacements.specs.declared.slot.Slot.{Slot}
use Rattle.run_layout.specs.OneRow.{IsShortRow, row_made, stay_start, width_to}
use Rattle.run_layout.proofs.RowBounds.{one_at_most}
use Rattle.run_layout.proofs.RowSteps.{drop_here}

-- ## Columns

width_step : (tokens : List LineTok) (i : ℕ) (token : LineTok) → slice_get tokens (suc i) ≡ Some token → width_to tokens (suc i) ≡ width_to tokens i + (1 + token.last_width)
width_step tokens i token at = ap (λ (t : LineTok). width_to tokens i + (1 + t.last_width)) (get_or_from_slice_get tokens (suc i) token no_token at)

-- one more token
pub width_at : (tokens : List LineTok) (at : ℕ) (token : LineTok) → 1 ≤ at → slice_get tokens at ≡ Some token → width_to tokens (at + 1 - 1) ≡ width_to tokens (at - 1) + (1 + token.last_width)
width_at tokens zero token from here = absurd (omega (arith, from))
width_at tokens (suc i) token from here =
    let place : suc i + 1 - 1 ≡ suc i = omega arith in
    let less : i ≡ suc i - 1 = omega arith in
    ap (λ n. width_to tokens n) place ∙ (width_step tokens i token here ∙ ap (λ n. width_to tokens n + (1 + token.last_width)) less)

pub width_more : (tokens : List LineTok) (behind at most next : ℕ) (token : LineTok) → 1 ≤ at → slice_get tokens at ≡ Some token → behind + width_to tokens (at - 1) ≤ most → most + 1 + token.last_width ≤ next
    → behind + width_to tokens (at + 1 - 1) ≤ next
width_more tokens behind at most next token from here before ends = omega (arith, width_at tokens at token from here, before, ends)

width_grows : (tokens : List LineTok) (i more : ℕ) → width_to tokens i ≤ width_to tokens (i + more)
width_grows tokens i zero =
    let place : i + 0 ≡ i = omega arith in
    let same : width_to tokens (i + 0) ≡ width_to tokens i = ap (λ n. width_to tokens n) place in
    omega (arith, same)
width_grows tokens i (suc more) =
    let below : width_to tokens i ≤ width_to tokens (i + more) = width_grows tokens i more in
    let place : i + suc more ≡ suc (i + more) = omega arith in
    let next : width_to tokens (i + suc more) ≡ width_to tokens (suc (i + more)) = ap (λ n. width_to tokens n) place in
    omega (arith, below, next)

width_within : (tokens : List LineTok) (i n : ℕ) → i ≤ n → width_to tokens i ≤ width_to tokens n
width_within tokens i n h =
    let place : i + (n - i) ≡ n = omega (arith, h) in
    subst (λ m. width_to tokens i ≤ width_to tokens m) place (width_grows tokens i (n - i))

-- each token of a short row ends near
pub ends_near : (tokens : List LineTok) (behind count at column : ℕ) (token : LineTok) → IsShortRow tokens behind count → 1 ≤ at → at < count → slice_get tokens at ≡ Some token → column ≤ behind + width_to tokens (at - 1)
    → column + 1 + token.last_width ≤ 1000
ends_near tokens behind count zero column token short from below here within = absurd (omega (arith, from))
ends_near tokens behind count (suc i) column token short from below here within =
    let less : suc i - 1 ≡ i = omega arith in
    let was : width_to tokens (suc i - 1) ≡ width_to tokens i = ap (λ n. width_to tokens n) less in
    let width : width_to tokens (suc i) ≡ width_to tokens i + (1 + token.last_width) = width_step tokens i token here in
    let all : width_to tokens (suc i) ≤ width_to tokens (count - 1) = width_within tokens (suc i) (count - 1) (omega (arith, below)) in
    omega (arith, within, was, width, all, short.few)

-- and starts near, behind a blank at most
pub starts_near : (style : Style) (tokens : List LineTok) (behind count at column spaces : ℕ) (left right : LineTok) → IsShortRow tokens behind count → 1 ≤ at → at < count → slice_get tokens at ≡ Some right
    → column ≤ behind + width_to tokens (at - 1) → spaces ≡ spaces_before style left right → column + spaces + right.last_width ≤ 1000
starts_near style tokens behind count at column spaces left right short from below here within is =
    let near : column + 1 + right.last_width ≤ 1000 = ends_near tokens behind count at column right short from below here within in
    let stands : is_trailing right.role ≡ false = short.stand at right (omega (arith, from)) below here in
    let one : spaces ≤ 1 = omega (arith, is, one_at_most style left right stands) in
    omega (arith, near, one)

-- ## Behind the row

-- nothing is decided for trailing comments
pub none_stand : (style : Style) (column : ℕ) (left : LineTok) (tokens : List LineTok) → All (λ token. is_trailing token.role ≡ true) tokens → row_made style column left tokens ≡ []
none_stand style column left [] wait = refl
none_stand style column left (token ∷ tokens) wait =
    let first : is_trailing token.role ≡ true = wait 0 token (omega arith) in
    let start : ℕ = stay_start style column left token in
    let later : row_made style (end_of token start) token tokens ≡ [] = none_stand style (end_of token start) token tokens (λ k d below. wait (suc k) d (omega (arith, below))) in
    by_flag (is_trailing token.role) _ _ first later
  where
    by_flag : (waits : Bool) (later all : List (ℕ × Slot)) → waits ≡ true → later ≡ [] → (if waits then later else all) ≡ []
    by_flag true later all e h = h
    by_flag false later all e h = cc

-- nothing at all stands behind the last token
none_wait : (tokens : List LineTok) → All (λ token. is_trailing token.role ≡ true) (drop (length tokens) tokens)
none_wait tokens = subst (λ (xs : List LineTok). All (λ token. is_trailing token.role ≡ true) xs) (sym (drop_all (length tokens) tokens (omega arith))) (λ k d below. absurd (omega (arith, below)))

-- one comment waits
pub one_waits : (tokens : List LineTok) (at : ℕ) (token : LineTok) → slice_get tokens at ≡ Some token → at + 1 ≡ length tokens → is_trailing token.role ≡ true → All (λ t. is_trailing t.role ≡ true) (drop at tokens)
one_waits tokens at token here all waits =
    let rest : drop at tokens ≡ token ∷ [] = drop_here tokens at token here ∙ ap (λ (xs : List LineTok). token ∷ xs) (drop_all (at + 1) tokens (omega (arith, all))) in
    subst (λ (xs : List LineTok). All (λ t. is_trailing t.role ≡ true) xs) (sym rest) alone
  where
    alone : All (λ t. is_trailing t.role ≡ true) (token ∷ [])
    alone zero d below = waits
    alone (suc k) d below = absurd (omega (arith, below))

-- ## Up to here

some_same : (a b : LineTok) → Some a ≡ Some b → a ≡ b
some_same a b e = cc

-- one more token that stands in the row
pub stand_more : (tokens : List LineTok) (at : ℕ) (right : LineTok) → ((i : ℕ) (token : LineTok) → 0 < i → i < at → slice_get tokens i ≡ Some token → is_trailing token.role ≡ false) → slice_get tokens at ≡ Some right → is_trailing right.role ≡ false
    → (i : ℕ) (token : LineTok) → 0 < i → i < at + 1 → slice_get tokens i ≡ Some token → is_trailing token.role ≡ false
stand_more tokens at right before here stands i token some within is = by_place (eq-or-lt_of_le {n = i} {m = at} (omega (arith, within)))
  where
    by_place : (i ≡ at) ⊎ (i < at) → is_trailing token.role ≡ false
    by_place (inl same) = ap (λ (t : LineTok). is_trailing t.role) (some_same token right (sym is ∙ (ap (slice_get tokens) same ∙ here))) ∙ stands
    by_place (inr less) = before i token some less is

-- all tokens stand in the row, and none waits
pub all_stand : (tokens : List LineTok) (behind at count most : ℕ) → 0 < length tokens → at ≡ length tokens → count ≡ length tokens
    → ((i : ℕ) (token : LineTok) → 0 < i → i < at → slice_get tokens i ≡ Some token → is_trailing token.role ≡ false) → behind + width_to tokens (at - 1) ≤ most → most ≤ 1000 → IsShortRow tokens behind count
all_stand tokens behind at count most some all are stand widths near =
    let width : width_to tokens (at - 1) ≡ width_to tokens (count - 1) = ap (λ n. width_to tokens (n - 1)) (all ∙ sym are) in
    record {
      some = omega (arith, some, are);
      within = omega (arith, are);
      stand = λ i token from below is. stand i token from (omega (arith, all, are, below)) is;
      wait = subst (λ n. All (λ token. is_trailing token.role ≡ true) (drop n tokens)) (sym are) (none_wait tokens);
      few = omega (arith, widths, width, near);
    }
