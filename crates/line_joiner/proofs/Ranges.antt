-- What stands at some places of a list, one place less.
use Rattle.std.proofs.Common.{◌≡◌, ◌∙◌, ℕ, suc, ◌+◌, ◌-◌, ◌<◌, ◌≤◌, true, false, List, [], ◌∷◌, ◌++◌, length, length-drop, drop, take, get_or, ap, refl, arith}
use Rattle.std.specs.Prelude.{reverse, slice_range}
use Rattle.std.proofs.lemmas.List.{drop_more, get_or-drop, reverse-append, take_more}
use Rattle.line_tokens.specs.declared.LineTok.{LineTok}
use Rattle.line_joiner.specs.Facts.{all_comments, first_role, is_alone, is_comment_role}

one_before : {X : Type 0} (xs : List X) (at end : ℕ) (d : X) → at < end → end ≤ length xs → slice_range xs at end ≡ get_or xs at d ∷ slice_range xs (at + 1) end
one_before xs at end d some within =
    let more : end - at ≡ suc (end - (at + 1)) = omega (arith, some) in
    ap (λ n. take n (drop at xs)) more ∙ ap (λ ys. take (suc (end - (at + 1))) ys) (drop_more xs at d (omega (arith, some, within)))

one_behind : {X : Type 0} (xs : List X) (first at : ℕ) (d : X) → first ≤ at → at < length xs → slice_range xs first (at + 1) ≡ slice_range xs first at ++ get_or xs at d ∷ []
one_behind xs first at d from within =
    let more : at + 1 - first ≡ at - first + 1 = omega (arith, from) in
    let there : first + (at - first) ≡ at = omega (arith, from) in
    ap (λ n. take n (drop first xs)) more
    ∙ (take_more (drop first xs) (at - first) d (omega (arith, length-drop first xs, within, from))
    ∙ ap (λ x. slice_range xs first at ++ x ∷ []) (get_or-drop first xs (at - first) d ∙ ap (λ i. get_or xs i d) there))

-- ## Comments

module _ (toks : List LineTok) (d : LineTok) where
  -- behind a comment the places behind it tell
  pub behind_comment : (at end : ℕ) → at < end → end ≤ length toks → is_comment_role (get_or toks at d).role ≡ true → all_comments (slice_range toks at end) ≡ all_comments (slice_range toks (at + 1) end)
  behind_comment at end some within comment = rw (one_before toks at end d some within, comment) refl

  -- another token is none
  pub no_comment : (at end : ℕ) → at < end → end ≤ length toks → is_comment_role (get_or toks at d).role ≡ false → all_comments (slice_range toks at end) ≡ false
  no_comment at end some within other = rw (one_before toks at end d some within, other) refl

  -- where some token stands, those behind it tell
  pub some_alone : (first end : ℕ) → first < end → end ≤ length toks → all_comments (slice_range toks (first + 1) end) ≡ is_alone (slice_range toks first end)
  some_alone first end some within = rw (one_before toks first end d some within) refl

  -- ## The last token

  backwards : (first at : ℕ) → first < at → at ≤ length toks → first_role (reverse (slice_range toks first at)) ≡ first_role (get_or toks (at - 1) d ∷ reverse (slice_range toks first (at - 1)))
  backwards first at from within =
      let on : at ≡ at - 1 + 1 = omega (arith, from) in
      ap (λ n. first_role (reverse (slice_range toks first n))) on
      ∙ (ap (λ ts. first_role (reverse ts)) (one_behind toks first (at - 1) d (omega (arith, from)) (omega (arith, from, within)))
      ∙ ap first_role (reverse-append (slice_range toks first (at - 1)) (get_or toks (at - 1) d ∷ [])))

  -- before a comment the places before it tell
  pub before_comment : (first at : ℕ) → first < at → at ≤ length toks → is_comment_role (get_or toks (at - 1) d).role ≡ true → first_role (reverse (slice_range toks first at)) ≡ first_role (reverse (slice_range toks first (at - 1)))
  before_comment first at from within comment = backwards first at from within ∙ (rw comment refl)

  -- another token is the last
  pub last_there : (first at : ℕ) → first < at → at ≤ length toks → is_comment_role (get_or toks (at - 1) d).role ≡ false → first_role (reverse (slice_range toks first at)) ≡ (get_or toks (at - 1) d).role
  last_there first at from within other = backwards first at from within ∙ (rw other refl)
