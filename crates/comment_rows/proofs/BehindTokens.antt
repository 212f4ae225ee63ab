-- Columns behind the tokens of a view, and the comments behind them.
use Rattle.std.proofs.Common.{◌≡◌, ◌∙◌, ℕ, zero, suc, ◌+◌, ◌-◌, ◌<◌, ◌≤◌, Bool, true, false, Option, Some, List, [], ◌∷◌, ◌++◌, length, drop, get_or, refl, sym, ap, subst, arith}
use Rattle.std.specs.Prelude.{if◌then◌else◌, slice_get, slice_range}
use Rattle.std.proofs.lemmas.List.{get_or-drop, get_or-take}
use Rattle.std.proofs.lemmas.Option.{get_or_from_slice_get, slice_get-get_or}
use Rattle.style_table.specs.declared.style.Style.{Style}
use Rattle.line_tokens.specs.Roles.{is_trailing}
use Rattle.line_tokens.specs.declared.LineTok.{LineTok}
use Rattle.line_tokens.specs.Columns.{end_of}
use Rattle.replacements.specs.declared.slot.Slot.{Slot}
use Rattle.replacements.specs.Decisions.{slot_of}
use Rattle.comment_rows.specs.declared.comments.Comment.{Comment}
use Rattle.comment_rows.specs.Comments.{column_behind, comment_at, comment_of, comments_behind, comments_in, first_start, start_by}
use Rattle.line_tokens.specs.Tokens.{no_token}
use Rattle.comment_rows.proofs.CommentLists.{comments_more, drop_here}

module _ (style : Style) (plan : List (Option Slot)) (tokens : List LineTok) where
  -- a decided gap tells it
  pub by_decided : (token : LineTok) (slot : Slot) (place behind : ℕ) → token ≡ get_or tokens place no_token → slot_of plan token.id.0 ≡ Some slot → behind ≡ end_of token slot.end → behind ≡ column_behind style plan tokens place
  by_decided token slot place behind at decided ends =
      let same : get_or tokens place no_token ≡ token = sym at in
      ends ∙ (sym (ap (λ (t : LineTok). end_of t slot.end) same) ∙ at_place place (ap (λ (t : LineTok). slot_of plan t.id.0) same ∙ decided))
    where
      at_place : (place : ℕ) → slot_of plan (get_or tokens place no_token).id.0 ≡ Some slot → end_of (get_or tokens place no_token) slot.end ≡ column_behind style plan tokens place
      at_place zero e = sym (ap (λ (o : Option Slot). end_of (get_or tokens 0 no_token) (first_start o)) e)
      at_place (suc n) e =
          sym (ap (λ (o : Option Slot). end_of (get_or tokens (suc n) no_token) (start_by style (get_or tokens n no_token) (column_behind style plan tokens n) (get_or tokens (suc n) no_token) o)) e)

  -- ## The comments

  after : (n : ℕ) (before now : List Comment) → suc n < length tokens
      → now ≡ before ++ comment_at style plan (get_or tokens n no_token) (column_behind style plan tokens n) (get_or tokens (suc n) no_token) (drop (suc n + 1) tokens)
      → now ++ comments_behind style plan (get_or tokens (suc n) no_token) (column_behind style plan tokens (suc n)) (drop (suc n + 1) tokens)
      ≡ before ++ comments_behind style plan (get_or tokens n no_token) (column_behind style plan tokens n) (drop (suc n) tokens)
  after n before now below made =
      let left = get_or tokens n no_token in
      let token = get_or tokens (suc n) no_token in
      comments_more style plan tokens (suc n) left token (column_behind style plan tokens n) (start_by style left (column_behind style plan tokens n) token (slot_of plan token.id.0)) (column_behind style plan tokens (suc n)) before now
      (drop (suc n + 1) tokens) refl (drop_here tokens (suc n) token (slice_get-get_or tokens (suc n) no_token below)) refl refl made

  -- one token more
  pub one_more : (at : ℕ) (before now : List Comment) → 1 ≤ at → at < length tokens
      → now ≡ before ++ comment_at style plan (get_or tokens (at - 1) no_token) (column_behind style plan tokens (at - 1)) (get_or tokens at no_token) (drop (at + 1) tokens)
      → now ++ comments_behind style plan (get_or tokens (at + 1 - 1) no_token) (column_behind style plan tokens (at + 1 - 1)) (drop (at + 1) tokens)
      ≡ before ++ comments_behind style plan (get_or tokens (at - 1) no_token) (column_behind style plan tokens (at - 1)) (drop at tokens)
  one_more zero before now some below made = absurd (omega (arith, some))
  one_more (suc n) before now some below made =
      let back : n ≡ suc n - 1 = omega arith in
      let on : suc n ≡ suc n + 1 - 1 = omega arith in
      subst (λ m. now ++ comments_behind style plan (get_or tokens m no_token) (column_behind style plan tokens m) (drop (suc n + 1) tokens)
      ≡ before ++ comments_behind style plan (get_or tokens (suc n - 1) no_token) (column_behind style plan tokens (suc n - 1)) (drop (suc n) tokens)) on
      (subst (λ k. now ≡ before ++ comment_at style plan (get_or tokens k no_token) (column_behind style plan tokens k) (get_or tokens (suc n) no_token) (drop (suc n + 1) tokens)
      → now ++ comments_behind style plan (get_or tokens (suc n) no_token) (column_behind style plan tokens (suc n)) (drop (suc n + 1) tokens)
      ≡ before ++ comments_behind style plan (get_or tokens k no_token) (column_behind style plan tokens k) (drop (suc n) tokens)) back
      (after n before now below) made)

  -- those behind the token before a place
  abbrev pub comments_from : ℕ → List Comment
  comments_from at = comments_behind style plan (get_or tokens (at - 1) no_token) (column_behind style plan tokens (at - 1)) (drop at tokens)

  -- one comment more
  pub found_more : (at : ℕ) (before now : List Comment) (comment : Comment) → 1 ≤ at → at < length tokens → is_trailing (get_or tokens at no_token).role ≡ true
      → comment ≡ comment_of style plan (get_or tokens (at - 1) no_token) (column_behind style plan tokens (at - 1)) (get_or tokens at no_token) (drop (at + 1) tokens)
      → now ≡ before ++ comment ∷ [] → now ++ comments_from (at + 1) ≡ before ++ comments_from at
  found_more at before now comment some below trailing is made =
      let left = get_or tokens (at - 1) no_token in
      let column = column_behind style plan tokens (at - 1) in
      let token = get_or tokens at no_token in
      let later = drop (at + 1) tokens in
      one_more at before now some below
      (made ∙ (ap (λ (c : Comment). before ++ c ∷ []) is ∙ sym (ap (λ (b : Bool). before ++ (if b then comment_of style plan left column token later ∷ [] else [])) trailing)))

  -- none at a token that is no trailing comment
  none_at : (at : ℕ) → 1 ≤ at → at < length tokens → is_trailing (get_or tokens at no_token).role ≡ false → comments_from (at + 1) ≡ comments_from at
  none_at at some below other =
      let left = get_or tokens (at - 1) no_token in
      let column = column_behind style plan tokens (at - 1) in
      let token = get_or tokens at no_token in
      let later = drop (at + 1) tokens in
      one_more at [] [] some below (sym (ap (λ (b : Bool). if b then comment_of style plan left column token later ∷ [] else []) other))

  none_by : (count from : ℕ) → 1 ≤ from → from + count ≤ length tokens → ((i : ℕ) (d : LineTok) → from ≤ i → i < from + count → is_trailing (get_or tokens i d).role ≡ false)
      → comments_from (from + count) ≡ comments_from from
  none_by zero from some within others =
      let same : from ≡ from + 0 = omega arith in
      subst (λ k. comments_from k ≡ comments_from from) same refl
  none_by (suc count) from some within others =
      let same : from + 1 + count ≡ from + suc count = omega arith in
      subst (λ k. comments_from k ≡ comments_from from) same
      (none_by count (from + 1) (omega arith) (omega (arith, within)) (λ i d low high. others i d (omega (arith, low)) (omega (arith, high)))
      ∙ none_at from some (omega (arith, within)) (others from no_token (omega arith) (omega arith)))

  -- none of a stretch of tokens that are no trailing comments
  pub none_between : (from at : ℕ) → 1 ≤ from → from ≤ at → at ≤ length tokens → ((i : ℕ) (d : LineTok) → from ≤ i → i < at → is_trailing (get_or tokens i d).role ≡ false) → comments_from at ≡ comments_from from
  none_between from at some order within others =
      let same : from + (at - from) ≡ at = omega (arith, order) in
      subst (λ k. comments_from k ≡ comments_from from) same
      (none_by (at - from) from some (omega (arith, order, within)) (λ i d low high. others i d low (omega (arith, high, order))))

  -- ## Columns one after another

  -- one more token of those from a place on
  pub one_behind : (made : List LineTok) (from end at column next : ℕ) (left token : LineTok) → made ≡ slice_range tokens from end → slice_get made at ≡ Some left → slice_get made (at + 1) ≡ Some token → from + (at + 1) < end
      → column ≡ column_behind style plan tokens (from + at) → next ≡ end_of token (start_by style left column token (slot_of plan token.id.0)) → next ≡ column_behind style plan tokens (from + (at + 1))
  one_behind made from end at column next left token is here there below known ends =
      let more : suc (from + at) ≡ from + (at + 1) = omega arith in
      let left_is : left ≡ get_or tokens (from + at) no_token = in_range at left (omega (arith, below)) here in
      let token_is : token ≡ get_or tokens (suc (from + at)) no_token = subst (λ k. token ≡ get_or tokens k no_token) (sym more) (in_range (at + 1) token below there) in
      subst (λ k. next ≡ column_behind style plan tokens k) more
      (ends ∙ (ap (λ (l : LineTok). end_of token (start_by style l column token (slot_of plan token.id.0))) left_is
      ∙ (ap (λ x. end_of token (start_by style (get_or tokens (from + at) no_token) x token (slot_of plan token.id.0))) known
      ∙ ap (λ (t : LineTok). end_of t (start_by style (get_or tokens (from + at) no_token) (column_behind style plan tokens (from + at)) t (slot_of plan t.id.0))) token_is)))
    where
      in_range : (i : ℕ) (t : LineTok) → from + i < end → slice_get made i ≡ Some t → t ≡ get_or tokens (from + i) no_token
      in_range i t inside got =
          sym (get_or_from_slice_get made i t no_token got) ∙ (ap (λ (xs : List LineTok). get_or xs i no_token) is
          ∙ (get_or-take (end - from) (drop from tokens) i no_token (omega (arith, inside)) ∙ get_or-drop from tokens i no_token))

-- the comments of a view are those behind its first token
pub comments_begun : (style : Style) (plan : List (Option Slot)) (tokens : List LineTok) → 0 < length tokens
    → comments_behind style plan (get_or tokens (1 - 1) no_token) (column_behind style plan tokens (1 - 1)) (drop 1 tokens) ≡ comments_in style plan tokens
comments_begun style plan [] some = absurd (omega (arith, some))
comments_begun style plan (first ∷ tokens) some = refl
