-- What the test of a line on one row has found so far.
use Rattle.std.proofs.Common.{◌≡◌, ◌∙◌, inl, inr, ℕ, suc, ◌+◌, ◌<◌, ◌≤◌, Bool, true, false, Option, Some, None, List}
use Rattle.std.proofs.Common.{◌∷◌, length, drop, refl, sym, ap, arith, subst, slice_get}
use Rattle.std.proofs.Math.Seq.{drop-cons}
use Rattle.std.proofs.lemmas.Option.{get_or_from_slice_get, slice_get_within}
use Rattle.style_table.specs.declared.style.Style.{Style}
use Rattle.line_tokens.specs.declared.LineTok.{LineTok}
use Rattle.line_tokens.specs.declared.Fixed.{Fixed}
use Rattle.line_tokens.specs.Roles.{is_trailing}
use Rattle.std.specs.Prelude.{if◌then◌else◌}
use Rattle.line_tokens.specs.Columns.{columns, end_of, stored_or}
use Rattle.line_state.specs.Line.{Line, decision_at, first_cost}
use Rattle.layout_tables.specs.Breaks.{gap_rule}
use Rattle.layout_tables.specs.Spaces.{spaces_before}
use Rattle.replacements.specs.declared.gap_text.Decision.TheVariants.{Spaces}
use Rattle.replacements.specs.declared.slot.Slot.{Slot}
use Rattle.replacements.specs.Decisions.{decided, decided_all}
use Rattle.run_layout.specs.OneRow.{open_behind, Fits, IsOneRow, IsRow, IsRowLine, stay_start, row_made}
use Rattle.run_layout.proofs.OneRow.{row_first, first_free, row_more, row_whole}

module _ (l : Line) (style : Style) (at : ℕ) (tokens : List LineTok) (first : Option Fixed) (is : IsRowLine l style at tokens first) where
  length-same : length l.tokens ≡ length tokens
  length-same = ap (λ (xs : List LineTok). length xs) is.tokens_are

  get-same : (i : ℕ) (token : LineTok) → slice_get tokens i ≡ Some token → slice_get l.tokens i ≡ Some token
  get-same i token e = ap (λ (xs : List LineTok). slice_get xs i) is.tokens_are ∙ e

  pub row_begins : (token : LineTok) (start behind frames cells : ℕ) → 0 < length tokens → slice_get tokens 0 ≡ Some token → start ≡ stored_or first at → behind ≡ end_of token start
      → frames ≡ open_behind 0 token → cells ≡ frames + 1 → IsOneRow l 0 behind frames cells
  row_begins token start behind frames cells some e starts ends opens count =
      let w = row_first l token (omega (arith, some, length-same)) (get-same 0 token e) in
      let same : stored_or (decision_at l 0) l.column ≡ start = ap (λ (o : Option Fixed). stored_or o l.column) is.first_is ∙ (ap (λ x. stored_or first x) is.column_is ∙ sym starts) in
      let column : end_of token (stored_or (decision_at l 0) l.column) ≡ behind = ap (λ x. end_of token x) same ∙ sym ends in
      let cells_are : open_behind 0 token + 1 ≡ cells = ap (λ x. x + 1) (sym opens) ∙ sym count in
      subst (λ x. IsOneRow l 0 x frames cells) column
      (subst (λ x. IsOneRow l 0 (end_of token (stored_or (decision_at l 0) l.column)) x cells) (sym opens)
      (subst (λ x. IsOneRow l 0 (end_of token (stored_or (decision_at l 0) l.column)) (open_behind 0 token) x) cells_are w))

  pub row_begins_free : (token : LineTok) (start : ℕ) → 0 < length tokens → slice_get tokens 0 ≡ Some token → start ≡ stored_or first at → (first ≡ None → Fits style token start) → first_cost l ≡ 0
  row_begins_free token start some e starts fits = by_first first refl
    where
      by_first : (o : Option Fixed) → first ≡ o → first_cost l ≡ 0
      by_first (Some fixed) f = first_free l token (omega (arith, some, length-same)) (get-same 0 token e) (inl (fixed, is.first_is ∙ f))
      by_first None f =
          let here : start ≡ l.column = starts ∙ (ap (λ (o : Option Fixed). stored_or o at) f ∙ sym is.column_is) in
          let fit : Fits l.style token l.column = subst (λ (s : Style). Fits s token l.column) (sym is.style_is) (subst (λ x. Fits style token x) here (fits f)) in
          first_free l token (omega (arith, some, length-same)) (get-same 0 token e) (inr fit)

  pub row_goes_on : (n column frames cells start frames_next cells_next behind : ℕ) (left right : LineTok) → IsOneRow l n column frames cells → slice_get tokens n ≡ Some left → slice_get tokens (suc n) ≡ Some right
      → (gap_rule style left right).must ≡ false → start ≡ columns column (spaces_before style left right) → Fits style right start → frames_next ≡ open_behind frames right → cells_next ≡ cells + (frames_next + 1)
      → behind ≡ end_of right start → IsOneRow l (n + 1) behind frames_next cells_next
  row_goes_on n column frames cells start frames_next cells_next behind left right w a b must starts fits opens counts ends =
      let must_l : (gap_rule l.style left right).must ≡ false = ap (λ (s : Style). (gap_rule s left right).must) is.style_is ∙ must in
      let start_l : columns column (spaces_before l.style left right) ≡ start = ap (λ (s : Style). columns column (spaces_before s left right)) is.style_is ∙ sym starts in
      let fits_l : Fits l.style right (columns column (spaces_before l.style left right)) =
      subst (λ (s : Style). Fits s right (columns column (spaces_before l.style left right))) (sym is.style_is) (subst (λ x. Fits style right x) (sym start_l) fits) in
      let more = row_more l n column frames cells left right w is.inside (get-same n left a) (get-same (suc n) right b) must_l fits_l in
      let behind_is : end_of right (columns column (spaces_before l.style left right)) ≡ behind = ap (λ x. end_of right x) start_l ∙ sym ends in
      let cells_are : cells + (open_behind frames right + 1) ≡ cells_next = ap (λ x. cells + (x + 1)) (sym opens) ∙ sym counts in
      subst (λ x. IsOneRow l (n + 1) x frames_next cells_next) behind_is
      (subst (λ x. IsOneRow l (n + 1) (end_of right (columns column (spaces_before l.style left right))) x cells_next) (sym opens)
      (subst (λ x. IsOneRow l (n + 1) (end_of right (columns column (spaces_before l.style left right))) (open_behind frames right) x) cells_are more))

  pub row_ends : (budget n column frames cells : ℕ) → IsOneRow l n column frames cells → suc n ≡ length tokens → cells ≤ budget → first_cost l ≡ 0 → IsRow l budget
  row_ends budget n column frames cells w all small free = row_whole l budget n column frames cells w (omega (arith, all, length-same)) small free

-- ## Its decisions

-- the list from a place on begins with what stands there
pub drop_here : {A : Type 0} (xs : List A) (i : ℕ) (x : A) → slice_get xs i ≡ Some x → drop i xs ≡ x ∷ drop (i + 1) xs
drop_here {A} xs i x e =
    let one : suc i ≡ i + 1 = omega arith in
    drop-cons xs i x (slice_get_within xs i x e) ∙ (ap (λ (y : A). y ∷ drop (suc i) xs) (get_or_from_slice_get xs i x x e) ∙ ap (λ j. x ∷ drop j xs) one)

pub row_written : (style : Style) (plan after : List (Option Slot)) (tokens : List LineTok) (column at spaces start behind : ℕ) (left right : LineTok) → slice_get tokens at ≡ Some right
    → spaces ≡ spaces_before style left right → start ≡ columns column spaces → behind ≡ end_of right start → after ≡ (if is_trailing right.role then plan else decided plan right.id.0 (record { decision = Spaces spaces; end = start }))
    → decided_all after (row_made style behind right (drop (at + 1) tokens)) ≡ decided_all plan (row_made style column left (drop at tokens))
row_written style plan after tokens column at spaces start behind left right e blanks starts ends made =
    let from : start ≡ stay_start style column left right = starts ∙ ap (λ x. columns column x) blanks in
    let slot : ◌≡◌ {A = Slot} (record { decision = Spaces spaces; end = start }) (record { decision = Spaces (spaces_before style left right); end = stay_start style column left right }) =
    ap (λ x. record { decision = Spaces x; end = start }) blanks ∙ ap (λ x. record { decision = Spaces (spaces_before style left right); end = x }) from in
    let laid : Slot = record { decision = Spaces (spaces_before style left right); end = stay_start style column left right } in
    let made_is : after ≡ (if is_trailing right.role then plan else decided plan right.id.0 laid) = made ∙ ap (λ (s : Slot). if is_trailing right.role then plan else decided plan right.id.0 s) slot in
    let later : List (ℕ × Slot) = row_made style (end_of right (stay_start style column left right)) right (drop (at + 1) tokens) in
    let behind_is : behind ≡ end_of right (stay_start style column left right) = ends ∙ ap (λ x. end_of right x) from in
    ap (λ (p : List (Option Slot)). decided_all p (row_made style behind right (drop (at + 1) tokens))) made_is
    ∙ (ap (λ x. decided_all (if is_trailing right.role then plan else decided plan right.id.0 laid) (row_made style x right (drop (at + 1) tokens))) behind_is
    ∙ (by_flag (is_trailing right.role) laid later
    ∙ sym (ap (λ (xs : List LineTok). decided_all plan (row_made style column left xs)) (drop_here tokens at right e))))
  where
    by_flag : (f : Bool) (slot : Slot) (later : List (ℕ × Slot)) → decided_all (if f then plan else decided plan right.id.0 slot) later ≡ decided_all plan (if f then later else (right.id.0, slot) ∷ later)
    by_flag true slot later = refl
    by_flag false slot later = refl
