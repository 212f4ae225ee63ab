-- The cells of a line's first tokens, which are the same whatever is chosen.
use Rattle.std.proofs.Common.{◌≡◌, ◌∙◌, ℕ, ◌+◌, ◌<◌, ◌≤◌, Bool, true, List, [], ◌∷◌, length, get_or, sym, ap, arith, subst, suc, zero}
use Rattle.std.specs.Prelude.{min, if◌then◌else◌}
use Rattle.std.proofs.lemmas.Option.{get_or_from_slice_get}
use Rattle.line_tokens.specs.declared.LineTok.{LineTok}
use Rattle.line_tokens.specs.declared.role.Role.{Role}
use Rattle.line_tokens.specs.Tokens.{no_token}
use Rattle.line_state.specs.Brackets.{opens_frame}
use Rattle.line_state.specs.Choices.{Leads}
use Rattle.line_state.specs.Layout.{Layout, frames_after, start_layout}
use Rattle.line_state.specs.Line.{Line, first_layout, Step}
use Rattle.line_state.proofs.Steps.{placing, is_gap, one_more, is_first, first_index}
use Rattle.break_search.specs.Outcome.{IsOver}
use Rattle.break_search.proofs.Counting.{CountAtLeast, over_by_layouts, sum_to}
use Rattle.run_layout.specs.OneRow.{open_behind}
use Rattle.run_layout.proofs.OneRow.{length-placed}

-- how many frames are open behind so many tokens
abbrev pub frames_to : List LineTok → ℕ → ℕ
frames_to tokens zero = 0
frames_to tokens (suc n) = open_behind (frames_to tokens n) (get_or tokens n no_token)

-- one token more, by its role and the brackets that are open before it
pub frames_more : (tokens : List LineTok) (at frames depth behind : ℕ) (role : Role) → frames ≡ frames_to tokens at → role ≡ (get_or tokens at no_token).role → depth ≡ (get_or tokens at no_token).depth
    → behind ≡ min depth frames + (if opens_frame role then 1 else 0) → behind ≡ frames_to tokens (suc at)
frames_more tokens at frames depth behind role before roles depths is =
    let token : LineTok = get_or tokens at no_token in
    is
    ∙ ap (λ (r : Role). min depth frames + (if opens_frame r then 1 else 0)) roles
    ∙ ap (λ (d : ℕ). min d frames + (if opens_frame token.role then 1 else 0)) depths
    ∙ ap (λ (n : ℕ). open_behind n token) before

-- the cells of a layout behind the token at a place
abbrev pub cells_at : List LineTok → ℕ → ℕ
cells_at tokens at = frames_to tokens (suc at) + 1

module _ (l : Line) where
  -- the layout has the frames that its tokens leave open
  abbrev HasFrames : Layout → Type 0
  HasFrames s = length s.frames ≡ frames_to l.tokens s.index

  frames_next : (s t : Layout) (b : Bool) (k : ℕ) → Step l s b t k → HasFrames s → HasFrames t
  frames_next s t b k go before =
      let p = placing l s b t k go in
      let g = is_gap l s.index p.gap p.at in
      let token : get_or l.tokens s.index no_token ≡ p.gap.right = get_or_from_slice_get l.tokens s.index p.gap.right no_token g.right in
      let frames : length (frames_after l.style s p.gap b) ≡ length t.frames = ap (λ (x : Layout). length x.frames) p.layout in
      let index : t.index ≡ suc s.index = omega (arith, (one_more l s b t k go).index) in
      sym frames ∙ (length-placed l.style s p.gap b ∙ (ap (λ n. open_behind n p.gap.right) before ∙ (ap (λ (x : LineTok). open_behind (frames_to l.tokens s.index) x) (sym token) ∙ ap (λ n. frames_to l.tokens n) (sym index))))

  frames_way : (s t : Layout) (bs : List Bool) (c : ℕ) → Leads (Step l) s bs t c → HasFrames s → HasFrames t
  frames_way s t [] c way before = subst (λ (x : Layout). HasFrames x) (sym way.0) before
  frames_way s t (b ∷ bs) c way before = frames_way way.0 t bs way.2 way.4 (frames_next s way.0 b way.1 way.3 before)

  frames_first : 0 < length l.tokens → HasFrames (first_layout l)
  frames_first some =
      let f = is_first l some in
      let token : get_or l.tokens 0 no_token ≡ f.0.right = get_or_from_slice_get l.tokens 0 f.0.left no_token f.1.token ∙ sym f.1.same in
      let frames : length (first_layout l).frames ≡ length (frames_after l.style (start_layout l.style l.column) f.0 true) = ap (λ (x : Layout). length x.frames) f.1.layout in
      frames ∙ (length-placed l.style (start_layout l.style l.column) f.0 true ∙ (ap (λ (x : LineTok). open_behind 0 x) (sym token) ∙ ap (λ n. frames_to l.tokens n) (sym (first_index l some))))

  frames_count : 0 < length l.tokens → CountAtLeast l (cells_at l.tokens)
  frames_count some bs s c k way index =
      let frames : HasFrames s = frames_way (first_layout l) s bs c way (frames_first some) in
      let same : frames_to l.tokens s.index ≡ frames_to l.tokens (suc k) = ap (λ n. frames_to l.tokens n) index in
      omega (arith, frames, same)

-- so the first tokens of a line tell that it is past its budget
pub over_by_frames : (tokens : List LineTok) (n budget cells : ℕ) → n < length tokens → cells ≡ sum_to (cells_at tokens) (suc n) → budget < cells → (l : Line) → l.tokens ≡ tokens → IsOver l budget cells
over_by_frames tokens n budget cells below count above l is =
    let some : 0 < length l.tokens = omega (arith, ap (λ (xs : List LineTok). length xs) is, below) in
    let few : suc n ≤ length l.tokens = omega (arith, ap (λ (xs : List LineTok). length xs) is, below) in
    let same : sum_to (cells_at l.tokens) (suc n) ≡ cells = ap (λ (xs : List LineTok). sum_to (cells_at xs) (suc n)) is ∙ sym count in
    subst (λ x. IsOver l budget x) same (over_by_layouts l some (cells_at l.tokens) (suc n) budget few (frames_count l some) (omega (arith, same, above)))
