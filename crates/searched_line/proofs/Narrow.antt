-- On a narrow line a layout dominates those of its frames that stand at no smaller column.
use Rattle.std.proofs.Common.{◌≡◌, ℕ, ◌+◌, ◌-◌, ◌*◌, ◌<◌, ◌≤◌, Bool, true, false, not, ◌&&◌, ◌||◌, ◌==◌, nat_lt, nat_le}
use Rattle.std.proofs.Common.{cond, if◌then◌else◌, Option, Some, None, List, [], ◌∷◌, ◌++◌, length, take, refl, arith}
use Rattle.std.proofs.Common.{ap, sym, ◌∙◌, subst, suc, zero, slice_set, slice_index_or}
use Rattle.std.proofs.lemmas.Nat.{mul-le}
use Rattle.line_state.proofs.Ways.{Reached}
use Rattle.line_state.proofs.Dominance.{GoesAsWell, Dominates}
use Rattle.line_tokens.specs.Columns.{columns, stored_or, end_of}
use Rattle.line_tokens.specs.Roles.{is_comma, is_decl_name, is_list_close, is_trailing}
use Rattle.line_tokens.specs.declared.Fixed.{Fixed}
use Rattle.line_tokens.specs.declared.role.Role.{Role}
use Rattle.style_table.specs.declared.style.Style.{Style}
use Rattle.layout_tables.specs.Breaks.{gap_rule}
use Rattle.layout_tables.specs.Spaces.{spaces_before}
use Rattle.frame_store.specs.declared.frames.Frame.{Frame}
use Rattle.line_state.specs.declared.gap.Gap.{Gap}
use Rattle.line_state.specs.Brackets.{opens_frame, binds_commas, binds_opening, is_dont_align}
use Rattle.line_state.specs.Layout.{Layout, start_layout, is_allowed, as_decided, keeps_rules_at, layout_after, cost_of}
use Rattle.line_state.specs.Layout.{gap_cost, excess_at, excess, is_decided, is_free, open_frames, spot_of}
use Rattle.line_state.specs.Layout.{is_after_opener, start_of, broken_start, placed_frame, placed_frames, opened_frame}
use Rattle.line_state.specs.Layout.{comma_frame, opening_of, new_frame, frames_after}
use Rattle.frame_store.specs.Frames.{topmost, below_topmost, with_topmost}
use Rattle.line_state.specs.Line.{Line, gap_at, first_layout, step_over, Step}
use Rattle.line_state.proofs.Steps.{IsPlacing, placing, IsGap, is_gap, is_first, first_index}
use Rattle.searched_line.specs.Ahead.{least_ahead}
use Rattle.searched_line.specs.Saturation.{reach, IsNarrow}
use Rattle.searched_line.proofs.AheadBound.{lower}

-- x has the rules of y, and columns that aren't larger; those of y are at most m
pub record IsFrameUpTo (m : ℕ) (x y : Frame) : Type 0 where
  pub indent : x.indent ≤ y.indent
  pub base : x.base ≤ y.base
  pub indent_within : y.indent ≤ m
  pub base_within : y.base ≤ m
  pub comma : x.comma ≡ y.comma
  pub opening : x.opening ≡ y.opening
  pub opener : x.opener ≡ y.opener

abbrev pub AreFramesUpTo : ℕ → List Frame → List Frame → Type 0
AreFramesUpTo m [] [] = Unit {0}
AreFramesUpTo m [] (y ∷ ys) = ⊥
AreFramesUpTo m (x ∷ xs) [] = ⊥
AreFramesUpTo m (x ∷ xs) (y ∷ ys) = IsFrameUpTo m x y × AreFramesUpTo m xs ys

-- .. and so of layouts
pub record IsUpTo (m : ℕ) (t s : Layout) : Type 0 where
  pub index : t.index ≡ s.index
  pub column : t.column ≤ s.column
  pub within : s.column ≤ m
  pub base : IsFrameUpTo m t.base s.base
  pub frames : AreFramesUpTo m t.frames s.frames

frames_length : (m : ℕ) (xs ys : List Frame) → AreFramesUpTo m xs ys → length xs ≡ length ys
frames_length m [] [] h = refl
frames_length m [] (y ∷ ys) h = absurd h
frames_length m (x ∷ xs) [] h = absurd h
frames_length m (x ∷ xs) (y ∷ ys) h = omega (arith, frames_length m xs ys h.1)

frames_take : (m n : ℕ) (xs ys : List Frame) → AreFramesUpTo m xs ys → AreFramesUpTo m (take n xs) (take n ys)
frames_take m zero xs ys h = tt
frames_take m (suc n) [] [] h = tt
frames_take m (suc n) [] (y ∷ ys) h = absurd h
frames_take m (suc n) (x ∷ xs) [] h = absurd h
frames_take m (suc n) (x ∷ xs) (y ∷ ys) h = (h.0, frames_take m n xs ys h.1)

frames_get : (m i : ℕ) (xs ys : List Frame) (a b : Frame) → AreFramesUpTo m xs ys → IsFrameUpTo m a b → IsFrameUpTo m (slice_index_or xs i a) (slice_index_or ys i b)
frames_get m i [] [] a b h f = f
frames_get m i [] (y ∷ ys) a b h f = absurd h
frames_get m i (x ∷ xs) [] a b h f = absurd h
frames_get m zero (x ∷ xs) (y ∷ ys) a b h f = h.0
frames_get m (suc i) (x ∷ xs) (y ∷ ys) a b h f = frames_get m i xs ys a b h.1 f

frames_set : (m i : ℕ) (xs ys : List Frame) (a b : Frame) → AreFramesUpTo m xs ys → IsFrameUpTo m a b → AreFramesUpTo m (slice_set xs i a) (slice_set ys i b)
frames_set m i [] [] a b h f = tt
frames_set m i [] (y ∷ ys) a b h f = absurd h
frames_set m i (x ∷ xs) [] a b h f = absurd h
frames_set m zero (x ∷ xs) (y ∷ ys) a b h f = (f, h.1)
frames_set m (suc i) (x ∷ xs) (y ∷ ys) a b h f = (h.0, frames_set m i xs ys a b h.1 f)

frames_push : (m : ℕ) (xs ys : List Frame) (a b : Frame) → AreFramesUpTo m xs ys → IsFrameUpTo m a b → AreFramesUpTo m (xs ++ a ∷ []) (ys ++ b ∷ [])
frames_push m [] [] a b h f = (f, tt)
frames_push m [] (y ∷ ys) a b h f = absurd h
frames_push m (x ∷ xs) [] a b h f = absurd h
frames_push m (x ∷ xs) (y ∷ ys) a b h f = (h.0, frames_push m xs ys a b h.1 f)

frame_wider : (m n : ℕ) (x y : Frame) → m ≤ n → IsFrameUpTo m x y → IsFrameUpTo n x y
frame_wider m n x y less f = record { indent = f.indent; base = f.base; indent_within = omega (arith, less, f.indent_within); base_within = omega (arith, less, f.base_within); comma = f.comma; opening = f.opening; opener = f.opener }

frames_wider : (m n : ℕ) (xs ys : List Frame) → m ≤ n → AreFramesUpTo m xs ys → AreFramesUpTo n xs ys
frames_wider m n [] [] less h = tt
frames_wider m n [] (y ∷ ys) less h = absurd h
frames_wider m n (x ∷ xs) [] less h = absurd h
frames_wider m n (x ∷ xs) (y ∷ ys) less h = (frame_wider m n x y less h.0, frames_wider m n xs ys less h.1)

frames_topmost : (m : ℕ) (xs ys : List Frame) (a b : Frame) → AreFramesUpTo m xs ys → IsFrameUpTo m a b → IsFrameUpTo m (topmost a xs) (topmost b ys)
frames_topmost m xs ys a b h f = subst (λ (i : ℕ). IsFrameUpTo m (slice_index_or xs (i - 1) a) (topmost b ys)) (sym (frames_length m xs ys h)) (frames_get m (length ys - 1) xs ys a b h f)

frames_below : (m : ℕ) (xs ys : List Frame) (a b : Frame) → AreFramesUpTo m xs ys → IsFrameUpTo m a b → IsFrameUpTo m (below_topmost a xs) (below_topmost b ys)
frames_below m xs ys a b h f = subst (λ (i : ℕ). IsFrameUpTo m (slice_index_or (a ∷ xs) (i - 1) a) (below_topmost b ys)) (sym (frames_length m xs ys h)) (frames_get m (length ys - 1) (a ∷ xs) (b ∷ ys) a b (f, h) f)

frames_topped : (m : ℕ) (xs ys : List Frame) (a b : Frame) → AreFramesUpTo m xs ys → IsFrameUpTo m a b → AreFramesUpTo m (with_topmost xs a) (with_topmost ys b)
frames_topped m xs ys a b h f = subst (λ (i : ℕ). AreFramesUpTo m (slice_set xs (i - 1) a) (with_topmost ys b)) (sym (frames_length m xs ys h)) (frames_set m (length ys - 1) xs ys a b h f)

either_le : (c : Bool) (a b x y : ℕ) → a ≤ x → b ≤ y → (if c then a else b) ≤ (if c then x else y)
either_le true a b x y h g = h
either_le false a b x y h g = g

either_within : (c : Bool) (a b m : ℕ) → a ≤ m → b ≤ m → (if c then a else b) ≤ m
either_within true a b m h g = h
either_within false a b m h g = g

stored_le : (fixed : Option Fixed) (a b : ℕ) → a ≤ b → stored_or fixed a ≤ stored_or fixed b
stored_le None a b h = h
stored_le (Some f) a b h = omega arith

stored_within : (fixed : Option Fixed) (a m : ℕ) → a ≤ m → stored_or fixed a ≤ m + stored_or fixed 0
stored_within None a m h = omega (arith, h)
stored_within (Some f) a m h = omega arith

-- the rules of a frame, by what they read of it
abbrev keeps_by : Style → Gap → Bool → Role → ℕ → ℕ → Bool → Bool
keeps_by style gap brk opener comma opening opened =
    not (binds_commas style opener && is_comma gap.left.role && (comma == 1) && brk) && not (binds_commas style opener && is_comma gap.left.role && (comma == 2) && not brk) && not (binds_opening style opener && not opened && (opening == 0) && brk)

-- what fits beside a column that isn't larger costs no more
excess_le : (limit c d w v : ℕ) → c ≤ d → d + w + v ≤ 4294967295 → columns (columns c w) v - limit - (c - limit) ≤ columns (columns d w) v - limit - (d - limit)
excess_le limit c d w v h room = omega (arith, h, room)

module _ (style : Style) (gap : Gap) (brk : Bool) (width m : ℕ) (narrow : reach style gap ≤ width) (t s : Layout) (h : IsUpTo m t s) where
  opens : AreFramesUpTo m (open_frames t gap) (open_frames s gap)
  opens = frames_take m gap.right.depth t.frames s.frames h.frames

  top : IsFrameUpTo m (topmost t.base (open_frames t gap)) (topmost s.base (open_frames s gap))
  top = frames_topmost m (open_frames t gap) (open_frames s gap) t.base s.base opens h.base

  below : IsFrameUpTo m (below_topmost t.base (open_frames t gap)) (below_topmost s.base (open_frames s gap))
  below = frames_below m (open_frames t gap) (open_frames s gap) t.base s.base opens h.base

  opened : is_after_opener t gap ≡ is_after_opener s gap
  opened = ap (λ (n : ℕ). not gap.first && opens_frame gap.left.role && nat_le n gap.right.depth) (frames_length m t.frames s.frames h.frames)

  abbrev blanks : ℕ
  blanks = spaces_before style gap.left gap.right

  abbrev far : ℕ
  far = m + blanks + stored_or gap.fixed 0

  broken_le : broken_start (spot_of t gap) gap ≤ broken_start (spot_of s gap) gap
  broken_le = either_le gap.first _ _ _ _ h.column (either_le (is_decl_name gap.right.role) _ _ _ _ h.base.base (either_le (is_list_close gap.right.role) _ _ _ _ below.base top.indent))

  broken_within : broken_start (spot_of s gap) gap ≤ m
  broken_within = either_within gap.first _ _ m h.within (either_within (is_decl_name gap.right.role) _ _ m h.base.base_within (either_within (is_list_close gap.right.role) _ _ m below.base_within top.indent_within))

  start_le : start_of style t gap brk ≤ start_of style s gap brk
  start_le = stored_le gap.fixed _ _ (either_le brk _ _ _ _ broken_le (let e : columns t.column blanks ≤ columns s.column blanks = omega (arith, h.column) in e))

  start_within : start_of style s gap brk ≤ far
  start_within = stored_within gap.fixed _ (m + blanks) (either_within brk _ _ (m + blanks) (omega (arith, broken_within)) (let e : columns s.column blanks ≤ m + blanks = omega (arith, h.within) in e))

  end_le : end_of gap.right (start_of style t gap brk) ≤ end_of gap.right (start_of style s gap brk)
  end_le = either_le (nat_lt 1 gap.right.rows) _ _ _ _ (omega arith) (let e : columns (start_of style t gap brk) gap.right.last_width ≤ columns (start_of style s gap brk) gap.right.last_width = omega (arith, start_le) in e)

  end_within : end_of gap.right (start_of style s gap brk) ≤ m + width
  end_within = either_within (nat_lt 1 gap.right.rows) _ _ (m + width) (omega (arith, narrow)) (let e : columns (start_of style s gap brk) gap.right.last_width ≤ m + width = omega (arith, start_within, narrow) in e)

  placed : IsFrameUpTo far (placed_frame style (spot_of t gap) gap brk) (placed_frame style (spot_of s gap) gap brk)
  placed = subst (λ (o : Bool). IsFrameUpTo far (if o then opened_frame style gap brk (start_of style t gap brk) (topmost t.base (open_frames t gap)) else comma_frame style gap brk (topmost t.base (open_frames t gap))) (placed_frame style (spot_of s gap) gap brk)) (sym opened) (by_flag (is_after_opener s gap))
    where
      by_flag : (o : Bool) → IsFrameUpTo far (if o then opened_frame style gap brk (start_of style t gap brk) (topmost t.base (open_frames t gap)) else comma_frame style gap brk (topmost t.base (open_frames t gap)))
          (if o then opened_frame style gap brk (start_of style s gap brk) (topmost s.base (open_frames s gap)) else comma_frame style gap brk (topmost s.base (open_frames s gap)))
      by_flag true = record {
        indent = either_le (brk || is_dont_align style.align_after_open_bracket) _ _ _ _ top.indent start_le;
        base = either_le (brk || is_dont_align style.align_after_open_bracket) _ _ _ _ top.base start_le;
        indent_within = either_within (brk || is_dont_align style.align_after_open_bracket) _ _ far (omega (arith, top.indent_within)) start_within;
        base_within = either_within (brk || is_dont_align style.align_after_open_bracket) _ _ far (omega (arith, top.base_within)) start_within;
        comma = top.comma;
        opening = ap (λ (r : Role). if binds_opening style r then opening_of style gap brk else 0) top.opener;
        opener = top.opener;
      }
      by_flag false = record {
        indent = top.indent;
        base = top.base;
        indent_within = omega (arith, top.indent_within);
        base_within = omega (arith, top.base_within);
        comma = ap (λ (r : Role). if binds_commas style r && is_comma gap.left.role && is_free style gap && ((topmost t.base (open_frames t gap)).comma == 0) then (if brk then 2 else 1) else (topmost t.base (open_frames t gap)).comma) top.opener
            ∙ ap (λ (c : ℕ). if binds_commas style (topmost s.base (open_frames s gap)).opener && is_comma gap.left.role && is_free style gap && (c == 0) then (if brk then 2 else 1) else c) top.comma;
        opening = top.opening;
        opener = top.opener;
      }

  all_placed : AreFramesUpTo far (placed_frames style t gap brk) (placed_frames style s gap brk)
  all_placed = frames_topped far (open_frames t gap) (open_frames s gap) _ _ (frames_wider m far (open_frames t gap) (open_frames s gap) (omega arith) opens) placed

  abbrev one : List Frame
  one = placed_frames style t gap brk

  abbrev other : List Frame
  other = placed_frames style s gap brk

  after : AreFramesUpTo (m + width) (frames_after style t gap brk) (frames_after style s gap brk)
  after = by_flag (opens_frame gap.right.role)
    where
      below_new : IsFrameUpTo far (topmost t.base one) (topmost s.base other)
      below_new = frames_topmost far one other t.base s.base all_placed (frame_wider m far t.base s.base (omega arith) h.base)

      new_le : columns (topmost t.base one).base style.continuation_indent_width ≤ columns (topmost s.base other).base style.continuation_indent_width
      new_le = omega (arith, below_new.base)

      new_within : columns (topmost s.base other).base style.continuation_indent_width ≤ m + width
      new_within = omega (arith, below_new.base_within, narrow)

      new : IsFrameUpTo (m + width) (new_frame style (topmost t.base one) gap.right.role) (new_frame style (topmost s.base other) gap.right.role)
      new = record { indent = new_le; base = new_le; indent_within = new_within; base_within = new_within; comma = refl; opening = refl; opener = refl }

      wide : AreFramesUpTo (m + width) one other
      wide = frames_wider far (m + width) one other (omega (arith, narrow)) all_placed

      by_flag : (o : Bool) → AreFramesUpTo (m + width) (if o then one ++ new_frame style (topmost t.base one) gap.right.role ∷ [] else one) (if o then other ++ new_frame style (topmost s.base other) gap.right.role ∷ [] else other)
      by_flag true = frames_push (m + width) one other _ _ wide new
      by_flag false = wide

  pub up_to_after : IsUpTo (m + width) (layout_after style t gap brk) (layout_after style s gap brk)
  up_to_after = record { index = omega (arith, h.index); column = end_le; within = end_within; base = frame_wider m (m + width) t.base s.base (omega arith) h.base; frames = after }

  keeps_same : keeps_rules_at style (spot_of t gap) gap brk ≡ keeps_rules_at style (spot_of s gap) gap brk
  keeps_same =
      let x : Frame = topmost t.base (open_frames t gap) in
      let y : Frame = topmost s.base (open_frames s gap) in
      ap (λ (r : Role). keeps_by style gap brk r x.comma x.opening (is_after_opener t gap)) top.opener
      ∙ ap (λ (c : ℕ). keeps_by style gap brk y.opener c x.opening (is_after_opener t gap)) top.comma
      ∙ ap (λ (o : ℕ). keeps_by style gap brk y.opener y.comma o (is_after_opener t gap)) top.opening
      ∙ ap (λ (o : Bool). keeps_by style gap brk y.opener y.comma y.opening o) opened

  pub allowed_same : is_allowed style t gap brk ≡ is_allowed style s gap brk
  allowed_same = ap (λ (k : Bool). if gap.first then brk else as_decided gap.fixed brk (if (gap_rule style gap.left gap.right).must then brk else (if (gap_rule style gap.left gap.right).can then k else not brk))) keeps_same

  module _ (room : m + width ≤ 4294967295) where
    pub cost_le : cost_of style t gap brk ≤ cost_of style s gap brk
    cost_le = by_fixed gap.fixed refl
      where
        excess_over : gap.fixed ≡ None → excess_at style (spot_of t gap) gap brk ≤ excess_at style (spot_of s gap) gap brk
        excess_over none = either_le (is_trailing gap.right.role) _ _ _ _ (omega arith) (by_break brk refl)
          where
            by_break : (b : Bool) → brk ≡ b → excess style (columns (start_of style t gap brk) gap.right.first_width) - excess style (if brk then 0 else t.column) ≤ excess style (columns (start_of style s gap brk) gap.right.first_width) - excess style (if brk then 0 else s.column)
            by_break true e =
                let x : (if brk then 0 else t.column) ≡ 0 = ap (λ (b : Bool). if b then 0 else t.column) e in
                let y : (if brk then 0 else s.column) ≡ 0 = ap (λ (b : Bool). if b then 0 else s.column) e in
                omega (arith, x, y, start_le)
            by_break false e =
                let x : (if brk then 0 else t.column) ≡ t.column = ap (λ (b : Bool). if b then 0 else t.column) e in
                let y : (if brk then 0 else s.column) ≡ s.column = ap (λ (b : Bool). if b then 0 else s.column) e in
                let starts : (l : Layout) → start_of style l gap brk ≡ columns l.column blanks =
                λ l. ap (λ (f : Option Fixed). stored_or f (if brk then broken_start (spot_of l gap) gap else columns l.column blanks)) none ∙ ap (λ (b : Bool). if b then broken_start (spot_of l gap) gap else columns l.column blanks) e in
                let fits : s.column + blanks + gap.right.first_width ≤ 4294967295 = omega (arith, h.within, narrow, room) in
                omega (arith, x, y, starts t, starts s, excess_le style.column_limit t.column s.column blanks gap.right.first_width h.column fits)

        by_fixed : (f : Option Fixed) → gap.fixed ≡ f → cost_of style t gap brk ≤ cost_of style s gap brk
        by_fixed (Some f) e =
            let x : cost_of style t gap brk ≡ 0 = ap (λ (f : Option Fixed). if is_decided (record gap { fixed = f }) then 0 else gap_cost style gap brk + style.penalty_excess_character * excess_at style (spot_of t gap) gap brk) e in
            omega (arith, x)
        by_fixed None e = either_le (is_decided gap) _ _ _ _ (omega arith)
            (omega (arith, mul-le style.penalty_excess_character (excess_at style (spot_of t gap) gap brk) style.penalty_excess_character (excess_at style (spot_of s gap) gap brk) (omega arith) (excess_over e)))

module _ (line : Line) (narrow : IsNarrow line) where
  abbrev left : Layout → ℕ
  left s = length line.tokens - s.index

  gap_width : (i : ℕ) (gap : Gap) → gap_at line i ≡ Some gap → reach line.style gap ≤ narrow.width
  gap_width zero gap e = absurd (none_some gap e)
    where
      none_some : {A : Type 0} (x : A) → None ≡ Some x → ⊥
      none_some x e = cc
  gap_width (suc i) gap e = narrow.each (suc i) gap e

  fewer_left : (s : Layout) (m : ℕ) → s.index < length line.tokens → m + left s * narrow.width ≤ 4294967295 → (m + narrow.width) + (length line.tokens - (s.index + 1)) * narrow.width ≤ 4294967295
  fewer_left s m less room =
      let e : left s ≡ suc (length line.tokens - (s.index + 1)) = omega (arith, less) in
      let f : left s * narrow.width ≡ suc (length line.tokens - (s.index + 1)) * narrow.width = ap (λ (x : ℕ). x * narrow.width) e in
      omega (arith, f, room)

  goes_as_well : (bs : List Bool) (m : ℕ) (t s : Layout) → IsUpTo m t s → m + left s * narrow.width ≤ 4294967295 → GoesAsWell (Step line) (least_ahead line) bs t s
  goes_as_well [] m t s h room = lower line narrow t s h.index h.column (omega (arith, h.within, room))
  goes_as_well (b ∷ bs) m t s h room = λ next k go.
      let p : IsPlacing line s b next k = placing line s b next k go in
      let g : IsGap line s.index p.gap = is_gap line s.index p.gap p.at in
      let w : reach line.style p.gap ≤ narrow.width = gap_width s.index p.gap p.at in
      let other : Layout = layout_after line.style t p.gap b in
      let cost : ℕ = cost_of line.style t p.gap b in
      let more : (m + narrow.width) + (length line.tokens - (s.index + 1)) * narrow.width ≤ 4294967295 = fewer_left s m g.within room in
      let here : m + narrow.width ≤ 4294967295 = omega (arith, more) in
      let at : gap_at line t.index ≡ Some p.gap = ap (λ (i : ℕ). gap_at line i) h.index ∙ p.at in
      let yes : is_allowed line.style t p.gap b ≡ true = allowed_same line.style p.gap b narrow.width m w t s h ∙ p.allowed in
      let step : Step line t b other cost = ap (λ (o : Option Gap). step_over line t b o) at ∙ ap (λ (c : Bool). cond {A = Option (Layout × ℕ)} c (Some (other, cost)) None) yes in
      let after : IsUpTo (m + narrow.width) other next = subst (λ (l : Layout). IsUpTo (m + narrow.width) other l) p.layout (up_to_after line.style p.gap b narrow.width m w t s h) in
      let index : next.index ≡ s.index + 1 = sym (ap (λ (l : Layout). l.index) p.layout) in
      let rest : (m + narrow.width) + left next * narrow.width ≤ 4294967295 = subst (λ (i : ℕ). (m + narrow.width) + (length line.tokens - i) * narrow.width ≤ 4294967295) (sym index) more in
      (other, cost, step, omega (arith, cost_le line.style p.gap b narrow.width m w t s h here, p.cost), goes_as_well bs (m + narrow.width) other next after rest)

  -- a layout that choices reach, and room for what follows
  pub record HasRoom (s : Layout) : Type 0 where
    pub most : ℕ
    pub up_to : IsUpTo most s s
    pub room : most + left s * narrow.width ≤ 4294967295

  first_room : 0 < length line.tokens → HasRoom (first_layout line)
  first_room some =
      let f = is_first line some in
      let gap : Gap = f.0 in
      let w : reach line.style gap ≤ narrow.width = narrow.each 0 gap f.1.at in
      let start : Layout = start_layout line.style line.column in
      let m : ℕ = line.column + line.style.continuation_indent_width in
      let within : columns line.column line.style.continuation_indent_width ≤ m = omega arith in
      let base : IsFrameUpTo m start.base start.base = record { indent = omega arith; base = omega arith; indent_within = within; base_within = omega arith; comma = refl; opening = refl; opener = refl } in
      let begins : IsUpTo m start start = record { index = refl; column = omega arith; within = omega arith; base = base; frames = tt } in
      let after : IsUpTo (m + narrow.width) (layout_after line.style start gap true) (layout_after line.style start gap true) = up_to_after line.style gap true narrow.width m w start start begins in
      let index : (first_layout line).index ≡ 1 = first_index line some in
      let e : length line.tokens + 1 ≡ suc (suc (left (first_layout line))) = omega (arith, index, some) in
      let total : (length line.tokens + 1) * narrow.width ≡ suc (suc (left (first_layout line))) * narrow.width = ap (λ (x : ℕ). x * narrow.width) e in
      record {
        most = m + narrow.width;
        up_to = subst (λ (l : Layout). IsUpTo (m + narrow.width) l l) (sym f.1.layout) after;
        room = omega (arith, total, narrow.room, w);
      }

  reached_room : 0 < length line.tokens → (r : List Bool) (s : Layout) (c : ℕ) → Reached (Step line) (first_layout line) r s c → HasRoom s
  reached_room some [] s c h = subst (λ (l : Layout). HasRoom l) (sym h.0) (first_room some)
  reached_room some (b ∷ r) s c h =
      let before : HasRoom h.0 = reached_room some r h.0 h.1 h.3 in
      let p : IsPlacing line h.0 b s h.2 = placing line h.0 b s h.2 h.4 in
      let g : IsGap line h.0.index p.gap = is_gap line h.0.index p.gap p.at in
      let w : reach line.style p.gap ≤ narrow.width = gap_width h.0.index p.gap p.at in
      let index : s.index ≡ h.0.index + 1 = sym (ap (λ (l : Layout). l.index) p.layout) in
      let more : (before.most + narrow.width) + (length line.tokens - (h.0.index + 1)) * narrow.width ≤ 4294967295 = fewer_left h.0 before.most g.within before.room in
      record {
        most = before.most + narrow.width;
        up_to = subst (λ (l : Layout). IsUpTo (before.most + narrow.width) l l) p.layout (up_to_after line.style p.gap b narrow.width before.most w h.0 h.0 before.up_to);
        room = subst (λ (i : ℕ). (before.most + narrow.width) + (length line.tokens - i) * narrow.width ≤ 4294967295) (sym index) more;
      }

  -- a layout dominates one that choices reach and that differs only in a larger column
  pub dominates_ahead : 0 < length line.tokens → (r : List Bool) (t s : Layout) (c : ℕ) → Reached (Step line) (first_layout line) r s c → t.index ≡ s.index → t.base ≡ s.base → t.frames ≡ s.frames → t.column ≤ s.column → Dominates (Step line) (least_ahead line) t s
  dominates_ahead some r t s c h index base frames column =
      let known : HasRoom s = reached_room some r s c h in
      let up_to : IsUpTo known.most t s = record {
        index = index;
        column = column;
        within = known.up_to.within;
        base = subst (λ (f : Frame). IsFrameUpTo known.most f s.base) (sym base) known.up_to.base;
        frames = subst (λ (fs : List Frame). AreFramesUpTo known.most fs s.frames) (sym frames) known.up_to.frames;
      } in
      record { goes = λ bs. goes_as_well bs known.most t s up_to known.room }
