-- Where a token starts, told by the columns of the frames alone.
use Rattle.std.proofs.Common.{◌≡◌, ◌∙◌, ◌==◌, ◌&&◌, ◌||◌, not, nat_le, ℕ, ◌-◌, ◌<◌, Bool, true, false, Option}
use Rattle.std.proofs.Common.{List, [], ◌∷◌, ◌++◌, length, map, take, refl, sym, ap, arith, subst}
use Rattle.std.specs.Prelude.{slice_index_or, slice_set, if◌then◌else◌}
use Rattle.std.proofs.lemmas.Bool.Decides.{nat_tests}
use Rattle.std.proofs.lemmas.List.{take-map, map-set, map_push, length-map}
use Rattle.std.proofs.Math.ListN.{get_or-map}
use Rattle.std.proofs.Math.Seq.{map-set_same}
use Rattle.line_tokens.specs.Columns.{columns, end_of, stored_or}
use Rattle.line_tokens.specs.Roles.{is_decl_name, is_list_close}
use Rattle.line_tokens.specs.declared.Fixed.{Fixed}
use Rattle.line_tokens.specs.declared.LineTok.{LineTok}
use Rattle.line_tokens.specs.declared.role.Role.{Role}
use Rattle.style_table.specs.declared.style.Style.{Style}
use Rattle.layout_tables.specs.Spaces.{spaces_before}
use Rattle.frame_store.specs.declared.frames.Frame.{Frame}
use Rattle.frame_store.specs.Frames.{topmost, below_topmost, with_topmost}
use Rattle.line_state.specs.declared.gap.Gap.{Gap}
use Rattle.line_state.specs.Brackets.{opens_frame, is_dont_align}
use Rattle.line_state.specs.Layout.{Layout, gap_before, open_frames, is_after_opener, spot_of, broken_start}
use Rattle.line_state.specs.Layout.{start_of, opened_frame, comma_frame, placed_frame, placed_frames, new_frame}
use Rattle.line_state.specs.Layout.{frames_after, layout_after}
use Rattle.line_walk.specs.Indents.{TellStarts, is_aligned, next_start, row_start}
use Rattle.line_walk.specs.declared.starts.TokenStarts.{TokenStarts}

-- ## Columns of frames

abbrev indent_of : Frame → ℕ
indent_of frame = frame.indent

abbrev base_of : Frame → ℕ
base_of frame = frame.base

-- that of the innermost frame
last_is : (f : Frame → ℕ) (frames : List Frame) (cs : List ℕ) (base : Frame) (outside : ℕ) → cs ≡ map f frames → outside ≡ f base → slice_index_or cs (length cs - 1) outside ≡ f (topmost base frames)
last_is f frames cs base outside is out =
    ap (λ (xs : List ℕ). slice_index_or xs (length xs - 1) outside) is
    ∙ ap (λ (n : ℕ). slice_index_or (map f frames) (n - 1) outside) (length-map frames f)
    ∙ ap (λ (o : ℕ). slice_index_or (map f frames) (length frames - 1) o) out
    ∙ get_or-map f frames (length frames - 1) base

-- .. and of the one around it
around_is : (f : Frame → ℕ) (frames : List Frame) (cs : List ℕ) (base : Frame) (outside : ℕ) → cs ≡ map f frames → outside ≡ f base → slice_index_or (outside ∷ cs) (length cs - 1) outside ≡ f (below_topmost base frames)
around_is f frames cs base outside is out =
    ap (λ (xs : List ℕ). slice_index_or (outside ∷ xs) (length xs - 1) outside) is
    ∙ ap (λ (n : ℕ). slice_index_or (outside ∷ map f frames) (n - 1) outside) (length-map frames f)
    ∙ ap (λ (o : ℕ). slice_index_or (o ∷ map f frames) (length frames - 1) o) out
    ∙ get_or-map f (base ∷ frames) (length frames - 1) base

-- where the innermost frame is another one
abbrev set_if : Bool → List ℕ → ℕ → List ℕ
set_if aligned xs start = if aligned then slice_set xs (length xs - 1) start else xs

placed_is : (f : Frame → ℕ) (frames : List Frame) (base x : Frame) (aligned : Bool) (start : ℕ) → f x ≡ (if aligned then start else f (topmost base frames)) → (cs : List ℕ) → cs ≡ map f frames → set_if aligned cs start ≡ map f (with_topmost frames x)
placed_is f frames base x true start e cs is =
    ap (λ (xs : List ℕ). slice_set xs (length xs - 1) start) is
    ∙ ap (λ (n : ℕ). slice_set (map f frames) (n - 1) start) (length-map frames f)
    ∙ ap (λ (s : ℕ). slice_set (map f frames) (length frames - 1) s) (sym e)
    ∙ sym (map-set f frames (length frames - 1) x)
placed_is f frames base x false start e cs is = is ∙ sym (map-set_same f frames (length frames - 1) x base e)

-- where a bracket's own is added
opened_is : (style : Style) (f : Frame → ℕ) (opens : Bool) (role : Role) (frames : List Frame) (base : Frame) (cs : List ℕ) (line : ℕ) → cs ≡ map f frames
    → columns (slice_index_or cs (length cs - 1) line) style.continuation_indent_width ≡ f (new_frame style (topmost base frames) role)
    → (if opens then cs ++ columns (slice_index_or cs (length cs - 1) line) style.continuation_indent_width ∷ [] else cs) ≡ map f (if opens then frames ++ new_frame style (topmost base frames) role ∷ [] else frames)
opened_is style f true role frames base cs line is new =
    ap (λ (xs : List ℕ). xs ++ columns (slice_index_or cs (length cs - 1) line) style.continuation_indent_width ∷ []) is
    ∙ ap (λ (n : ℕ). map f frames ++ n ∷ []) new
    ∙ sym (map_push f frames (new_frame style (topmost base frames) role))
opened_is style f false role frames base cs line is new = is

-- ## A token behind another one

isnt_zero : (i : ℕ) → 0 < i → (i == 0) ≡ false
isnt_zero i some = grind (arith, nat_tests)

module _ (style : Style) (old : TokenStarts) (layout : Layout) (left right : LineTok) (fixed : Option Fixed) (brk : Bool) (told : TellStarts style old layout) where
  abbrev gap : Gap
  gap = record { left = left; right = right; fixed = fixed; first = false }

  abbrev kept : List Frame
  kept = open_frames layout gap

  abbrev left_open : List ℕ
  left_open = take right.depth old.indents.items

  abbrev top : Frame
  top = topmost layout.base kept

  indents_kept : left_open ≡ map indent_of kept
  indents_kept = ap (λ (xs : List ℕ). take right.depth xs) told.indents ∙ take-map indent_of right.depth layout.frames

  bases_kept : left_open ≡ map base_of kept
  bases_kept = ap (λ (xs : List ℕ). take right.depth xs) told.bases ∙ take-map base_of right.depth layout.frames

  row_is : row_start style old.line left_open right.role ≡ broken_start (spot_of layout gap) gap
  row_is =
      ap (λ (n : ℕ). if is_decl_name right.role then n else (if is_list_close right.role then slice_index_or (old.line ∷ left_open) (length left_open - 1) old.line else slice_index_or left_open (length left_open - 1) (columns old.line style.continuation_indent_width))) told.line
      ∙ ap (λ (n : ℕ). if is_decl_name right.role then layout.base.base else (if is_list_close right.role then n else slice_index_or left_open (length left_open - 1) (columns old.line style.continuation_indent_width))) (around_is base_of kept left_open layout.base old.line bases_kept told.line)
      ∙ ap (λ (n : ℕ). if is_decl_name right.role then layout.base.base else (if is_list_close right.role then (below_topmost layout.base kept).base else n)) (last_is indent_of kept left_open layout.base (columns old.line style.continuation_indent_width) indents_kept told.outside)

  start_is : next_start style old.line left_open old.column right.role fixed (spaces_before style left right) brk ≡ start_of style layout gap brk
  start_is =
      ap (λ (n : ℕ). stored_or fixed (if brk then n else columns old.column (spaces_before style left right))) row_is
      ∙ ap (λ (n : ℕ). stored_or fixed (if brk then broken_start (spot_of layout gap) gap else columns n (spaces_before style left right))) told.column

  abbrev aligned : Bool
  aligned = is_aligned style (length old.indents.items) left right brk

  count_is : length old.indents.items ≡ length layout.frames
  count_is = ap (λ (xs : List ℕ). length xs) told.indents ∙ length-map layout.frames indent_of

  -- the innermost frame behind the token
  indent_by : (after apart : Bool) (one other : ℕ) → (if after then (if apart then other else one) else other) ≡ (if after && not apart then one else other)
  indent_by true true one other = refl
  indent_by true false one other = refl
  indent_by false apart one other = refl

  by_count : (after apart : Bool) (one other : ℕ) → after ≡ (opens_frame left.role && nat_le (length layout.frames) right.depth) → (if after && not apart then one else other) ≡ (if (opens_frame left.role && nat_le (length old.indents.items) right.depth) && not apart then one else other)
  by_count after apart one other is =
      ap (λ (b : Bool). if b && not apart then one else other) is
      ∙ ap (λ (n : ℕ). if (opens_frame left.role && nat_le n right.depth) && not apart then one else other) (sym count_is)

  abbrev placed : Frame
  placed = placed_frame style (spot_of layout gap) gap brk

  placed_indent : placed.indent ≡ (if aligned then start_of style layout gap brk else top.indent)
  placed_indent =
      by_after (is_after_opener layout gap)
      ∙ indent_by (is_after_opener layout gap) (brk || is_dont_align style.align_after_open_bracket) (start_of style layout gap brk) top.indent
      ∙ by_count (is_after_opener layout gap) (brk || is_dont_align style.align_after_open_bracket) (start_of style layout gap brk) top.indent refl
    where
      by_after : (b : Bool) → (if b then opened_frame style gap brk (start_of style layout gap brk) top else comma_frame style gap brk top).indent ≡ (if b then (if brk || is_dont_align style.align_after_open_bracket then top.indent else start_of style layout gap brk) else top.indent)
      by_after true = refl
      by_after false = refl

  placed_base : placed.base ≡ (if aligned then start_of style layout gap brk else top.base)
  placed_base =
      by_after (is_after_opener layout gap)
      ∙ indent_by (is_after_opener layout gap) (brk || is_dont_align style.align_after_open_bracket) (start_of style layout gap brk) top.base
      ∙ by_count (is_after_opener layout gap) (brk || is_dont_align style.align_after_open_bracket) (start_of style layout gap brk) top.base refl
    where
      by_after : (b : Bool) → (if b then opened_frame style gap brk (start_of style layout gap brk) top else comma_frame style gap brk top).base ≡ (if b then (if brk || is_dont_align style.align_after_open_bracket then top.base else start_of style layout gap brk) else top.base)
      by_after true = refl
      by_after false = refl

  abbrev after : List ℕ
  after = set_if aligned left_open (start_of style layout gap brk)

  indents_placed : after ≡ map indent_of (placed_frames style layout gap brk)
  indents_placed = placed_is indent_of kept layout.base placed aligned (start_of style layout gap brk) placed_indent left_open indents_kept

  bases_placed : after ≡ map base_of (placed_frames style layout gap brk)
  bases_placed = placed_is base_of kept layout.base placed aligned (start_of style layout gap brk) placed_base left_open bases_kept

  -- a bracket's own column
  new_is : columns (slice_index_or after (length after - 1) old.line) style.continuation_indent_width ≡ columns (topmost layout.base (placed_frames style layout gap brk)).base style.continuation_indent_width
  new_is = ap (λ (n : ℕ). columns n style.continuation_indent_width) (last_is base_of (placed_frames style layout gap brk) after layout.base old.line bases_placed told.line)

  abbrev behind : List ℕ
  behind = if opens_frame right.role then after ++ columns (slice_index_or after (length after - 1) old.line) style.continuation_indent_width ∷ [] else after

  indents_behind : behind ≡ map indent_of (frames_after style layout gap brk)
  indents_behind = opened_is style indent_of (opens_frame right.role) right.role (placed_frames style layout gap brk) layout.base after old.line indents_placed new_is

  bases_behind : behind ≡ map base_of (frames_after style layout gap brk)
  bases_behind = opened_is style base_of (opens_frame right.role) right.role (placed_frames style layout gap brk) layout.base after old.line bases_placed new_is

  tells_behind : (new : TokenStarts) → new.column ≡ end_of right (start_of style layout gap brk) → new.line ≡ old.line → new.indents.items ≡ behind → TellStarts style new (layout_after style layout gap brk)
  tells_behind new column line indents = record {
    column = column;
    line = line ∙ told.line;
    outside = ap (λ (n : ℕ). columns n style.continuation_indent_width) line ∙ told.outside;
    indents = indents ∙ indents_behind;
    bases = indents ∙ bases_behind;
  }

-- the token starts where the columns say
pub starts_there : (style : Style) (old : TokenStarts) (layout : Layout) (left right : LineTok) (fixed : Option Fixed) (spaces : ℕ) (brk : Bool) (start : ℕ) → spaces ≡ spaces_before style left right
    → start ≡ next_start style old.line (take right.depth old.indents.items) old.column right.role fixed spaces brk → 0 < layout.index → TellStarts style old layout → start ≡ start_of style layout (gap_before layout left right fixed) brk
starts_there style old layout left right fixed spaces brk start blanks is some told =
    is
    ∙ ap (λ (n : ℕ). next_start style old.line (take right.depth old.indents.items) old.column right.role fixed n brk) blanks
    ∙ start_is style old layout left right fixed brk told
    ∙ ap (λ (b : Bool). start_of style layout (record { left = left; right = right; fixed = fixed; first = b }) brk) (sym (isnt_zero layout.index some))

-- and they go on to tell where tokens start
pub tells_there : (style : Style) (old new : TokenStarts) (layout : Layout) (left right : LineTok) (fixed : Option Fixed) (spaces : ℕ) (brk : Bool) (start : ℕ) → spaces ≡ spaces_before style left right
    → start ≡ next_start style old.line (take right.depth old.indents.items) old.column right.role fixed spaces brk
    → (after : List ℕ) → after ≡ set_if (is_aligned style (length old.indents.items) left right brk) (take right.depth old.indents.items) start
    → new.indents.items ≡ (if opens_frame right.role then after ++ columns (slice_index_or after (length after - 1) old.line) style.continuation_indent_width ∷ [] else after)
    → new.line ≡ old.line → new.column ≡ end_of right start → 0 < layout.index → TellStarts style old layout → TellStarts style new (layout_after style layout (gap_before layout left right fixed) brk)
tells_there style old new layout left right fixed spaces brk start blanks is after after_is indents line column some told =
    let here : start ≡ start_of style layout (record { left = left; right = right; fixed = fixed; first = false }) brk =
    is ∙ ap (λ (n : ℕ). next_start style old.line (take right.depth old.indents.items) old.column right.role fixed n brk) blanks ∙ start_is style old layout left right fixed brk told in
    let set : after ≡ set_if (is_aligned style (length old.indents.items) left right brk) (take right.depth old.indents.items) (start_of style layout (record { left = left; right = right; fixed = fixed; first = false }) brk) =
    after_is ∙ ap (λ (n : ℕ). set_if (is_aligned style (length old.indents.items) left right brk) (take right.depth old.indents.items) n) here in
    let all = indents ∙ ap (λ (xs : List ℕ). if opens_frame right.role then xs ++ columns (slice_index_or xs (length xs - 1) old.line) style.continuation_indent_width ∷ [] else xs) set in
    subst (λ (b : Bool). TellStarts style new (layout_after style layout (record { left = left; right = right; fixed = fixed; first = b }) brk)) (sym (isnt_zero layout.index some))
    (tells_behind style old layout left right fixed brk told new (column ∙ ap (λ (n : ℕ). end_of right n) here) line all)
