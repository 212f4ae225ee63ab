-- Tokens that leave the frames as they are.
use Rattle.std.proofs.Common.{◌≡◌, ℕ, ◌+◌, ◌-◌, ◌*◌, Bool, true, false, ◌&&◌, ◌==◌, not, nat_le, if◌then◌else◌}
use Rattle.std.proofs.Common.{Option, None, List, [], ◌∷◌, ◌++◌, length, take, refl, arith, ap, sym, ◌∙◌, subst}
use Rattle.std.specs.Bool.{OnTrue}
use Rattle.std.proofs.lemmas.List.{set-get_or}
use Rattle.line_tokens.specs.Columns.{columns, end_of}
use Rattle.line_tokens.specs.Roles.{is_comma, is_trailing}
use Rattle.line_tokens.specs.declared.role.Role.{Role}
use Rattle.line_tokens.specs.declared.role.Role.TheVariants.{CallOpen, DeclOpen, ListOpen}
use Rattle.line_tokens.specs.declared.LineTok.{LineTok}
use Rattle.line_tokens.specs.declared.Fixed.{Fixed}
use Rattle.layout_tables.specs.declared.penalties.GapRule.{GapRule}
use Rattle.layout_tables.specs.Breaks.{gap_rule}
use Rattle.layout_tables.specs.Spaces.{spaces_before}
use Rattle.style_table.specs.declared.style.Style.{Style}
use Rattle.frame_store.specs.declared.frames.Frame.{Frame}
use Rattle.line_state.specs.declared.gap.Gap.{Gap}
use Rattle.line_state.specs.declared.spot.Spot.{Spot}
use Rattle.line_state.specs.Brackets.{opens_frame, binds_commas, binds_opening}
use Rattle.line_state.specs.Layout.{Layout, gap_before, open_frames, is_after_opener, spot_of, is_free, opened_frame}
use Rattle.line_state.specs.Layout.{comma_frame, placed_frame, placed_frames, new_frame, frames_after, layout_after}
use Rattle.line_state.specs.Layout.{start_at, start_of, is_allowed, keeps_rules_at, cost_of, excess, excess_at}
use Rattle.frame_store.specs.Frames.{topmost, with_topmost}
use Rattle.frame_store.specs.declared.node.NodeState.{NodeState}
use Rattle.frame_store.specs.Store.{FrameList, list_at}
use Rattle.line_state.specs.StoredStates.{layout_in}
use Rattle.line_state.specs.Beside.{IsBelow, excess_below, excess_beside, row_start}

past_false : (a c : Bool) → (a && false && c) ≡ false
past_false true c = refl
past_false false c = refl

and_false : (b : Bool) → (b && false) ≡ false
and_false true = refl
and_false false = refl

no_comma : (binds comma free new : Bool) → (comma && binds) ≡ false → (binds && comma && free && new) ≡ false
no_comma true true free new e = absurd (true-false e)
  where
    true-false : true ≡ false → ⊥
    true-false e = cc
no_comma true false free new e = refl
no_comma false comma free new e = refl

-- a style that binds no arguments and no parameters binds no commas
packed_binds : (style : Style) → style.bin_pack_arguments ≡ true → style.bin_pack_parameters ≡ true → (opener : Role) → binds_commas style opener ≡ false
packed_binds style arguments parameters CallOpen = ap not arguments
packed_binds style arguments parameters ListOpen = ap not arguments
packed_binds style arguments parameters DeclOpen = ap not parameters
packed_binds style arguments parameters _ = refl

-- .. so no comma binds gaps there
pub binds_none : (style : Style) (comma : Bool) → style.bin_pack_arguments ≡ true → OnTrue style.bin_pack_parameters ((opener : Role) → (comma && binds_commas style opener) ≡ false)
binds_none style comma arguments = by_flag style.bin_pack_parameters refl
  where
    by_flag : (p : Bool) → style.bin_pack_parameters ≡ p → OnTrue p ((opener : Role) → (comma && binds_commas style opener) ≡ false)
    by_flag true parameters = λ opener. ap (λ (b : Bool). comma && b) (packed_binds style arguments parameters opener) ∙ and_false comma
    by_flag false parameters = tt

module _ (style : Style) (layout : Layout) (gap : Gap) (brk : Bool) (left_opens : opens_frame gap.left.role ≡ false) (right_opens : opens_frame gap.right.role ≡ false)
    (unbound : (is_comma gap.left.role && binds_commas style (topmost layout.base (open_frames layout gap)).opener) ≡ false) where
  abbrev top : Frame
  top = topmost layout.base (open_frames layout gap)

  not_after_opener : is_after_opener layout gap ≡ false
  not_after_opener = ap (λ (b : Bool). not gap.first && b && nat_le (length layout.frames) gap.right.depth) left_opens ∙ past_false (not gap.first) (nat_le (length layout.frames) gap.right.depth)

  same_frame : comma_frame style gap brk top ≡ top
  same_frame = ap (λ (b : Bool). let f : Frame = record top { comma = if b then (if brk then 2 else 1) else top.comma } in f) (no_comma (binds_commas style top.opener) (is_comma gap.left.role) (is_free style gap) (top.comma == 0) unbound)

  same_placed : placed_frame style (spot_of layout gap) gap brk ≡ top
  same_placed = ap (λ (b : Bool). let f : Frame = if b then opened_frame style gap brk (start_at style (spot_of layout gap) gap brk) top else comma_frame style gap brk top in f) not_after_opener ∙ same_frame

  -- the frames that are open stay
  pub open_stay : frames_after style layout gap brk ≡ open_frames layout gap
  open_stay =
      ap (λ (b : Bool). let fs : List Frame = if b then placed_frames style layout gap brk ++ new_frame style (topmost layout.base (placed_frames style layout gap brk)) gap.right.role ∷ [] else placed_frames style layout gap brk in fs) right_opens
      ∙ ap (λ (f : Frame). with_topmost (open_frames layout gap) f) same_placed ∙ set-get_or (open_frames layout gap) (length (open_frames layout gap) - 1) layout.base

-- .. as a test tells them
pub stay_on : (style : Style) (layout : Layout) (left right : LineTok) → opens_frame left.role ≡ false → opens_frame right.role ≡ false → (is_comma left.role && binds_commas style (topmost layout.base (take right.depth layout.frames)).opener) ≡ false →
    (fixed : Option Fixed) (brk : Bool) → frames_after style layout (gap_before layout left right fixed) brk ≡ take right.depth layout.frames
stay_on style layout left right left_opens right_opens unbound fixed brk = open_stay style layout (gap_before layout left right fixed) brk left_opens right_opens unbound

-- .. where a comma stands before the token
pub stay_behind_comma : (style : Style) (layout : Layout) (left right : LineTok) → opens_frame left.role ≡ false → opens_frame right.role ≡ false → (frame : Frame) → frame ≡ topmost layout.base (take right.depth layout.frames) → (binds : Bool) → binds ≡ binds_commas style frame.opener →
    OnTrue (not binds) ((fixed : Option Fixed) (brk : Bool) → frames_after style layout (gap_before layout left right fixed) brk ≡ take right.depth layout.frames)
stay_behind_comma style layout left right left_opens right_opens frame is true binds = tt
stay_behind_comma style layout left right left_opens right_opens frame is false binds =
    let free : binds_commas style (topmost layout.base (take right.depth layout.frames)).opener ≡ false = ap (λ (f : Frame). binds_commas style f.opener) (sym is) ∙ sym binds in
    stay_on style layout left right left_opens right_opens (ap (λ (b : Bool). is_comma left.role && b) free ∙ and_false (is_comma left.role))

-- what a step by such a token tells
pub record StepsBeside (style : Style) (layout : Layout) (gap : Gap) (brk : Bool) : Type 0 where
  pub allowed : is_allowed style layout gap brk ≡ true
  pub frames : frames_after style layout gap brk ≡ open_frames layout gap
  pub start : start_of style layout gap brk ≡ columns layout.column (spaces_before style gap.left gap.right)
  pub cost : cost_of style layout gap brk ≡ style.penalty_excess_character * excess_beside style layout.column (columns layout.column (spaces_before style gap.left gap.right)) gap.right

keeps_bool : (binds comma one two opening zero : Bool) → (comma && binds) ≡ false → (not ((binds && comma) && one && false) && not ((binds && comma) && two && not false) && not (opening && zero && false)) ≡ true
keeps_bool true true one two opening zero e = absurd (true-false e)
  where
    true-false : true ≡ false → ⊥
    true-false e = cc
keeps_bool true false one two true true e = refl
keeps_bool true false one two true false e = refl
keeps_bool true false one two false zero e = refl
keeps_bool false comma one two true true e = refl
keeps_bool false comma one two true false e = refl
keeps_bool false comma one two false zero e = refl

either_true : (b x : Bool) → x ≡ true → (if b then x else not false) ≡ true
either_true true x e = e
either_true false x e = refl

none_more : (n : ℕ) → 0 + n ≡ n
none_more n = omega arith

no_break : (free : Bool) (cost : ℕ) → (if free && false then cost else 0) ≡ 0
no_break true cost = refl
no_break false cost = refl

module _ (style : Style) (layout : Layout) (left right : LineTok) (may : (gap_rule style left right).must ≡ false) (left_opens : opens_frame left.role ≡ false) (right_opens : opens_frame right.role ≡ false) (unbound : (opener : Role) → (is_comma left.role && binds_commas style opener) ≡ false) where
  abbrev here : Gap
  here = record { left = left; right = right; fixed = None; first = false }

  abbrev spot : Spot
  spot = spot_of layout here

  keeps : keeps_rules_at style spot here false ≡ true
  keeps = keeps_bool (binds_commas style spot.top.opener) (is_comma left.role) (spot.top.comma == 1) (spot.top.comma == 2) (binds_opening style spot.top.opener && not spot.opened) (spot.top.opening == 0) (unbound spot.top.opener)

  allowed_here : is_allowed style layout here false ≡ true
  allowed_here = ap (λ (b : Bool). if b then false else (if (gap_rule style left right).can then keeps_rules_at style spot here false else not false)) may ∙ either_true (gap_rule style left right).can (keeps_rules_at style spot here false) keeps

  cost_here : cost_of style layout here false ≡ style.penalty_excess_character * excess_beside style layout.column (columns layout.column (spaces_before style left right)) right
  cost_here =
      ap (λ (n : ℕ). n + style.penalty_excess_character * excess_beside style layout.column (columns layout.column (spaces_before style left right)) right) (no_break (is_free style here) (gap_rule style left right).cost)
      ∙ none_more (style.penalty_excess_character * excess_beside style layout.column (columns layout.column (spaces_before style left right)) right)

  pub steps_here : StepsBeside style layout here false
  steps_here = record {
    allowed = allowed_here;
    frames = open_stay style layout here false left_opens right_opens (unbound (topmost layout.base (open_frames layout here)).opener);
    start = refl;
    cost = cost_here;
  }

-- the layout of a step that leaves the frames as they are, in a store
aside_in : (style : Style) (lists : List FrameList) (state next : NodeState) (gap : Gap) (brk : Bool) (begin : ℕ) → begin ≡ start_of style (layout_in lists state) gap brk → frames_after style (layout_in lists state) gap brk ≡ open_frames (layout_in lists state) gap →
    next.index ≡ state.index + 1 → (low : ℕ) → next.node ≡ low → list_at lists low ≡ record { base = (list_at lists state.node).base; frames = open_frames (layout_in lists state) gap } →
    next.column ≡ end_of gap.right begin → layout_in lists next ≡ layout_after style (layout_in lists state) gap brk
aside_in style lists state next gap brk begin start frames index low node list column =
    ap (λ (i : ℕ). let l : Layout = record { index = i; column = next.column; base = (list_at lists next.node).base; frames = (list_at lists next.node).frames } in l) index
    ∙ ap (λ (n : ℕ). let l : Layout = record { index = state.index + 1; column = next.column; base = (list_at lists n).base; frames = (list_at lists n).frames } in l) node
    ∙ ap (λ (e : FrameList). let l : Layout = record { index = state.index + 1; column = next.column; base = e.base; frames = e.frames } in l) list
    ∙ ap (λ (k : ℕ). let l : Layout = record { index = state.index + 1; column = k; base = (list_at lists state.node).base; frames = open_frames (layout_in lists state) gap } in l) (column ∙ ap (λ (k : ℕ). end_of gap.right k) start)
    ∙ ap (λ (fs : List Frame). let l : Layout = record { index = state.index + 1; column = end_of gap.right (start_of style (layout_in lists state) gap brk); base = (list_at lists state.node).base; frames = fs } in l) (sym frames)

-- the layout of such a step, in a store
pub beside_in : (style : Style) (lists : List FrameList) (state next : NodeState) (gap : Gap) (brk : Bool) → StepsBeside style (layout_in lists state) gap brk → (spaces : ℕ) → spaces ≡ spaces_before style gap.left gap.right → next.index ≡ state.index + 1 → (low : ℕ) → next.node ≡ low →
    list_at lists low ≡ record { base = (list_at lists state.node).base; frames = open_frames (layout_in lists state) gap } →
    next.column ≡ end_of gap.right (columns state.column spaces) → layout_in lists next ≡ layout_after style (layout_in lists state) gap brk
beside_in style lists state next gap brk steps spaces told index low node list column =
    let start : columns state.column spaces ≡ start_of style (layout_in lists state) gap brk = ap (λ (n : ℕ). columns state.column n) told ∙ sym steps.start in
    aside_in style lists state next gap brk (columns state.column spaces) start steps.frames index low node list column

-- what a step by a token that begins a row tells
pub record StepsBelow (style : Style) (layout : Layout) (gap : Gap) (brk : Bool) : Type 0 where
  pub allowed : is_allowed style layout gap brk ≡ true
  pub frames : frames_after style layout gap brk ≡ open_frames layout gap
  pub start : start_of style layout gap brk ≡ row_start gap.right.role (record { base = layout.base; frames = open_frames layout gap })
  pub cost : cost_of style layout gap brk ≡ (gap_rule style gap.left gap.right).cost + style.penalty_excess_character * excess_below style (row_start gap.right.role (record { base = layout.base; frames = open_frames layout gap })) gap.right

keeps_broken : (binds comma one two opening opened zero : Bool) → (comma && binds) ≡ false → opening ≡ false → (not ((binds && comma) && one && true) && not ((binds && comma) && two && not true) && not ((opening && not opened) && zero && true)) ≡ true
keeps_broken true true one two opening opened zero e o = absurd (true-false e)
  where
    true-false : true ≡ false → ⊥
    true-false e = cc
keeps_broken binds comma one two true opened zero e o = absurd (true-false o)
  where
    true-false : true ≡ false → ⊥
    true-false e = cc
keeps_broken true false one two false opened zero e o = refl
keeps_broken false comma one two false opened zero e o = refl

none_before : (trailing : Bool) (limit n : ℕ) → (if trailing then 0 else n - (0 - limit)) ≡ (if trailing then 0 else n)
none_before true limit n = refl
none_before false limit n = omega arith

free_cost : (can must : Bool) (cost : ℕ) → can ≡ true → must ≡ false → (if (can && not must) && true then cost else 0) ≡ cost
free_cost true false cost c m = refl
free_cost true true cost c m = absurd (true-false m)
  where
    true-false : true ≡ false → ⊥
    true-false e = cc
free_cost false must cost c m = absurd (false-true c)
  where
    false-true : false ≡ true → ⊥
    false-true e = cc

module _ (style : Style) (layout : Layout) (left right : LineTok) (may : (gap_rule style left right).must ≡ false) (can : (gap_rule style left right).can ≡ true) (left_opens : opens_frame left.role ≡ false) (right_opens : opens_frame right.role ≡ false)
    (unbound : (opener : Role) → (is_comma left.role && binds_commas style opener) ≡ false) (released : (opener : Role) → binds_opening style opener ≡ false) where
  abbrev there : Gap
  there = record { left = left; right = right; fixed = None; first = false }

  abbrev spot_there : Spot
  spot_there = spot_of layout there

  abbrev begins : ℕ
  begins = row_start right.role (record { base = layout.base; frames = open_frames layout there })

  keeps_there : keeps_rules_at style spot_there there true ≡ true
  keeps_there = keeps_broken (binds_commas style spot_there.top.opener) (is_comma left.role) (spot_there.top.comma == 1) (spot_there.top.comma == 2) (binds_opening style spot_there.top.opener) spot_there.opened (spot_there.top.opening == 0) (unbound spot_there.top.opener) (released spot_there.top.opener)

  allowed_there : is_allowed style layout there true ≡ true
  allowed_there = ap (λ (b : Bool). if b then true else (if (gap_rule style left right).can then keeps_rules_at style spot_there there true else not true)) may
      ∙ ap (λ (b : Bool). if b then keeps_rules_at style spot_there there true else not true) can ∙ keeps_there

  cost_there : cost_of style layout there true ≡ (gap_rule style left right).cost + style.penalty_excess_character * excess_below style begins right
  cost_there =
      ap (λ (n : ℕ). n + style.penalty_excess_character * excess_at style spot_there there true) (free_cost (gap_rule style left right).can (gap_rule style left right).must (gap_rule style left right).cost can may)
      ∙ ap (λ (n : ℕ). (gap_rule style left right).cost + style.penalty_excess_character * n) (none_before (is_trailing right.role) style.column_limit (excess style (columns begins right.first_width)))

  steps_there : StepsBelow style layout there true
  steps_there = record {
    allowed = allowed_there;
    frames = open_stay style layout there true left_opens right_opens (unbound (topmost layout.base (open_frames layout there)).opener);
    start = refl;
    cost = cost_there;
  }

pub steps_below : (style : Style) (layout : Layout) (gap : Gap) (rule : GapRule) (brk : Bool) → rule ≡ gap_rule style gap.left gap.right → IsBelow style gap rule brk → StepsBelow style layout gap brk
steps_below style layout gap rule brk is below =
    let may : (gap_rule style gap.left gap.right).must ≡ false = ap (λ (r : GapRule). r.must) (sym is) ∙ below.may in
    let can : (gap_rule style gap.left gap.right).can ≡ true = ap (λ (r : GapRule). r.can) (sym is) ∙ below.can in
    let steps = steps_there style layout gap.left gap.right may can below.left below.right below.unbound below.released in
    let inside : StepsBelow style layout (record { left = gap.left; right = gap.right; fixed = None; first = gap.first }) true = subst (λ (b : Bool). StepsBelow style layout (record { left = gap.left; right = gap.right; fixed = None; first = b }) true) (sym below.inside) steps in
    let free : StepsBelow style layout gap true = subst (λ (f : Option Fixed). StepsBelow style layout (record { left = gap.left; right = gap.right; fixed = f; first = gap.first }) true) (sym below.free) inside in
    subst (λ (b : Bool). StepsBelow style layout gap b) (sym below.breaks) free

-- its layout, in a store
pub below_in : (style : Style) (lists : List FrameList) (state next : NodeState) (gap : Gap) (brk : Bool) → StepsBelow style (layout_in lists state) gap brk → next.index ≡ state.index + 1 → (low : ℕ) → next.node ≡ low →
    list_at lists low ≡ record { base = (list_at lists state.node).base; frames = open_frames (layout_in lists state) gap } →
    next.column ≡ end_of gap.right (row_start gap.right.role (list_at lists low)) → layout_in lists next ≡ layout_after style (layout_in lists state) gap brk
below_in style lists state next gap brk steps index low node list column =
    let start : row_start gap.right.role (list_at lists low) ≡ start_of style (layout_in lists state) gap brk = ap (λ (l : FrameList). row_start gap.right.role l) list ∙ sym steps.start in
    aside_in style lists state next gap brk (row_start gap.right.role (list_at lists low)) start steps.frames index low node list column
