-- A line on one row is the least breaking.
use Rattle.std.proofs.Common.{◌≡◌, ◌∙◌, ◌⊎◌, inl, inr, ℕ, zero, suc, ◌+◌, ◌-◌, ◌*◌, ◌<◌, ◌≤◌, min, Bool, true, false}
use Rattle.std.proofs.Common.{cond, not, ◌&&◌, Option, Some, None, List, [], ◌∷◌, ◌++◌, length, length-append, get_or}
use Rattle.std.proofs.Common.{take, drop, refl, sym, ap, arith, subst, slice_get, slice_set}
use Rattle.std.specs.Prelude.{if◌then◌else◌}
use Rattle.std.proofs.Math.ListN.{drop_of_length-le}
use Rattle.std.proofs.Math.Seq.{drop-cons}
use Rattle.std.proofs.lemmas.Option.{slice_get-get_or}
use Rattle.std.proofs.lemmas.List.{length-set, length-take, length-replicate, replicate-append-replicate}
use Rattle.line_state.specs.Choices.{Leads}
use Rattle.line_state.proofs.Thrift.{IsThrifty, thrifty_more, thrifty_least}
use Rattle.style_table.specs.declared.style.Style.{Style}
use Rattle.line_tokens.specs.Roles.{is_trailing}
use Rattle.line_tokens.specs.declared.LineTok.{LineTok}
use Rattle.line_tokens.specs.declared.Fixed.{Fixed}
use Rattle.frame_store.specs.declared.frames.Frame.{Frame}
use Rattle.line_state.specs.declared.gap.Gap.{Gap}
use Rattle.line_state.specs.Brackets.{opens_frame}
use Rattle.line_tokens.specs.Columns.{columns, end_of, stored_or}
use Rattle.line_state.specs.Layout.{Layout, spot_of, start_layout, is_allowed, is_some_decision, layout_after, cost_of}
use Rattle.line_state.specs.Layout.{gap_cost, is_free, excess_at, start_of, broken_start, open_frames, new_frame}
use Rattle.line_state.specs.Layout.{placed_frames, opened_frame, comma_frame, is_after_opener, frames_after, cells_of}
use Rattle.frame_store.specs.Frames.{topmost}
use Rattle.line_state.specs.Line.{Line, Step, gaps, gap_at, gap_between, decision_at, first_layout, first_cost}
use Rattle.line_state.specs.Line.{step_over}
use Rattle.line_state.proofs.Steps.{StayTogether, is_first, stored, least_of, least_allowed, least_stays, functional}
use Rattle.line_state.proofs.Steps.{placing}
use Rattle.layout_tables.specs.Breaks.{gap_rule}
use Rattle.layout_tables.specs.Spaces.{spaces_before}
use Rattle.break_search.specs.Outcome.{own_cells, own_cells_by, IsFound}
use Rattle.break_search.specs.Thrift.{IsStraight}
use Rattle.line_tokens.specs.declared.line.ULine.{ULine}
use Rattle.replacements.specs.declared.gap_text.Decision.TheVariants.{Spaces}
use Rattle.replacements.specs.declared.slot.Slot.{Slot}
use Rattle.line_tokens.specs.Tokens.{no_token}
use Rattle.run_layout.specs.Broken.{made_at, inside_made}
use Rattle.run_layout.specs.OneRow.{stays, IsOpenInside, stay_start, open_behind, Fits, IsOneRow, IsRow, row_made}

-- ## One token more

-- the frames once a token is placed
pub length-placed : (style : Style) (s : Layout) (gap : Gap) (brk : Bool) → length (frames_after style s gap brk) ≡ open_behind (length s.frames) gap.right
length-placed style s gap brk =
    let open_ones : List Frame = open_frames s gap in
    let top : Frame = if is_after_opener s gap then opened_frame style gap brk (start_of style s gap brk) (topmost s.base open_ones) else comma_frame style gap brk (topmost s.base open_ones) in
    let same : length (slice_set open_ones (length open_ones - 1) top) ≡ length open_ones = length-set open_ones (length open_ones - 1) top in
    let count : length open_ones ≡ min gap.right.depth (length s.frames) = length-take gap.right.depth s.frames in
    by_flag (opens_frame gap.right.role) (placed_frames style s gap brk) (same ∙ count)
  where
    by_flag : (o : Bool) (frames : List Frame) → length frames ≡ min gap.right.depth (length s.frames)
        → length (if o then frames ++ new_frame style (topmost s.base frames) gap.right.role ∷ [] else frames) ≡ min gap.right.depth (length s.frames) + (if o then 1 else 0)
    by_flag true frames e = omega (arith, length-append frames (new_frame style (topmost s.base frames) gap.right.role ∷ []), e)
    by_flag false frames e = omega (arith, e)

free_excess : (style : Style) (trailing : Bool) (reach before : ℕ) → (trailing ≡ true) ⊎ (reach ≤ style.column_limit) → (if trailing then 0 else (reach - style.column_limit) - (before - style.column_limit)) ≡ 0
free_excess style true reach before fits = refl
free_excess style false reach before (inl e) = cc
free_excess style false reach before (inr fits) = omega (arith, fits)

no_cost : (a p b : ℕ) → a ≡ 0 → b ≡ 0 → a + p * b ≡ 0
no_cost a p b e f = grind (arith, e, f)

-- ## The step

-- the gap behind so many tokens
gap_here : (l : Line) (i : ℕ) (left right : LineTok) (fixed : Option Fixed) → slice_get l.tokens i ≡ Some left → slice_get l.tokens (suc i) ≡ Some right → decision_at l (suc i) ≡ fixed
    → gap_at l (suc i) ≡ Some (record { left = left; right = right; fixed = fixed; first = false })
gap_here l i left right fixed a b f =
    ap (λ (o : Option LineTok). gap_between o (slice_get l.tokens (suc i)) (decision_at l (suc i)) false) a
    ∙ (ap (λ (o : Option LineTok). gap_between (Some left) o (decision_at l (suc i)) false) b
    ∙ ap (λ (o : Option Fixed). gap_between (Some left) (Some right) o false) f)

-- what one more choice adds to the cells of a list
own_more : (l : Line) (s m t : Layout) (bs : List Bool) (b : Bool) → IsThrifty (Step l) s bs m → Step l m b t 0 → own_cells l s (bs ++ b ∷ []) ≡ own_cells l s bs + cells_of t
own_more l s m t [] b h go =
    let from : Step l s b t 0 = subst (λ (x : Layout). Step l x b t 0) h go in
    ap (λ (o : Option (Layout × ℕ)). cells_of s + own_cells_by (λ x. own_cells l x []) o) from
own_more l s m t (c ∷ bs) b h go =
    let below = own_more l h.0 m t bs b h.3 go in
    let one : own_cells l s (c ∷ (bs ++ b ∷ [])) ≡ cells_of s + own_cells l h.0 (bs ++ b ∷ []) = ap (λ (o : Option (Layout × ℕ)). cells_of s + own_cells_by (λ x. own_cells l x (bs ++ b ∷ [])) o) h.1 in
    let two : own_cells l s (c ∷ bs) ≡ cells_of s + own_cells l h.0 bs = ap (λ (o : Option (Layout × ℕ)). cells_of s + own_cells_by (λ x. own_cells l x bs) o) h.1 in
    omega (arith, one, two, below)

stays_more : (n : ℕ) → stays n ++ false ∷ [] ≡ stays (n + 1)
stays_more n = replicate-append-replicate n 1 false

-- what one token more leaves
pub row_more : (l : Line) (n column frames count : ℕ) (left right : LineTok) → IsOneRow l n column frames count → IsOpenInside l
    → slice_get l.tokens n ≡ Some left → slice_get l.tokens (suc n) ≡ Some right → (gap_rule l.style left right).must ≡ false → Fits l.style right (stay_start l.style column left right)
    → IsOneRow l (n + 1) (end_of right (stay_start l.style column left right)) (open_behind frames right) (count + (open_behind frames right + 1))
row_more l n column frames count left right w inside a b must fits =
    let style : Style = l.style in
    let s : Layout = w.layout in
    let gap : Gap = record { left = left; right = right; fixed = None; first = false } in
    let at : gap_at l s.index ≡ Some gap = ap (λ (i : ℕ). gap_at l i) w.index ∙ gap_here l n left right None a b (inside (suc n) (omega arith)) in
    let next : Layout = layout_after style s gap false in
    let start : start_of style s gap false ≡ stay_start style column left right = ap (λ x. columns x (spaces_before style left right)) w.column_is in
    let taken : StayTogether (open_frames s gap) = w_taken s gap w.together in
    let allowed : is_allowed style s gap false ≡ true = subst (λ (x : Bool). is_allowed style s gap x ≡ true) must (least_allowed style s gap w.base taken) in
    let excess_free : excess_at style (spot_of s gap) gap false ≡ 0 =
    free_excess style (is_trailing right.role) (columns (start_of style s gap false) right.first_width) s.column (fits_at style right (start_of style s gap false) (stay_start style column left right) start fits) in
    let paid : gap_cost style gap false ≡ 0 = stay_free (is_free style gap) (gap_rule style left right).cost in
    let cost : cost_of style s gap false ≡ 0 = no_cost (gap_cost style gap false) style.penalty_excess_character (excess_at style (spot_of s gap) gap false) paid excess_free in
    let go : Step l s false next 0 =
    ap (λ (o : Option Gap). step_over l s false o) at
    ∙ (ap (λ (c : Bool). cond {A = Option (Layout × ℕ)} c (Some (next, cost_of style s gap false)) None) allowed ∙ ap (λ (k : ℕ). Some (next, k)) cost) in
    let many : length next.frames ≡ open_behind frames right = length-placed style s gap false ∙ ap (λ x. open_behind x right) w.frames_are in
    let all : List Bool = stays n ++ false ∷ [] in
    let more : IsThrifty (Step l) (first_layout l) all next = thrifty_more (Step l) (first_layout l) s next (stays n) false w.thrifty go tt in
    let own : own_cells l (first_layout l) all ≡ count + (open_behind frames right + 1) = own_more l (first_layout l) s next (stays n) false w.thrifty go ∙ cells_sum (own_cells l (first_layout l) (stays n)) (length next.frames) count (open_behind frames right) w.own many in
    record {
      layout = next;
      thrifty = subst (λ (bs : List Bool). IsThrifty (Step l) (first_layout l) bs next) (stays_more n) more;
      index = omega (arith, w.index);
      column_is = ap (λ x. end_of right x) start;
      frames_are = many;
      own = ap (λ (bs : List Bool). own_cells l (first_layout l) bs) (sym (stays_more n)) ∙ own;
      base = w.base;
      together = subst (λ (x : Bool). StayTogether (frames_after style s gap x)) must (least_stays style s gap w.base w.together);
    }
  where
    none_some : {A : Type 0} (x : A) → None ≡ Some x → ⊥
    none_some x e = cc

    get-take : {X : Type 0} (m : ℕ) (xs : List X) (k : ℕ) (x : X) → slice_get (take m xs) k ≡ Some x → slice_get xs k ≡ Some x
    get-take zero xs k x h = absurd (none_some x h)
    get-take (suc m) [] k x h = absurd (none_some x h)
    get-take (suc m) (y ∷ xs) zero x h = h
    get-take (suc m) (y ∷ xs) (suc k) x h = get-take m xs k x h

    w_taken : (s : Layout) (gap : Gap) → StayTogether s.frames → StayTogether (open_frames s gap)
    w_taken s gap h k f e = h k f (get-take gap.right.depth s.frames k f e)

    stay_free : (free : Bool) (cost : ℕ) → (if free && false then cost else 0) ≡ 0
    stay_free true cost = refl
    stay_free false cost = refl

    fits_at : (style : Style) (token : LineTok) (x y : ℕ) → x ≡ y → Fits style token y → (is_trailing token.role ≡ true) ⊎ (columns x token.first_width ≤ style.column_limit)
    fits_at style token x y e fits = subst (λ z. Fits style token z) (sym e) fits

    cells_sum : (own length_now count frames : ℕ) → own ≡ count → length_now ≡ frames → own + (length_now + 1) ≡ count + (frames + 1)
    cells_sum own length_now count frames e f = omega (arith, e, f)

-- ## The first token

-- the first token of a line, where it doesn't pass the limit or its gap is decided
pub row_first : (l : Line) (token : LineTok) → 0 < length l.tokens → slice_get l.tokens 0 ≡ Some token
    → IsOneRow l 0 (end_of token (stored_or (decision_at l 0) l.column)) (open_behind 0 token) (open_behind 0 token + 1)
row_first l token some at =
    let f = is_first l some in
    let gap : Gap = f.0 in
    let start : Layout = start_layout l.style l.column in
    let left : gap.left ≡ token = some_same gap.left token (sym f.1.token ∙ at) in
    let right : gap.right ≡ token = f.1.same ∙ left in
    let many : length (frames_after l.style start gap true) ≡ open_behind 0 token = length-placed l.style start gap true ∙ ap (λ (t : LineTok). open_behind 0 t) right in
    let first : Layout = layout_after l.style start gap true in
    let none : StayTogether [] = λ k x e. absurd (none_some x e) in
    let brk : least_of l.style gap ≡ true = first_brk gap.first (gap_rule l.style gap.left gap.right).must gap.fixed f.1.first in
    let starts : start_of l.style start gap true ≡ stored_or (decision_at l 0) l.column = start_first l.style gap f.1.first (decision_at l 0) f.1.fixed in
    let frames : StayTogether first.frames = subst (λ (b : Bool). StayTogether (frames_after l.style start gap b)) brk (least_stays l.style start gap refl none) in
    record {
      layout = first;
      thrifty = sym f.1.layout;
      index = refl;
      column_is = ap (λ (t : LineTok). end_of t (start_of l.style start gap true)) right ∙ ap (λ x. end_of token x) starts;
      frames_are = many;
      own = ap (λ (s : Layout). length s.frames + 1) f.1.layout ∙ ap (λ x. x + 1) many;
      base = refl;
      together = frames;
    }
  where
    some_same : {A : Type 0} (x y : A) → Some x ≡ Some y → x ≡ y
    some_same x y e = cc

    none_some : {A : Type 0} (x : A) → None ≡ Some x → ⊥
    none_some x e = cc

    first_brk : (first must : Bool) (fixed : Option Fixed) → first ≡ true → (if first then true else stored fixed must) ≡ true
    first_brk true must fixed e = refl
    first_brk false must fixed e = cc

    if_true : (b : Bool) (rest : ℕ) → b ≡ true → (if b then l.column else rest) ≡ l.column
    if_true true rest e = refl
    if_true false rest e = cc

    start_first : (style : Style) (gap : Gap) → gap.first ≡ true → (o : Option Fixed) → o ≡ gap.fixed → start_of style (start_layout style l.column) gap true ≡ stored_or o l.column
    start_first style gap first o e = ap (λ x. stored_or gap.fixed x) (if_true gap.first _ first) ∙ ap (λ (f : Option Fixed). stored_or f l.column) (sym e)

-- it costs nothing where its gap is decided, or where it doesn't pass the limit
pub first_free : (l : Line) (token : LineTok) → 0 < length l.tokens → slice_get l.tokens 0 ≡ Some token
    → ((fixed : Fixed) × (decision_at l 0 ≡ Some fixed)) ⊎ Fits l.style token l.column → first_cost l ≡ 0
first_free l token some at why =
    let f = is_first l some in
    let gap : Gap = f.0 in
    let start : Layout = start_layout l.style l.column in
    let left : gap.left ≡ token = some_same gap.left token (sym f.1.token ∙ at) in
    let right : gap.right ≡ token = f.1.same ∙ left in
    f.1.cost ∙ elim why [
      | inl decided ↦ decided_free l.style start gap decided.0 (sym f.1.fixed ∙ decided.1)
      | inr fits ↦ fitting_free l.style start gap refl f.1.first (subst (λ (t : LineTok). Fits l.style t l.column) (sym right) fits)
    ]
  where
    some_same : {A : Type 0} (x y : A) → Some x ≡ Some y → x ≡ y
    some_same x y e = cc

    decided_free : (style : Style) (s : Layout) (gap : Gap) (fixed : Fixed) → gap.fixed ≡ Some fixed → cost_of style s gap true ≡ 0
    decided_free style s gap fixed e = ap (λ (o : Option Fixed). if is_some_decision o then 0 else gap_cost style gap true + style.penalty_excess_character * excess_at style (spot_of s gap) gap true) e

    by_first : (first decided can must : Bool) (cost : ℕ) → first ≡ true → (if (not first && not decided && can && not must) && true then cost else 0) ≡ 0
    by_first true decided can must cost e = refl
    by_first false decided can must cost e = cc

    open_free : (style : Style) (s : Layout) (gap : Gap) → gap.first ≡ true → gap_cost style gap true ≡ 0
    open_free style s gap e = by_first gap.first (is_some_decision gap.fixed) (gap_rule style gap.left gap.right).can (gap_rule style gap.left gap.right).must (gap_rule style gap.left gap.right).cost e

    if_true : (b : Bool) (rest : ℕ) → b ≡ true → (if b then l.column else rest) ≡ l.column
    if_true true rest e = refl
    if_true false rest e = cc

    starts_at : (style : Style) (gap : Gap) → gap.first ≡ true → gap.fixed ≡ None → start_of style (start_layout style l.column) gap true ≡ l.column
    starts_at style gap first open_gap = ap (λ (o : Option Fixed). stored_or o (broken_start (spot_of (start_layout style l.column) gap) gap)) open_gap ∙ if_true gap.first _ first

    paid_by : (style : Style) (s : Layout) (gap : Gap) → gap.fixed ≡ None → cost_of style s gap true ≡ gap_cost style gap true + style.penalty_excess_character * excess_at style (spot_of s gap) gap true
    paid_by style s gap open_gap = ap (λ (o : Option Fixed). if is_some_decision o then 0 else gap_cost style gap true + style.penalty_excess_character * excess_at style (spot_of s gap) gap true) open_gap

    fitting_free : (style : Style) (s : Layout) (gap : Gap) → s ≡ start_layout style l.column → gap.first ≡ true → Fits style gap.right l.column → cost_of style s gap true ≡ 0
    fitting_free style s gap same first fits = by_fixed gap.fixed refl
      where
        by_fixed : (o : Option Fixed) → gap.fixed ≡ o → cost_of style s gap true ≡ 0
        by_fixed (Some fixed) is = decided_free style s gap fixed is
        by_fixed None is =
            let starts : start_of style s gap true ≡ l.column = ap (λ (x : Layout). start_of style x gap true) same ∙ starts_at style gap first is in
            let none : excess_at style (spot_of s gap) gap true ≡ 0 =
            free_excess style (is_trailing gap.right.role) (columns (start_of style s gap true) gap.right.first_width) 0 (subst (λ z. Fits style gap.right z) (sym starts) fits) in
            paid_by style s gap is ∙ no_cost (gap_cost style gap true) style.penalty_excess_character (excess_at style (spot_of s gap) gap true) (open_free style s gap first) none

-- ## The whole line

-- a line on one row within the budget
pub row_whole : (l : Line) (budget n column frames count : ℕ) → IsOneRow l n column frames count → n ≡ gaps l → count ≤ budget → first_cost l ≡ 0 → IsRow l budget
row_whole l budget n column frames count w all small free = record {
  straight = subst (λ x. IsStraight l budget (stays x)) all (record { layout = w.layout; thrifty = w.thrifty; count = length-replicate n false ∙ all; own = omega (arith, w.own, small) });
  free = free;
}

-- is broken at its least breaking
pub row_found : (l : Line) (budget : ℕ) → IsRow l budget → IsFound l budget (stays (gaps l)) 0
row_found l budget row =
    let s = row.straight in
    record {
      whole = 0;
      least = thrifty_least (Step l) (functional l) (first_layout l) s.layout (gaps l) (stays (gaps l)) s.count s.thrifty;
      told = ap (λ x. min (x + 0) 18446744073709551615) (sym row.free);
      own = s.own;
    }

-- ## Its decisions

gap_inside : (l : Line) (i : ℕ) (left right : LineTok) (fixed : Option Fixed) → 0 < i → slice_get l.tokens (i - 1) ≡ Some left → slice_get l.tokens i ≡ Some right → decision_at l i ≡ fixed
    → gap_at l i ≡ Some (record { left = left; right = right; fixed = fixed; first = false })
gap_inside l zero left right fixed some a b f = absurd (omega (arith, some))
gap_inside l (suc i) left right fixed some a b f =
    let before : suc i - 1 ≡ i = omega arith in
    gap_here l i left right fixed (ap (λ j. slice_get l.tokens j) (sym before) ∙ a) b f

-- the number of each token is that of its item
abbrev pub AreNumbers : List ℕ → List LineTok → Type 0
AreNumbers items tokens = (i : ℕ) (token : LineTok) → slice_get tokens i ≡ Some token → get_or items i 0 ≡ token.id.0

-- where all gaps behind a layout are open and stay, they are decided token by token
pub row_is_made : (line : ULine) (items : List ℕ) (l : Line) (s t : Layout) (cost m : ℕ) (left : LineTok) → IsOpenInside l → AreNumbers items l.tokens → Leads (Step l) s (stays m) t cost
    → 0 < s.index → s.index + m ≡ length l.tokens → slice_get l.tokens (s.index - 1) ≡ Some left
    → inside_made line items l s (stays m) ≡ row_made l.style s.column left (drop s.index l.tokens)
row_is_made line items l s t cost zero left inside numbers leads some all at = sym (ap (λ (xs : List LineTok). row_made l.style s.column left xs) (drop_of_length-le l.tokens (omega (arith, all))))
row_is_made line items l s t cost (suc m) left inside numbers leads some all at =
    let style : Style = l.style in
    let right : LineTok = get_or l.tokens s.index no_token in
    let r : slice_get l.tokens s.index ≡ Some right = slice_get-get_or l.tokens s.index no_token (omega (arith, all)) in
    let gap : Gap = record { left = left; right = right; fixed = None; first = false } in
    let here : gap_at l s.index ≡ Some gap = gap_inside l s.index left right None some at r (inside s.index some) in
    let next : Layout = layout_after style s gap false in
    let p = placing l s false leads.0 leads.1 leads.3 in
    let same : p.gap ≡ gap = same_some p.gap gap (sym p.at ∙ here) in
    let lay : leads.0 ≡ next = sym p.layout ∙ ap (λ (g : Gap). layout_after style s g false) same in
    let one : s.index + 1 - 1 ≡ s.index = omega arith in
    let rest : inside_made line items l next (stays m) ≡ row_made style next.column right (drop next.index l.tokens) =
    row_is_made line items l next t leads.2 m right inside numbers (subst (λ (x : Layout). Leads (Step l) x (stays m) t leads.2) lay leads.4) (omega arith) (omega (arith, all)) (ap (λ i. slice_get l.tokens i) one ∙ r) in
    let tokens : drop s.index l.tokens ≡ right ∷ drop (s.index + 1) l.tokens =
    drop-cons l.tokens s.index no_token (omega (arith, all)) ∙ ap (λ j. right ∷ drop j l.tokens) (add-one s.index) in
    let slot : Slot = record { decision = Spaces (spaces_before style left right); end = stay_start style s.column left right } in
    ap (λ (o : Option Gap). made_at style line items s false (λ x. inside_made line items l x (stays m)) o) here
    ∙ (ap (λ x. if is_trailing right.role then inside_made line items l next (stays m) else (x, slot) ∷ inside_made line items l next (stays m)) (numbers s.index right r)
    ∙ (ap (λ (xs : List (ℕ × Slot)). if is_trailing right.role then xs else (right.id.0, slot) ∷ xs) rest
    ∙ sym (ap (λ (xs : List LineTok). row_made style s.column left xs) tokens)))
  where
    same_some : {A : Type 0} (x y : A) → Some x ≡ Some y → x ≡ y
    same_some x y e = cc

    add-one : (i : ℕ) → suc i ≡ i + 1
    add-one i = omega arith
