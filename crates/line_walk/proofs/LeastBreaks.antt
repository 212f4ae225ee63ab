-- Choices that break only where they have to.
use Rattle.std.proofs.Common.{◌≡◌, ◌∙◌, ◌⊎◌, inl, inr, ℕ, suc, ◌+◌, ◌*◌, ◌<◌, ◌≤◌, Bool, true, false, cond, not, Option}
use Rattle.std.proofs.Common.{Some, None, List, [], ◌∷◌, ◌++◌, length, length-append, refl, sym, ap, arith, subst, zero}
use Rattle.std.proofs.Common.{take, slice_get}
use Rattle.std.specs.Prelude.{if◌then◌else◌}
use Rattle.line_state.specs.Choices.{Leads}
use Rattle.line_tokens.specs.declared.Fixed.{Fixed}
use Rattle.style_table.specs.declared.style.Style.{Style}
use Rattle.layout_tables.specs.Breaks.{gap_rule}
use Rattle.line_state.specs.declared.gap.Gap.{Gap}
use Rattle.frame_store.specs.declared.node.NodeState.{NodeState}
use Rattle.line_state.specs.declared.state.State.{State}
use Rattle.frame_store.specs.Store.{FrameList, IsIn}
use Rattle.line_state.specs.StoredStates.{state_in}
use Rattle.line_state.specs.Layout.{Layout, layout_of, start_layout, open_frames, is_allowed, as_decided}
use Rattle.line_state.specs.Layout.{keeps_frame_rules, layout_after, cost_of, frames_after}
use Rattle.line_state.specs.Line.{Line, Step, gap_at, gaps, first_layout, step_over}
use Rattle.line_state.proofs.Steps.{placing, is_gap, gap_there, is_first, stored, least_of, least_allowed, least_stays}
use Rattle.line_state.proofs.Steps.{StayTogether, one_more}
use Rattle.line_walk.specs.Starts.{IsAdmissible, MayStay}
use Rattle.searched_line.specs.Successors.{IsNextState}

none_some : {A : Type 0} (x : A) → None ≡ Some x → ⊥
none_some x e = cc

get-take : {X : Type 0} (n : ℕ) (xs : List X) (k : ℕ) (x : X) → slice_get (take n xs) k ≡ Some x → slice_get xs k ≡ Some x
get-take zero xs k x h = absurd (none_some x h)
get-take (suc n) [] k x h = absurd (none_some x h)
get-take (suc n) (y ∷ xs) zero x h = h
get-take (suc n) (y ∷ xs) (suc k) x h = get-take n xs k x h

taken : (s : Layout) (gap : Gap) → StayTogether s.frames → StayTogether (open_frames s gap)
taken s gap h k f at = h k f (get-take gap.right.depth s.frames k f at)

-- a gap that may stay needs no break
stays_by : (fixed : Option Fixed) (must can : Bool) (rules : Bool → Bool) → as_decided fixed false (if must then false else (if can then rules false else not false)) ≡ true → stored fixed must ≡ false
stays_by (Some fixed) must can rules e = by_broken fixed.broken e
  where
    by_broken : (b : Bool) → (if b then false else not false) ≡ true → b ≡ false
    by_broken true e = cc
    by_broken false e = refl
stays_by None true can rules e = cc
stays_by None false can rules e = refl

stays_least : (style : Style) (s : Layout) (gap : Gap) → gap.first ≡ false → is_allowed style s gap false ≡ true → least_of style gap ≡ false
stays_least style s gap first allowed = by_first gap.first first allowed
  where
    by_first : (f : Bool) → f ≡ false → (if f then false else as_decided gap.fixed false (if (gap_rule style gap.left gap.right).must then false else (if (gap_rule style gap.left gap.right).can then keeps_frame_rules style s gap false else not false))) ≡ true
        → (if f then true else stored gap.fixed (gap_rule style gap.left gap.right).must) ≡ false
    by_first true f e = cc
    by_first false f e = stays_by gap.fixed (gap_rule style gap.left gap.right).must (gap_rule style gap.left gap.right).can (λ b. keeps_frame_rules style s gap b) e

true_or_false : (b : Bool) → (b ≡ true) ⊎ (b ≡ false)
true_or_false true = inl refl
true_or_false false = inr refl

-- the choice that breaks as little as can be leads on
least_goes : (line : Line) (s : Layout) → MayStay s → 0 < s.index → s.index < length line.tokens → (gap : Gap) × (gap_at line s.index ≡ Some gap) × Step line s (least_of line.style gap) (layout_after line.style s gap (least_of line.style gap)) (cost_of line.style s gap (least_of line.style gap))
least_goes line s may some within =
    let g = gap_there line s.index some within in
    let brk : Bool = least_of line.style g.0 in
    let yes : is_allowed line.style s g.0 brk ≡ true = least_allowed line.style s g.0 may.base (taken s g.0 may.together) in
    let go : Step line s brk (layout_after line.style s g.0 brk) (cost_of line.style s g.0 brk) =
    ap (λ (o : Option Gap). step_over line s brk o) g.1 ∙ ap (λ (c : Bool). cond {A = Option (Layout × ℕ)} c (Some (layout_after line.style s g.0 brk, cost_of line.style s g.0 brk)) None) yes in
    (g.0, g.1, go)

-- so where neither choice does, there is no gap
pub never_stuck : (line : Line) (s : Layout) → MayStay s → 0 < s.index → s.index < length line.tokens → ((t : Layout) (k : ℕ) → Step line s false t k → ⊥) → ((t : Layout) (k : ℕ) → Step line s true t k → ⊥) → ⊥
never_stuck line s may some within no_stay no_break =
    let g = least_goes line s may some within in
    by_choice (least_of line.style g.0) g.2
  where
    by_choice : (b : Bool) → Step line s b (layout_after line.style s (least_goes line s may some within).0 (least_of line.style (least_goes line s may some within).0)) (cost_of line.style s (least_goes line s may some within).0 (least_of line.style (least_goes line s may some within).0)) → ⊥
    by_choice true go = no_break _ _ go
    by_choice false go = no_stay _ _ go

some_same : {A : Type 0} (x y : A) → Some x ≡ Some y → x ≡ y
some_same x y e = cc

-- a layout that stays behind a gap may stay
stay_on : (line : Line) (s : Layout) (gap : Gap) (brk : Bool) (next : Layout) → MayStay s → layout_after line.style s gap brk ≡ next → least_of line.style gap ≡ brk → MayStay next
stay_on line s gap brk next may after least =
    subst (λ (x : Layout). MayStay x) after (record { base = may.base; together = subst (λ (b : Bool). StayTogether (frames_after line.style s gap b)) least (least_stays line.style s gap may.base may.together) })

pub stays_on : (line : Line) (s : Layout) (cost : ℕ) (next : State) → MayStay s → IsNextState line s cost false next → MayStay (layout_of next)
stays_on line s cost next may go =
    let p = placing line s false (layout_of next) go.added go.step in
    stay_on line s p.gap false (layout_of next) may p.layout (stays_least line.style s p.gap (is_gap line s.index p.gap p.at).first p.allowed)

pub breaks_on : (line : Line) (s : Layout) (cost : ℕ) (next : State) → MayStay s → 0 < s.index → s.index < length line.tokens → ((t : Layout) (k : ℕ) → Step line s false t k → ⊥) → IsNextState line s cost true next → MayStay (layout_of next)
breaks_on line s cost next may some within no_stay go =
    let p = placing line s true (layout_of next) go.added go.step in
    let g = least_goes line s may some within in
    let gap : g.0 ≡ p.gap = some_same g.0 p.gap (sym g.1 ∙ p.at) in
    let brk : least_of line.style g.0 ≡ true = elim (true_or_false (least_of line.style g.0)) [
      | inl e ↦ e
      | inr e ↦ absurd (no_stay _ _ (subst (λ (b : Bool). Step line s b (layout_after line.style s g.0 (least_of line.style g.0)) (cost_of line.style s g.0 (least_of line.style g.0))) e g.2))
    ] in
    stay_on line s p.gap true (layout_of next) may p.layout (ap (λ (x : Gap). least_of line.style x) (sym gap) ∙ brk)

-- ## One choice after another

leads_more : {S : Type 0} (step : S → Bool → S → ℕ → Type 0) (s m t : S) (bs : List Bool) (b : Bool) (c k : ℕ) → Leads step s bs m c → step m b t k → Leads step s (bs ++ b ∷ []) t (c + k)
leads_more {S} step s m t [] b c k h go = (t, k, 0, subst (λ (x : S). step x b t k) h.0 go, (refl, refl), omega (arith, h.1))
leads_more {S} step s m t (x ∷ bs) b c k h go = (h.0, h.1, h.2 + k, h.3, leads_more step h.0 m t bs b h.2 k h.4 go, omega (arith, h.5))

-- what holds while a line is broken as little as can be
pub record IsLittle (line : Line) (breaks : List Bool) (state : State) (placed : ℕ) : Type 0 where
  pub index : state.index ≡ placed + 1
  pub cheap : state.cost ≤ state.index * 18446744073709551615
  pub size : length breaks ≡ placed
  pub cost : ℕ
  pub leads : Leads (Step line) (first_layout line) breaks (layout_of state) cost
  pub stay : MayStay (layout_of state)

pub little_begins : (line : Line) (state : State) → 0 < length line.tokens → layout_of state ≡ first_layout line → state.cost ≤ 18446744073709551615 → IsLittle line [] state 0
little_begins line state some is small =
    let f = is_first line some in
    let start : Layout = start_layout line.style line.column in
    let none : StayTogether [] = λ k x at. absurd (none_some x at) in
    let brk : least_of line.style f.0 ≡ true = ap (λ (b : Bool). if b then true else stored f.0.fixed (gap_rule line.style f.0.left f.0.right).must) f.1.first in
    let first : layout_after line.style start f.0 true ≡ layout_of state = sym f.1.layout ∙ sym is in
    let index : state.index ≡ 1 = sym (ap (λ (l : Layout). l.index) first) in
    record {
      index = omega (arith, index);
      cheap = omega (arith, index, small);
      size = refl;
      cost = 0;
      leads = (is, refl);
      stay = stay_on line start f.0 true (layout_of state) (record { base = refl; together = none }) first brk;
    }

pub little_more : (line : Line) (breaks new : List Bool) (state next : State) (placed : ℕ) (brk : Bool) → IsLittle line breaks state placed → IsNextState line (layout_of state) state.cost brk next → MayStay (layout_of next) → new ≡ breaks ++ brk ∷ []
    → IsLittle line new next (placed + 1)
little_more line breaks new state next placed brk w go stay is = record {
  index = omega (arith, (one_more line (layout_of state) brk (layout_of next) go.added go.step).index, w.index);
  cheap = go.cheap;
  size = ap (λ (bs : List Bool). length bs) is ∙ length-append breaks (brk ∷ []) ∙ ap (λ n. n + 1) w.size;
  cost = w.cost + go.added;
  leads = subst (λ (bs : List Bool). Leads (Step line) (first_layout line) bs (layout_of next) (w.cost + go.added)) (sym is)
      (leads_more (Step line) (first_layout line) (layout_of state) (layout_of next) breaks brk w.cost go.added w.leads go.step);
  stay = stay;
}

pub little_ends : (line : Line) (breaks : List Bool) (state : State) (placed : ℕ) → IsLittle line breaks state placed → placed ≡ gaps line → IsAdmissible line breaks
little_ends line breaks state placed w all = record { count = w.size ∙ all; layout = layout_of state; cost = w.cost; leads = w.leads }

-- .. over a store
pub record IsLittleIn (line : Line) (breaks : List Bool) (lists : List FrameList) (state : NodeState) (placed : ℕ) : Type 0 where
  pub little : IsLittle line breaks (state_in lists state) placed
  pub known : IsIn lists state

pub little_begins_in : (line : Line) (breaks : List Bool) (lists : List FrameList) (state : NodeState) → breaks ≡ [] → 0 < length line.tokens → layout_of (state_in lists state) ≡ first_layout line → state.cost ≤ 18446744073709551615 → IsIn lists state
    → IsLittleIn line breaks lists state 0
little_begins_in line breaks lists state none some is small known =
    record { little = subst (λ (bs : List Bool). IsLittle line bs (state_in lists state) 0) (sym none) (little_begins line (state_in lists state) some is small); known = known }
