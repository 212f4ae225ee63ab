-- What the steps of a trail say of the breakings over them.
use Rattle.std.proofs.Common.{◌≡◌, ℕ, ◌+◌, ◌*◌, ◌<◌, ◌≤◌, Bool, Option, List, [], ◌∷◌, length, refl, arith, ap, sym, ◌∙◌, subst, suc}
use Rattle.line_state.specs.Choices.{Leads}
use Rattle.line_state.proofs.Ways.{Reached, onto, Leads-onto}
use Rattle.line_state.proofs.Steps.{functional, one_more, first_index}
use Rattle.frame_store.specs.declared.node.NodeState.{NodeState}
use Rattle.frame_store.specs.Store.{FrameList, IsIn, IsGrown}
use Rattle.line_state.specs.StoredStates.{layout_in, state_in}
use Rattle.line_state.specs.declared.state.State.{State}
use Rattle.line_state.specs.Layout.{Layout, cells_of}
use Rattle.line_state.specs.Line.{Line, gaps, first_layout, Step as StepOf}
use Rattle.searched_line.specs.Ahead.{least_ahead}
use Rattle.searched_line.specs.Successors.{IsNextState}
use Rattle.searched_line.proofs.AheadBound.{step_falls, ends_at}
use Rattle.break_search.specs.Outcome.{own_cells, own_cells_by}
use Rattle.break_search.specs.declared.trail.Step.{Step}
use Rattle.break_search.specs.Descent.{IsOn, choices}
use Rattle.break_search.proofs.Nodes.{layout_grown}

-- choices place a token each
pub index_after : (line : Line) (s t : Layout) (bs : List Bool) (c : ℕ) → Leads (StepOf line) s bs t c → t.index ≡ s.index + length bs
index_after line s t [] c h = omega (arith, ap (λ (l : Layout). l.index) h.0)
index_after line s t (b ∷ bs) c h = omega (arith, (one_more line s b h.0 h.1 h.3).index, index_after line h.0 t bs h.2 h.4)

-- they cost at least what is known to come
pub low_after : (line : Line) (s t : Layout) (bs : List Bool) (c : ℕ) → Leads (StepOf line) s bs t c → t.index ≡ length line.tokens → least_ahead line s ≤ c
low_after line s t [] c h e = omega (arith, ends_at line s (sym (ap (λ (l : Layout). l.index) h.0) ∙ e))
low_after line s t (b ∷ bs) c h e = omega (arith, step_falls line s h.0 h.1 b h.3, low_after line h.0 t bs h.2 h.4 e, h.5)

state_grown : (lists more : List FrameList) → IsGrown lists more → (state : NodeState) → IsIn lists state → state_in more state ≡ state_in lists state
state_grown lists more grown state is_in = ap (λ (l : FrameList). let e : State = record { index = state.index; column = state.column; cost = state.cost; base = l.base; frames = l.frames } in e) (grown.kept state.node is_in)

pub on_known : (line : Line) (lists : List FrameList) (budget : ℕ) (f : Step) (es : List Step) → IsOn line lists budget f es → IsIn lists f.state
on_known line lists budget f [] h = h.known
on_known line lists budget f (e ∷ es) h = h.0.known

pub on_within : (line : Line) (lists : List FrameList) (budget : ℕ) (f : Step) (es : List Step) → IsOn line lists budget f es → f.own ≤ budget
on_within line lists budget f [] h = h.within
on_within line lists budget f (e ∷ es) h = h.0.within

pub on_cheap : (line : Line) (lists : List FrameList) (budget : ℕ) (f : Step) (es : List Step) → IsOn line lists budget f es → f.state.cost ≤ f.state.index * 18446744073709551615
on_cheap line lists budget f [] h = omega (arith, h.free)
on_cheap line lists budget f (e ∷ es) h = h.0.leads.cheap

pub on_index : (line : Line) → 0 < length line.tokens → (lists : List FrameList) (budget : ℕ) (f : Step) (es : List Step) → IsOn line lists budget f es → f.state.index ≡ suc (length es)
on_index line some lists budget f [] h = omega (arith, ap (λ (l : Layout). l.index) h.layout, first_index line some)
on_index line some lists budget f (e ∷ es) h = omega (arith, (one_more line (layout_in lists e.state) f.brk (layout_in lists f.state) h.0.leads.added h.0.leads.step).index, on_index line some lists budget e es h.1)

pub length_choices : (f : Step) (es : List Step) → length (choices f es) ≡ length es
length_choices f [] = refl
length_choices f (e ∷ es) = ap suc (length_choices e es)

-- a store that grew keeps the steps
pub on_grown : (line : Line) (lists more : List FrameList) → IsGrown lists more → (budget : ℕ) (f : Step) (es : List Step) → IsOn line lists budget f es → IsOn line more budget f es
on_grown line lists more grown budget f [] h = record {
  known = omega (arith, h.known, grown.longer);
  layout = layout_grown lists more grown f.state h.known ∙ h.layout;
  free = h.free;
  own = h.own;
  within = h.within;
}
on_grown line lists more grown budget f (e ∷ es) h = (
  record {
    known = omega (arith, h.0.known, grown.longer);
    leads =
        subst (λ (l : Layout). IsNextState line l e.state.cost f.brk (state_in more f.state)) (sym (layout_grown lists more grown e.state (on_known line lists budget e es h.1)))
        (subst (λ (s : State). IsNextState line (layout_in lists e.state) e.state.cost f.brk s) (sym (state_grown lists more grown f.state h.0.known)) h.0.leads);
    own = h.0.own ∙ ap (λ (l : Layout). e.own + cells_of l) (sym (layout_grown lists more grown f.state h.0.known));
    within = h.0.within;
  },
  on_grown line lists more grown budget e es h.1,
)

-- what leads over the steps leads on from the last one
pub leads_on : (line : Line) (lists : List FrameList) (budget : ℕ) (f : Step) (es : List Step) → IsOn line lists budget f es → (bs : List Bool) (t : Layout) (c : ℕ) → Leads (StepOf line) (first_layout line) (onto (choices f es) bs) t c →
    (d : ℕ) × Leads (StepOf line) (layout_in lists f.state) bs t d × (c ≡ f.state.cost + d)
leads_on line lists budget f [] h bs t c l = (c, subst (λ (s : Layout). Leads (StepOf line) s bs t c) (sym h.layout) l, omega (arith, h.free))
leads_on line lists budget f (e ∷ es) h bs t c l =
    let up = leads_on line lists budget e es h.1 (f.brk ∷ bs) t c l in
    let g = up.1 in
    let same = functional line (layout_in lists e.state) f.brk g.0 (layout_in lists f.state) g.1 h.0.leads.added g.3 h.0.leads.step in
    (g.2, subst (λ (s : Layout). Leads (StepOf line) s bs t g.2) same.0 g.4, omega (arith, up.2, g.5, same.1, h.0.leads.cost))

reached_on : (line : Line) (lists : List FrameList) (budget : ℕ) (f : Step) (es : List Step) → IsOn line lists budget f es → Reached (StepOf line) (first_layout line) (choices f es) (layout_in lists f.state) f.state.cost
reached_on line lists budget f [] h = (h.layout, h.free)
reached_on line lists budget f (e ∷ es) h = (layout_in lists e.state, e.state.cost, h.0.leads.added, reached_on line lists budget e es h.1, h.0.leads.step, h.0.leads.cost)

-- the choices lead to the last step
pub leads_to : (line : Line) (lists : List FrameList) (budget : ℕ) (f : Step) (es : List Step) → IsOn line lists budget f es → Leads (StepOf line) (first_layout line) (onto (choices f es) []) (layout_in lists f.state) f.state.cost
leads_to line lists budget f es h =
    let e : f.state.cost + 0 ≡ f.state.cost = omega arith in
    subst (λ (c : ℕ). Leads (StepOf line) (first_layout line) (onto (choices f es) []) (layout_in lists f.state) c) e
    (Leads-onto (StepOf line) (first_layout line) (layout_in lists f.state) (layout_in lists f.state) f.state.cost 0 (choices f es) [] (reached_on line lists budget f es h) (refl, refl))

own_on : (line : Line) (lists : List FrameList) (budget : ℕ) (f : Step) (es : List Step) → IsOn line lists budget f es → (bs : List Bool) → own_cells line (first_layout line) (onto (choices f es) bs) + cells_of (layout_in lists f.state) ≡ f.own + own_cells line (layout_in lists f.state) bs
own_on line lists budget f [] h bs = omega (arith, h.own, ap cells_of h.layout, ap (λ (l : Layout). own_cells line l bs) h.layout)
own_on line lists budget f (e ∷ es) h bs =
    let up = own_on line lists budget e es h.1 (f.brk ∷ bs) in
    let below : own_cells line (layout_in lists e.state) (f.brk ∷ bs) ≡ cells_of (layout_in lists e.state) + own_cells line (layout_in lists f.state) bs =
    ap (λ (o : Option (Layout × ℕ)). cells_of (layout_in lists e.state) + own_cells_by (λ x. own_cells line x bs) o) h.0.leads.step in
    omega (arith, up, below, h.0.own)

-- what the steps count
pub own_is : (line : Line) (lists : List FrameList) (budget : ℕ) (f : Step) (es : List Step) → IsOn line lists budget f es → own_cells line (first_layout line) (onto (choices f es) []) ≡ f.own
own_is line lists budget f es h = omega (arith, own_on line lists budget f es h [])

-- a whole breaking over the steps and a choice costs at least what the choice leads to, and what is known to come then
pub ruled_out : (line : Line) → 0 < length line.tokens → (lists : List FrameList) (budget : ℕ) (f : Step) (es : List Step) → IsOn line lists budget f es → (b : Bool) (bound : ℕ) → ((u : Layout) (k : ℕ) → StepOf line (layout_in lists f.state) b u k → bound ≤ f.state.cost + k + least_ahead line u) →
    (bs : List Bool) (t : Layout) (c : ℕ) → length (onto (choices f es) (b ∷ bs)) ≡ gaps line → Leads (StepOf line) (first_layout line) (onto (choices f es) (b ∷ bs)) t c → bound ≤ c
ruled_out line some lists budget f es h b bound low bs t c size l =
    let up = leads_on line lists budget f es h (b ∷ bs) t c l in
    let g = up.1 in
    let last : t.index ≡ length line.tokens = omega (arith, index_after line (first_layout line) t (onto (choices f es) (b ∷ bs)) c l, first_index line some, size) in
    omega (arith, low g.0 g.1 g.3, low_after line g.0 t bs g.2 g.4 last, up.2, g.5)
