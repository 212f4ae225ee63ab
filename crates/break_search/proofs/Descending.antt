-- What the turns of a descent leave.
use Rattle.std.proofs.Common.{◌≡◌, ℕ, ◌+◌, ◌*◌, ◌<◌, ◌≤◌, min, inl, inr, Bool, true, false, Option, Some, None, List, [], ◌∷◌, ◌++◌, length, reverse, append_assoc, refl, arith, ap, sym, ◌∙◌, subst, suc}
use Rattle.std.proofs.lemmas.List.{append-nil}
use Rattle.line_state.specs.Choices.{Leads, IsLeast, IsNotAfter}
use Rattle.line_state.proofs.Ways.{onto, length-onto}
use Rattle.line_state.proofs.Steps.{functional, one_more, first_index}
use Rattle.searched_line.proofs.AheadBound.{small}
use Rattle.break_search.proofs.Nodes.{layout_grown}
use Rattle.break_search.specs.declared.descent.Choice.TheVariants.{Stay, Back}
use Rattle.frame_store.specs.declared.node.NodeState.{NodeState}
use Rattle.frame_store.specs.Store.{FrameList, IsIn, IsGrown}
use Rattle.line_state.specs.StoredStates.{layout_in, state_in}
use Rattle.line_state.specs.Layout.{Layout, cells_of}
use Rattle.line_state.specs.Line.{Line, gaps, first_layout, first_cost, Step as StepOf}
use Rattle.searched_line.specs.Ahead.{least_ahead}
use Rattle.searched_line.specs.Successors.{IsNextState, IsSuccessor, LeadsNowhere, states_in}
use Rattle.break_search.specs.declared.trail.Step.{Step}
use Rattle.break_search.specs.Descent.{IsTop, IsOn, choices, choices_of, IsPast, AreLeft, IsTrying, IsDescent, IsEnd, after}
use Rattle.break_search.specs.declared.outcome.Outcome.{Outcome}
use Rattle.break_search.specs.Outcome.{IsTold, IsOutcome, own_cells}
use Rattle.break_search.proofs.Answering.{told}
use Rattle.break_search.proofs.WayBack.{onto-reverse}
use Rattle.break_search.proofs.TrailOrder.{BeginsWith, split_stay, split_break, past_stay, past_break, stays_next, onto_tail}
use Rattle.break_search.proofs.Trails.{index_after, low_after, on_known, on_within, on_cheap, on_index, length_choices, on_grown, leads_to, own_is, ruled_out}

-- what leads to nothing is left out
module _ (line : Line) (some : 0 < length line.tokens) (lists : List FrameList) (budget : ℕ) (f : Step) (es : List Step) (on : IsOn line lists budget f es) (old new : ℕ) (less : new ≤ old) where
  out : (b : Bool) → ((u : Layout) (k : ℕ) → StepOf line (layout_in lists f.state) b u k → new ≤ f.state.cost + k + least_ahead line u) →
      (w : List Bool) (t : Layout) (c : ℕ) → length w ≡ gaps line → Leads (StepOf line) (first_layout line) w t c → c < new → BeginsWith (onto (choices f es) []) b w → ⊥
  out b low w t c size l cheap h =
      let e : w ≡ onto (choices f es) (b ∷ h.0) = h.1 ∙ sym (onto_tail (choices f es) (b ∷ h.0)) in
      omega (arith, cheap, ruled_out line some lists budget f es on b new low h.0 t c (sym (ap length e) ∙ size) (subst (λ (v : List Bool). Leads (StepOf line) (first_layout line) v t c) e l))

  pub left_out : (b : Bool) (most : ℕ) → length (f ∷ es) < length line.tokens → AreLeft line most (λ w. ⊥) → most < new → AreLeft line old (λ w. IsNotAfter (onto (choices f es) (b ∷ [])) w) → ((u : Layout) (k : ℕ) → StepOf line (layout_in lists f.state) b u k → new ≤ f.state.cost + k + least_ahead line u) → IsDescent line lists budget (f ∷ es) most new (after b)
  left_out false most room floor above left low = record {
    trail = on;
    room = room;
    floor = floor;
    above = above;
    left = λ w t c size l cheap.
        (let before : IsNotAfter (onto (choices f es) [] ++ false ∷ []) w = subst (λ (p : List Bool). IsNotAfter p w) (onto_tail (choices f es) (false ∷ [])) (left w t c size l (omega (arith, cheap, less))) in
        subst (λ (p : List Bool). IsNotAfter p w) (sym (onto_tail (choices f es) (true ∷ []))) (elim (split_stay (onto (choices f es) []) w before) [
          | inl begins ↦ absurd (out false low w t c size l cheap begins)
          | inr later ↦ later
        ]));
  }
  left_out true most room floor above left low = record {
    trail = on;
    room = room;
    floor = floor;
    above = above;
    left = λ w t c size l cheap.
        (let before : IsNotAfter (onto (choices f es) [] ++ true ∷ []) w = subst (λ (p : List Bool). IsNotAfter p w) (onto_tail (choices f es) (true ∷ [])) (left w t c size l (omega (arith, cheap, less))) in
        elim (split_break (onto (choices f es) []) w before) [
          | inl begins ↦ absurd (out true low w t c size l cheap begins)
          | inr later ↦ later
        ]);
  }

-- a choice is tried behind the last step
module _ (line : Line) (some : 0 < length line.tokens) (short : length line.tokens < 4294967296) (lists : List FrameList) (budget : ℕ) (steps : List Step) (most next : ℕ) (brk : Bool) (tries : IsTrying line lists budget steps most next brk) (here : Step) (top : IsTop steps here) where
  at : IsTrying line lists budget (here ∷ top.0) most next brk
  at = subst (λ (ss : List Step). IsTrying line lists budget ss most next brk) top.1 tries

  pub try_known : IsIn lists here.state
  try_known = on_known line lists budget here top.0 at.trail

  pub try_within : here.own ≤ budget
  try_within = on_within line lists budget here top.0 at.trail

  pub try_cheap : here.state.cost ≤ here.state.index * 18446744073709551615
  try_cheap = on_cheap line lists budget here top.0 at.trail

  index : here.state.index ≡ suc (length top.0)
  index = on_index line some lists budget here top.0 at.trail

  pub try_some : 0 < here.state.index
  try_some = omega (arith, index)

  pub try_more : here.state.index < length line.tokens
  try_more = omega (arith, index, at.room)

  -- where no step follows, whatever lists a store has
  pub try_refused : ((ls : List FrameList) → LeadsNowhere line (layout_in ls here.state) brk) → IsDescent line lists budget steps most next (after brk)
  try_refused nowhere =
      subst (λ (ss : List Step). IsDescent line lists budget ss most next (after brk)) (sym top.1)
      (left_out line some lists budget here top.0 at.trail next next (omega arith) brk most at.room at.floor at.above at.left (λ u k go. absurd (nowhere lists u k go)))

  module _ (more : List FrameList) (grown : IsGrown lists more) (successor : Option NodeState) (gives : IsSuccessor line (state_in lists here.state) brk (states_in more successor)) where
    on : IsOn line more budget here top.0
    on = on_grown line lists more grown budget here top.0 at.trail

    at_more : layout_in more here.state ≡ layout_in lists here.state
    at_more = layout_grown lists more grown here.state try_known

    fails : (new : ℕ) → new ≤ next → most < new → ((u : Layout) (k : ℕ) → StepOf line (layout_in more here.state) brk u k → new ≤ here.state.cost + k + least_ahead line u) → IsDescent line more budget steps most new (after brk)
    fails new less above low =
        subst (λ (ss : List Step). IsDescent line more budget ss most new (after brk)) (sym top.1)
        (left_out line some more budget here top.0 on next new less brk most at.room at.floor above at.left low)

    pub try_nowhere : successor ≡ None → IsDescent line more budget steps most next (after brk)
    try_nowhere e =
        let none : (t : Layout) (k : ℕ) → StepOf line (layout_in lists here.state) brk t k → ⊥ = subst (λ (o : Option NodeState). IsSuccessor line (state_in lists here.state) brk (states_in more o)) e gives in
        fails next (omega arith) at.above (λ u k go. absurd (none u k (subst (λ (l : Layout). StepOf line l brk u k) at_more go)))

    module _ (state : NodeState) (e : successor ≡ Some state) where
      goes : IsNextState line (layout_in lists here.state) here.state.cost brk (state_in more state)
      goes = subst (λ (o : Option NodeState). IsSuccessor line (state_in lists here.state) brk (states_in more o)) e gives

      next_index : state.index ≡ here.state.index + 1
      next_index = (one_more line (layout_in lists here.state) brk (layout_in more state) goes.added goes.step).index

      pub try_small : state.cost ≤ 4294967295 * 18446744073709551615
      try_small = omega (arith, goes.cheap, next_index, try_more, short)

      pub try_dear : (least : ℕ) → least ≤ state.cost + least_ahead line (layout_in more state) → most < least → (new : ℕ) → new ≡ min least next → IsDescent line more budget steps most new (after brk)
      try_dear least is dear new lesser = fails new (omega (arith, lesser)) (omega (arith, lesser, dear, at.above)) (λ u k go.
          (let same = functional line (layout_in lists here.state) brk u (layout_in more state) k goes.added (subst (λ (l : Layout). StepOf line l brk u k) at_more go) goes.step in
          omega (arith, lesser, is, goes.cost, same.1, ap (least_ahead line) same.0)))

      module _ (known : IsIn more state) (cheap : state.cost ≤ most) (own : ℕ) (counts : own ≡ here.own + cells_of (layout_in more state)) (within : own ≤ budget) (new : List Step) (pushes : new ≡ (let s : Step = record { state = state; own = own; brk = brk } in s) ∷ steps) where
        abbrev step : Step
        step = record { state = state; own = own; brk = brk }

        new_is : new ≡ step ∷ here ∷ top.0
        new_is = pushes ∙ ap (λ (ss : List Step). step ∷ ss) top.1

        on_new : IsOn line more budget step (here ∷ top.0)
        on_new = (record { known = known; leads = subst (λ (l : Layout). IsNextState line l here.state.cost brk (state_in more state)) (sym at_more) goes; own = counts; within = within }, on)

        count : length (onto (choices step (here ∷ top.0)) []) ≡ here.state.index
        count = omega (arith, length-onto (choices step (here ∷ top.0)) [], length_choices step (here ∷ top.0), index)

        pub try_ends : state.index ≡ length line.tokens → IsEnd line budget new
        try_ends last = record {
          top = step;
          below = here ∷ top.0;
          is = new_is;
          least = record {
            reaches = (layout_in more state, leads_to line more budget step (here ∷ top.0) on_new);
            count = omega (arith, count, last, next_index);
            least = λ other t c size l. not_less c (λ less. at.floor other t c size l (omega (arith, less, cheap)));
            first = λ other t size l. at.left other t state.cost size l (omega (arith, cheap, at.above));
          };
          own = omega (arith, own_is line more budget step (here ∷ top.0) on_new, within);
          small = try_small;
        }
          where
            not_less : (c : ℕ) → (c < state.cost → ⊥) → state.cost ≤ c
            not_less c never = omega (arith, never)

        pub try_goes : (state.index ≡ length line.tokens → ⊥) → IsDescent line more budget new most next Stay
        try_goes not_last = subst (λ (ss : List Step). IsTrying line more budget ss most next false) (sym new_is) (record {
          trail = on_new;
          room = omega (arith, not_last, next_index, try_more, index);
          floor = at.floor;
          above = at.above;
          left = λ w t c size l less.
              subst (λ (p : List Bool). IsNotAfter p w) (sym (onto_tail (choices step (here ∷ top.0)) (false ∷ [])))
              (stays_next (onto (choices step (here ∷ top.0)) []) w (at.left w t c size l less) (omega (arith, count, size, not_last, next_index, try_more)));
        })

-- the last step is taken back
module _ (line : Line) (some : 0 < length line.tokens) (lists : List FrameList) (budget : ℕ) (steps : List Step) (most next : ℕ) (b : IsDescent line lists budget steps most next Back) (here : Step) (top : IsTop steps here) where
  back_at : IsDescent line lists budget (here ∷ top.0) most next Back
  back_at = subst (λ (ss : List Step). IsDescent line lists budget ss most next Back) top.1 b

  back_index : here.state.index ≡ suc (length top.0)
  back_index = on_index line some lists budget here top.0 back_at.trail

  -- no breaking costs less than the next bound, which is tried from the first token on
  pub back_again : here.state.index ≡ 1 → (bound : ℕ) → next < bound → IsDescent line lists budget steps next bound Stay
  back_again first bound above = subst (λ (ss : List Step). IsDescent line lists budget ss next bound Stay) (sym top.1) (by_below top.0 back_at (omega (arith, back_index, first)))
    where
      by_below : (es : List Step) → IsDescent line lists budget (here ∷ es) most next Back → length es ≡ 0 → IsDescent line lists budget (here ∷ es) next bound Stay
      by_below (e ∷ es) h none = absurd (omega (arith, none))
      by_below [] h none = record {
        trail = h.trail;
        room = h.room;
        floor = λ w t c size l cheap. h.left w t c size l cheap;
        above = above;
        left = λ w t c size l cheap. stays_next [] w tt (omega (arith, size, h.room));
      }

  pub back_one : (new : List Step) (x : Step) → steps ≡ x ∷ new → (here.state.index ≡ 1 → ⊥) → IsDescent line lists budget new most next (after here.brk)
  back_one new x pops inside =
      let both : x ∷ new ≡ here ∷ top.0 = sym pops ∙ top.1 in
      let rest : top.0 ≡ new = cc in
      subst (λ (ss : List Step). IsDescent line lists budget ss most next (after here.brk)) rest (by_below top.0 back_at (λ none. inside (omega (arith, back_index, none))))
    where
      by_below : (es : List Step) → IsDescent line lists budget (here ∷ es) most next Back → (length es ≡ 0 → ⊥) → IsDescent line lists budget es most next (after here.brk)
      by_below [] h some_below = absurd (some_below refl)
      by_below (e ∷ es) h some_below = by_choice here.brk refl
        where
          by_choice : (c : Bool) → here.brk ≡ c → IsDescent line lists budget (e ∷ es) most next (after c)
          by_choice false is = record {
            trail = h.trail.1;
            room = omega (arith, h.room);
            floor = h.floor;
            above = h.above;
            left = λ w t c size l cheap.
                (let past : IsPast (onto (choices e es) [] ++ false ∷ []) w = subst (λ (p : List Bool). IsPast p w) (ap (λ (x : Bool). onto (choices e es) (x ∷ [])) is ∙ onto_tail (choices e es) (false ∷ [])) (h.left w t c size l cheap) in
                subst (λ (p : List Bool). IsNotAfter p w) (sym (onto_tail (choices e es) (true ∷ []))) (past_stay (onto (choices e es) []) w past));
          }
          by_choice true is = record {
            trail = h.trail.1;
            room = omega (arith, h.room);
            floor = h.floor;
            above = h.above;
            left = λ w t c size l cheap.
                (let past : IsPast (onto (choices e es) [] ++ true ∷ []) w = subst (λ (p : List Bool). IsPast p w) (ap (λ (x : Bool). onto (choices e es) (x ∷ [])) is ∙ onto_tail (choices e es) (true ∷ [])) (h.left w t c size l cheap) in
                past_break (onto (choices e es) []) w past);
          }

  -- .. and where it was a stay, the break is tried
  pub back_break : (new : List Step) (x : Step) → steps ≡ x ∷ new → (here.state.index ≡ 1 → ⊥) → here.brk ≡ false → IsTrying line lists budget new most next true
  back_break new x pops inside stays = subst (λ (c : Bool). IsDescent line lists budget new most next (after c)) stays (back_one new x pops inside)

-- the choices so far, and those that are left, are those of the steps
pub record AreTaken (steps : List Step) (count : ℕ) (choices : List Bool) (left : List Step) (done : ℕ) : Type 0 where
  pub all : choices ++ choices_of left ≡ choices_of steps
  pub size : length (choices_of left) + done ≡ count

pub taken_some : (steps : List Step) (count : ℕ) (choices : List Bool) (left : List Step) (done : ℕ) → AreTaken steps count choices left done → done < count → left ≡ [] → ⊥
taken_some steps count choices left done t less e = omega (arith, t.size, less, ap (λ (ss : List Step). length (choices_of ss)) e)

pub taken_step : (steps : List Step) (count : ℕ) (choices : List Bool) (left : List Step) (done : ℕ) → AreTaken steps count choices left done → done < count → (x : Step) (new : List Step) → left ≡ x ∷ new → AreTaken steps count (choices ++ x.brk ∷ []) new (done + 1)
taken_step steps count taken left done t less x new e = by_below new e
  where
    by_below : (es : List Step) → left ≡ x ∷ es → AreTaken steps count (taken ++ x.brk ∷ []) es (done + 1)
    by_below [] at = absurd (omega (arith, t.size, less, ap (λ (ss : List Step). length (choices_of ss)) at))
    by_below (f ∷ es) at = record {
      all = append_assoc taken (x.brk ∷ []) (choices_of (f ∷ es)) ∙ ap (λ (ss : List Step). taken ++ choices_of ss) (sym at) ∙ t.all;
      size = omega (arith, t.size, ap (λ (ss : List Step). length (choices_of ss)) at);
    }

pub taken_all : (steps : List Step) (count : ℕ) (choices : List Bool) (left : List Step) (done : ℕ) → AreTaken steps count choices left done → count ≤ done → (new : List Bool) → new ≡ reverse choices → new ≡ onto (choices_of steps) []
taken_all steps count taken left done t all new e =
    let none : choices_of left ≡ [] = length-zero (choices_of left) (omega (arith, t.size, all)) in
    let whole : taken ≡ choices_of steps = sym (append-nil taken) ∙ ap (λ (p : List Bool). taken ++ p) (sym none) ∙ t.all in
    e ∙ ap (λ (p : List Bool). reverse p) whole ∙ sym (append-nil (reverse (choices_of steps))) ∙ sym (onto-reverse (choices_of steps) [])
  where
    length-zero : (p : List Bool) → length p ≡ 0 → p ≡ []
    length-zero [] z = refl
    length-zero (x ∷ p) z = absurd (omega (arith, z))

-- the first token's step is where a descent begins
pub begins : (line : Line) → 0 < length line.tokens → (lists : List FrameList) (budget : ℕ) (state : NodeState) → IsIn lists state → layout_in lists state ≡ first_layout line → state.cost ≡ 0 → (own : ℕ) → own ≡ cells_of (layout_in lists state) → own ≤ budget →
    1 < length line.tokens → (brk : Bool) (none steps : List Step) → none ≡ [] → steps ≡ (let s : Step = record { state = state; own = own; brk = brk } in s) ∷ none → (most : ℕ) → most ≡ least_ahead line (layout_in lists state) → (next : ℕ) → 18446744073709551615 < next → IsDescent line lists budget steps most next Stay
begins line some lists budget state known layout free own counts within more brk none steps en is most least next above =
    let known_least : most ≡ least_ahead line (first_layout line) = least ∙ ap (least_ahead line) layout in
    let one : steps ≡ (let s : Step = record { state = state; own = own; brk = brk } in s) ∷ [] = is ∙ ap (λ (ss : List Step). (let s : Step = record { state = state; own = own; brk = brk } in s) ∷ ss) en in
    subst (λ (ss : List Step). IsDescent line lists budget ss most next Stay) (sym one) (record {
      trail = record { known = known; layout = layout; free = free; own = counts ∙ ap cells_of layout; within = within };
      room = omega (arith, more);
      floor = λ w t c size l cheap.
          (let last : t.index ≡ length line.tokens = omega (arith, index_after line (first_layout line) t w c l, first_index line some, size) in
          omega (arith, cheap, known_least, low_after line (first_layout line) t w c l last));
      above = omega (arith, above, known_least, small line (first_layout line));
      left = λ w t c size l cheap. stays_next [] w tt (omega (arith, size, more));
    })

-- the answer from the steps
pub end_count : (line : Line) (budget : ℕ) (steps : List Step) → IsEnd line budget steps → length (choices_of steps) ≡ gaps line
end_count line budget steps h = omega (arith, ap (λ (ss : List Step). length (choices_of ss)) h.is, length-onto (choices h.top h.below) [], h.least.count)

same_top : (steps : List Step) (one : Step) (below : List Step) → steps ≡ one ∷ below → (other : Step) → IsTop steps other → other ≡ one
same_top steps one below e other h = let both : other ∷ h.0 ≡ one ∷ below = sym h.1 ∙ e in cc

pub end_small : (line : Line) (budget : ℕ) (steps : List Step) → IsEnd line budget steps → (top : Step) → IsTop steps top → top.state.cost ≤ 4294967295 * 18446744073709551615
end_small line budget steps h top is = omega (arith, h.small, ap (λ (s : Step). s.state.cost) (same_top steps h.top h.below h.is top is))

pub end_outcome : (line : Line) (budget : ℕ) (steps : List Step) → IsEnd line budget steps → (top : Step) → IsTop steps top → (breaks : List Bool) → breaks ≡ onto (choices_of steps) [] → (paid : ℕ) → paid ≡ first_cost line → (outcome : Outcome) → IsTold breaks (paid + top.state.cost) outcome → IsOutcome line budget outcome
end_outcome line budget steps h top is breaks e paid ep =
    let same : top ≡ h.top = same_top steps h.top h.below h.is top is in
    let way : onto (choices h.top h.below) [] ≡ breaks = sym (e ∙ ap (λ (ss : List Step). onto (choices_of ss) []) h.is) in
    told line budget breaks h.top.state.cost (paid + top.state.cost)
    (subst (λ (bs : List Bool). IsLeast (StepOf line) (first_layout line) (gaps line) bs h.top.state.cost) way h.least)
    (subst (λ (bs : List Bool). own_cells line (first_layout line) bs ≤ budget) way h.own)
    (omega (arith, ep, ap (λ (s : Step). s.state.cost) same))
