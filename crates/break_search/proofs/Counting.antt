-- Lines that are past their budget whatever is chosen: along a least breaking a layout of each number of tokens is
-- counted.
use Rattle.std.proofs.Common.{◌≡◌, ℕ, ◌+◌, ◌<◌, ◌≤◌, Bool, List, [], ◌∷◌, Some, None, length, refl, arith, ap, subst, suc, zero, slice_get, sum_by}
use Rattle.std.proofs.lemmas.List.Sums.{sum_by-cons}
use Rattle.line_state.specs.Choices.{Leads}
use Rattle.line_state.specs.Cells.{IsCounted, HasCounted}
use Rattle.line_state.proofs.Steps.{whole_of_line, first_index}
use Rattle.line_state.proofs.Weights.{Among, Among-Contains, within_total}
use Rattle.line_state.specs.Layout.{Layout, cells_of}
use Rattle.line_state.specs.Line.{Line, gaps, first_layout, Step}
use Rattle.break_search.specs.Outcome.{IsOver}
use Rattle.break_search.proofs.Trails.{index_after}

not_less : (c d : ℕ) → (d < c → ⊥) → c ≤ d
not_less c d never = omega (arith, never)

-- ## Layouts of different numbers of tokens

-- a list without one of its layouts: those of other numbers of tokens are left, and it counts less
record IsWithout (layouts : List Layout) (s : Layout) : Type 0 where
  others : List Layout
  kept : (t : Layout) → (t.index ≡ s.index → ⊥) → Among layouts t → Among others t
  less : sum_by cells_of others + cells_of s ≤ sum_by cells_of layouts

without : (layouts : List Layout) (i : ℕ) (s : Layout) → slice_get layouts i ≡ Some s → IsWithout layouts s
without [] i s at = absurd (none_some at)
  where
    none_some : None ≡ Some s → ⊥
    none_some e = cc
without (x ∷ layouts) zero s at = record {
  others = layouts;
  kept = λ t differs there. behind t differs there.0 there.1;
  less = (let same : x ≡ s = cc in omega (arith, sum_by-cons cells_of x layouts, ap cells_of same));
}
  where
    behind : (t : Layout) → (t.index ≡ s.index → ⊥) → (j : ℕ) → slice_get (x ∷ layouts) j ≡ Some t → Among layouts t
    behind t differs zero there = let same : t ≡ s = cc in absurd (differs (ap (λ (l : Layout). l.index) same))
    behind t differs (suc j) there = (j, there)
without (x ∷ layouts) (suc i) s at =
    let rest = without layouts i s at in
    record {
      others = x ∷ rest.others;
      kept = λ t differs there. also rest t differs there.0 there.1;
      less = omega (arith, sum_by-cons cells_of x layouts, sum_by-cons cells_of x rest.others, rest.less);
    }
  where
    also : (rest : IsWithout layouts s) (t : Layout) → (t.index ≡ s.index → ⊥) → (j : ℕ) → slice_get (x ∷ layouts) j ≡ Some t → Among (x ∷ rest.others) t
    also rest t differs zero there = (zero, there)
    also rest t differs (suc j) there = let left = rest.kept t differs (j, there) in (suc left.0, left.1)

-- so much for each number below one, together
abbrev pub sum_to : (ℕ → ℕ) → ℕ → ℕ
sum_to least zero = 0
sum_to least (suc n) = sum_to least n + least n

-- layouts of different numbers of tokens count together at least what each of them does
each_counts : (least : ℕ → ℕ) (n : ℕ) (layouts : List Layout) → ((k : ℕ) → k < n → (s : Layout) × Among layouts s × (s.index ≡ suc k) × (least k ≤ cells_of s)) → sum_to least n ≤ sum_by cells_of layouts
each_counts least zero layouts has = omega arith
each_counts least (suc n) layouts has =
    let last = has n (omega arith) in
    let left = without layouts last.1.0 last.0 last.1.1 in
    let rest = each_counts least n left.others (λ k below. (let s = has k (omega (arith, below)) in (s.0, left.kept s.0 (λ same. omega (arith, same, s.2, last.2, below)) s.1, s.2, s.3))) in
    omega (arith, rest, left.less, last.3)

-- ## The way of a breaking

-- the first k choices lead somewhere, at no more than this cost
record IsFront (line : Line) (s : Layout) (k cost : ℕ) : Type 0 where
  choices : List Bool
  layout : Layout
  paid : ℕ
  size : length choices ≡ k
  leads : Leads (Step line) s choices layout paid
  cheap : paid ≤ cost

front : (line : Line) (s t : Layout) (bs : List Bool) (cost : ℕ) → Leads (Step line) s bs t cost → (k : ℕ) → k ≤ length bs → IsFront line s k cost
front line s t bs cost l zero short = record { choices = []; layout = s; paid = 0; size = refl; leads = (refl, refl); cheap = omega arith }
front line s t [] cost l (suc k) short = absurd (omega (arith, short))
front line s t (b ∷ bs) cost l (suc k) short =
    let rest = front line l.0 t bs l.2 l.4 k (omega (arith, short)) in
    record {
      choices = b ∷ rest.choices;
      layout = rest.layout;
      paid = l.1 + rest.paid;
      size = omega (arith, rest.size);
      leads = (l.0, l.1, rest.paid, l.3, rest.leads, refl);
      cheap = omega (arith, rest.cheap, l.5);
    }

-- the layouts that choices reach behind a line's first token count at least so much, by how many are placed behind it
abbrev pub CountAtLeast : Line → (ℕ → ℕ) → Type 0
CountAtLeast line least =
    (bs : List Bool) (s : Layout) (c k : ℕ) → Leads (Step line) (first_layout line) bs s c → s.index ≡ suc k → least k ≤ cells_of s

module _ (line : Line) (some : 0 < length line.tokens) (least : ℕ → ℕ) (n : ℕ) (few : n ≤ length line.tokens) (each : CountAtLeast line least)
    (layouts : List Layout) (all : HasCounted (Step line) (first_layout line) (gaps line) layouts) where
  -- the layouts on the way of a least breaking are counted
  way_counts : (bs : List Bool) (t : Layout) (cost : ℕ) → length bs ≡ gaps line → Leads (Step line) (first_layout line) bs t cost
      → ((whole : List Bool) (u : Layout) (c : ℕ) → length whole ≡ gaps line → Leads (Step line) (first_layout line) whole u c → cost ≤ c) → sum_to least n ≤ sum_by cells_of layouts
  way_counts bs t cost size l lowest = each_counts least n layouts on_way
    where
      on_way : (k : ℕ) → k < n → (s : Layout) × Among layouts s × (s.index ≡ suc k) × (least k ≤ cells_of s)
      on_way k below =
          let f = front line (first_layout line) t bs cost l k (omega (arith, size, below, few)) in
          let counted : IsCounted (Step line) (first_layout line) (gaps line) f.layout = record {
            choices = f.choices;
            cost = f.paid;
            short = omega (arith, f.size, below, few);
            reaches = f.leads;
            within = λ whole u c count go. omega (arith, f.cheap, lowest whole u c count go);
          } in
          let index : f.layout.index ≡ suc k = omega (arith, index_after line (first_layout line) f.layout f.choices f.paid f.leads, first_index line some, f.size) in
          (f.layout, Among-Contains layouts f.layout (all f.layout counted), index, each f.choices f.layout f.paid k f.leads index)

  -- if they counted less no breaking would be whole: none costs least
  none_whole : (bound : ℕ) (bs : List Bool) (t : Layout) (cost : ℕ) → cost < bound → length bs ≡ gaps line → Leads (Step line) (first_layout line) bs t cost → sum_by cells_of layouts < sum_to least n → ⊥
  none_whole zero bs t cost cheap size l less = omega (arith, cheap)
  none_whole (suc bound) bs t cost cheap size l less =
      let counts = way_counts bs t cost size l (λ whole u c count go. not_less cost c (λ lower. none_whole bound whole u c (omega (arith, lower, cheap)) count go less)) in
      omega (arith, counts, less)

  sum_counts : sum_to least n ≤ sum_by cells_of layouts
  sum_counts =
      let whole = whole_of_line line some in
      not_less (sum_to least n) (sum_by cells_of layouts) (λ less. none_whole (suc whole.2) whole.0 whole.1 whole.2 (omega arith) whole.3 whole.4 less)

-- a line whose first tokens have layouts that count more than the budget, whatever is chosen, is past it
pub over_by_layouts : (line : Line) → 0 < length line.tokens → (least : ℕ → ℕ) (n budget : ℕ) → n ≤ length line.tokens → CountAtLeast line least → budget < sum_to least n → IsOver line budget (sum_to least n)
over_by_layouts line some least n budget few each above =
    let within : (layouts : List Layout) → HasCounted (Step line) (first_layout line) (gaps line) layouts → sum_to least n ≤ sum_by cells_of layouts = λ layouts all. sum_counts line some least n few each layouts all in
    record { above = above; within = within; total = λ total t. within_total (Step line) (first_layout line) (gaps line) cells_of (sum_to least n) total within t }

-- so is one of more tokens than the budget
pub over_by_count : (count budget : ℕ) → budget < count → (line : Line) → length line.tokens ≡ count → IsOver line budget count
over_by_count count budget above line size =
    let same : sum_to (λ k. 1) count ≡ count = ones count in
    subst (λ cells. IsOver line budget cells) same (over_by_layouts line (omega (arith, size, above)) (λ k. 1) count budget (omega (arith, size)) (λ bs s c k l index. omega arith) (omega (arith, same, above)))
  where
    ones : (n : ℕ) → sum_to (λ k. 1) n ≡ n
    ones zero = refl
    ones (suc n) = omega (arith, ones n)
