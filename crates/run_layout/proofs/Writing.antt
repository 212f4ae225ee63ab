-- The decisions of a line that is broken, gap by gap.
use Rattle.std.proofs.Common.{◌≡◌, ◌∙◌, ℕ, zero, suc, ◌+◌, ◌-◌, ◌<◌, ◌≤◌, ◌||◌, Bool, true, false, Option, Some, List, []}
use Rattle.std.proofs.Common.{◌∷◌, length, map, get_or, drop, refl, sym, ap, arith, subst, slice_get}
use Rattle.std.specs.Prelude.{All, if◌then◌else◌}
use Rattle.std.proofs.lemmas.Option.{slice_get-get_or, get_or_from_slice_get, slice_get_within}
use Rattle.std.proofs.Math.ListN.{drop_of_length-le}
use Rattle.std.proofs.Math.Seq.{drop-cons}
use Rattle.line_state.specs.Choices.{Leads}
use Rattle.style_table.specs.declared.style.Style.{Style}
use Rattle.line_tokens.specs.declared.LineTok.{LineTok}
use Rattle.line_tokens.specs.declared.Fixed.{Fixed}
use Rattle.line_state.specs.declared.gap.Gap.{Gap}
use Rattle.line_state.specs.Layout.{Layout, is_some_decision, layout_after, start_of}
use Rattle.line_state.specs.Line.{Line, Step, decision_at, gap_at, gaps, joined, first_layout}
use Rattle.line_state.proofs.Steps.{placing, functional, is_gap, first_index, one_more}
use Rattle.searched_line.specs.Successors.{LeadsOn, LeadsTo}
use Rattle.line_walk.specs.Starts.{IsAdmissible}
use Rattle.line_tokens.specs.declared.line.ULine.{ULine}
use Rattle.replacements.specs.declared.slot.Slot.{Slot}
use Rattle.replacements.specs.Decisions.{decided, decided_all}
use Rattle.run_layout.specs.Broken.{number, waits, decision_by, inside_slot, made_if_open, made_at, inside_made}

-- what is decided while the choices are followed, behind a layout
pub record IsWritten (l : Line) (line : ULine) (items : List ℕ) (breaks : List Bool) (plan now : List (Option Slot)) (layout : Layout) (at : ℕ) : Type 0 where
  pub index : layout.index ≡ at + 1
  pub size : length breaks ≡ gaps l
  pub end : Layout
  pub cost : ℕ
  pub leads : Leads (Step l) layout (drop at breaks) end cost
  pub rest : decided_all now (inside_made line items l layout (drop at breaks)) ≡ decided_all plan (inside_made line items l (first_layout l) breaks)

pub write_begins : (l : Line) (line : ULine) (items : List ℕ) (breaks : List Bool) (plan : List (Option Slot)) (layout : Layout) → 0 < length l.tokens → IsAdmissible l breaks → layout ≡ first_layout l
    → IsWritten l line items breaks plan plan layout 0
write_begins l line items breaks plan layout some admissible first = record {
  index = ap (λ (s : Layout). s.index) first ∙ first_index l some;
  size = admissible.count;
  end = admissible.layout;
  cost = admissible.cost;
  leads = subst (λ (s : Layout). Leads (Step l) s breaks admissible.layout admissible.cost) (sym first) admissible.leads;
  rest = ap (λ (s : Layout). decided_all plan (inside_made line items l s breaks)) first;
}

same_some : {A : Type 0} (x y : A) → Some x ≡ Some y → x ≡ y
same_some x y e = cc

here : {A : Type 0} (xs : List A) (at : ℕ) (d : A) → at < length xs → drop at xs ≡ get_or xs at d ∷ drop (at + 1) xs
here {A} xs at d within = drop-cons xs at d within ∙ ap (λ j. get_or xs at d ∷ drop j xs) (one at)
  where
    one : (i : ℕ) → suc i ≡ i + 1
    one i = omega arith

-- the choice at a place leads on
pub write_goes : (l : Line) (line : ULine) (items : List ℕ) (breaks : List Bool) (plan now : List (Option Slot)) (layout : Layout) (at : ℕ) (d : Bool) → IsWritten l line items breaks plan now layout at → at < length breaks → LeadsOn l layout (get_or breaks at d)
write_goes l line items breaks plan now layout at d w below =
    let leads : Leads (Step l) layout (get_or breaks at d ∷ drop (at + 1) breaks) w.end w.cost = subst (λ (bs : List Bool). Leads (Step l) layout bs w.end w.cost) (here breaks at d below) w.leads in
    (leads.0, leads.1, leads.3)

-- the gap there is decided if it is open, and then those behind it
pub write_more : (l : Line) (line : ULine) (items : List ℕ) (breaks : List Bool) (plan now after : List (Option Slot)) (s behind : Layout) (at start : ℕ) (brk d : Bool) (left right : LineTok) (fixed : Option Fixed)
    → IsWritten l line items breaks plan now s at → at < length breaks → get_or breaks at d ≡ brk → slice_get l.tokens at ≡ Some left → slice_get l.tokens (at + 1) ≡ Some right
    → fixed ≡ decision_at l (at + 1) → get_or items (at + 1) 0 ≡ right.id.0
    → ((gap : Gap) → gap_at l s.index ≡ Some gap → start ≡ start_of l.style s gap brk) → LeadsTo l s brk behind
    → after ≡ (if is_some_decision fixed || waits right brk then now else decided now right.id.0 (record { decision = decision_by l.style line left right brk start; end = start }))
    → IsWritten l line items breaks plan after behind (at + 1)
write_more l line items breaks plan now after s behind at start brk d left right fixed w below is a b fix number begins to made =
    let style : Style = l.style in
    let later : List Bool = drop (at + 1) breaks in
    let split : drop at breaks ≡ brk ∷ later = here breaks at d below ∙ ap (λ (x : Bool). x ∷ later) is in
    let leads : Leads (Step l) s (brk ∷ later) w.end w.cost = subst (λ (bs : List Bool). Leads (Step l) s bs w.end w.cost) split w.leads in
    let p = placing l s brk leads.0 leads.1 leads.3 in
    let g = is_gap l s.index p.gap p.at in
    let there : leads.0 ≡ behind = (functional l s brk leads.0 behind leads.1 to.0 leads.3 to.1).0 in
    let next : layout_after style s p.gap brk ≡ behind = p.layout ∙ there in
    let before : s.index - 1 ≡ at = omega (arith, w.index) in
    let left_is : p.gap.left ≡ left = same_some p.gap.left left (sym g.left ∙ (ap (λ i. slice_get l.tokens i) before ∙ a)) in
    let right_is : p.gap.right ≡ right = same_some p.gap.right right (sym g.right ∙ (ap (λ i. slice_get l.tokens i) w.index ∙ b)) in
    let fixed_is : p.gap.fixed ≡ fixed = sym g.fixed ∙ (ap (λ i. decision_at l i) w.index ∙ sym fix) in
    let start_is : start_of style s p.gap brk ≡ start = sym (begins p.gap p.at) in
    let slot : Slot = record { decision = decision_by style line left right brk start; end = start } in
    let slot_is : inside_slot style line s p.gap brk ≡ slot =
    ap (λ (x : LineTok). record { decision = decision_by style line x p.gap.right brk (start_of style s p.gap brk); end = start_of style s p.gap brk }) left_is
    ∙ (ap (λ (x : LineTok). record { decision = decision_by style line left x brk (start_of style s p.gap brk); end = start_of style s p.gap brk }) right_is
    ∙ ap (λ x. record { decision = decision_by style line left right brk x; end = x }) start_is) in
    let id_is : get_or items s.index 0 ≡ right.id.0 = ap (λ i. get_or items i 0) w.index ∙ number in
    let rest : List (ℕ × Slot) = inside_made line items l behind later in
    let made_is : inside_made line items l s (drop at breaks) ≡ (if is_some_decision fixed || waits right brk then rest else (right.id.0, slot) ∷ rest) =
    ap (λ (bs : List Bool). inside_made line items l s bs) split
    ∙ (ap (λ (o : Option Gap). made_at l.style line items s brk (λ x. inside_made line items l x later) o) p.at
    ∙ (ap (λ (x : Layout). made_if_open p.gap brk (get_or items s.index 0) (inside_slot style line s p.gap brk) (inside_made line items l x later)) next
    ∙ (ap (λ (o : Option Fixed). if is_some_decision o || waits p.gap.right brk then rest else (get_or items s.index 0, inside_slot style line s p.gap brk) ∷ rest) fixed_is
    ∙ (ap (λ (x : LineTok). if is_some_decision fixed || waits x brk then rest else (get_or items s.index 0, inside_slot style line s p.gap brk) ∷ rest) right_is
    ∙ (ap (λ x. if is_some_decision fixed || waits right brk then rest else (x, inside_slot style line s p.gap brk) ∷ rest) id_is
    ∙ ap (λ (x : Slot). if is_some_decision fixed || waits right brk then rest else (right.id.0, x) ∷ rest) slot_is))))) in
    record {
      index = omega (arith, (one_more l s brk behind to.0 to.1).index, w.index);
      size = w.size;
      end = w.end;
      cost = leads.2;
      leads = subst (λ (x : Layout). Leads (Step l) x later w.end leads.2) there leads.4;
      rest = ap (λ (q : List (Option Slot)). decided_all q rest) made
          ∙ (by_flag (is_some_decision fixed || waits right brk) now right.id.0 slot rest ∙ (ap (λ (m : List (ℕ × Slot)). decided_all now m) (sym made_is) ∙ w.rest));
    }
  where
    by_flag : (f : Bool) (q : List (Option Slot)) (id : ℕ) (slot : Slot) (rest : List (ℕ × Slot)) → decided_all (if f then q else decided q id slot) rest ≡ decided_all q (if f then rest else (id, slot) ∷ rest)
    by_flag true q id slot rest = refl
    by_flag false q id slot rest = refl

pub write_ends : (l : Line) (line : ULine) (items : List ℕ) (breaks : List Bool) (plan now : List (Option Slot)) (layout : Layout) (at : ℕ) → IsWritten l line items breaks plan now layout at → length breaks ≤ at
    → now ≡ decided_all plan (inside_made line items l (first_layout l) breaks)
write_ends l line items breaks plan now layout at w all =
    let none : drop at breaks ≡ [] = drop_of_length-le breaks all in
    ap (λ (bs : List Bool). decided_all now (inside_made line items l layout bs)) (sym none) ∙ w.rest

-- the token at a place is of an item within the plan
pub token_within : (tokens : List LineTok) (count at : ℕ) (token : LineTok) → All (λ t. t.id.0 < count) tokens → slice_get tokens at ≡ Some token → token.id.0 < count
token_within tokens count at token all e =
    subst (λ (t : LineTok). t.id.0 < count) (get_or_from_slice_get tokens at token token e) (all at token (slice_get_within tokens at token e))

pub number_of : (tokens : List LineTok) (at : ℕ) (token : LineTok) → slice_get tokens at ≡ Some token → get_or (map number tokens) at 0 ≡ token.id.0
number_of [] at token e = cc
number_of (t ∷ tokens) zero token e = let same : t ≡ token = cc in ap number same
number_of (t ∷ tokens) (suc at) token e = number_of tokens at token e

-- what is decided of the gap before the token at a place
pub decision_here : (l : Line) (at : ℕ) (d : Option Fixed) → at < length l.fixed → get_or l.fixed at d ≡ decision_at l at
decision_here l at d below = sym (ap joined (slice_get-get_or l.fixed at d below))
