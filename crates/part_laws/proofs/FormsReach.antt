-- How far the line that a statement begins with goes: it takes a token and stays in its list, and so does a block that it opens.
use Rattle.std.proofs.Common.{◌≡◌, ◌∙◌, ℕ, zero, suc, ◌+◌, ◌-◌, ◌<◌, ◌≤◌, nat_lt, Bool, true, false, not, ◌&&◌, ◌||◌, Option, Some, None, List, refl, sym, ap, arith}
use Rattle.std.specs.Prelude.{⊤, slice_get}
use Rattle.std.proofs.lemmas.Bool.{and_parts, ltb-true}
use Rattle.token_classes.specs.declared.class.TokenClass.{TokenClass}
use Rattle.token_classes.specs.declared.class.TokenClass.TheVariants.{Nothing}
use Rattle.token_classes.specs.Classes.{is_plain, is_control, is_capital, is_if, is_else, is_while, is_do, is_case, is_default, is_extern, is_opener, is_open_round, is_open_brace, is_close_brace, is_colon, is_semicolon, is_comma, is_question, is_text}
use Rattle.line_tokens.specs.declared.line.LineKind.{LineKind}
use Rattle.line_tokens.specs.declared.line.LineKind.TheVariants.{CaseLabel, GotoLabel}
use Rattle.statement_lines.specs.declared.token.CodeToken.{CodeToken}
use Rattle.statement_lines.specs.declared.braces.Braces.{Braces}
use Rattle.statement_lines.specs.declared.open.Head.{Head}
use Rattle.statement_lines.specs.declared.open.Open.{Open}
use Rattle.statement_lines.specs.declared.open.Start.{Start}
use Rattle.statement_lines.specs.declared.open.Start.TheVariants.{Fresh, Tail, Closing}
use Rattle.statement_lines.specs.declared.form.Next.{Next}
use Rattle.statement_lines.specs.declared.form.Next.TheVariants.{Ends, Goes, Waits, Opens}
use Rattle.statement_lines.specs.declared.form.Form.{Form}
use Rattle.statement_lines.specs.declared.form.Stop.{Stop}
use Rattle.statement_lines.specs.Forms.{class_at, seen, within, partner_of, partner_in, behind_partner, partner_or, after_group, step_over, block_end, has_no_partner, is_code, is_enumerators, is_if_head, is_do_head, is_tagged, case_colon, enumerator_end, opens_block, assigns, statement_stop, label_form, goto_level, label, touched_at, head_of, header_end, control_block, control_form, tail_end, ends_macro, macro_end, other_form, unlabelled, statement, close_form, form_of, behind_close}
use Rattle.part_laws.proofs.Choices.{either, never}

-- a line that begins at a place of a list with this end
abbrev pub Reaches : ℕ → ℕ → Form → Next → Type 0
Reaches at end form Ends = (at < form.end) × (form.end ≤ end)
Reaches at end form (Goes start) = (at < form.end) × (form.end ≤ end)
Reaches at end form (Waits head) = (at < form.end) × (form.end ≤ end)
Reaches at end form (Opens wrapped block) =
    record {
      begins : at ≤ form.end;
      takes : wrapped ≡ true → at < form.end;
      goes_on : form.end < block.end;
      ends : block.end ≤ end;
      is_block : block.block ≡ true;
    }

abbrev pub FormReaches : ℕ → ℕ → Form → Type 0
FormReaches at end form = Reaches at end form form.next

-- ## What is seen

-- a class that is seen stands in the list
pub seen_class : (fits : TokenClass → Bool) (tokens : List CodeToken) (end i : ℕ) → fits Nothing ≡ false → fits (seen tokens end i) ≡ true
    → (i < end) × (fits (class_at tokens i) ≡ true)
seen_class fits tokens end i none =
    either (λ (c : TokenClass). fits c ≡ true → (i < end) × (fits (class_at tokens i) ≡ true)) (nat_lt i end) (class_at tokens i) Nothing
    (λ e h. (ltb-true i end e, h)) (λ e h. cc)

pub seen_within : (fits : TokenClass → Bool) (tokens : List CodeToken) (end i : ℕ) → fits Nothing ≡ false → fits (seen tokens end i) ≡ true → i < end
seen_within fits tokens end i none found = (seen_class fits tokens end i none found).0

-- ## Partners

behind_within : (P : ℕ → Type 0) (otherwise i end : ℕ) (found : Option ℕ) → P otherwise → ((p : ℕ) → i < p → p < end → P (p + 1))
    → P (behind_partner otherwise (within i end found))
behind_within P otherwise i end None none some = none
behind_within P otherwise i end (Some p) none some = by (nat_lt i p && nat_lt p end) refl
  where
    by : (b : Bool) → (nat_lt i p && nat_lt p end) ≡ b → P (behind_partner otherwise (elim b as (λ _. Option ℕ) [ true ↦ Some p | false ↦ None ]))
    by true e = (let both = and_parts (nat_lt i p) (nat_lt p end) e in some p (ltb-true i p both.0) (ltb-true p end both.1))
    by false e = none

or_within : (P : ℕ → Type 0) (otherwise i end : ℕ) (found : Option ℕ) → P otherwise → ((p : ℕ) → i < p → p < end → P p)
    → P (partner_or otherwise (within i end found))
or_within P otherwise i end None none some = none
or_within P otherwise i end (Some p) none some = by (nat_lt i p && nat_lt p end) refl
  where
    by : (b : Bool) → (nat_lt i p && nat_lt p end) ≡ b → P (partner_or otherwise (elim b as (λ _. Option ℕ) [ true ↦ Some p | false ↦ None ]))
    by true e = (let both = and_parts (nat_lt i p) (nat_lt p end) e in some p (ltb-true i p both.0) (ltb-true p end both.1))
    by false e = none

pub group_reaches : (tokens : List CodeToken) (end i : ℕ) → i ≤ end → (i ≤ after_group tokens end i) × (after_group tokens end i ≤ end)
group_reaches tokens end i low =
    either (λ (g : ℕ). (i ≤ g) × (g ≤ end)) (is_open_round (seen tokens end i)) (behind_partner i (partner_in tokens end i)) i
    (λ e. behind_within (λ (g : ℕ). (i ≤ g) × (g ≤ end)) i i end (partner_of (slice_get tokens i)) (omega arith, low)
    (λ p up down. (omega (arith, up), omega (arith, down))))
    (λ e. (omega arith, low))

pub step_reaches : (tokens : List CodeToken) (end i : ℕ) → i < end → (i < step_over tokens end i) × (step_over tokens end i ≤ end)
step_reaches tokens end i low =
    either (λ (g : ℕ). (i < g) × (g ≤ end)) (is_opener (class_at tokens i)) (behind_partner end (partner_in tokens end i)) (i + 1)
    (λ e. behind_within (λ (g : ℕ). (i < g) × (g ≤ end)) end i end (partner_of (slice_get tokens i)) (low, omega arith)
    (λ p up down. (omega (arith, up), omega (arith, down))))
    (λ e. (omega arith, omega (arith, low)))

pub block_reaches : (tokens : List CodeToken) (end i : ℕ) → i < end → (i < block_end tokens end i) × (block_end tokens end i ≤ end)
block_reaches tokens end i low =
    or_within (λ (g : ℕ). (i < g) × (g ≤ end)) end i end (partner_of (slice_get tokens i)) (low, omega arith) (λ p up down. (up, omega (arith, down)))

-- ## Scans

colon_reaches : (n : ℕ) (tokens : List CodeToken) (end i asked : ℕ) → i ≤ end → i ≤ case_colon n tokens end i asked
colon_reaches zero tokens end i asked low = low
colon_reaches (suc n) tokens end i asked low =
    either (λ (c : ℕ). i ≤ c) (nat_lt i end) _ end
    (λ inside. let here : i < end = ltb-true i end inside in
    either (λ (c : ℕ). i ≤ c) (is_question (class_at tokens i)) (case_colon n tokens end (i + 1) (asked + 1)) _
    (λ e. omega (arith, colon_reaches n tokens end (i + 1) (asked + 1) (omega (arith, here))))
    (λ e.
    either (λ (c : ℕ). i ≤ c) (is_colon (class_at tokens i)) _ (case_colon n tokens end (step_over tokens end i) asked)
    (λ e.
    either (λ (c : ℕ). i ≤ c) (nat_lt 0 asked) (case_colon n tokens end (i + 1) (asked - 1)) i
    (λ e. omega (arith, colon_reaches n tokens end (i + 1) (asked - 1) (omega (arith, here))))
    (λ e. omega arith))
    (λ e. let step = step_reaches tokens end i here in omega (arith, step.0, colon_reaches n tokens end (step_over tokens end i) asked step.1))))
    (λ e. low)

-- a scan from this place ends there or behind, and behind it where it begins in the list
abbrev EndsFrom : ℕ → ℕ → ℕ → Type 0
EndsFrom i end place = (i ≤ place) × ((place ≤ end) × (i < end → i < place))

pub enumerator_reaches : (n : ℕ) (tokens : List CodeToken) (end i : ℕ) → i ≤ end → EndsFrom i end (enumerator_end n tokens end i)
enumerator_reaches zero tokens end i low = (low, (omega arith, λ up. up))
enumerator_reaches (suc n) tokens end i low =
    either (EndsFrom i end) (nat_lt i end) _ end
    (λ inside. let here : i < end = ltb-true i end inside in
    either (EndsFrom i end) (is_comma (class_at tokens i)) (i + 1) (enumerator_end n tokens end (step_over tokens end i))
    (λ e. (omega arith, (omega (arith, here), λ up. omega arith)))
    (λ e. let step = step_reaches tokens end i here in
    let rest = enumerator_reaches n tokens end (step_over tokens end i) step.1 in
    (omega (arith, step.0, rest.0), (rest.1.0, λ up. omega (arith, step.0, rest.0)))))
    (λ e. (low, (omega arith, λ up. up)))

-- where a statement stops that is no other case
pub record StopsIn (tokens : List CodeToken) (end i : ℕ) (stop : Stop) : Type 0 where
  pub least : i ≤ stop.at
  pub most : stop.at ≤ end
  pub opens : stop.opens ≡ true → (stop.at < end) × (is_open_brace (class_at tokens stop.at) ≡ true)
  pub goes_on : stop.opens ≡ false → i < end → i < stop.at

pub stop_reaches : (n : ℕ) (tokens : List CodeToken) (end i : ℕ) (assigned : Bool) → i ≤ end → StopsIn tokens end i (statement_stop n tokens end i assigned)
stop_reaches zero tokens end i assigned low = record { least = low; most = omega arith; opens = λ e. never e; goes_on = λ e up. up }
stop_reaches (suc n) tokens end i assigned low =
    either (StopsIn tokens end i) (nat_lt i end) _ (record { at = end; opens = false; assigned = assigned })
    (λ inside. let here : i < end = ltb-true i end inside in
    either (StopsIn tokens end i) (is_semicolon (class_at tokens i)) (record { at = i + 1; opens = false; assigned = assigned }) _
    (λ e. record { least = omega arith; most = omega (arith, here); opens = λ e. never e; goes_on = λ e up. omega arith })
    (λ e.
    either (StopsIn tokens end i) (opens_block tokens assigned i) (record { at = i; opens = true; assigned = assigned })
    (statement_stop n tokens end (step_over tokens end i) (assigns tokens assigned i))
    (λ brace. let is : is_open_brace (class_at tokens i) ≡ true = (and_parts (is_open_brace (class_at tokens i)) _ brace).0 in
    record { least = omega arith; most = low; opens = λ e. (here, is); goes_on = λ e up. never (sym e) })
    (λ e. let step = step_reaches tokens end i here in
    let rest = stop_reaches n tokens end (step_over tokens end i) (assigns tokens assigned i) step.1 in
    record { least = omega (arith, step.0, rest.least); most = rest.most; opens = rest.opens; goes_on = λ e up. omega (arith, step.0, rest.least) })))
    (λ e. record { least = low; most = omega arith; opens = λ e. never e; goes_on = λ e up. up })

tail_reaches : (tokens : List CodeToken) (end i : ℕ) → i ≤ end → tail_end tokens end i ≤ end
tail_reaches tokens end i low =
    let g : ℕ = after_group tokens end (i + 1) in
    either (λ (t : ℕ). t ≤ end) (is_while (seen tokens end i) && (nat_lt (i + 1) g && is_semicolon (seen tokens end g))) (g + 1) i
    (λ e.
    let both = and_parts (is_while (seen tokens end i)) (nat_lt (i + 1) g && is_semicolon (seen tokens end g)) e in
    let last = and_parts (nat_lt (i + 1) g) (is_semicolon (seen tokens end g)) both.1 in
    omega (arith, seen_within is_semicolon tokens end g refl last.1))
    (λ e. low)

macro_reaches : (tokens : List CodeToken) (end at : ℕ) → at < end → macro_end tokens end at ≤ end
macro_reaches tokens end at low =
    let g : ℕ = after_group tokens end (at + 1) in
    either (λ (t : ℕ). t ≤ end) (is_plain (class_at tokens at) && ((nat_lt (at + 1) g || is_capital (class_at tokens at)) && ends_macro tokens g)) g at
    (λ e. (group_reaches tokens end (at + 1) (omega (arith, low))).1)
    (λ e. omega (arith, low))

header_reaches : (tokens : List CodeToken) (end at : ℕ) → at < end → (at < header_end tokens end at) × (header_end tokens end at ≤ end)
header_reaches tokens end at low =
    let behind : (i : ℕ) → at < i → i ≤ end → (at < after_group tokens end i) × (after_group tokens end i ≤ end) =
    λ i up most. (let group = group_reaches tokens end i most in (omega (arith, up, group.0), group.1)) in
    either (λ (h : ℕ). (at < h) × (h ≤ end)) (is_do (class_at tokens at)) (at + 1) _
    (λ e. (omega arith, omega (arith, low)))
    (λ e.
    either (λ (h : ℕ). (at < h) × (h ≤ end)) (is_else (class_at tokens at)) _ (after_group tokens end (at + 1))
    (λ e.
    either (λ (h : ℕ). (at < h) × (h ≤ end)) (is_if (seen tokens end (at + 1))) (after_group tokens end (at + 2)) (at + 1)
    (λ e. behind (at + 2) (omega arith) (omega (arith, seen_within is_if tokens end (at + 1) refl e)))
    (λ e. (omega arith, omega (arith, low))))
    (λ e. behind (at + 1) (omega arith) (omega (arith, low))))

-- ## Forms

-- a label's line, through its `:`
label_reaches : (tokens : List CodeToken) (o : Open) (kind : LineKind) (level : ℕ) (wrapped : Bool) (at colon : ℕ) → at < colon → colon < o.end
    → FormReaches at o.end (label_form tokens o kind level wrapped colon)
label_reaches tokens o kind level wrapped at colon up low =
    either (λ (next : Next). Reaches at o.end (label_form tokens o kind level wrapped colon) next) (is_open_brace (seen tokens o.end (colon + 1))) _ Ends
    (λ e.
    let block = block_reaches tokens o.end (colon + 1) (seen_within is_open_brace tokens o.end (colon + 1) refl e) in
    record { begins = omega (arith, up); takes = λ e. omega (arith, up); goes_on = block.0; ends = block.1; is_block = refl })
    (λ e. (omega (arith, up), omega (arith, low)))

-- the label that is found
abbrev LabelReaches : ℕ → ℕ → Option Form → Type 0
LabelReaches at end None = ⊤
LabelReaches at end (Some form) = FormReaches at end form

labels_reach : (braces : Braces) (tokens : List CodeToken) (o : Open) (at : ℕ) → at < o.end → LabelReaches at o.end (label braces tokens o at)
labels_reach braces tokens o at low =
    let colon : ℕ = case_colon (o.end - (at + 1)) tokens o.end (at + 1) 0 in
    either (LabelReaches at o.end) (is_case (class_at tokens at) && nat_lt colon o.end) _ _
    (λ e. label_reaches tokens o CaseLabel o.case_level braces.after_case_label at colon
    (omega (arith, colon_reaches (o.end - (at + 1)) tokens o.end (at + 1) 0 (omega (arith, low))))
    (ltb-true colon o.end (and_parts (is_case (class_at tokens at)) (nat_lt colon o.end) e).1))
    (λ e.
    either (LabelReaches at o.end) (is_colon (seen tokens o.end (at + 1))) _ None
    (λ colon.
    let there : at + 1 < o.end = seen_within is_colon tokens o.end (at + 1) refl colon in
    either (LabelReaches at o.end) (is_default (class_at tokens at)) _ _
    (λ e. label_reaches tokens o CaseLabel o.case_level braces.after_case_label at (at + 1) (omega arith) there)
    (λ e.
    either (LabelReaches at o.end) (is_plain (class_at tokens at) && (is_code o.context && not (touched_at tokens (at + 1))))
    (Some (label_form tokens o GotoLabel (goto_level braces o) false (at + 1))) None
    (λ e. label_reaches tokens o GotoLabel (goto_level braces o) false at (at + 1) (omega arith) there)
    (λ e. tt)))
    (λ e. tt))

control_block_ends : (braces : Braces) (tokens : List CodeToken) (end i : ℕ) (head : Head) (level : ℕ) → i < end
    → (i < (control_block braces tokens end i head level).end)
    × (((control_block braces tokens end i head level).end ≤ end) × ((control_block braces tokens end i head level).block ≡ true))
control_block_ends braces tokens end i head level low =
    let block = block_reaches tokens end i low in
    either (λ (b : Open). (i < b.end) × ((b.end ≤ end) × (b.block ≡ true))) _ _ _ (λ e. (block.0, (block.1, refl))) (λ e. (block.0, (block.1, refl)))

from_up : (closes : Bool) (at : ℕ) → at ≤ behind_close closes at
from_up true at = omega arith
from_up false at = omega arith

from_within : (closes : Bool) (at end : ℕ) → at < end → behind_close closes at ≤ end
from_within true at end low = omega (arith, low)
from_within false at end low = omega (arith, low)

control_reaches : (braces : Braces) (tokens : List CodeToken) (o : Open) (closes : Bool) (level at : ℕ) → behind_close closes at < o.end
    → FormReaches at o.end (control_form braces tokens o closes level at)
control_reaches braces tokens o closes level at low =
    let from : ℕ = behind_close closes at in
    let order = from_up closes at in
    let h : ℕ = header_end tokens o.end from in
    let head : Head = head_of tokens o.end from in
    let header = header_reaches tokens o.end from low in
    either (Reaches at o.end (control_form braces tokens o closes level at)) (is_open_brace (seen tokens o.end h))
    (Opens braces.after_control (control_block braces tokens o.end h head level)) (Waits head)
    (λ e.
    let block = control_block_ends braces tokens o.end h head level (seen_within is_open_brace tokens o.end h refl e) in
    record { begins = omega (arith, order, header.0); takes = λ e. omega (arith, order, header.0); goes_on = block.0; ends = block.1.0; is_block = block.1.1 })
    (λ e. (omega (arith, order, header.0), header.1))

-- a place from the statement on is behind its line's beginning, where it is behind the `}` or another one
from_passed : (closes : Bool) (at place : ℕ) → behind_close closes at ≤ place → (behind_close closes at ≡ at → at ≡ place → ⊥) → at < place
from_passed true at place least other = omega (arith, least)
from_passed false at place least other = omega (arith, least, other refl)

other_reaches : (braces : Braces) (tokens : List CodeToken) (o : Open) (closes : Bool) (level at : ℕ) (assigned : Bool) → at < o.end
    → (behind_close closes at ≡ at → is_open_brace (class_at tokens at) ≡ false) → FormReaches at o.end (other_form braces tokens o closes level at assigned)
other_reaches braces tokens o closes level at assigned low first =
    let from : ℕ = behind_close closes at in
    let order = from_up closes at in
    let stop : Stop = statement_stop (o.end - from) tokens o.end from assigned in
    let stops = stop_reaches (o.end - from) tokens o.end from assigned (from_within closes at o.end low) in
    either (FormReaches at o.end) stop.opens _ _
    (λ opened.
    let brace = stops.opens opened in
    let block = block_reaches tokens o.end stop.at brace.0 in
    let up : at < stop.at = from_passed closes at stop.at stops.least (λ here e.
    let q : true ≡ false = sym brace.1 ∙ (ap (λ (i : ℕ). is_open_brace (class_at tokens i)) (sym e) ∙ first here) in cc) in
    record { begins = omega (arith, up); takes = λ e. up; goes_on = block.0; ends = block.1; is_block = refl })
    (λ closed. (
      from_passed closes at stop.at stops.least (λ here e. let up = stops.goes_on closed (omega (arith, here, low)) in omega (arith, here, up, e)),
      stops.most,
    ))

unlabelled_reaches : (braces : Braces) (tokens : List CodeToken) (o : Open) (at : ℕ) → at < o.end → FormReaches at o.end (unlabelled braces tokens o at)
unlabelled_reaches braces tokens o at low =
    let g : ℕ = after_group tokens o.end (at + 1) in
    let group = group_reaches tokens o.end (at + 1) (omega (arith, low)) in
    either (FormReaches at o.end)
    (is_code o.context && (is_plain (class_at tokens at) && (nat_lt (at + 1) g && is_open_brace (seen tokens o.end g)))) _ _
    (λ e.
    let one = and_parts (is_code o.context) (is_plain (class_at tokens at) && (nat_lt (at + 1) g && is_open_brace (seen tokens o.end g))) e in
    let two = and_parts (is_plain (class_at tokens at)) (nat_lt (at + 1) g && is_open_brace (seen tokens o.end g)) one.1 in
    let three = and_parts (nat_lt (at + 1) g) (is_open_brace (seen tokens o.end g)) two.1 in
    let block = block_reaches tokens o.end g (seen_within is_open_brace tokens o.end g refl three.1) in
    record { begins = omega (arith, group.0); takes = λ e. omega (arith, group.0); goes_on = block.0; ends = block.1; is_block = refl })
    (λ e.
    either (FormReaches at o.end) (is_open_brace (class_at tokens at)) _ _
    (λ e.
    let block = block_reaches tokens o.end at low in
    record { begins = omega arith; takes = λ e. never e; goes_on = block.0; ends = block.1; is_block = refl })
    (λ first.
    either (FormReaches at o.end)
    (is_extern (class_at tokens at) && (is_text (seen tokens o.end (at + 1)) && is_open_brace (seen tokens o.end (at + 2)))) _ _
    (λ e.
    let one = and_parts (is_extern (class_at tokens at)) (is_text (seen tokens o.end (at + 1)) && is_open_brace (seen tokens o.end (at + 2))) e in
    let two = and_parts (is_text (seen tokens o.end (at + 1))) (is_open_brace (seen tokens o.end (at + 2))) one.1 in
    let block = block_reaches tokens o.end (at + 2) (seen_within is_open_brace tokens o.end (at + 2) refl two.1) in
    record { begins = omega arith; takes = λ e. omega arith; goes_on = block.0; ends = block.1; is_block = refl })
    (λ e.
    either (FormReaches at o.end) (nat_lt at (macro_end tokens o.end at)) _ _
    (λ up. (ltb-true at (macro_end tokens o.end at) up, macro_reaches tokens o.end at low))
    (λ e. other_reaches braces tokens o false o.level at false low (λ here. first)))))

either_label : (at end : ℕ) (found : Option Form) (form : Form) → LabelReaches at end found → FormReaches at end form
    → FormReaches at end (elim found as (λ _. Form) [ Some f ↦ f | None ↦ form ])
either_label at end None form label otherwise = otherwise
either_label at end (Some f) form label otherwise = label

statement_reaches : (braces : Braces) (tokens : List CodeToken) (o : Open) (at : ℕ) → at < o.end → FormReaches at o.end (statement braces tokens o at)
statement_reaches braces tokens o at low =
    either (FormReaches at o.end) (is_enumerators o.context) _ _
    (λ e. let rest = enumerator_reaches (o.end - at) tokens o.end at (omega (arith, low)) in (rest.1.1 low, rest.1.0))
    (λ e.
    either (FormReaches at o.end) (is_close_brace (class_at tokens at) && has_no_partner tokens at) _ _
    (λ e. (omega arith, omega (arith, low)))
    (λ e.
    either_label at o.end (label braces tokens o at) _ (labels_reach braces tokens o at low)
    (either (FormReaches at o.end) (is_control (class_at tokens at)) _ _
    (λ e. control_reaches braces tokens o false o.level at low)
    (λ e. unlabelled_reaches braces tokens o at low))))

close_reaches : (braces : Braces) (tokens : List CodeToken) (o b : Open) (at : ℕ) → at < o.end → FormReaches at o.end (close_form braces tokens o b at)
close_reaches braces tokens o b at low =
    let t : ℕ = tail_end tokens o.end (at + 1) in
    let one : (at < at + 1) × (at + 1 ≤ o.end) = (omega arith, omega (arith, low)) in
    either (FormReaches at o.end) (is_tagged b.head) _ _
    (λ e. other_reaches braces tokens o true b.head_level at b.assigned low (λ here. absurd (omega (arith, here))))
    (λ e.
    either (FormReaches at o.end) (is_do_head b.head && nat_lt (at + 1) t) _ _
    (λ tail.
    either (FormReaches at o.end) braces.before_while _ _
    (λ e. one)
    (λ e. (omega (arith, ltb-true (at + 1) t (and_parts (is_do_head b.head) (nat_lt (at + 1) t) tail).1), tail_reaches tokens o.end (at + 1) one.1)))
    (λ e.
    either (FormReaches at o.end) (is_semicolon (seen tokens o.end (at + 1))) _ _
    (λ e. (omega arith, omega (arith, seen_within is_semicolon tokens o.end (at + 1) refl e)))
    (λ e.
    either (FormReaches at o.end) (is_if_head b.head && is_else (seen tokens o.end (at + 1))) _ _
    (λ answers.
    either (FormReaches at o.end) braces.before_else _ _
    (λ e. one)
    (λ e. control_reaches braces tokens o true b.head_level at
    (seen_within is_else tokens o.end (at + 1) refl (and_parts (is_if_head b.head) (is_else (seen tokens o.end (at + 1))) answers).1)))
    (λ e. one))))

pub form_reaches : (braces : Braces) (tokens : List CodeToken) (o : Open) (start : Start) (at : ℕ) → at < o.end
    → FormReaches at o.end (form_of braces tokens o start at)
form_reaches braces tokens o Fresh at low = statement_reaches braces tokens o at low
form_reaches braces tokens o Tail at low =
    either (FormReaches at o.end) (nat_lt at (tail_end tokens o.end at)) _ _
    (λ up. (ltb-true at (tail_end tokens o.end at) up, tail_reaches tokens o.end at (omega (arith, low))))
    (λ e. statement_reaches braces tokens o at low)
form_reaches braces tokens o (Closing b) at low = close_reaches braces tokens o b at low
