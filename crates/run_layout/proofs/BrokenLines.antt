-- Each decision for a line that is broken may stand.
use Rattle.std.proofs.Common.{◌≡◌, ◌∙◌, ◌==◌, ◌⊎◌, inl, inr, ◌||◌, ◌&&◌, not, ℕ, zero, suc, ◌+◌, ◌-◌, ◌<◌, Bool, true}
use Rattle.std.proofs.Common.{false, Option, Some, None, List, [], ◌∷◌, length, get_or, drop, refl, sym, ap, arith}
use Rattle.std.proofs.Common.{subst}
use Rattle.std.specs.Prelude.{if◌then◌else◌, slice_get, IsTrue, IsFalse}
use Rattle.std.proofs.lemmas.Bool.{or_parts}
use Rattle.std.proofs.lemmas.Bool.Decides.{nat_tests}
use Rattle.std.proofs.lemmas.List.{get_or-drop, get_or-take, length-drop, length-take-le}
use Rattle.std.proofs.lemmas.Option.{slice_get-get_or, get_or_from_slice_get}
use Rattle.c_grammar.specs.Touch.{takes_line}
use Rattle.item_kinds.specs.declared.ItemKind.{ItemKind}
use Rattle.item_kinds.specs.declared.ItemKind.TheVariants as kind
use Rattle.line_state.specs.Choices.{Leads}
use Rattle.style_table.specs.declared.style.Style.{Style}
use Rattle.line_tokens.specs.Roles.{is_own}
use Rattle.line_tokens.specs.declared.LineTok.{LineTok}
use Rattle.line_tokens.specs.declared.Fixed.{Fixed}
use Rattle.layout_tables.specs.Spaces.{spaces_by_table, spaces_before}
use Rattle.layout_tables.specs.Breaks.{ends_its_row, gap_rule}
use Rattle.layout_tables.proofs.Needs.{needs_none}
use Rattle.line_state.specs.declared.gap.Gap.{Gap}
use Rattle.line_state.specs.Layout.{Layout, is_allowed, is_decided, is_some_decision, as_decided, keeps_frame_rules}
use Rattle.line_state.specs.Layout.{layout_after, start_of}
use Rattle.line_state.specs.Line.{Line, Step}
use Rattle.line_state.proofs.Steps.{IsGap, is_gap, placing}
use Rattle.token_arena.specs.Stored.{Stored}
use Rattle.token_arena.specs.Gaps.{Contents}
use Rattle.item_classes.specs.Viewed.{AreWithin}
use Rattle.line_tokens.specs.declared.line.ULine.{ULine}
use Rattle.replacements.specs.declared.gap_text.Decision.TheVariants.{Spaces}
use Rattle.replacements.specs.declared.slot.Slot.{Slot}
use Rattle.replacements.specs.declared.stance.Stance.TheVariants.{OfText}
use Rattle.replacements.specs.Places.{place_in}
use Rattle.replacements.specs.Sound.{MayJoin, MayStandBetween, MayStand}
use Rattle.item_classes.specs.Items.{no_item, item_at}
use Rattle.line_tokens.specs.Tokens.{no_token}
use Rattle.run_layout.specs.Tells.{MayTouch, StandsForItem, StandForItems}
use Rattle.run_layout.specs.Broken.{of_line, broken_line, empty_inside, waits, inside_decision, inside_slot}
use Rattle.run_layout.specs.Broken.{made_if_open, made_at, inside_made}
use Rattle.run_layout.specs.Laws.{AreOfTexts}
use Rattle.line_gaps.proofs.Stands.{stance, lines_stand, MadeStand}

-- ## What a gap is known to be

-- what a gap inside a line tells of the items on its sides
pub record TellsGap (arena : Contents) (before id : ℕ) (gap : Gap) : Type 0 where
  pub within : id < length arena.tokens
  pub left_of : stance arena before ≡ OfText
  pub right_of : stance arena id ≡ OfText
  pub left : gap.left.kind ≡ (item_at arena before).kind
  pub right : StandsForItem arena id gap.right
  pub next : IsFalse gap.right.directive → id ≡ before + 1

pub ends_takes : (k : ItemKind) → ends_its_row k ≡ takes_line k
ends_takes kind.LineComment = refl
ends_takes kind.StrayQuote = refl
ends_takes _ = refl

-- an open gap inside a line that stays need not break
stays_by : (must can : Bool) (rules : Bool → Bool) → (if must then false else (if can then rules false else not false)) ≡ true → must ≡ false
stays_by true can rules e = cc
stays_by false can rules e = refl

pub open_stays : (style : Style) (layout : Layout) (gap : Gap) → gap.first ≡ false → is_decided gap ≡ false → is_allowed style layout gap false ≡ true → (gap_rule style gap.left gap.right).must ≡ false
open_stays style layout gap first decided allowed = by_parts gap.first gap.fixed first decided allowed
  where
    by_parts : (f : Bool) (o : Option Fixed) → f ≡ false → is_some_decision o ≡ false
        → (if f then false else as_decided o false (if (gap_rule style gap.left gap.right).must then false else (if (gap_rule style gap.left gap.right).can then keeps_frame_rules style layout gap false else not false))) ≡ true
        → (gap_rule style gap.left gap.right).must ≡ false
    by_parts true o f d e = cc
    by_parts false (Some fixed) f d e = cc
    by_parts false None f d e = stays_by (gap_rule style gap.left gap.right).must (gap_rule style gap.left gap.right).can (λ b. keeps_frame_rules style layout gap b) e

-- ## Blanks

isnt_zero : (n : ℕ) → (suc n == 0) ≡ false
isnt_zero n = grind (arith, nat_tests)

apart_by : (n : ℕ) (empty touch : Bool) → (0 < (if (n == 0) && not empty && not touch then 1 else n)) ⊎ (IsTrue empty ⊎ IsTrue touch)
apart_by zero true touch = inr (inl refl)
apart_by zero false true = inr (inr refl)
apart_by zero false false = inl (omega arith)
apart_by (suc n) empty touch = inl (subst (λ (z : Bool). 0 < (if z && not empty && not touch then 1 else suc n)) (sym (isnt_zero n)) (omega arith))

before_next : (before id : ℕ) → id ≡ before + 1 → id - 1 ≡ before
before_next before id e = omega (arith, e)

-- no blank stands only where nothing stood or where the two may touch
apart : (style : Style) (arena : Contents) (before id : ℕ) (gap : Gap) → TellsGap arena before id gap → id ≡ before + 1
    → (0 < spaces_before style gap.left gap.right) ⊎ (IsTrue (item_at arena id).gap.empty ⊎ MayTouch arena.dialect (item_at arena before) (item_at arena id))
apart style arena before id gap tells next = elim (apart_by (spaces_by_table style gap.left gap.right) gap.right.gap.empty gap.right.touch) [
  | inl some ↦ inl some
  | inr (inl empty) ↦ inr (inl (sym (ap (λ g. g.empty) tells.right.gap) ∙ empty))
  | inr (inr touch) ↦ inr (inr (subst (λ x. MayTouch arena.dialect (item_at arena x) (item_at arena id)) (before_next before id next) (tells.right.touch touch (omega (arith, next)))))
]

pub joins : (style : Style) (arena : Contents) (before id : ℕ) (gap : Gap) → TellsGap arena before id gap → id ≡ before + 1 → takes_line (item_at arena before).kind ≡ false
    → MayJoin arena.dialect (stance arena before) (item_at arena before) (stance arena id) (item_at arena id) (spaces_before style gap.left gap.right)
joins style arena before id gap tells next takes = record {
  here = tells.right_of;
  there = tells.left_of;
  goes_on = λ w. takes;
  apart = apart style arena before id gap tells next;
}

-- blanks that may join two items of a text that follow one another may stand
pub joined_stands : (arena : Contents) (before id count : ℕ) → id < length arena.tokens → id ≡ before + 1
    → MayJoin arena.dialect (stance arena before) (item_at arena before) (stance arena id) (item_at arena id) count → MayStand arena id (Spaces count)
joined_stands arena before zero count within next joins = absurd (omega (arith, next))
joined_stands arena before (suc b) count within next joins =
    let same : before ≡ b = omega (arith, next) in
    let here : MayJoin arena.dialect (stance arena b) (item_at arena b) (stance arena (suc b)) (item_at arena (suc b)) count =
    subst (λ x. MayJoin arena.dialect (stance arena x) (item_at arena x) (stance arena (suc b)) (item_at arena (suc b)) count) same joins in
    let l : slice_get arena.tokens b ≡ Some (item_at arena b) = slice_get-get_or arena.tokens b no_item (omega (arith, within)) in
    let r : slice_get arena.tokens (suc b) ≡ Some (item_at arena (suc b)) = slice_get-get_or arena.tokens (suc b) no_item within in
    let P : Option Stored → Type 0 = λ x. MayStandBetween arena.dialect (place_in arena b) (stance arena b) x (stance arena (suc b)) (Some (item_at arena (suc b))) (Spaces count) in
    let Q : Option Stored → Type 0 = λ x. MayStandBetween arena.dialect (place_in arena b) (stance arena b) (slice_get arena.tokens b) (stance arena (suc b)) x (Spaces count) in
    subst Q (sym r) (subst P (sym l) (inl here))

-- ## The gaps of a line

-- what an admissible choice decides for an open gap may stand
inside_stands : (style : Style) (arena : Contents) (line : ULine) (layout : Layout) (gap : Gap) (brk : Bool) (before id : ℕ) → TellsGap arena before id gap
    → gap.first ≡ false → is_decided gap ≡ false → is_allowed style layout gap brk ≡ true → MayStand arena id (inside_decision style line layout gap brk)
inside_stands style arena line layout gap true before id tells first decided allowed =
    lines_stand arena id (1 + empty_inside style line gap.right) (start_of style layout gap true) line.level tells.right_of (omega arith)
inside_stands style arena line layout gap false before id tells first decided allowed =
    let must = open_stays style layout gap first decided allowed in
    let none = needs_none style gap.left gap.right must in
    let apart = or_parts (gap.right.directive || ends_its_row gap.left.kind) (is_own gap.right.role) none in
    let ends = or_parts gap.right.directive (ends_its_row gap.left.kind) apart.0 in
    let takes : takes_line (item_at arena before).kind ≡ false = ap (λ k. takes_line k) (sym tells.left) ∙ sym (ends_takes gap.left.kind) ∙ ends.1 in
    let next = tells.next ends.0 in
    joined_stands arena before id (spaces_before style gap.left gap.right) tells.within next (joins style arena before id gap tells next takes)

open_made : (arena : Contents) (gap : Gap) (brk : Bool) (id : ℕ) (slot : Slot) (later : List (ℕ × Slot)) → (is_decided gap ≡ false → MayStand arena id slot.decision) → MadeStand arena later
    → MadeStand arena (made_if_open gap brk id slot later)
open_made arena gap brk id slot later stands rest = by_flags (is_decided gap) (waits gap.right brk) refl
  where
    by_flags : (f w : Bool) → is_decided gap ≡ f → MadeStand arena (if f || w then later else (id, slot) ∷ later)
    by_flags true w e = rest
    by_flags false true e = rest
    by_flags false false e = (stands e, rest)

-- what is known of each gap inside a line with these items
abbrev pub GapsTell : Contents → List ℕ → Line → Type 0
GapsTell arena items l = (i : ℕ) (gap : Gap) → IsGap l i gap → TellsGap arena (get_or items (i - 1) 0) (get_or items i 0) gap

-- each decision by admissible choices may stand
pub choices_stand : (arena : Contents) (line : ULine) (items : List ℕ) (l : Line) (layout t : Layout) (breaks : List Bool) (cost : ℕ) → GapsTell arena items l
    → Leads (Step l) layout breaks t cost → MadeStand arena (inside_made line items l layout breaks)
choices_stand arena line items l layout t [] cost tell leads = tt
choices_stand arena line items l layout t (brk ∷ breaks) cost tell leads =
    let p = placing l layout brk leads.0 leads.1 leads.3 in
    let g = is_gap l layout.index p.gap p.at in
    let after : Layout = layout_after l.style layout p.gap brk in
    let rest : MadeStand arena (inside_made line items l after breaks) =
    choices_stand arena line items l after t breaks leads.2 tell (subst (λ (x : Layout). Leads (Step l) x breaks t leads.2) (sym p.layout) leads.4) in
    subst (λ (o : Option Gap). MadeStand arena (made_at l.style line items layout brk (λ next. inside_made line items l next breaks) o)) (sym p.at)
    (open_made arena p.gap brk (get_or items layout.index 0) (inside_slot l.style line layout p.gap brk) (inside_made line items l after breaks)
    (λ decided. inside_stands l.style arena line layout p.gap brk (get_or items (layout.index - 1) 0) (get_or items layout.index 0) (tell layout.index p.gap g) g.first decided p.allowed)
    rest)

-- ## The tokens of a line

pub get_or_of_line : {A : Type 0} (line : ULine) (xs : List A) (i : ℕ) (d : A) → i < line.last + 1 - line.first → get_or (of_line line xs) i d ≡ get_or xs (line.first + i) d
get_or_of_line {A} line xs i d within = get_or-take (line.last + 1 - line.first) (drop line.first xs) i d within ∙ get_or-drop line.first xs i d

pub length_of_line : {A : Type 0} (line : ULine) (xs : List A) → line.last < length xs → length (of_line line xs) ≡ line.last + 1 - line.first
length_of_line {A} line xs within = length-take-le (line.last + 1 - line.first) (drop line.first xs) (omega (arith, length-drop line.first xs, within))

-- the tokens on the sides of a gap inside a line are those of the view
pub gap_tokens : (style : Style) (arena : Contents) (ids : List ℕ) (toks : List LineTok) (plan : List (Option Slot)) (line : ULine) (i : ℕ) (gap : Gap) → line.last < length toks → IsGap (broken_line style arena ids toks plan line) i gap
    → (get_or toks (line.first + i - 1) no_token ≡ gap.left) × (get_or toks (line.first + i) no_token ≡ gap.right)
gap_tokens style arena ids toks plan line i gap within g =
    let count : length (of_line line toks) ≡ line.last + 1 - line.first = length_of_line line toks within in
    let below : i < line.last + 1 - line.first = omega (arith, g.within, count) in
    let some : 0 < i = g.inside in
    let here : line.first + i - 1 ≡ line.first + (i - 1) = omega (arith, some) in (
      ap (λ x. get_or toks x no_token) here ∙ (sym (get_or_of_line line toks (i - 1) no_token (omega (arith, below))) ∙ get_or_from_slice_get (of_line line toks) (i - 1) gap.left no_token g.left),
      sym (get_or_of_line line toks i no_token below) ∙ get_or_from_slice_get (of_line line toks) i gap.right no_token g.right,
    )

-- the tokens of a line tell what is known of its gaps
pub gaps_tell : (style : Style) (arena : Contents) (ids : List ℕ) (toks : List LineTok) (plan : List (Option Slot)) (line : ULine) → AreWithin arena ids → AreOfTexts arena ids → StandForItems arena ids toks
    → line.last < length ids → GapsTell arena (of_line line ids) (broken_line style arena ids toks plan line)
gaps_tell style arena ids toks plan line items texts tell within i gap g =
    let count : length (of_line line toks) ≡ line.last + 1 - line.first = length_of_line line toks (omega (arith, within, tell.as_many)) in
    let below : i < line.last + 1 - line.first = omega (arith, g.within, count) in
    let some : 0 < i = g.inside in
    let here : suc (line.first + (i - 1)) ≡ line.first + i = omega (arith, some) in
    let k : ℕ = line.first + (i - 1) in
    let left_id : get_or (of_line line ids) (i - 1) 0 ≡ get_or ids k 0 = get_or_of_line line ids (i - 1) 0 (omega (arith, below)) in
    let id : get_or (of_line line ids) i 0 ≡ get_or ids (suc k) 0 = get_or_of_line line ids i 0 below ∙ ap (λ x. get_or ids x 0) (sym here) in
    let left_tok : get_or toks k no_token ≡ gap.left = sym (get_or_of_line line toks (i - 1) no_token (omega (arith, below))) ∙ get_or_from_slice_get (of_line line toks) (i - 1) gap.left no_token g.left in
    let tok : get_or toks (suc k) no_token ≡ gap.right =
    ap (λ x. get_or toks x no_token) here ∙ (sym (get_or_of_line line toks i no_token below) ∙ get_or_from_slice_get (of_line line toks) i gap.right no_token g.right) in
    let small : suc k < length ids = omega (arith, within, below, some) in
    let small_left : k < length ids = omega (arith, small) in
    subst (λ x. TellsGap arena x (get_or (of_line line ids) i 0) gap) (sym left_id) (subst (λ x. TellsGap arena (get_or ids k 0) x gap) (sym id) (record {
      within = items (suc k) 0 small;
      left_of = texts k 0 small_left;
      right_of = texts (suc k) 0 small;
      left = ap (λ (x : LineTok). x.kind) (sym left_tok) ∙ (tell.items k small_left).kind;
      right = subst (λ (x : LineTok). StandsForItem arena (get_or ids (suc k) 0) x) tok (tell.items (suc k) small);
      next = subst (λ (x : LineTok). IsFalse x.directive → get_or ids (suc k) 0 ≡ get_or ids k 0 + 1) tok (tell.next k small);
    }))
