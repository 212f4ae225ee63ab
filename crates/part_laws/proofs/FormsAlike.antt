-- The line that begins at a place outside brackets is the same in a list of the file that ends behind a declaration and in a longer one.
use Rattle.std.proofs.Common.{◌≡◌, ◌∙◌, ℕ, ◌+◌, ◌-◌, ◌<◌, ◌≤◌, nat_lt, nat_le, Bool, true, false, ◌&&◌, ◌||◌, Option, Some, None, List, length, refl, arith, sym, ap, subst, inl, inr, ◌⊎◌}
use Rattle.std.proofs.lemmas.Bool.{and_parts, and_left, or_cases, cases_Bool, cases_lt, cond-true, cond-false, ltb-true, lt-ltb, le-ltb, or_parts}
use Rattle.token_classes.specs.declared.class.TokenClass.{TokenClass}
use Rattle.token_classes.specs.declared.class.TokenClass.TheVariants.{Nothing, OpenRound, OpenSquare, OpenBrace, CloseBrace, CapitalWord, PlainWord, Extern, Text, Semicolon as SemicolonClass}
use Rattle.token_classes.specs.Classes.{is_word, is_plain, is_capital, is_opener, is_struct, is_union, is_enum, is_extern, is_open_round, is_open_brace, is_close_brace, is_semicolon, is_text, is_control, is_case, is_default, is_else, is_colon}
use Rattle.line_tokens.specs.declared.line.LineKind.TheVariants.{ExternHead, Brace, Close, MacroLine}
use Rattle.statement_lines.specs.declared.token.CodeToken.{CodeToken}
use Rattle.statement_lines.specs.declared.braces.Braces.{Braces}
use Rattle.statement_lines.specs.declared.open.Head.{Head}
use Rattle.statement_lines.specs.declared.open.Head.TheVariants.{Tagged, Plain}
use Rattle.statement_lines.specs.declared.open.Open.{Open}
use Rattle.statement_lines.specs.declared.open.Start.{Start}
use Rattle.statement_lines.specs.declared.open.Start.TheVariants.{Fresh, Tail, Closing}
use Rattle.statement_lines.specs.declared.form.Next.{Next}
use Rattle.statement_lines.specs.declared.form.Next.TheVariants.{Ends, Goes, Waits, Opens}
use Rattle.statement_lines.specs.declared.form.Form.{Form}
use Rattle.statement_lines.specs.declared.form.Stop.{Stop}
use Rattle.statement_lines.specs.Forms.{class_at, seen, partner_in, behind_partner, partner_or, after_group, block_end, statement_stop, tag_before, began_at, behind_close, tagged_head, ends_macro, macro_end, other_form, case_colon, has_no_partner, label, tail_end, unlabelled, statement, is_tagged, is_do_head, is_if_head, close_form, form_of}
use Rattle.part_laws.specs.Declarations.{Before, Name, Parameters, Semicolon, Body, Other, is_end}
use Rattle.part_laws.proofs.CodeCut.{behind_opener, assigned_behind, file_up_to, WayOn}
use Rattle.part_laws.proofs.WaySteps.{EndsBeforeWord, step_of, at_most, goes_on, is_waiting, unwaited_way, opener_code, other_code, semicolon_code}
use Rattle.part_laws.proofs.StopsAlike.{StopAlike, stop_alike, semicolon_opens, brace_opens}
use Rattle.part_laws.proofs.Choices.{either, at_true, at_false}
use Rattle.part_laws.proofs.PartnerPlaces.{partner_place, partner_longer}
use Rattle.statement_lines.specs.declared.open.Context.TheVariants.{File, Code}
use Rattle.part_laws.proofs.FormsReach.{seen_class}
use Rattle.part_laws.proofs.FormsOfWindow.{opened_line, closed_line, stopped}

-- ## Where a line begins

-- what stands before the brace of a block with this head
abbrev HeadBefore : Head → Before → Type 0
HeadBefore head before = ((head ≡ Plain) × ((before ≡ Body) ⊎ (before ≡ Other))) ⊎ ((head ≡ Tagged) × (before ≡ Other))

-- behind this block the way goes on
pub record IsClosing (tokens : List CodeToken) (end : ℕ) (b : Open) (at : ℕ) : Type 0 where
  pub within_list : at < end
  pub before : Before
  pub told : Bool
  pub way : WayOn tokens end (at + 1) before told
  pub imply : b.assigned ≡ true → told ≡ true
  pub heads : HeadBefore b.head before

abbrev pub Stand : List CodeToken → ℕ → Start → ℕ → Type 0
Stand tokens end Fresh at = (at ≡ end) ⊎ ((at < end) × ((told : Bool) × WayOn tokens end at Other told))
Stand tokens end Tail at = ⊥
Stand tokens end (Closing b) at = IsClosing tokens end b at

-- what a line leaves
abbrev pub Leaves : List CodeToken → ℕ → Form → Next → Type 0
Leaves tokens end f Ends = Stand tokens end Fresh f.end
Leaves tokens end f (Goes s) = ⊥
Leaves tokens end f (Waits h) = ⊥
Leaves tokens end f (Opens wrapped b) = IsClosing tokens end b b.end

pub record IsAlike (tokens : List CodeToken) (end : ℕ) (f g : Form) : Type 0 where
  pub same : f ≡ g
  pub leaves : Leaves tokens end f f.next

pub both : (Q : Form → Form → Type 0) (x y : Bool) (f g f' g' : Form) → x ≡ y → (x ≡ true → Q f f') → (x ≡ false → Q g g')
    → Q (elim x as (λ _. Form) [ true ↦ f | false ↦ g ]) (elim y as (λ _. Form) [ true ↦ f' | false ↦ g' ])
both Q true true f g f' g' e h k = h refl
both Q false false f g f' g' e h k = k refl
both Q true false f g f' g' e h k = cc
both Q false true f g f' g' e h k = cc

pub unlabelled_both : (Q : Form → Form → Type 0) (x y : Option Form) (g g' : Form) → x ≡ None → y ≡ None → Q g g'
    → Q (elim x as (λ _. Form) [ Some f ↦ f | None ↦ g ]) (elim y as (λ _. Form) [ Some f ↦ f | None ↦ g' ])
unlabelled_both Q None None g g' e f h = h
unlabelled_both Q (Some x) y g g' e f h = cc
unlabelled_both Q None (Some y) g g' e f h = cc

pub fresh_at : (tokens : List CodeToken) (end at : ℕ) (before : Before) (told : Bool) → WayOn tokens end at before told
    → (is_waiting before ≡ true → is_opener (class_at tokens at) ≡ false) → Stand tokens end Fresh at
fresh_at tokens end at before told way quiet = elim (at_most tokens end at before told way) [
  | inl e ↦ inl e
  | inr lt ↦ inr (lt, (told, unwaited_way tokens end at before told way lt quiet))
]

-- ## Classes

abbrev pub IsOrdinary : TokenClass → Type 0
IsOrdinary c = (is_opener c ≡ false) × ((is_semicolon c ≡ false) × (is_plain c ≡ false))

pub extern_ordinary : (c : TokenClass) → is_extern c ≡ true → IsOrdinary c
extern_ordinary Extern h = (refl, (refl, refl))
extern_ordinary _ h = cc

pub text_ordinary : (c : TokenClass) → is_text c ≡ true → IsOrdinary c
text_ordinary Text h = (refl, (refl, refl))
text_ordinary _ h = cc

pub close_ordinary : (c : TokenClass) → is_close_brace c ≡ true → IsOrdinary c
close_ordinary CloseBrace h = (refl, (refl, refl))
close_ordinary _ h = cc

plain_opens : (c : TokenClass) → is_plain c ≡ true → (is_opener c ≡ false) × (is_semicolon c ≡ false)
plain_opens CapitalWord h = (refl, refl)
plain_opens PlainWord h = (refl, refl)
plain_opens _ h = cc

round_opens : (c : TokenClass) → is_open_round c ≡ true → is_opener c ≡ true
round_opens OpenRound h = refl
round_opens _ h = cc

word_opens : (c : TokenClass) → is_word c ≡ true → is_opener c ≡ false
word_opens OpenRound h = cc
word_opens OpenSquare h = cc
word_opens OpenBrace h = cc
word_opens _ h = refl

pub word_text : (c : TokenClass) → is_word c ≡ true → is_text c ≡ false
word_text Text h = cc
word_text _ h = refl

pub word_brace : (c : TokenClass) → is_word c ≡ true → is_open_brace c ≡ false
word_brace OpenBrace h = cc
word_brace _ h = refl

pub word_semicolon : (c : TokenClass) → is_word c ≡ true → is_semicolon c ≡ false
word_semicolon SemicolonClass h = cc
word_semicolon _ h = refl

-- ## What is seen

seen_here : (tokens : List CodeToken) (end i : ℕ) → i < end → seen tokens end i ≡ class_at tokens i
seen_here tokens end i h = at_true (nat_lt i end) (class_at tokens i) Nothing (lt-ltb i end h)

seen_past : (tokens : List CodeToken) (end i : ℕ) → end ≤ i → seen tokens end i ≡ Nothing
seen_past tokens end i h = at_false (nat_lt i end) (class_at tokens i) Nothing (le-ltb i end h)

-- what no word is, is seen in both lists or in none
pub seen_alike : (fits : TokenClass → Bool) (tokens : List CodeToken) (end whole i : ℕ) → fits Nothing ≡ false → fits (class_at tokens end) ≡ false
    → end ≤ whole → i ≤ end → fits (seen tokens end i) ≡ fits (seen tokens whole i)
seen_alike fits tokens end whole i none word order le = elim (cases_lt i end) [
  | inl lt ↦ ap fits (seen_here tokens end i lt ∙ sym (seen_here tokens whole i (omega arith)))
  | inr ge ↦
      let e : end ≡ i = omega arith in
      ap fits (seen_past tokens end i ge)
      ∙ (none ∙ sym
      (either (λ (c : TokenClass). fits c ≡ false) (nat_lt i whole) (class_at tokens i) Nothing
      (λ _. subst (λ (x : ℕ). fits (class_at tokens x) ≡ false) e word) (λ _. none)))
]

-- ## Steps

pub ordinary_on : (tokens : List CodeToken) (end at : ℕ) (before : Before) (told : Bool) → WayOn tokens end at before told → at < end
    → IsOrdinary (class_at tokens at) → (x : Bool) × WayOn tokens end (at + 1) Other x
ordinary_on tokens end at before told way lt ordinary =
    let c = class_at tokens at in
    let s = step_of tokens end at before told way lt in
    elim s.passed [
      | inl group ↦ absurd (let e : is_opener c ≡ true = group.0 in let f : is_opener c ≡ false = ordinary.0 in cc)
      | inr one ↦
          let same = other_code told before c ordinary.0 ordinary.1.0 ∙ cond-false (is_plain c) Name Other ordinary.1.1 in
          (assigned_behind told c, subst (λ (b : Before). WayOn tokens end (at + 1) b (assigned_behind told c)) same one.1)
    ]

pub semicolon_on : (tokens : List CodeToken) (end at : ℕ) (before : Before) (told : Bool) → WayOn tokens end at before told → at < end
    → is_semicolon (class_at tokens at) ≡ true → (x : Bool) × WayOn tokens end (at + 1) Semicolon x
semicolon_on tokens end at before told way lt semi =
    let c = class_at tokens at in
    let s = step_of tokens end at before told way lt in
    elim s.passed [
      | inl group ↦ absurd (let e : is_opener c ≡ true = group.0 in let f : is_opener c ≡ false = semicolon_opens c semi in cc)
      | inr one ↦
          let same = semicolon_code told before c (semicolon_opens c semi) semi in
          (assigned_behind told c, subst (λ (b : Before). WayOn tokens end (at + 1) b (assigned_behind told c)) same one.1)
    ]

-- a group behind which nothing waits
pub record Group (tokens : List CodeToken) (end at : ℕ) (before : Before) : Type 0 where
  pub partner : ℕ
  pub found : partner_in tokens end at ≡ Some partner
  pub told : Bool
  pub way : WayOn tokens end (partner + 1) before told

pub group_on : (tokens : List CodeToken) (end at : ℕ) (before : Before) (told : Bool) → WayOn tokens end at before told → at < end
    → is_opener (class_at tokens at) ≡ true → Group tokens end at (behind_opener told before (class_at tokens at))
group_on tokens end at before told way lt opens =
    let c = class_at tokens at in
    let s = step_of tokens end at before told way lt in
    elim s.passed [
      | inl group ↦
          let on = subst (λ (b : Before). WayOn tokens end (group.1.0 + 1) b (assigned_behind told c)) (opener_code told before c opens) group.1.1.1 in
          record { partner = group.1.0; found = group.1.1.0; told = assigned_behind told c; way = on }
      | inr one ↦ absurd (let e : is_opener c ≡ false = one.0 in cc)
    ]

block_is : (tokens : List CodeToken) (end i p : ℕ) → partner_in tokens end i ≡ Some p → block_end tokens end i ≡ p
block_is tokens end i p e = ap (partner_or end) e

pub blocks_alike : (tokens : List CodeToken) (end whole i p : ℕ) → end ≤ whole → partner_in tokens end i ≡ Some p
    → block_end tokens end i ≡ block_end tokens whole i
blocks_alike tokens end whole i p order e = block_is tokens end i p e ∙ sym (block_is tokens whole i p (partner_longer tokens end whole i p order e))

-- a block is closed, and the way goes on behind it
pub closing : (tokens : List CodeToken) (end : ℕ) (b : Open) (i p : ℕ) (before : Before) (told : Bool) → b.end ≡ block_end tokens end i
    → partner_in tokens end i ≡ Some p → WayOn tokens end (p + 1) before told
    → (b.assigned ≡ true → told ≡ true) → HeadBefore b.head before
    → IsClosing tokens end b b.end
closing tokens end b i p before told e found way imply heads =
    let is : b.end ≡ p = e ∙ block_is tokens end i p found in
    let place = partner_place tokens end i p found in
    let below : p < end = place.1 in
    let on = subst (λ (x : ℕ). WayOn tokens end (x + 1) before told) (sym is) way in
    record { within_list = omega arith; before = before; told = told; way = on; imply = imply; heads = heads }

-- ## Statements

heads_of : (tag : TokenClass) (before : Before) → before ≡ Other → HeadBefore (tagged_head tag) before
heads_of tag before e =
    either (λ (h : Head). HeadBefore h before) (is_struct tag || (is_union tag || is_enum tag)) Tagged Plain
    (λ _. inr (refl, e)) (λ _. inl (refl, inr e))

stopped_alike : (braces : Braces) (tokens : List CodeToken) (end whole : ℕ) (closes : Bool) (level from : ℕ) (s t : Stop) → EndsBeforeWord tokens end whole
    → StopAlike tokens end from s t
    → IsAlike tokens end (stopped braces closes level (tag_before (s.at - from) tokens from s.at Nothing) s (block_end tokens end s.at))
    (stopped braces closes level (tag_before (t.at - from) tokens from t.at Nothing) t (block_end tokens whole t.at))
stopped_alike braces tokens end whole closes level from s t ends stop =
    let Q : Form → Form → Type 0 = IsAlike tokens end in
    let tag = tag_before (s.at - from) tokens from s.at Nothing in
    let line : ℕ → Form = opened_line braces closes level tag s in
    let closed : Form = closed_line closes level s in
    subst (λ (x : Stop). IsAlike tokens end (stopped braces closes level tag s (block_end tokens end s.at))
    (stopped braces closes level (tag_before (x.at - from) tokens from x.at Nothing) x (block_end tokens whole x.at))) stop.same
    (both Q s.opens s.opens (line (block_end tokens end s.at)) closed (line (block_end tokens whole s.at)) closed refl
    (λ e.
    let o = stop.opens e in
    record {
      same = ap line (blocks_alike tokens end whole s.at o.partner ends.order o.found);
      leaves = closing tokens end _ s.at o.partner o.before o.told refl o.found o.way o.imply (elim o.behind_it [
        | inl other ↦ heads_of tag o.before other
        | inr body ↦ inl (ap tagged_head (body.1 (s.at - from) (omega arith)), inl body.0)
      ]);
    })
    (λ e. record { same = refl; leaves = fresh_at tokens end s.at Semicolon false (stop.ends e) (λ w. cc) }))

pub other_alike : (braces : Braces) (tokens : List CodeToken) (end whole : ℕ) (closes : Bool) (level at : ℕ) (told assigned : Bool)
    → EndsBeforeWord tokens end whole → WayOn tokens end (behind_close closes at) Other told → (assigned ≡ true → told ≡ true)
    → IsAlike tokens end (other_form braces tokens (file_up_to end) closes level at assigned)
    (other_form braces tokens (file_up_to whole) closes level at assigned)
other_alike braces tokens end whole closes level at told assigned ends way imply =
    let from = behind_close closes at in
    stopped_alike braces tokens end whole closes level from (statement_stop (end - from) tokens end from assigned)
    (statement_stop (whole - from) tokens whole from assigned) ends
    (stop_alike way.0 tokens end whole from from Other told assigned (end - from) (whole - from) ends way.1 refl imply tt (omega arith) (omega arith)
    (omega arith))

-- ## Lines of macros

record Macro (tokens : List CodeToken) (end whole at : ℕ) : Type 0 where
  place : ℕ
  here : after_group tokens end (at + 1) ≡ place
  there : after_group tokens whole (at + 1) ≡ place
  before : Before
  told : Bool
  way : WayOn tokens end place before told
  open_end : is_end before ≡ false

group_is : (tokens : List CodeToken) (end i p : ℕ) → i < end → is_open_round (class_at tokens i) ≡ true → partner_in tokens end i ≡ Some p
    → after_group tokens end i ≡ p + 1
group_is tokens end i p lt round e =
    at_true (is_open_round (seen tokens end i)) (behind_partner i (partner_in tokens end i)) i (ap is_open_round (seen_here tokens end i lt) ∙ round)
    ∙ ap (behind_partner i) e

no_group_is : (tokens : List CodeToken) (end i : ℕ) → i < end → is_open_round (class_at tokens i) ≡ false → after_group tokens end i ≡ i
no_group_is tokens end i lt round =
    at_false (is_open_round (seen tokens end i)) (behind_partner i (partner_in tokens end i)) i (ap is_open_round (seen_here tokens end i lt) ∙ round)

macro_of : (tokens : List CodeToken) (end whole at : ℕ) (told : Bool) → EndsBeforeWord tokens end whole → WayOn tokens end at Other told → at < end
    → is_plain (class_at tokens at) ≡ true → Macro tokens end whole at
macro_of tokens end whole at told ends way lt plain =
    let c = class_at tokens at in
    let d = class_at tokens (at + 1) in
    let opens = plain_opens c plain in
    let order : end ≤ whole = ends.order in
    let s = step_of tokens end at Other told way lt in
    let named : WayOn tokens end (at + 1) Name (assigned_behind told c) = elim s.passed [
      | inl group ↦ absurd (let e : is_opener c ≡ true = group.0 in let f : is_opener c ≡ false = opens.0 in cc)
      | inr one ↦ subst (λ (b : Before). WayOn tokens end (at + 1) b (assigned_behind told c))
          (other_code told Other c opens.0 opens.1 ∙ cond-true (is_plain c) Name Other plain) one.1
    ] in
    let next : at + 1 < end = goes_on tokens end (at + 1) Name (assigned_behind told c) named refl in
    elim (cases_Bool (is_open_round d)) [
      | inl round ↦
          let g = group_on tokens end (at + 1) Name (assigned_behind told c) named next (round_opens d round) in
          record {
            place = g.partner + 1;
            here = group_is tokens end (at + 1) g.partner next round g.found;
            there = group_is tokens whole (at + 1) g.partner (omega arith) round (partner_longer tokens end whole (at + 1) g.partner order g.found);
            before = Parameters;
            told = g.told;
            way = subst (λ (b : Before). WayOn tokens end (g.partner + 1) b g.told) (cond-true (is_open_round d) Parameters Other round) g.way;
            open_end = refl;
          }
      | inr round ↦ record {
        place = at + 1;
        here = no_group_is tokens end (at + 1) next round;
        there = no_group_is tokens whole (at + 1) (omega arith) round;
        before = Name;
        told = assigned_behind told c;
        way = named;
        open_end = refl;
      }
    ]

le_from : (a b : ℕ) → nat_le a b ≡ true → a ≤ b
le_from a b h = grind arith

-- behind a macro's line no group follows
macro_quiet : (tokens : List CodeToken) (i : ℕ) → i < length tokens → ends_macro tokens i ≡ true → is_opener (class_at tokens i) ≡ false
macro_quiet tokens i lt e =
    elim (or_cases (nat_le (length tokens) i) (began_at tokens i && (is_word (class_at tokens i) || is_close_brace (class_at tokens i))) e) [
      | inl out ↦ absurd (let q : length tokens ≤ i = le_from (length tokens) i out in omega arith)
      | inr in_list ↦
          elim (or_cases (is_word (class_at tokens i)) (is_close_brace (class_at tokens i))
          (and_parts (began_at tokens i) (is_word (class_at tokens i) || is_close_brace (class_at tokens i)) in_list).1) [
            | inl word ↦ word_opens (class_at tokens i) word
            | inr close ↦ (close_ordinary (class_at tokens i) close).0
          ]
    ]

abbrev macro_at : List CodeToken → ℕ → ℕ → ℕ
macro_at tokens at g =
    elim (is_plain (class_at tokens at) && ((nat_lt (at + 1) g || is_capital (class_at tokens at)) && ends_macro tokens g)) [ true ↦ g | false ↦ at ]

macro_none : (tokens : List CodeToken) (end at : ℕ) → is_plain (class_at tokens at) ≡ false → macro_end tokens end at ≡ at
macro_none tokens end at plain =
    let g = after_group tokens end (at + 1) in
    at_false (is_plain (class_at tokens at) && ((nat_lt (at + 1) g || is_capital (class_at tokens at)) && ends_macro tokens g)) g at
    (and_left (is_plain (class_at tokens at)) ((nat_lt (at + 1) g || is_capital (class_at tokens at)) && ends_macro tokens g) plain)

macro_leaves : (tokens : List CodeToken) (end whole at : ℕ) → EndsBeforeWord tokens end whole → (m : Macro tokens end whole at)
    → nat_lt at (macro_at tokens at m.place) ≡ true → Stand tokens end Fresh (macro_at tokens at m.place)
macro_leaves tokens end whole at ends m =
    let g = m.place in
    let P : ℕ → Type 0 = λ x. nat_lt at x ≡ true → Stand tokens end Fresh x in
    let lt : g < end = goes_on tokens end g m.before m.told m.way m.open_end in
    let order : end ≤ whole = ends.order in
    let all : whole ≡ length tokens = ends.all in
    either P (is_plain (class_at tokens at) && ((nat_lt (at + 1) g || is_capital (class_at tokens at)) && ends_macro tokens g)) g at
    (λ e _.
    let k : ends_macro tokens g ≡ true =
    (and_parts (nat_lt (at + 1) g || is_capital (class_at tokens at)) (ends_macro tokens g)
    (and_parts (is_plain (class_at tokens at)) ((nat_lt (at + 1) g || is_capital (class_at tokens at)) && ends_macro tokens g) e).1).1 in
    fresh_at tokens end g m.before m.told m.way (λ _. macro_quiet tokens g (omega arith) k))
    (λ _ h. absurd (let q : at < at = ltb-true at at h in omega arith))

-- the line of a macro is the same, and where there is one, it leaves the way
pub macro_alike : (tokens : List CodeToken) (end whole at : ℕ) (told : Bool) → EndsBeforeWord tokens end whole → WayOn tokens end at Other told → at < end
    → (macro_end tokens end at ≡ macro_end tokens whole at) × (nat_lt at (macro_end tokens end at) ≡ true → Stand tokens end Fresh (macro_end tokens end at))
macro_alike tokens end whole at told ends way lt = elim (cases_Bool (is_plain (class_at tokens at))) [
  | inr plain ↦ (
    macro_none tokens end at plain ∙ sym (macro_none tokens whole at plain),
    λ h. absurd (let q : at < macro_end tokens end at = ltb-true at (macro_end tokens end at) h in
        let none : macro_end tokens end at ≡ at = macro_none tokens end at plain in omega arith),
  )
  | inl plain ↦
      let m = macro_of tokens end whole at told ends way lt plain in
      let here : macro_end tokens end at ≡ macro_at tokens at m.place = ap (macro_at tokens at) m.here in (
        here ∙ sym (ap (macro_at tokens at) m.there),
        subst (λ (x : ℕ). nat_lt at x ≡ true → Stand tokens end Fresh x) (sym here) (macro_leaves tokens end whole at ends m),
      )
]

-- ## Labels

-- no label stands outside brackets
no_label : (braces : Braces) (tokens : List CodeToken) (end at : ℕ) → is_case (class_at tokens at) ≡ false → is_default (class_at tokens at) ≡ false
    → label braces tokens (file_up_to end) at ≡ None
no_label braces tokens end at case default =
    let c = class_at tokens at in
    let P : Option Form → Type 0 = λ x. x ≡ None in
    either P (is_case c && nat_lt (case_colon (end - (at + 1)) tokens end (at + 1) 0) end) (Some _) _
    (λ e. absurd (let k : is_case c ≡ true = (and_parts (is_case c) (nat_lt (case_colon (end - (at + 1)) tokens end (at + 1) 0) end) e).0 in
    let z : false ≡ true = sym case ∙ k in cc))
    (λ _. either P (is_colon (seen tokens end (at + 1))) _ None
    (λ _. either P (is_default c) (Some _) _
    (λ e. absurd (let z : false ≡ true = sym default ∙ e in cc))
    (λ _. either P (is_plain c && false) (Some _) None
    (λ e. absurd (let z : false ≡ true = (and_parts (is_plain c) false e).1 in cc))
    (λ _. refl)))
    (λ _. refl))

-- ## Blocks

abbrev brace_line : ℕ → ℕ → Form
brace_line at end =
    record {
      kind = Brace;
      level = 0;
      end = at;
      next = Opens false
          (record { block = true; context = Code; level = 1; case_level = 1; end = end; head = Plain; head_level = 0; assigned = false });
    }

abbrev extern_line : Braces → ℕ → ℕ → Form
extern_line braces at end =
    record {
      kind = ExternHead;
      level = 0;
      end = at + 2;
      next = Opens braces.after_extern
          (record { block = true; context = File; level = 0; case_level = 0; end = end; head = Plain; head_level = 0; assigned = false });
    }

brace_alike : (tokens : List CodeToken) (end whole at : ℕ) (told : Bool) → EndsBeforeWord tokens end whole → WayOn tokens end at Other told → at < end
    → is_open_brace (class_at tokens at) ≡ true → IsAlike tokens end (brace_line at (block_end tokens end at)) (brace_line at (block_end tokens whole at))
brace_alike tokens end whole at told ends way lt brace =
    let g = group_on tokens end at Other told way lt (brace_opens (class_at tokens at) brace) in
    record {
      same = ap (brace_line at) (blocks_alike tokens end whole at g.partner ends.order g.found);
      leaves = closing tokens end _ at g.partner Other g.told refl g.found g.way (λ e. cc) (inl (refl, inr refl));
    }

extern_alike : (braces : Braces) (tokens : List CodeToken) (end whole at : ℕ) (told : Bool) → EndsBeforeWord tokens end whole → WayOn tokens end at Other told
    → at < end → is_extern (class_at tokens at) ≡ true → is_text (seen tokens end (at + 1)) ≡ true → is_open_brace (seen tokens end (at + 2)) ≡ true
    → IsAlike tokens end (extern_line braces at (block_end tokens end (at + 2))) (extern_line braces at (block_end tokens whole (at + 2)))
extern_alike braces tokens end whole at told ends way lt extern text brace =
    let first = ordinary_on tokens end at Other told way lt (extern_ordinary (class_at tokens at) extern) in
    let t = seen_class is_text tokens end (at + 1) refl text in
    let two : at + 1 + 1 ≡ at + 2 = omega arith in
    let second = ordinary_on tokens end (at + 1) Other first.0 first.1 t.0 (text_ordinary (class_at tokens (at + 1)) t.1) in
    let b = seen_class is_open_brace tokens end (at + 2) refl brace in
    let g = group_on tokens end (at + 2) Other second.0 (subst (λ (x : ℕ). WayOn tokens end x Other second.0) two second.1) b.0
    (brace_opens (class_at tokens (at + 2)) b.1) in
    record {
      same = ap (extern_line braces at) (blocks_alike tokens end whole (at + 2) g.partner ends.order g.found);
      leaves = closing tokens end _ (at + 2) g.partner Other g.told refl g.found g.way (λ e. cc) (inl (refl, inr refl));
    }

-- ## Statements

and_same : (x y y' : Bool) → (x ≡ true → y ≡ y') → (x && y) ≡ (x && y')
and_same true y y' e = e refl
and_same false y y' e = refl

extern_seen : (tokens : List CodeToken) (end whole at : ℕ) → EndsBeforeWord tokens end whole → at < end
    → (is_extern (class_at tokens at) && (is_text (seen tokens end (at + 1)) && is_open_brace (seen tokens end (at + 2))))
    ≡ (is_extern (class_at tokens at) && (is_text (seen tokens whole (at + 1)) && is_open_brace (seen tokens whole (at + 2))))
extern_seen tokens end whole at ends lt =
    let word = ends.word in
    let order : end ≤ whole = ends.order in
    let text : is_text (seen tokens end (at + 1)) ≡ is_text (seen tokens whole (at + 1)) =
    seen_alike is_text tokens end whole (at + 1) refl (word_text (class_at tokens end) word) order (omega arith) in
    ap (λ (x : Bool). is_extern (class_at tokens at) && x)
    (and_same (is_text (seen tokens end (at + 1))) (is_open_brace (seen tokens end (at + 2))) (is_open_brace (seen tokens whole (at + 2))) (λ e.
    let t = seen_class is_text tokens end (at + 1) refl e in
    let next : at + 1 < end = t.0 in
    seen_alike is_open_brace tokens end whole (at + 2) refl (word_brace (class_at tokens end) word) order (omega arith))
    ∙ ap (λ (x : Bool). x && is_open_brace (seen tokens whole (at + 2))) text)

unlabelled_alike : (braces : Braces) (tokens : List CodeToken) (end whole at : ℕ) (told : Bool) → EndsBeforeWord tokens end whole
    → WayOn tokens end at Other told → at < end
    → IsAlike tokens end (unlabelled braces tokens (file_up_to end) at) (unlabelled braces tokens (file_up_to whole) at)
unlabelled_alike braces tokens end whole at told ends way lt =
    let Q : Form → Form → Type 0 = IsAlike tokens end in
    let c = class_at tokens at in
    let macro = macro_alike tokens end whole at told ends way lt in
    let line : ℕ → Form = λ m. record { kind = MacroLine; level = 0; end = m; next = Ends } in
    both Q (is_open_brace c) (is_open_brace c) _ _ _ _ refl
    (λ e. brace_alike tokens end whole at told ends way lt e)
    (λ _. both Q (is_extern c && (is_text (seen tokens end (at + 1)) && is_open_brace (seen tokens end (at + 2))))
    (is_extern c && (is_text (seen tokens whole (at + 1)) && is_open_brace (seen tokens whole (at + 2)))) _ _ _ _ (extern_seen tokens end whole at ends lt)
    (λ e.
    let k = and_parts (is_extern c) (is_text (seen tokens end (at + 1)) && is_open_brace (seen tokens end (at + 2))) e in
    let l = and_parts (is_text (seen tokens end (at + 1))) (is_open_brace (seen tokens end (at + 2))) k.1 in
    extern_alike braces tokens end whole at told ends way lt k.0 l.0 l.1)
    (λ _. both Q (nat_lt at (macro_end tokens end at)) (nat_lt at (macro_end tokens whole at)) (line (macro_end tokens end at))
    (other_form braces tokens (file_up_to end) false 0 at false) (line (macro_end tokens whole at))
    (other_form braces tokens (file_up_to whole) false 0 at false) (ap (nat_lt at) macro.0)
    (λ e. record { same = ap line macro.0; leaves = macro.1 e })
    (λ _. other_alike braces tokens end whole false 0 at told false ends way (λ e. cc))))

pub statement_alike : (braces : Braces) (tokens : List CodeToken) (end whole at : ℕ) (told : Bool) → EndsBeforeWord tokens end whole
    → WayOn tokens end at Other told → at < end
    → IsAlike tokens end (statement braces tokens (file_up_to end) at) (statement braces tokens (file_up_to whole) at)
statement_alike braces tokens end whole at told ends way lt =
    let Q : Form → Form → Type 0 = IsAlike tokens end in
    let c = class_at tokens at in
    let lost = or_parts (is_control c) (is_case c || is_default c) (step_of tokens end at Other told way lt).kept in
    let labels = or_parts (is_case c) (is_default c) lost.1 in
    let close : Form = record { kind = Close; level = 0; end = at + 1; next = Ends } in
    both Q (is_close_brace c && has_no_partner tokens at) (is_close_brace c && has_no_partner tokens at) close _ close _ refl
    (λ e.
    let k : is_close_brace c ≡ true = (and_parts (is_close_brace c) (has_no_partner tokens at) e).0 in
    let on = ordinary_on tokens end at Other told way lt (close_ordinary c k) in
    record { same = refl; leaves = fresh_at tokens end (at + 1) Other on.0 on.1 (λ w. cc) })
    (λ _. unlabelled_both Q (label braces tokens (file_up_to end) at) (label braces tokens (file_up_to whole) at) _ _
    (no_label braces tokens end at labels.0 labels.1) (no_label braces tokens whole at labels.0 labels.1)
    (both Q (is_control c) (is_control c) _ (unlabelled braces tokens (file_up_to end) at) _ (unlabelled braces tokens (file_up_to whole) at) refl
    (λ e. absurd (let z : false ≡ true = sym lost.0 ∙ e in cc))
    (λ _. unlabelled_alike braces tokens end whole at told ends way lt)))

-- ## Closed blocks

closed_quiet : (before : Before) → (before ≡ Body) ⊎ (before ≡ Other) → is_waiting before ≡ false
closed_quiet before (inl e) = ap is_waiting e
closed_quiet before (inr e) = ap is_waiting e

pub close_alike : (braces : Braces) (tokens : List CodeToken) (end whole : ℕ) (b : Open) (at : ℕ) → EndsBeforeWord tokens end whole → IsClosing tokens end b at
    → IsAlike tokens end (close_form braces tokens (file_up_to end) b at) (close_form braces tokens (file_up_to whole) b at)
close_alike braces tokens end whole b at ends closed = elim closed.heads [
  | inr tagged ↦
      both Q (is_tagged b.head) (is_tagged b.head) _ _ _ _ refl
      (λ _. other_alike braces tokens end whole true b.head_level at closed.told b.assigned ends
      (subst (λ (x : Before). WayOn tokens end (at + 1) x closed.told) tagged.1 closed.way) closed.imply)
      (λ e. absurd (let z : true ≡ false = sym (ap is_tagged tagged.0) ∙ e in cc))
  | inl plain ↦
      both Q (is_tagged b.head) (is_tagged b.head) _ _ _ _ refl
      (λ e. absurd (let z : false ≡ true = sym (ap is_tagged plain.0) ∙ e in cc))
      (λ _. both Q (is_do_head b.head && nat_lt (at + 1) (tail_end tokens end (at + 1)))
      (is_do_head b.head && nat_lt (at + 1) (tail_end tokens whole (at + 1))) _ _ _ _ (no_do plain.0 end ∙ sym (no_do plain.0 whole))
      (λ e. absurd (let z : false ≡ true = sym (no_do plain.0 end) ∙ e in cc))
      (λ _. both Q (is_semicolon (seen tokens end (at + 1))) (is_semicolon (seen tokens whole (at + 1))) (close (at + 2)) _ (close (at + 2)) _
      (seen_alike is_semicolon tokens end whole (at + 1) refl
      (word_semicolon (class_at tokens end) ends.word) ends.order (let q : at < end = closed.within_list in omega arith))
      (λ e.
      let t = seen_class is_semicolon tokens end (at + 1) refl e in
      let on = semicolon_on tokens end (at + 1) closed.before closed.told closed.way t.0 t.1 in
      let two : at + 1 + 1 ≡ at + 2 = omega arith in
      record { same = refl; leaves = subst (λ (x : ℕ). Stand tokens end Fresh x) two (fresh_at tokens end (at + 1 + 1) Semicolon on.0 on.1 (λ w. cc)) })
      (λ _. both Q (is_if_head b.head && is_else (seen tokens end (at + 1))) (is_if_head b.head && is_else (seen tokens whole (at + 1))) _ (close (at + 1)) _
      (close (at + 1)) (no_if plain.0 end ∙ sym (no_if plain.0 whole))
      (λ e. absurd (let z : false ≡ true = sym (no_if plain.0 end) ∙ e in cc))
      (λ _. record {
        same = refl;
        leaves = fresh_at tokens end (at + 1) closed.before closed.told closed.way
            (λ w. absurd (let z : false ≡ true = sym (closed_quiet closed.before plain.1) ∙ w in cc));
      }))))
]
  where
    Q : Form → Form → Type 0
    Q = IsAlike tokens end

    close : ℕ → Form
    close x = record { kind = Close; level = b.head_level; end = x; next = Ends }

    no_do : b.head ≡ Plain → (e : ℕ) → (is_do_head b.head && nat_lt (at + 1) (tail_end tokens e (at + 1))) ≡ false
    no_do plain e = and_left (is_do_head b.head) (nat_lt (at + 1) (tail_end tokens e (at + 1))) (ap is_do_head plain)

    no_if : b.head ≡ Plain → (e : ℕ) → (is_if_head b.head && is_else (seen tokens e (at + 1))) ≡ false
    no_if plain e = and_left (is_if_head b.head) (is_else (seen tokens e (at + 1))) (ap is_if_head plain)

-- ## Any line

pub form_alike : (braces : Braces) (tokens : List CodeToken) (end whole : ℕ) (start : Start) (at : ℕ) → EndsBeforeWord tokens end whole → at < end
    → Stand tokens end start at → IsAlike tokens end (form_of braces tokens (file_up_to end) start at) (form_of braces tokens (file_up_to whole) start at)
form_alike braces tokens end whole Fresh at ends lt (inl e) = absurd (omega arith)
form_alike braces tokens end whole Fresh at ends lt (inr stand) = statement_alike braces tokens end whole at stand.1.0 ends stand.1.1 lt
form_alike braces tokens end whole Tail at ends lt stand = absurd stand
form_alike braces tokens end whole (Closing b) at ends lt stand = close_alike braces tokens end whole b at ends stand
