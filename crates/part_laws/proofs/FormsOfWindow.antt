-- Forms of lines in a list that ends among some tokens: the same wherever these tokens stand.
use Rattle.std.proofs.Common.{◌≡◌, ◌∙◌, ℕ, ◌+◌, ◌-◌, ◌<◌, ◌≤◌, nat_lt, nat_le, Bool, true, false, not, ◌&&◌, ◌||◌, Option, Some, None, List, length, refl, sym, ap, arith, ◌⊎◌, inl, inr}
use Rattle.std.proofs.lemmas.Bool.{cases_lt, le-leb, lt-leb, and_parts}
use Rattle.token_classes.specs.declared.class.TokenClass.{TokenClass}
use Rattle.token_classes.specs.declared.class.TokenClass.TheVariants.{Nothing}
use Rattle.token_classes.specs.Classes.{is_word, is_plain, is_open_brace, is_close_brace, is_colon, is_semicolon, is_while, is_do, is_else, is_if, is_switch, is_case, is_default, is_capital, is_control, is_extern, is_text}
use Rattle.line_tokens.specs.declared.line.LineKind.{LineKind}
use Rattle.line_tokens.specs.declared.line.LineKind.TheVariants.{Simple, CaseLabel, GotoLabel, Control, ExternHead, Brace, Close, Enumerator, MacroLine}
use Rattle.statement_lines.specs.declared.token.CodeToken.{CodeToken}
use Rattle.statement_lines.specs.declared.braces.Braces.{Braces}
use Rattle.statement_lines.specs.declared.open.Context.{Context}
use Rattle.statement_lines.specs.declared.open.Context.TheVariants.{Code, File}
use Rattle.statement_lines.specs.declared.open.Head.{Head}
use Rattle.statement_lines.specs.declared.open.Head.TheVariants.{If as IfHead, Do as DoHead, Switch as SwitchHead, Plain}
use Rattle.statement_lines.specs.declared.open.Open.{Open}
use Rattle.statement_lines.specs.declared.form.Next.{Next}
use Rattle.statement_lines.specs.declared.form.Next.TheVariants.{Ends, Goes, Waits, Opens}
use Rattle.statement_lines.specs.declared.form.Form.{Form}
use Rattle.statement_lines.specs.declared.form.Stop.{Stop}
use Rattle.statement_lines.specs.Forms.{class_at, seen, after_group, block_end, began_at, touched_at, is_code, is_switch_head, case_colon, statement_stop, tag_before, block_at, label_form, goto_level, label, header_end, head_of, label_level, control_block, behind_close, kind_or_close, control_form, tail_end, ends_macro, macro_end, tagged_kind, wraps_tagged, tagged_context, tagged_head, other_form, has_no_partner, enumerator_end, is_enumerators, is_do_head, is_if_head, is_tagged, unlabelled, statement, close_form, form_of}
use Rattle.part_laws.proofs.CodeCut.{open_behind, start_behind, file_up_to}
use Rattle.part_laws.proofs.Choices.{choose}
use Rattle.part_laws.proofs.Window.{group_there, block_there, colon_there, stop_behind, stop_there, tag_there, enumerator_there, IsWindow, lt_there, class_there, began_there, touched_there, seen_there, missing_there}
use Rattle.part_laws.proofs.FormsReach.{seen_within, stop_reaches, group_reaches}
use Rattle.statement_lines.specs.declared.open.Start.{Start}
use Rattle.statement_lines.specs.declared.open.Start.TheVariants.{Fresh, Tail, Closing}

-- ## What stands behind so many tokens

abbrev pub next_behind : ℕ → Next → Next
next_behind n Ends = Ends
next_behind n (Goes start) = Goes (start_behind n start)
next_behind n (Waits head) = Waits head
next_behind n (Opens wrapped block) = Opens wrapped (open_behind n block)

abbrev pub form_behind : ℕ → Form → Form
form_behind n form = record { kind = form.kind; level = form.level; end = n + form.end; next = next_behind n form.next }

abbrev pub maybe_behind : ℕ → Option Form → Option Form
maybe_behind n None = None
maybe_behind n (Some form) = Some (form_behind n form)

-- ## Blocks

block_at_there : {n : ℕ} {whole tokens : List CodeToken} → IsWindow n whole tokens → (end i : ℕ) (context : Context) (head : Head) (head_level level : ℕ)
    → end ≤ length tokens → block_at whole (n + end) (n + i) context head head_level level ≡ open_behind n (block_at tokens end i context head head_level level)
block_at_there {tokens = tokens} w end i context head head_level level most =
    ap (λ (x : ℕ). record (block_at tokens end i context head head_level level) { end = x }) (block_there w end i most)

-- the block of a brace at a place `k`, which is this many behind
pub block_from_there : {n : ℕ} {whole tokens : List CodeToken} → IsWindow n whole tokens
    → (end i k : ℕ) (context : Context) (head : Head) (head_level level : ℕ) → end ≤ length tokens → k ≡ n + i
    → block_at whole (n + end) k context head head_level level ≡ open_behind n (block_at tokens end i context head head_level level)
block_from_there {n} {whole} w end i k context head head_level level most same =
    ap (λ (x : ℕ). block_at whole (n + end) x context head head_level level) same ∙ block_at_there w end i context head head_level level most

control_block_there : {n : ℕ} {whole tokens : List CodeToken} → IsWindow n whole tokens → (braces : Braces) (end i : ℕ) (head : Head) (level : ℕ)
    → end ≤ length tokens → control_block braces whole (n + end) (n + i) head level ≡ open_behind n (control_block braces tokens end i head level)
control_block_there {n} {whole} {tokens} w braces end i head level most =
    choose (open_behind n) (is_switch_head head) (is_switch_head head) _ _ _ _ refl
    (λ _. ap (λ (x : ℕ). record (block_at tokens end i Code head level (label_level braces level + 1)) { case_level = label_level braces level; end = x })
    (block_there w end i most))
    (λ _. block_at_there w end i Code head level (level + 1) most)

-- ## Labels

label_form_there : {n : ℕ} {whole tokens : List CodeToken} → IsWindow n whole tokens → (o : Open) (kind : LineKind) (level : ℕ) (wrapped : Bool) (colon at : ℕ)
    → o.end ≤ length tokens → at ≡ n + colon
    → label_form whole (open_behind n o) kind level wrapped at ≡ form_behind n (label_form tokens o kind level wrapped colon)
label_form_there {n} {whole} {tokens} w o kind level wrapped colon at most same =
    let one : at + 1 ≡ n + (colon + 1) = omega (arith, same) in
    let made : ℕ → Form = λ k. record {
      kind = kind;
      level = level;
      end = k;
      next = elim (is_open_brace (seen whole (n + o.end) k)) as (λ _. Next) [
        | true ↦ Opens wrapped
            (block_at whole (n + o.end) k Code Plain level (level + 1))
        | false ↦ Ends
      ];
    } in
    let next : Next → Form = λ x. record { kind = kind; level = level; end = n + (colon + 1); next = x } in
    ap made one
    ∙ ap next
    (choose (next_behind n) (is_open_brace (seen whole (n + o.end) (n + (colon + 1)))) (is_open_brace (seen tokens o.end (colon + 1)))
    (Opens wrapped (block_at tokens o.end (colon + 1) Code Plain level (level + 1))) Ends
    (Opens wrapped (block_at whole (n + o.end) (n + (colon + 1)) Code Plain level (level + 1))) Ends (ap is_open_brace (seen_there w o.end (colon + 1) most))
    (λ _. ap (λ (b : Open). Opens wrapped b) (block_at_there w o.end (colon + 1) Code Plain level (level + 1) most))
    (λ _. refl))

pub label_there : {n : ℕ} {whole tokens : List CodeToken} → IsWindow n whole tokens → (braces : Braces) (o : Open) (at : ℕ) → o.end ≤ length tokens → at < o.end
    → label braces whole (open_behind n o) (n + at) ≡ maybe_behind n (label braces tokens o at)
label_there {n} {whole} {tokens} w braces o at most inside =
    let one : n + at + 1 ≡ n + (at + 1) = omega arith in
    let fuel : n + o.end - (n + at + 1) ≡ o.end - (at + 1) = omega arith in
    let here : class_at whole (n + at) ≡ class_at tokens at = class_there w at (omega arith) in
    let next : seen whole (n + o.end) (n + at + 1) ≡ seen tokens o.end (at + 1) = ap (seen whole (n + o.end)) one ∙ seen_there w o.end (at + 1) most in
    let colon : case_colon (n + o.end - (n + at + 1)) whole (n + o.end) (n + at + 1) 0 ≡ n + case_colon (o.end - (at + 1)) tokens o.end (at + 1) 0 =
    ap (λ (x : ℕ). case_colon x whole (n + o.end) (n + at + 1) 0) fuel
    ∙ (ap (λ (x : ℕ). case_colon (o.end - (at + 1)) whole (n + o.end) x 0) one ∙ colon_there w (o.end - (at + 1)) o.end (at + 1) 0 most) in
    let colon_here : ℕ = case_colon (o.end - (at + 1)) tokens o.end (at + 1) 0 in
    let cases : (is_case (class_at whole (n + at)) && nat_lt (case_colon (n + o.end - (n + at + 1)) whole (n + o.end) (n + at + 1) 0) (n + o.end)) ≡ (is_case
    (class_at tokens at) && nat_lt colon_here o.end) =
    ap (λ (c : TokenClass). is_case c && nat_lt (case_colon (n + o.end - (n + at + 1)) whole (n + o.end) (n + at + 1) 0) (n + o.end)) here
    ∙ (ap (λ (x : ℕ). is_case (class_at tokens at) && nat_lt x (n + o.end)) colon
    ∙ ap (λ (b : Bool). is_case (class_at tokens at) && b) (lt_there n colon_here o.end)) in
    choose (maybe_behind n) (is_case (class_at whole (n + at)) && nat_lt (case_colon (n + o.end - (n + at + 1)) whole (n + o.end) (n + at + 1) 0) (n + o.end))
    (is_case (class_at tokens at) && nat_lt colon_here o.end) _ _ _ _ cases
    (λ _. ap (λ (f : Form). Some f)
    (label_form_there w o CaseLabel o.case_level braces.after_case_label colon_here
    (case_colon (n + o.end - (n + at + 1)) whole (n + o.end) (n + at + 1) 0) most colon))
    (λ _. choose (maybe_behind n) (is_colon (seen whole (n + o.end) (n + at + 1))) (is_colon (seen tokens o.end (at + 1))) _ None _ None (ap is_colon next)
    (λ met. let more : at + 1 < o.end = seen_within is_colon tokens o.end (at + 1) refl met in
    choose (maybe_behind n) (is_default (class_at whole (n + at))) (is_default (class_at tokens at)) _ _ _ _ (ap is_default here)
    (λ _. ap (λ (f : Form). Some f) (label_form_there w o CaseLabel o.case_level braces.after_case_label (at + 1) (n + at + 1) most one))
    (λ _. choose (maybe_behind n) (is_plain (class_at whole (n + at)) && (is_code o.context && not (touched_at whole (n + at + 1))))
    (is_plain (class_at tokens at) && (is_code o.context && not (touched_at tokens (at + 1)))) _ None _ None
    (ap (λ (c : TokenClass). is_plain c && (is_code o.context && not (touched_at whole (n + at + 1)))) here
    ∙ ap (λ (b : Bool). is_plain (class_at tokens at) && (is_code o.context && not b)) (ap (touched_at whole) one ∙ touched_there w (at + 1) (omega arith)))
    (λ _. ap (λ (f : Form). Some f) (label_form_there w o GotoLabel (goto_level braces o) false (at + 1) (n + at + 1) most one))
    (λ _. refl)))
    (λ _. refl))

-- ## Headers

header_there : {n : ℕ} {whole tokens : List CodeToken} → IsWindow n whole tokens → (end at : ℕ) → end ≤ length tokens → at < length tokens
    → header_end whole (n + end) (n + at) ≡ n + header_end tokens end at
header_there {n} {whole} {tokens} w end at most inside =
    let one : n + at + 1 ≡ n + (at + 1) = omega arith in
    let two : n + at + 2 ≡ n + (at + 2) = omega arith in
    let here : class_at whole (n + at) ≡ class_at tokens at = class_there w at inside in
    choose (λ (x : ℕ). n + x) (is_do (class_at whole (n + at))) (is_do (class_at tokens at)) (at + 1) _ (n + at + 1) _ (ap is_do here)
    (λ _. one)
    (λ _. choose (λ (x : ℕ). n + x) (is_else (class_at whole (n + at))) (is_else (class_at tokens at)) _ (after_group tokens end (at + 1)) _
    (after_group whole (n + end) (n + at + 1)) (ap is_else here)
    (λ _. choose (λ (x : ℕ). n + x) (is_if (seen whole (n + end) (n + at + 1))) (is_if (seen tokens end (at + 1))) (after_group tokens end (at + 2)) (at + 1)
    (after_group whole (n + end) (n + at + 2)) (n + at + 1)
    (ap is_if (ap (seen whole (n + end)) one ∙ seen_there w end (at + 1) most))
    (λ _. ap (after_group whole (n + end)) two ∙ group_there w end (at + 2) most)
    (λ _. one))
    (λ _. ap (after_group whole (n + end)) one ∙ group_there w end (at + 1) most))

head_there : {n : ℕ} {whole tokens : List CodeToken} → IsWindow n whole tokens → (end at : ℕ) → end ≤ length tokens → at < length tokens
    → head_of whole (n + end) (n + at) ≡ head_of tokens end at
head_there {n} {whole} {tokens} w end at most inside =
    let one : n + at + 1 ≡ n + (at + 1) = omega arith in
    let here : class_at whole (n + at) ≡ class_at tokens at = class_there w at inside in
    let told : TokenClass → TokenClass → Head = λ c next. elim (is_if c || (is_else c && is_if next)) as (λ _. Head) [
      | true ↦ IfHead
      | false ↦
          elim (is_do c) as (λ _. Head) [
            | true ↦ DoHead
            | false ↦
                elim (is_switch c) as (λ _. Head) [ true ↦ SwitchHead | false ↦ Plain ]
          ]
    ] in
    ap (λ (c : TokenClass). told c (seen whole (n + end) (n + at + 1))) here
    ∙ ap (told (class_at tokens at)) (ap (seen whole (n + end)) one ∙ seen_there w end (at + 1) most)

from_there : (n : ℕ) (closes : Bool) (at : ℕ) → behind_close closes (n + at) ≡ n + behind_close closes at
from_there n true at = omega arith
from_there n false at = refl

pub control_there : {n : ℕ} {whole tokens : List CodeToken} → IsWindow n whole tokens → (braces : Braces) (o : Open) (closes : Bool) (level at : ℕ)
    → o.end ≤ length tokens → behind_close closes at < length tokens
    → control_form braces whole (open_behind n o) closes level (n + at) ≡ form_behind n (control_form braces tokens o closes level at)
control_there {n} {whole} {tokens} w braces o closes level at most inside =
    let from : ℕ = behind_close closes at in
    let made : ℕ → Head → Form = λ h head. record {
      kind = kind_or_close closes Control;
      level = level;
      end = h;
      next = elim (is_open_brace (seen whole (n + o.end) h)) as (λ _. Next) [
        | true ↦ Opens braces.after_control
            (control_block braces whole (n + o.end) h head level)
        | false ↦ Waits head
      ];
    } in
    let h : ℕ = header_end tokens o.end from in
    let head : Head = head_of tokens o.end from in
    ap (λ (k : ℕ). made (header_end whole (n + o.end) k) (head_of whole (n + o.end) k)) (from_there n closes at)
    ∙ (ap (λ (k : ℕ). made k (head_of whole (n + o.end) (n + from))) (header_there w o.end from most inside)
    ∙ (ap (made (n + h)) (head_there w o.end from most inside)
    ∙ ap (λ (x : Next). record { kind = kind_or_close closes Control; level = level; end = n + h; next = x })
    (choose (next_behind n) (is_open_brace (seen whole (n + o.end) (n + h))) (is_open_brace (seen tokens o.end h))
    (Opens braces.after_control (control_block braces tokens o.end h head level)) (Waits head)
    (Opens braces.after_control (control_block braces whole (n + o.end) (n + h) head level)) (Waits head) (ap is_open_brace (seen_there w o.end h most))
    (λ _. ap (λ (b : Open). Opens braces.after_control b) (control_block_there w braces o.end h head level most))
    (λ _. refl))))

-- ## Tails

pub tail_there : {n : ℕ} {whole tokens : List CodeToken} → IsWindow n whole tokens → (end i : ℕ) → end ≤ length tokens
    → tail_end whole (n + end) (n + i) ≡ n + tail_end tokens end i
tail_there {n} {whole} {tokens} w end i most =
    let one : n + i + 1 ≡ n + (i + 1) = omega arith in
    let g : ℕ = after_group tokens end (i + 1) in
    let group : after_group whole (n + end) (n + (i + 1)) ≡ n + g = group_there w end (i + 1) most in
    let made : TokenClass → ℕ → ℕ → ℕ =
    λ c j k. elim (is_while c && (nat_lt j k && is_semicolon (seen whole (n + end) k))) as (λ _. ℕ) [ true ↦ k + 1 | false ↦ n + i ] in
    ap (λ (c : TokenClass). made c (n + i + 1) (after_group whole (n + end) (n + i + 1))) (seen_there w end i most)
    ∙ (ap (λ (j : ℕ). made (seen tokens end i) j (after_group whole (n + end) j)) one
    ∙ (ap (made (seen tokens end i) (n + (i + 1))) group
    ∙ choose (λ (x : ℕ). n + x) (is_while (seen tokens end i) && (nat_lt (n + (i + 1)) (n + g) && is_semicolon (seen whole (n + end) (n + g))))
    (is_while (seen tokens end i) && (nat_lt (i + 1) g && is_semicolon (seen tokens end g))) (g + 1) i (n + g + 1) (n + i)
    (ap (λ (b : Bool). is_while (seen tokens end i) && (b && is_semicolon (seen whole (n + end) (n + g)))) (lt_there n (i + 1) g)
    ∙ ap (λ (c : TokenClass). is_while (seen tokens end i) && (nat_lt (i + 1) g && is_semicolon c)) (seen_there w end g most))
    (λ _. omega arith)
    (λ _. refl)))

-- ## Lines of macros

ends_there : {n : ℕ} {whole tokens : List CodeToken} → IsWindow n whole tokens → (i : ℕ) → i ≤ length tokens → ends_macro whole (n + i) ≡ ends_macro tokens i
ends_there {n} {whole} {tokens} w i most = by (cases_lt i (length tokens))
  where
    by : (i < length tokens) ⊎ (length tokens ≤ i) → ends_macro whole (n + i) ≡ ends_macro tokens i
    by (inl less) =
        let long = w.long in
        ap (λ (b : Bool). b || (began_at whole (n + i) && (is_word (class_at whole (n + i)) || is_close_brace (class_at whole (n + i)))))
        (lt-leb (length whole) (n + i) (omega arith) ∙ sym (lt-leb (length tokens) i less))
        ∙ (ap (λ (b : Bool). nat_le (length tokens) i || (b && (is_word (class_at whole (n + i)) || is_close_brace (class_at whole (n + i)))))
        (began_there w i less)
        ∙ ap (λ (c : TokenClass). nat_le (length tokens) i || (began_at tokens i && (is_word c || is_close_brace c))) (class_there w i less))
    by (inr past) =
        let last : i ≡ length tokens = omega arith in
        ap (λ (k : ℕ). ends_macro whole (n + k)) last
        ∙ (w.ends ∙ sym
        (ap (λ (b : Bool). b || (began_at tokens i && (is_word (class_at tokens i) || is_close_brace (class_at tokens i)))) (le-leb (length tokens) i past)))

pub macro_there : {n : ℕ} {whole tokens : List CodeToken} → IsWindow n whole tokens → (end at : ℕ) → end ≤ length tokens → at < end
    → macro_end whole (n + end) (n + at) ≡ n + macro_end tokens end at
macro_there {n} {whole} {tokens} w end at most inside =
    let one : n + at + 1 ≡ n + (at + 1) = omega arith in
    let g : ℕ = after_group tokens end (at + 1) in
    let group : after_group whole (n + end) (n + (at + 1)) ≡ n + g = group_there w end (at + 1) most in
    let low : g ≤ length tokens = omega (arith, most, (group_reaches tokens end (at + 1) (omega (arith, inside))).1) in
    let made : TokenClass → ℕ → ℕ → ℕ =
    λ c j k. elim (is_plain c && ((nat_lt j k || is_capital c) && ends_macro whole k)) as (λ _. ℕ) [ true ↦ k | false ↦ n + at ] in
    let c : TokenClass = class_at tokens at in
    ap (λ (c : TokenClass). made c (n + at + 1) (after_group whole (n + end) (n + at + 1))) (class_there w at (omega arith))
    ∙ (ap (λ (j : ℕ). made c j (after_group whole (n + end) j)) one
    ∙ (ap (made c (n + (at + 1))) group
    ∙ choose (λ (x : ℕ). n + x) (is_plain c && ((nat_lt (n + (at + 1)) (n + g) || is_capital c) && ends_macro whole (n + g)))
    (is_plain c && ((nat_lt (at + 1) g || is_capital c) && ends_macro tokens g)) g at (n + g) (n + at)
    (ap (λ (b : Bool). is_plain c && ((b || is_capital c) && ends_macro whole (n + g))) (lt_there n (at + 1) g)
    ∙ ap (λ (b : Bool). is_plain c && ((nat_lt (at + 1) g || is_capital c) && b)) (ends_there w g low))
    (λ _. refl)
    (λ _. refl)))

-- ## Other statements

-- the line of a statement that stops so, behind this tag, and the block that it opens up to this end
abbrev pub opened_line : Braces → Bool → ℕ → TokenClass → Stop → ℕ → Form
opened_line braces closes level tag s end = record {
  kind = kind_or_close closes (tagged_kind tag);
  level = level;
  end = s.at;
  next = Opens (wraps_tagged braces tag) (record (file_up_to end) {
    context = tagged_context tag;
    level = level + 1;
    case_level = level + 1;
    head = tagged_head tag;
    head_level = level;
    assigned = s.assigned;
  });
}

abbrev pub closed_line : Bool → ℕ → Stop → Form
closed_line closes level s = record { kind = kind_or_close closes Simple; level = level; end = s.at; next = Ends }

abbrev pub stopped : Braces → Bool → ℕ → TokenClass → Stop → ℕ → Form
stopped braces closes level tag s end = elim s.opens [ true ↦ opened_line braces closes level tag s end | false ↦ closed_line closes level s ]

pub other_there : {n : ℕ} {whole tokens : List CodeToken} → IsWindow n whole tokens
    → (braces : Braces) (o : Open) (closes : Bool) (level at : ℕ) (assigned : Bool) → o.end ≤ length tokens → behind_close closes at ≤ o.end
    → other_form braces whole (open_behind n o) closes level (n + at) assigned ≡ form_behind n (other_form braces tokens o closes level at assigned)
other_there {n} {whole} {tokens} w braces o closes level at assigned most inside =
    let from : ℕ = behind_close closes at in
    let s : Stop = statement_stop (o.end - from) tokens o.end from assigned in
    let low : s.at ≤ o.end = (stop_reaches (o.end - from) tokens o.end from assigned inside).most in
    let fuel : n + o.end - (n + from) ≡ o.end - from = omega arith in
    let back : n + s.at - (n + from) ≡ s.at - from = omega arith in
    let tag : tag_before (n + s.at - (n + from)) whole (n + from) (n + s.at) Nothing ≡ tag_before (s.at - from) tokens from s.at Nothing =
    ap (λ (k : ℕ). tag_before k whole (n + from) (n + s.at) Nothing) back ∙ tag_there w (s.at - from) from s.at Nothing (omega (arith, low, most)) in
    let made : Stop → TokenClass → Form = λ stop tag. stopped braces closes level tag stop (block_end whole (n + o.end) stop.at) in
    let tag_here : TokenClass = tag_before (s.at - from) tokens from s.at Nothing in
    ap (λ (k : ℕ). made (statement_stop (n + o.end - k) whole (n + o.end) k assigned)
    (tag_before ((statement_stop (n + o.end - k) whole (n + o.end) k assigned).at - k) whole k
    (statement_stop (n + o.end - k) whole (n + o.end) k assigned).at Nothing)) (from_there n closes at)
    ∙ (ap (λ (stop : Stop). made stop (tag_before (stop.at - (n + from)) whole (n + from) stop.at Nothing))
    (ap (λ (k : ℕ). statement_stop k whole (n + o.end) (n + from) assigned) fuel ∙ stop_there w (o.end - from) o.end from assigned most)
    ∙ (ap (made (stop_behind n s)) tag
    ∙ choose (form_behind n) s.opens s.opens _ _ _ _ refl
    (λ _. ap (λ (x : ℕ). opened_line braces closes level tag_here (stop_behind n s) x) (block_there w o.end s.at most))
    (λ _. refl)))

-- ## What line begins at a place

-- a line of this kind and level, which ends at a place, and what follows it
abbrev line_to : LineKind → ℕ → Next → ℕ → Form
line_to kind level next end = record { kind = kind; level = level; end = end; next = next }

-- a word and a group stand before a block
abbrev calls_block : List CodeToken → Open → TokenClass → ℕ → ℕ → Bool
calls_block tokens o c next g = is_code o.context && (is_plain c && (nat_lt next g && is_open_brace (seen tokens o.end g)))

calls_there : {n : ℕ} {whole tokens : List CodeToken} → IsWindow n whole tokens → (o : Open) (c : TokenClass) (next g : ℕ) (c' : TokenClass) (next' g' : ℕ)
    → o.end ≤ length tokens → c' ≡ c → next' ≡ n + next → g' ≡ n + g → calls_block whole (open_behind n o) c' next' g' ≡ calls_block tokens o c next g
calls_there {n} {whole} {tokens} w o c next g c' next' g' most class place group =
    ap (λ (k : TokenClass). calls_block whole (open_behind n o) k next' g') class
    ∙ (ap (λ (j : ℕ). calls_block whole (open_behind n o) c j g') place
    ∙ (ap (calls_block whole (open_behind n o) c (n + next)) group
    ∙ (ap (λ (b : Bool). is_code o.context && (is_plain c && (b && is_open_brace (seen whole (n + o.end) (n + g))))) (lt_there n next g)
    ∙ ap (λ (k : TokenClass). is_code o.context && (is_plain c && (nat_lt next g && is_open_brace k))) (seen_there w o.end g most))))

-- `extern` and a text stand before a block
abbrev opens_extern : TokenClass → TokenClass → TokenClass → Bool
opens_extern c next third = is_extern c && (is_text next && is_open_brace third)

extern_same : {c c' next next' third third' : TokenClass} → c' ≡ c → next' ≡ next → third' ≡ third → opens_extern c' next' third' ≡ opens_extern c next third
extern_same {c} {c'} {next} {next'} {third} {third'} one two three =
    ap (λ (k : TokenClass). opens_extern k next' third') one ∙ (ap (λ (k : TokenClass). opens_extern c k third') two ∙ ap (opens_extern c next) three)

unlabelled_there : {n : ℕ} {whole tokens : List CodeToken} → IsWindow n whole tokens → (braces : Braces) (o : Open) (at : ℕ) → o.end ≤ length tokens
    → at < o.end → unlabelled braces whole (open_behind n o) (n + at) ≡ form_behind n (unlabelled braces tokens o at)
unlabelled_there {n} {whole} {tokens} w braces o at most inside =
    let one : n + at + 1 ≡ n + (at + 1) = omega arith in
    let two : n + at + 2 ≡ n + (at + 2) = omega arith in
    let c : TokenClass = class_at tokens at in
    let here : class_at whole (n + at) ≡ c = class_there w at (omega arith) in
    let g : ℕ = after_group tokens o.end (at + 1) in
    let group : after_group whole (n + o.end) (n + at + 1) ≡ n + g = ap (after_group whole (n + o.end)) one ∙ group_there w o.end (at + 1) most in
    let m : ℕ = macro_end tokens o.end at in
    let macro : macro_end whole (n + o.end) (n + at) ≡ n + m = macro_there w o.end at most inside in
    let second : seen whole (n + o.end) (n + at + 1) ≡ seen tokens o.end (at + 1) = ap (seen whole (n + o.end)) one ∙ seen_there w o.end (at + 1) most in
    let third : seen whole (n + o.end) (n + at + 2) ≡ seen tokens o.end (at + 2) = ap (seen whole (n + o.end)) two ∙ seen_there w o.end (at + 2) most in
    choose (form_behind n) (calls_block whole (open_behind n o) (class_at whole (n + at)) (n + at + 1) (after_group whole (n + o.end) (n + at + 1)))
    (calls_block tokens o c (at + 1) g) _ _ _ _
    (calls_there w o c (at + 1) g (class_at whole (n + at)) (n + at + 1) (after_group whole (n + o.end) (n + at + 1)) most here one group)
    (λ _. ap (λ (j : ℕ). line_to Control o.level (Opens braces.after_control (block_at whole (n + o.end) j Code Plain o.level (o.level + 1))) j) group
    ∙ ap (λ (b : Open). line_to Control o.level (Opens braces.after_control b) (n + g))
    (block_from_there w o.end g (n + g) Code Plain o.level (o.level + 1) most refl))
    (λ _. choose (form_behind n) (is_open_brace (class_at whole (n + at))) (is_open_brace c) _ _ _ _ (ap is_open_brace here)
    (λ _. ap (λ (b : Open). line_to Brace o.level (Opens false b) (n + at))
    (block_from_there w o.end at (n + at) Code Plain o.level (o.level + 1) most refl))
    (λ _. choose (form_behind n) (opens_extern (class_at whole (n + at)) (seen whole (n + o.end) (n + at + 1)) (seen whole (n + o.end) (n + at + 2)))
    (opens_extern c (seen tokens o.end (at + 1)) (seen tokens o.end (at + 2))) _ _ _ _ (extern_same here second third)
    (λ _. ap (λ (j : ℕ). line_to ExternHead o.level (Opens braces.after_extern (block_at whole (n + o.end) j File Plain o.level o.level)) j) two
    ∙ ap (λ (b : Open). line_to ExternHead o.level (Opens braces.after_extern b) (n + (at + 2)))
    (block_from_there w o.end (at + 2) (n + (at + 2)) File Plain o.level o.level most refl))
    (λ _. choose (form_behind n) (nat_lt (n + at) (macro_end whole (n + o.end) (n + at))) (nat_lt at m) _ _ _ _ (ap (nat_lt (n + at)) macro ∙ lt_there n at m)
    (λ _. ap (line_to MacroLine o.level Ends) macro)
    (λ _. other_there w braces o false o.level at false most (omega (arith, inside))))))

-- what stands for a label, or another form where there is none
abbrev form_or : Form → Option Form → Form
form_or otherwise None = otherwise
form_or otherwise (Some form) = form

form_or_there : (n : ℕ) (otherwise : Form) (found : Option Form)
    → form_or (form_behind n otherwise) (maybe_behind n found) ≡ form_behind n (form_or otherwise found)
form_or_there n otherwise None = refl
form_or_there n otherwise (Some form) = refl

pub statement_there : {n : ℕ} {whole tokens : List CodeToken} → IsWindow n whole tokens → (braces : Braces) (o : Open) (at : ℕ) → o.end ≤ length tokens
    → at < o.end → statement braces whole (open_behind n o) (n + at) ≡ form_behind n (statement braces tokens o at)
statement_there {n} {whole} {tokens} w braces o at most inside =
    let c : TokenClass = class_at tokens at in
    let here : class_at whole (n + at) ≡ c = class_there w at (omega arith) in
    let one : n + at + 1 ≡ n + (at + 1) = omega arith in
    let fuel : n + o.end - (n + at) ≡ o.end - at = omega arith in
    let unlabelled_whole : Form = elim (is_control (class_at whole (n + at))) as (λ _. Form) [
      | true ↦ control_form braces whole (open_behind n o) false o.level (n + at)
      | false ↦ unlabelled braces whole (open_behind n o) (n + at)
    ] in
    let behind_label : Form =
    elim (is_control c) as (λ _. Form) [ true ↦ control_form braces tokens o false o.level at | false ↦ unlabelled braces tokens o at ] in
    choose (form_behind n) (is_enumerators o.context) (is_enumerators o.context) _ _ _ _ refl
    (λ _. ap (line_to Enumerator o.level Ends)
    (ap (λ (k : ℕ). enumerator_end k whole (n + o.end) (n + at)) fuel ∙ enumerator_there w (o.end - at) o.end at most))
    (λ _. choose (form_behind n) (is_close_brace (class_at whole (n + at)) && has_no_partner whole (n + at))
    (is_close_brace c && has_no_partner tokens at) _ _ _ _
    (ap (λ (k : TokenClass). is_close_brace k && has_no_partner whole (n + at)) here
    ∙ ap (λ (b : Bool). is_close_brace c && b) (missing_there w at (omega arith)))
    (λ _. ap (line_to Close o.level Ends) one)
    (λ _. ap (form_or unlabelled_whole) (label_there w braces o at most inside)
    ∙ (ap (λ (f : Form). form_or f (maybe_behind n (label braces tokens o at)))
    (choose (form_behind n) (is_control (class_at whole (n + at))) (is_control c) (control_form braces tokens o false o.level at)
    (unlabelled braces tokens o at) _ _ (ap is_control here)
    (λ _. control_there w braces o false o.level at most (omega arith))
    (λ _. unlabelled_there w braces o at most inside))
    ∙ form_or_there n behind_label (label braces tokens o at))))

pub close_there : {n : ℕ} {whole tokens : List CodeToken} → IsWindow n whole tokens → (braces : Braces) (o b : Open) (at : ℕ) → o.end ≤ length tokens
    → at < o.end → close_form braces whole (open_behind n o) (open_behind n b) (n + at) ≡ form_behind n (close_form braces tokens o b at)
close_there {n} {whole} {tokens} w braces o b at most inside =
    let one : n + at + 1 ≡ n + (at + 1) = omega arith in
    let two : n + at + 2 ≡ n + (at + 2) = omega arith in
    let t : ℕ = tail_end tokens o.end (at + 1) in
    let tail : tail_end whole (n + o.end) (n + at + 1) ≡ n + t = ap (tail_end whole (n + o.end)) one ∙ tail_there w o.end (at + 1) most in
    let next : seen whole (n + o.end) (n + at + 1) ≡ seen tokens o.end (at + 1) = ap (seen whole (n + o.end)) one ∙ seen_there w o.end (at + 1) most in
    let tailed : (is_do_head b.head && nat_lt (n + at + 1) (tail_end whole (n + o.end) (n + at + 1))) ≡ (is_do_head b.head && nat_lt (at + 1) t) =
    ap (λ (j : ℕ). is_do_head b.head && nat_lt (n + at + 1) j) tail
    ∙ (ap (λ (j : ℕ). is_do_head b.head && nat_lt j (n + t)) one ∙ ap (λ (x : Bool). is_do_head b.head && x) (lt_there n (at + 1) t)) in
    choose (form_behind n) (is_tagged b.head) (is_tagged b.head) _ _ _ _ refl
    (λ _. other_there w braces o true b.head_level at b.assigned most (omega (arith, inside)))
    (λ _. choose (form_behind n) (is_do_head b.head && nat_lt (n + at + 1) (tail_end whole (n + o.end) (n + at + 1)))
    (is_do_head b.head && nat_lt (at + 1) t) _ _ _ _ tailed
    (λ _. choose (form_behind n) braces.before_while braces.before_while _ _ _ _ refl
    (λ _. ap (line_to Close b.head_level (Goes Tail)) one)
    (λ _. ap (line_to Close b.head_level Ends) tail))
    (λ _. choose (form_behind n) (is_semicolon (seen whole (n + o.end) (n + at + 1))) (is_semicolon (seen tokens o.end (at + 1))) _ _ _ _ (ap is_semicolon next)
    (λ _. ap (line_to Close b.head_level Ends) two)
    (λ _. choose (form_behind n) (is_if_head b.head && is_else (seen whole (n + o.end) (n + at + 1)))
    (is_if_head b.head && is_else (seen tokens o.end (at + 1))) _ _ _ _ (ap (λ (k : TokenClass). is_if_head b.head && is_else k) next)
    (λ both. let more : at + 1 < o.end = seen_within is_else tokens o.end (at + 1) refl
    (and_parts (is_if_head b.head) (is_else (seen tokens o.end (at + 1))) both).1 in
    choose (form_behind n) braces.before_else braces.before_else _ _ _ _ refl
    (λ _. ap (line_to Close b.head_level (Goes Fresh)) one)
    (λ _. control_there w braces o true b.head_level at most (omega arith)))
    (λ _. ap (line_to Close b.head_level Ends) one))))

pub form_there : {n : ℕ} {whole tokens : List CodeToken} → IsWindow n whole tokens → (braces : Braces) (o : Open) (start : Start) (at : ℕ)
    → o.end ≤ length tokens → at < o.end
    → form_of braces whole (open_behind n o) (start_behind n start) (n + at) ≡ form_behind n (form_of braces tokens o start at)
form_there w braces o Fresh at most inside = statement_there w braces o at most inside
form_there {n} {whole} {tokens} w braces o Tail at most inside =
    let t : ℕ = tail_end tokens o.end at in
    let tail : tail_end whole (n + o.end) (n + at) ≡ n + t = tail_there w o.end at most in
    choose (form_behind n) (nat_lt (n + at) (tail_end whole (n + o.end) (n + at))) (nat_lt at t) _ _ _ _ (ap (nat_lt (n + at)) tail ∙ lt_there n at t)
    (λ _. ap (line_to Control o.level Ends) tail)
    (λ _. statement_there w braces o at most inside)
form_there w braces o (Closing b) at most inside = close_there w braces o b at most inside
