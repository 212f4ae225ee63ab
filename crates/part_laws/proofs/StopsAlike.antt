-- A statement outside brackets stops at the same place in a list that ends behind a declaration and in a longer one.
use Rattle.std.proofs.Common.{◌≡◌, ◌∙◌, ℕ, zero, suc, ◌+◌, ◌-◌, ◌<◌, ◌≤◌, nat_lt, Bool, true, false, not, ◌&&◌, ◌||◌, Option, Some, List, refl, arith, sym, ap, subst, inl, inr, ◌⊎◌}
use Rattle.std.specs.Prelude.{slice_get, if◌then◌else◌}
use Rattle.std.proofs.lemmas.Bool.{and_parts, or_cases, cases_Bool, cond_both, cond-true, cond-false, lt-ltb}
use Rattle.token_classes.specs.declared.class.TokenClass.{TokenClass}
use Rattle.token_classes.specs.declared.class.TokenClass.TheVariants.{Nothing, OpenBrace, CloseRound, CapitalWord, PlainWord, Semicolon as SemicolonClass}
use Rattle.token_classes.specs.Classes.{is_word, is_plain, is_opener, is_assigning, is_before_list, is_call_word, is_open_round, is_close_round, is_open_brace, is_semicolon}
use Rattle.statement_lines.specs.declared.token.CodeToken.{CodeToken}
use Rattle.statement_lines.specs.declared.form.Stop.{Stop}
use Rattle.statement_lines.specs.Forms.{class_at, class_before, partner_of, partner_in, behind, behind_partner, step_over, opens_list, opens_block, assigns, statement_stop, call_opener, tag_before, is_member_word}
use Rattle.statement_lines.proofs.ScanLemmas.{stop_step, tag_other}
use Rattle.part_laws.specs.Declarations.{Before, Name, Parameters, Semicolon, Body, Other, is_end}
use Rattle.part_laws.proofs.CodeCut.{behind_code, behind_opener, assigned_behind, Way, WayOn}
use Rattle.part_laws.proofs.WaySteps.{EndsBeforeWord, opener_code, other_code, semicolon_code}
use Rattle.part_laws.proofs.Choices.{either, at_true, at_false}
use Rattle.part_laws.proofs.PartnerPlaces.{partner_place, partner_longer}

-- ## Classes

pub semicolon_opens : (c : TokenClass) → is_semicolon c ≡ true → is_opener c ≡ false
semicolon_opens SemicolonClass h = refl
semicolon_opens _ h = cc

pub brace_opens : (c : TokenClass) → is_open_brace c ≡ true → is_opener c ≡ true
brace_opens OpenBrace h = refl
brace_opens _ h = cc

brace_round : (c : TokenClass) → is_open_brace c ≡ true → is_open_round c ≡ false
brace_round OpenBrace h = refl
brace_round _ h = cc

close_member : (c : TokenClass) → is_close_round c ≡ true → is_member_word c ≡ false
close_member CloseRound h = refl
close_member _ h = cc

close_word : (c : TokenClass) → is_close_round c ≡ true → is_word c ≡ false
close_word CloseRound h = refl
close_word _ h = cc

close_list : (c : TokenClass) → is_close_round c ≡ true → is_before_list c ≡ false
close_list CloseRound h = refl
close_list _ h = cc

plain_call : (c : TokenClass) → is_plain c ≡ true → is_call_word c ≡ false
plain_call CapitalWord h = refl
plain_call PlainWord h = refl
plain_call _ h = cc

-- ## What is known of the tokens before

abbrev pub Known : List CodeToken → ℕ → ℕ → Before → Type 0
Known tokens first at Name = (first < at) × (is_plain (class_at tokens (at - 1)) ≡ true)
Known tokens first at Parameters = (first < at) × ((is_close_round (class_at tokens (at - 1)) ≡ true) × (call_opener tokens first at ≡ 0))
Known tokens first at _ = Unit {0}

-- no call word stands before the group that ends here
no_call : (tokens : List CodeToken) (first at p : ℕ) → partner_of (slice_get tokens p) ≡ Some at → is_call_word (class_at tokens (at - 1)) ≡ false
    → call_opener tokens first (p + 1) ≡ 0
no_call tokens first at p mine call =
    let place : p + 1 - 1 ≡ p = omega arith in
    let found : ℕ → ℕ = λ o. elim (nat_lt 0 o && is_call_word (class_at tokens (o - 1))) as (λ _. ℕ) [ true ↦ o | false ↦ 0 ] in
    let here : (o : ℕ) → (o ≡ at) ⊎ (o ≡ 0) → found o ≡ 0 = λ o d. elim d [
      | inl e ↦ at_false (nat_lt 0 o && is_call_word (class_at tokens (o - 1))) o 0
          (ap (λ x. nat_lt 0 x && is_call_word (class_at tokens (x - 1))) e ∙ and_none (nat_lt 0 at) (is_call_word (class_at tokens (at - 1))) call)
      | inr e ↦ ap found e
    ] in
    let opener : (behind first p (Some at) ≡ at) ⊎ (behind first p (Some at) ≡ 0) =
    either (λ (x : ℕ). (x ≡ at) ⊎ (x ≡ 0)) (nat_lt first at && nat_lt at p) at 0 (λ _. inl refl) (λ _. inr refl) in
    let Q : ℕ → Type 0 =
    λ i. (elim (is_close_round (class_at tokens i)) as (λ _. ℕ) [ false ↦ 0 | true ↦ found (behind first i (partner_of (slice_get tokens i))) ]) ≡ 0 in
    let R : Option ℕ → Type 0 = λ o. (elim (is_close_round (class_at tokens p)) as (λ _. ℕ) [ false ↦ 0 | true ↦ found (behind first p o) ]) ≡ 0 in
    let group : R (Some at) = either (λ (x : ℕ). x ≡ 0) (is_close_round (class_at tokens p)) (found (behind first p (Some at))) 0
    (λ _. here (behind first p (Some at)) opener) (λ _. refl) in
    subst Q (sym place) (subst R (sym mine) group)
  where
    and_none : (x y : Bool) → y ≡ false → (x && y) ≡ false
    and_none true y e = e
    and_none false y e = refl

class_before_is : (tokens : List CodeToken) (first at : ℕ) → first < at → class_before tokens at ≡ class_at tokens (at - 1)
class_before_is tokens first at h = at_true (nat_lt 0 at) (class_at tokens (at - 1)) Nothing (lt-ltb 0 at (omega arith))

-- a `{` behind parameters opens a block where no `=` stands before
body_opens : (tokens : List CodeToken) (first at : ℕ) → Known tokens first at Parameters → is_open_brace (class_at tokens at) ≡ true
    → opens_block tokens false at ≡ true
body_opens tokens first at known brace =
    let c = class_at tokens (at - 1) in
    let close : is_close_round c ≡ true = known.1.0 in
    let list : is_before_list c ≡ false = close_list c close in
    ap (λ (x : TokenClass). is_open_brace (class_at tokens at) && not (is_before_list x || (is_close_round x && false)))
    (class_before_is tokens first at known.0)
    ∙ (ap (λ (b : Bool). is_open_brace (class_at tokens at) && not (b || (is_close_round c && false))) list
    ∙ (ap (λ (b : Bool). is_open_brace (class_at tokens at) && not (b && false)) close
    ∙ ap (λ (b : Bool). b && true) brace))

-- such a block is no struct, union or enum
body_tag : (tokens : List CodeToken) (first at k : ℕ) → Known tokens first at Parameters → at - first ≤ k → tag_before k tokens first at Nothing ≡ Nothing
body_tag tokens first at k known enough =
    let c = class_at tokens (at - 1) in
    tag_other k tokens first at Nothing known.0 enough (close_member c known.1.0) (close_word c known.1.0) known.1.1

-- what stands behind the block of a `{`
abbrev pub BehindBrace : List CodeToken → ℕ → ℕ → Before → Type 0
BehindBrace tokens first at before = (before ≡ Other) ⊎ ((before ≡ Body) × ((k : ℕ) → at - first ≤ k → tag_before k tokens first at Nothing ≡ Nothing))

behind_brace : (tokens : List CodeToken) (first at : ℕ) (told : Bool) (before : Before) (c : TokenClass) → is_open_brace c ≡ true
    → Known tokens first at before → BehindBrace tokens first at (behind_opener told before c)
behind_brace tokens first at told Name c brace known = inl (cond-false (is_open_round c) Parameters Other (brace_round c brace))
behind_brace tokens first at told Parameters c brace known =
    cond_both (is_open_brace c && not told) Body Other (BehindBrace tokens first at) (λ e. inr (refl, λ k enough. body_tag tokens first at k known enough))
    (λ e. inl refl)
behind_brace tokens first at told _ c brace known = inl refl

-- what stands behind a group that opens no block
behind_group : (tokens : List CodeToken) (first at p : ℕ) (told assigned : Bool) (before : Before) → first ≤ at → at < p
    → (is_open_round (class_at tokens at) ≡ true → (is_close_round (class_at tokens p) ≡ true) × (partner_of (slice_get tokens p) ≡ Some at))
    → (assigned ≡ true → told ≡ true) → opens_block tokens assigned at ≡ false → Known tokens first at before
    → (is_end (behind_opener told before (class_at tokens at)) ≡ false) × Known tokens first (p + 1) (behind_opener told before (class_at tokens at))
behind_group tokens first at p told assigned Name low up pair imply block known =
    let one : p ≡ p + 1 - 1 = omega arith in
    cond_both (is_open_round (class_at tokens at)) Parameters Other (λ (b : Before). (is_end b ≡ false) × Known tokens first (p + 1) b)
    (λ e.
    let closes = subst (λ (x : ℕ). is_close_round (class_at tokens x) ≡ true) one (pair e).0 in
    let call = no_call tokens first at p (pair e).1 (plain_call (class_at tokens (at - 1)) known.1) in
    (refl, (omega arith, (closes, call))))
    (λ e. (refl, tt))
behind_group tokens first at p told assigned Parameters low up pair imply block known =
    cond_both (is_open_brace (class_at tokens at) && not told) Body Other (λ (b : Before). (is_end b ≡ false) × Known tokens first (p + 1) b)
    (λ e. absurd (elim (cases_Bool assigned) [
      | inl a ↦
          (let t : told ≡ true = imply a in let n : not told ≡ true = (and_parts (is_open_brace (class_at tokens at)) (not told) e).1 in
          let z : false ≡ true = sym (ap not t) ∙ n in cc)
      | inr a ↦
          (let b : opens_block tokens false at ≡ true = body_opens tokens first at known (and_parts (is_open_brace (class_at tokens at)) (not told) e).0 in
          let n : opens_block tokens false at ≡ false = subst (λ (x : Bool). opens_block tokens x at ≡ false) a block in let z : false ≡ true = sym n ∙ b in cc)
    ]))
    (λ e. (refl, tt))
behind_group tokens first at p told assigned _ low up pair imply block known = (refl, tt)

-- an assignment of the statement stands behind the last `;`
imply_next : (tokens : List CodeToken) (at : ℕ) (told assigned : Bool) → (assigned ≡ true → told ≡ true) → is_semicolon (class_at tokens at) ≡ false
    → assigns tokens assigned at ≡ true → assigned_behind told (class_at tokens at) ≡ true
imply_next tokens at told assigned imply semi e =
    let c = class_at tokens at in
    cond-false (is_semicolon c) false (if is_assigning c then true else told) semi
    ∙ elim (or_cases assigned (is_assigning c) e) [
      | inl a ↦ cond_both (is_assigning c) true told (λ (x : Bool). x ≡ true) (λ _. refl) (λ _. imply a)
      | inr a ↦ cond-true (is_assigning c) true told a
    ]

-- ## Stops

semicolon_stop : (k : ℕ) (tokens : List CodeToken) (end at : ℕ) (a : Bool) → at < end → end - at ≤ k → is_semicolon (class_at tokens at) ≡ true
    → statement_stop k tokens end at a ≡ record { at = at + 1; opens = false; assigned = a }
semicolon_stop zero tokens end at a lt enough semi = absurd (omega arith)
semicolon_stop (suc k) tokens end at a lt enough semi = rw (lt-ltb at end lt, semi, statement_stop) refl

brace_stop : (k : ℕ) (tokens : List CodeToken) (end at : ℕ) (a : Bool) → at < end → end - at ≤ k → is_semicolon (class_at tokens at) ≡ false
    → opens_block tokens a at ≡ true → statement_stop k tokens end at a ≡ record { at = at; opens = true; assigned = a }
brace_stop zero tokens end at a lt enough semi opens = absurd (omega arith)
brace_stop (suc k) tokens end at a lt enough semi opens = rw (lt-ltb at end lt, semi, opens, statement_stop) refl

over_group : (tokens : List CodeToken) (end at p : ℕ) → is_opener (class_at tokens at) ≡ true → partner_in tokens end at ≡ Some p
    → p + 1 ≡ step_over tokens end at
over_group tokens end at p o e =
    sym (at_true (is_opener (class_at tokens at)) (behind_partner end (partner_in tokens end at)) (at + 1) o ∙ ap (behind_partner end) e)

over_one : (tokens : List CodeToken) (end at : ℕ) → is_opener (class_at tokens at) ≡ false → at + 1 ≡ step_over tokens end at
over_one tokens end at o = sym (at_false (is_opener (class_at tokens at)) (behind_partner end (partner_in tokens end at)) (at + 1) o)

-- the brace of a block at a place outside brackets
pub record OpensAt (tokens : List CodeToken) (end first at : ℕ) (assigned : Bool) : Type 0 where
  pub partner : ℕ
  pub found : partner_in tokens end at ≡ Some partner
  pub before : Before
  pub told : Bool
  pub way : WayOn tokens end (partner + 1) before told
  pub imply : assigned ≡ true → told ≡ true
  pub behind_it : BehindBrace tokens first at before

-- both lists stop there, and the way goes on
pub record StopAlike (tokens : List CodeToken) (end first : ℕ) (s t : Stop) : Type 0 where
  pub same : s ≡ t
  pub ends : s.opens ≡ false → WayOn tokens end s.at Semicolon false
  pub opens : s.opens ≡ true → OpensAt tokens end first s.at s.assigned

moved : (tokens : List CodeToken) (end first : ℕ) (s s' t t' : Stop) → s' ≡ s → t' ≡ t → StopAlike tokens end first s' t' → StopAlike tokens end first s t
moved tokens end first s s' t t' e f h = subst (λ (x : Stop). StopAlike tokens end first s x) f (subst (λ (x : Stop). StopAlike tokens end first x t') e h)

pub stop_alike : (n : ℕ) (tokens : List CodeToken) (end whole first at : ℕ) (before : Before) (told assigned : Bool) (k m : ℕ)
    → EndsBeforeWord tokens end whole → Way n tokens end at before told → is_end before ≡ false
    → (assigned ≡ true → told ≡ true) → Known tokens first at before → first ≤ at → end - at ≤ k → whole - at ≤ m
    → StopAlike tokens end first (statement_stop k tokens end at assigned) (statement_stop m tokens whole at assigned)
stop_alike zero tokens end whole first at before told assigned k m ends way unended imply known low few many =
    absurd (let e : is_end before ≡ true = way.1 in cc)
stop_alike (suc n) tokens end whole first at before told assigned k m ends (inl out) unended imply known low few many =
    absurd (let e : is_end before ≡ true = out.1 in cc)
stop_alike (suc n) tokens end whole first at before told assigned k m ends (inr on) unended imply known low few many =
    let c = class_at tokens at in
    let lt : at < end = on.0 in
    let order : end ≤ whole = ends.order in
    let wide : at < whole = omega arith in
    elim (cases_Bool (is_semicolon c)) [
      | inl semi ↦
          let stop : Stop = record { at = at + 1; opens = false; assigned = assigned } in
          let alone : is_opener c ≡ false = semicolon_opens c semi in
          let way : WayOn tokens end (at + 1) Semicolon false = elim on.1.1 [
            | inl group ↦ absurd (let e : is_opener c ≡ true = group.0 in cc)
            | inr one ↦
                let none = cond-true (is_semicolon c) false (if is_assigning c then true else told) semi in
                let unassigned = subst (λ (a : Bool). Way n tokens end (at + 1) (behind_code told before c) a) none one.1 in
                (n, subst (λ (b : Before). Way n tokens end (at + 1) b false) (semicolon_code told before c alone semi) unassigned)
          ] in
          moved tokens end first _ stop _ stop (sym (semicolon_stop k tokens end at assigned lt few semi))
          (sym (semicolon_stop m tokens whole at assigned wide many semi)) (record { same = refl; ends = λ _. way; opens = λ e. cc })
      | inr semi ↦ elim (cases_Bool (opens_block tokens assigned at)) [
        | inl block ↦
            let stop : Stop = record { at = at; opens = true; assigned = assigned } in
            let brace : is_open_brace c ≡ true = (and_parts (is_open_brace c) (not (opens_list tokens assigned at)) block).0 in
            let opens : OpensAt tokens end first at assigned = elim on.1.1 [
              | inl group ↦ record {
                partner = group.1.0;
                found = group.1.1.0;
                before = behind_opener told before c;
                told = assigned_behind told c;
                way = (n, subst (λ (b : Before). Way n tokens end (group.1.0 + 1) b (assigned_behind told c)) (opener_code told before c group.0) group.1.1.1);
                imply = λ a. brace_told told c brace ∙ imply a;
                behind_it = behind_brace tokens first at told before c brace known;
              }
              | inr one ↦ absurd (let e : is_opener c ≡ false = one.0 in let f : is_opener c ≡ true = brace_opens c brace in cc)
            ] in
            moved tokens end first _ stop _ stop (sym (brace_stop k tokens end at assigned lt few semi block))
            (sym (brace_stop m tokens whole at assigned wide many semi block)) (record { same = refl; ends = λ e. cc; opens = λ _. opens })
        | inr block ↦ elim on.1.1 [
          | inl group ↦
              let p = group.1.0 in
              let place = partner_place tokens end at p group.1.1.0 in
              let up : at < p = place.0 in
              let s = stop_step k tokens end at (p + 1) assigned (assigns tokens assigned at) (statement_stop k tokens end at assigned) lt
              (omega arith) few semi block (over_group tokens end at p group.0 group.1.1.0) refl refl in
              let t = stop_step m tokens whole at (p + 1) assigned (assigns tokens assigned at) (statement_stop m tokens whole at assigned) wide
              (omega arith) many semi block (over_group tokens whole at p group.0 (partner_longer tokens end whole at p order group.1.1.0)) refl refl in
              let next = behind_group tokens first at p told assigned before low up (λ e. ends.paired at p e group.1.1.0) imply block known in
              moved tokens end first _ _ _ _ s.1.1 t.1.1
              (stop_alike n tokens end whole first (p + 1) (behind_opener told before c) (assigned_behind told c) (assigns tokens assigned at) s.0 t.0 ends
              (subst (λ (b : Before). Way n tokens end (p + 1) b (assigned_behind told c)) (opener_code told before c group.0) group.1.1.1)
              next.0 (imply_next tokens at told assigned imply semi) next.1 (omega arith) s.1.0 t.1.0)
          | inr one ↦
              let s = stop_step k tokens end at (at + 1) assigned (assigns tokens assigned at) (statement_stop k tokens end at assigned) lt
              (omega arith) few semi block (over_one tokens end at one.0) refl refl in
              let t = stop_step m tokens whole at (at + 1) assigned (assigns tokens assigned at) (statement_stop m tokens whole at assigned) wide
              (omega arith) many semi block (over_one tokens whole at one.0) refl refl in
              let next = behind_one tokens first at low in
              moved tokens end first _ _ _ _ s.1.1 t.1.1
              (stop_alike n tokens end whole first (at + 1) (if is_plain c then Name else Other) (assigned_behind told c)
              (assigns tokens assigned at) s.0 t.0 ends
              (subst (λ (b : Before). Way n tokens end (at + 1) b (assigned_behind told c)) (other_code told before c one.0 semi) one.1)
              next.0 (imply_next tokens at told assigned imply semi) next.1 (omega arith) s.1.0 t.1.0)
        ]
      ]
    ]
  where
    behind_one : (tokens : List CodeToken) (first at : ℕ) → first ≤ at → (is_end (if is_plain (class_at tokens at) then Name else Other) ≡ false)
        × Known tokens first (at + 1) (if is_plain (class_at tokens at) then Name else Other)
    behind_one tokens first at low =
        let one : at ≡ at + 1 - 1 = omega arith in
        cond_both (is_plain (class_at tokens at)) Name Other (λ (b : Before). (is_end b ≡ false) × Known tokens first (at + 1) b)
        (λ e. (refl, (omega arith, subst (λ (x : ℕ). is_plain (class_at tokens x) ≡ true) one e)))
        (λ e. (refl, tt))

    brace_told : (told : Bool) (c : TokenClass) → is_open_brace c ≡ true → assigned_behind told c ≡ told
    brace_told told OpenBrace h = refl
    brace_told told _ h = cc
