-- Without a limit of columns one breaking is admissible.
use Rattle.std.proofs.Common.{◌≡◌, ◌∙◌, Bool, true, false, not, Option, Some, None, List, [], ◌∷◌, refl, sym, ap, arith}
use Rattle.std.proofs.Common.{subst}
use Rattle.std.specs.Prelude.{if◌then◌else◌}
use Rattle.line_state.specs.Choices.{Leads}
use Rattle.style_table.specs.declared.style.Style.{Style}
use Rattle.line_tokens.specs.declared.Fixed.{Fixed}
use Rattle.layout_tables.specs.Breaks.{gap_rule}
use Rattle.layout_tables.proofs.Needs.{no_choice}
use Rattle.line_state.specs.declared.gap.Gap.{Gap}
use Rattle.line_state.specs.Layout.{Layout, is_allowed, as_decided, keeps_frame_rules, layout_after}
use Rattle.line_state.specs.Line.{Step}
use Rattle.line_state.proofs.Steps.{is_gap, placing}
use Rattle.run_layout.specs.Laws.{OneBreakingIsAdmissible}

forced_by : (fixed : Option Fixed) (must can one other : Bool) (rules : Bool → Bool) → (must ≡ false → can ≡ false)
    → as_decided fixed one (if must then one else (if can then rules one else not one)) ≡ true
    → as_decided fixed other (if must then other else (if can then rules other else not other)) ≡ true → one ≡ other
forced_by (Some fixed) must can one other rules none h k = by_flag fixed.broken one other h k
  where
    by_flag : (broken x y : Bool) → (if broken then x else not x) ≡ true → (if broken then y else not y) ≡ true → x ≡ y
    by_flag true x y h k = h ∙ sym k
    by_flag false true y h k = cc
    by_flag false false true h k = cc
    by_flag false false false h k = refl
forced_by None true can one other rules none h k = h ∙ sym k
forced_by None false true one other rules none h k = let never : true ≡ false = none refl in cc
forced_by None false false true other rules none h k = cc
forced_by None false false false true rules none h k = cc
forced_by None false false false false rules none h k = refl

forced : (style : Style) (layout : Layout) (gap : Gap) (one other : Bool) → style.column_limit ≡ 0 → gap.first ≡ false → is_allowed style layout gap one ≡ true → is_allowed style layout gap other ≡ true → one ≡ other
forced style layout gap one other none first h k = by_first gap.first first h k
  where
    by_first : (f : Bool) → f ≡ false
        → (if f then one else as_decided gap.fixed one (if (gap_rule style gap.left gap.right).must then one else (if (gap_rule style gap.left gap.right).can then keeps_frame_rules style layout gap one else not one))) ≡ true
        → (if f then other else as_decided gap.fixed other (if (gap_rule style gap.left gap.right).must then other else (if (gap_rule style gap.left gap.right).can then keeps_frame_rules style layout gap other else not other))) ≡ true
        → one ≡ other
    by_first true f h k = cc
    by_first false f h k =
        forced_by gap.fixed (gap_rule style gap.left gap.right).must (gap_rule style gap.left gap.right).can one other (λ b. keeps_frame_rules style layout gap b) (no_choice style gap.left gap.right none) h k

some_same : {A : Type 0} (x y : A) → Some x ≡ Some y → x ≡ y
some_same x y e = cc

pub one_breaking : OneBreakingIsAdmissible
one_breaking l s t u [] [] cost paid none e h k = refl
one_breaking l s t u [] (b ∷ bs) cost paid none e h k = absurd (omega (arith, e))
one_breaking l s t u (b ∷ bs) [] cost paid none e h k = absurd (omega (arith, e))
one_breaking l s t u (b ∷ bs) (c ∷ cs) cost paid none e h k =
    let p = placing l s b h.0 h.1 h.3 in
    let q = placing l s c k.0 k.1 k.3 in
    let g = is_gap l s.index p.gap p.at in
    let gap : p.gap ≡ q.gap = some_same p.gap q.gap (sym p.at ∙ q.at) in
    let allowed : is_allowed l.style s p.gap c ≡ true = ap (λ (x : Gap). is_allowed l.style s x c) gap ∙ q.allowed in
    let same : b ≡ c = forced l.style s p.gap b c none g.first p.allowed allowed in
    let layout : k.0 ≡ h.0 = sym q.layout ∙ (ap (λ (x : Gap). layout_after l.style s x c) (sym gap) ∙ (ap (λ (x : Bool). layout_after l.style s p.gap x) (sym same) ∙ p.layout)) in
    let rest : bs ≡ cs = one_breaking l h.0 t u bs cs h.2 k.2 none (omega (arith, e)) h.4 (subst (λ (x : Layout). Leads (Step l) x cs u k.2) layout k.4) in
    ap (λ (x : Bool). x ∷ bs) same ∙ ap (λ (xs : List Bool). c ∷ xs) rest
