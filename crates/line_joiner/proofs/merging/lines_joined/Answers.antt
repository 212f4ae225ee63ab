use Rattle.std.proofs.Common.{◌≡◌, ◌∙◌, ◌-◌, ℕ, Bool, true, false, sym, refl, ap}
use Rattle.std.specs.Prelude.{if◌then◌else◌}
use Rattle.line_joiner.proofs.merging.lines_joined.Goals as goal

none_either_way : (joins : Bool) (more : ℕ) → more ≡ 0 → 0 ≡ (if joins then more else 0)
none_either_way true more none = sym none
none_either_way false more none = refl

pub returns-then-more-eq0 : goal.returns-then-more-eq0
returns-then-more-eq0 c = none_either_way _ _ (sym (c.saturating_sub-more.ensures ∙ ap (λ n. n - 1) c.lines_by_table.ensures) ∙ c.if-more-eq0.true)
