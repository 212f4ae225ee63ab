use Rattle.std.proofs.Common.{◌≡◌, ◌∙◌, ◌⊎◌, inl, inr, ◌<◌, ◌+◌, ℕ, get_or, sym, ap, arith}
use Rattle.std.proofs.lemmas.List.{get_or_default}
use Rattle.token_classes.specs.declared.class.TokenClass.{TokenClass}
use Rattle.view_parts.specs.Quiet.{is_quiet}
use Rattle.view_parts.proofs.ends.few_quiet.Goals as goal

earlier_or_here : (k n : ℕ) → k < n + 1 → (k < n) ⊎ (k ≡ n)
earlier_or_here k n below = grind (arith, below)

pub loop-count-preserved : goal.loop-count-preserved
loop-count-preserved c =
    let classes = c.args.classes.now in
    let n = c.loop-count.count in
    record {
      within = omega (arith, c.loop-count-test.true);
      quiet = λ k d below.
          elim (earlier_or_here k n below) [
            | inl earlier ↦ c.loop-count.invariant.quiet k d earlier
            | inr e ↦
                let same : get_or classes k d ≡ get_or classes n _ = ap (λ j. get_or classes j d) e ∙ get_or_default classes n d _ c.loop-count-test.true in
                ap (λ (class : TokenClass). is_quiet c.args.around c.args.held class) same ∙ (sym c.is_quiet.ensures ∙ c.if-is_quiet.true)
          ];
    }
