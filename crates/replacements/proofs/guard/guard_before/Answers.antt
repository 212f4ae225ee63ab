use Rattle.std.proofs.Common.{◌≡◌, ◌∙◌, ◌+◌, ◌-◌, ap, arith, sym}
use Rattle.token_arena.specs.Entries.{told_by}
use Rattle.replacements.specs.Guards.{guard_before}
use Rattle.replacements.proofs.Items.{guard_next}
use Rattle.replacements.proofs.guard.guard_before.Goals as goal

pub returns-then-place-eq0 : goal.returns-then-place-eq0
returns-then-place-eq0 c = ap (λ n. guard_before c.args.arena.now.tokens n) (sym c.if-place-eq0.true)

pub returns : goal.returns
returns c =
    let tokens = c.args.arena.now.tokens in
    let next : c.args.place - 1 + 1 ≡ c.args.place = omega (arith, c.if-place-eq0.false) in
    c.guard_of.ensures ∙ (sym (guard_next tokens (c.args.place - 1) (told_by c.get.result) c.get.ensures) ∙ ap (λ n. guard_before tokens n) next)
