use Rattle.std.proofs.Common.{◌≡◌, ◌∙◌, ℕ, true, List, drop, get_or, subst, sym, ap, arith}
use Rattle.std.specs.Prelude.{All}
use Rattle.line_tokens.specs.Columns.{end_of}
use Rattle.line_tokens.specs.Roles.{is_trailing}
use Rattle.line_tokens.specs.Tokens.{no_token}
use Rattle.replacements.specs.declared.slot.Slot.{Slot}
use Rattle.replacements.specs.Decisions.{decided_all}
use Rattle.run_layout.specs.OneRow.{IsShortRow, row_made}
use Rattle.run_layout.proofs.ShortRows.{none_stand}
use Rattle.run_layout.proofs.short_row.write_short_row.Goals as goal

pub returns-then-count-eq1-clause-plan : goal.returns-then-count-eq1-clause-plan
returns-then-count-eq1-clause-plan c =
    let tokens = c.args.tokens.now in
    let left = get_or tokens 0 no_token in
    let wait : All (λ token. is_trailing token.role ≡ true) (drop 1 tokens) = subst (λ n. All (λ token. is_trailing token.role ≡ true) (drop n tokens)) c.if-count-eq1.true c.requires.short.wait in
    let none = none_stand c.args.style.now (end_of left c.args.column) left (drop 1 tokens) wait in
    sym (ap (λ (made : List (ℕ × Slot)). decided_all c.args.plan.now made) none)

pub end_at-behind-requires : goal.end_at-behind-requires
end_at-behind-requires c = omega (arith, c.requires.short.some, c.requires.short.within)

pub write_behind-requires-clause-short : goal.write_behind-requires-clause-short
write_behind-requires-clause-short c = subst (λ x. IsShortRow c.args.tokens.now x c.args.count) (sym c.end_at-behind.ensures) c.requires.short

pub returns-clause-plan : goal.returns-clause-plan
returns-clause-plan c =
    let tokens = c.args.tokens.now in
    let left = get_or tokens 0 no_token in
    c.write_behind.ensures.plan ∙ ap (λ x. decided_all c.args.plan.now (row_made c.args.style.now x left (drop 1 tokens))) c.end_at-behind.ensures
