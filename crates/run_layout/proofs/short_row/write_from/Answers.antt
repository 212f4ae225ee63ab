use Rattle.std.proofs.Common.{◌≡◌, ◌∙◌, ◌+◌, ◌-◌, ◌<◌, Some, List, drop, get_or, length, slice_get, sym, ap, arith}
use Rattle.std.proofs.Math.ListN.{drop_of_length-le}
use Rattle.std.proofs.lemmas.Option.{slice_get-get_or}
use Rattle.line_tokens.specs.Tokens.{no_token}
use Rattle.line_tokens.specs.declared.LineTok.{LineTok}
use Rattle.layout_tables.specs.Told.{group_behind}
use Rattle.replacements.specs.Decisions.{decided_all}
use Rattle.run_layout.specs.OneRow.{row_made}
use Rattle.run_layout.proofs.RowSteps.{row_written}
use Rattle.run_layout.proofs.short_row.write_from.Goals as goal

pub write_stay-requires-clause-small : goal.write_stay-requires-clause-small
write_stay-requires-clause-small c =
    let at = c.loop-at.at in
    let tokens = c.args.tokens.now in
    let inside : at < length tokens = omega (arith, c.loop-at-test.true, c.len-at-end.ensures) in
    omega (arith, c.requires.within at no_token inside, c.loop-at.invariant.len)

pub loop-at-preserved : goal.loop-at-preserved
loop-at-preserved c =
    let v = c.loop-at.invariant in
    let at = c.loop-at.at in
    let tokens = c.args.tokens.now in
    let left = get_or tokens (at - 1) no_token in
    let right = get_or tokens at no_token in
    let inside : at < length tokens = omega (arith, c.loop-at-test.true, c.len-at-end.ensures) in
    let there : slice_get tokens at ≡ Some right = slice_get-get_or tokens at no_token inside in
    let here : at + 1 - 1 ≡ at = omega arith in
    record {
      from = omega arith;
      behind = c.groups_of-groups.ensures.behind ∙ ap group_behind (c.role-in-loop-at.ensures no_token ∙ ap (λ i. (get_or tokens i no_token).role) (sym here));
      len = c.write_stay.ensures.len ∙ v.len;
      rest = ap (λ i. decided_all c.write_stay.new.plan (row_made c.args.style.now c.end_at-column.result (get_or tokens i no_token) (drop (at + 1) tokens))) here
          ∙ (row_written c.args.style.now c.loop-at.plan c.write_stay.new.plan tokens c.loop-at.column at c.from-spaces.result c.saturating_add-start.result c.end_at-column.result left right
          there (c.from-spaces.ensures ∙ c.spaces_at.ensures) c.saturating_add-start.ensures c.end_at-column.ensures c.write_stay.ensures.plan
          ∙ v.rest);
    }

pub returns-clause-plan : goal.returns-clause-plan
returns-clause-plan c =
    let left = get_or c.args.tokens.now (c.loop-at.at - 1) no_token in
    sym (ap (λ (xs : List LineTok). decided_all c.loop-at.plan (row_made c.args.style.now c.loop-at.column left xs)) (drop_of_length-le c.args.tokens.now (omega (arith, c.loop-at-test.false, c.len-at-end.ensures)))) ∙ c.loop-at.invariant.rest
