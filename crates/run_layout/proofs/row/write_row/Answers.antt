use Rattle.std.proofs.Common.{◌≡◌, ◌∙◌, ◌+◌, ◌-◌, List, drop, length, slice_get, ap, arith, refl, sym}
use Rattle.std.proofs.Math.ListN.{drop_of_length-le}
use Rattle.std.proofs.lemmas.Option.{get_or_from_slice_get}
use Rattle.line_tokens.specs.Tokens.{no_token}
use Rattle.line_tokens.specs.declared.LineTok.{LineTok}
use Rattle.replacements.specs.Decisions.{decided_all}
use Rattle.run_layout.specs.OneRow.{row_made}
use Rattle.run_layout.proofs.RowSteps.{row_written}
use Rattle.run_layout.proofs.Writing.{token_within}
use Rattle.run_layout.proofs.row.write_row.Goals as goal

pub loop-at-init : goal.loop-at-init
loop-at-init c = record {
  from = omega arith;
  left = c.token_at-left.ensures;
  len = refl;
  rest = ap (λ (t : LineTok). decided_all c.args.plan.now (row_made c.args.style.now c.args.column t (drop 1 c.args.tokens.now))) (sym (get_or_from_slice_get c.args.tokens.now 0 c.token_at-left.result.now no_token c.token_at-left.ensures));
}

pub write_stay-requires : goal.write_stay-requires
write_stay-requires c = omega (arith, c.loop-at.invariant.len, token_within c.args.tokens.now (length c.args.plan.now) c.loop-at.at c.token_at-right.result.now c.requires.within c.token_at-right.ensures)

pub loop-at-preserved : goal.loop-at-preserved
loop-at-preserved c =
    let here : c.loop-at.at + 1 - 1 ≡ c.loop-at.at = omega arith in record {
      from = omega arith;
      left = ap (λ i. slice_get c.args.tokens.now i) here ∙ c.token_at-right.ensures;
      len = c.write_stay.ensures.len ∙ c.loop-at.invariant.len;
      rest = row_written c.args.style.now c.loop-at.plan c.write_stay.new.plan c.args.tokens.now c.loop-at.column c.loop-at.at c.from-spaces.result c.saturating_add-start.result c.end_of-column.result c.loop-at.left.now c.token_at-right.result.now
          c.token_at-right.ensures (c.from-spaces.ensures ∙ c.before-in-loop-at.ensures.table) c.saturating_add-start.ensures c.end_of-column.ensures c.write_stay.ensures.plan
          ∙ c.loop-at.invariant.rest;
    }

pub returns-clause-plan : goal.returns-clause-plan
returns-clause-plan c =
    sym (ap (λ (xs : List LineTok). decided_all c.loop-at.plan (row_made c.args.style.now c.loop-at.column c.loop-at.left.now xs)) (drop_of_length-le c.args.tokens.now (omega (arith, c.loop-at-test.false)))) ∙ c.loop-at.invariant.rest
