use Rattle.std.proofs.Common.{◌≡◌, ◌∙◌, ◌+◌, ◌++◌, List, ap, arith, drop, length, sym}
use Rattle.std.specs.Prelude.{slice_range}
use Rattle.std.proofs.lemmas.List.Folds.{drop_split}
use Rattle.line_tokens.specs.declared.LineTok.{LineTok}
use Rattle.comment_rows.specs.Comments.{is_next}
use Rattle.comment_rows.proofs.rows.is_next.Goals as goal

pub returns-in-Some : goal.returns-in-Some
returns-in-Some c =
    let toks = c.args.tokens.now in
    let place = c.loop-place.place in
    let end = place + length c.row_from-row.result in
    let split : drop place toks ≡ c.row_from-row.result ++ drop end toks = drop_split toks place end (omega arith) ∙ ap (λ (xs : List LineTok). xs ++ drop end toks) (sym c.row_from-row.ensures.tokens) in
    c.in-Some.ensures.told (drop end toks) ∙ (ap (λ (xs : List LineTok). is_next c.args.plan.now c.loop-place.ended xs) (sym split) ∙ c.loop-place.invariant.rest)

pub loop-place-preserved : goal.loop-place-preserved
loop-place-preserved c =
    let toks = c.args.tokens.now in
    let place = c.loop-place.place in
    let end = place + c.len-place.result in
    let whole : place + length c.row_from-row.result ≡ end = omega (arith, c.len-place.ensures) in
    let split : drop place toks ≡ c.row_from-row.result ++ drop end toks =
    drop_split toks place end (omega arith) ∙ ap (λ (xs : List LineTok). xs ++ drop end toks) (sym (c.row_from-row.ensures.tokens ∙ ap (λ n. slice_range toks place n) whole)) in
    record {
      short = c.in_default.ensures.short;
      within = omega (arith, c.len-place.ensures, c.row_from-row.ensures.within);
      rest = c.in_default.ensures.on (drop end toks) ∙ (ap (λ (xs : List LineTok). is_next c.args.plan.now c.loop-place.ended xs) (sym split) ∙ c.loop-place.invariant.rest);
    }
