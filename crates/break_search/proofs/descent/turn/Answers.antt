use Rattle.std.proofs.Common.{true, subst}
use Rattle.std.proofs.lemmas.Bool.{OnTrue_at}
use Rattle.break_search.specs.declared.descent.Choice.{Choice}
use Rattle.break_search.specs.Descent.{IsDescent}
use Rattle.break_search.proofs.Descending.{try_some, try_more, try_refused}
use Rattle.break_search.proofs.descent.turn.Goals as goal

pub has_to_stay-requires-clause-some : goal.has_to_stay-requires-clause-some
has_to_stay-requires-clause-some c =
    let tries = subst (λ (choice : Choice). IsDescent c.args.line.now c.args.store.now c.args.budget c.args.trail.now c.args.trying.now.most c.args.trying.now.next choice) c.in-Break.is c.requires.descent in
    try_some _ c.requires.line.some c.requires.line.short _ _ _ _ _ true tries _ c.in-Some.ensures

pub has_to_stay-requires-clause-next : goal.has_to_stay-requires-clause-next
has_to_stay-requires-clause-next c =
    let tries = subst (λ (choice : Choice). IsDescent c.args.line.now c.args.store.now c.args.budget c.args.trail.now c.args.trying.now.most c.args.trying.now.next choice) c.in-Break.is c.requires.descent in
    try_more _ c.requires.line.some c.requires.line.short _ _ _ _ _ true tries _ c.in-Some.ensures

pub returns-then-has_to_stay : goal.returns-then-has_to_stay
returns-then-has_to_stay c =
    let tries = subst (λ (choice : Choice). IsDescent c.args.line.now c.args.store.now c.args.budget c.args.trail.now c.args.trying.now.most c.args.trying.now.next choice) c.in-Break.is c.requires.descent in
    try_refused _ c.requires.line.some c.requires.line.short _ _ _ _ _ true tries _ c.in-Some.ensures (OnTrue_at c.if-has_to_stay.true c.has_to_stay.ensures)

pub back-requires-clause-descent : goal.back-requires-clause-descent
back-requires-clause-descent c =
    (c.args.store.now, c.args.budget, subst (λ (choice : Choice). IsDescent c.args.line.now c.args.store.now c.args.budget c.args.trail.now c.args.trying.now.most c.args.trying.now.next choice) c.in-Back.is c.requires.descent)

pub returns-in-Back : goal.returns-in-Back
returns-in-Back c =
    c.back.ensures _ _ (subst (λ (choice : Choice). IsDescent c.args.line.now c.args.store.now c.args.budget c.args.trail.now c.args.trying.now.most c.args.trying.now.next choice) c.in-Back.is c.requires.descent)
