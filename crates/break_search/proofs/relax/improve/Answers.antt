use Rattle.std.proofs.Common.{◌≡◌, true, false, refl, rules}
use Rattle.break_search.proofs.Following.{there_within, there_below, there_small, there_paths, there_settled, there_worse, there_better}
use Rattle.break_search.proofs.relax.improve.Goals as goal

pub is_settled-requires : goal.is_settled-requires
is_settled-requires c = there_within _ c.requires.line.some _ _ _ _ _ c.requires.search c.requires.inner refl _ _ _ c.requires.there

pub returns-then-is_settled-clause-search : goal.returns-then-is_settled-clause-search
returns-then-is_settled-clause-search c = (there_settled _ c.requires.line.some _ _ _ _ _ c.requires.search c.requires.inner refl _ _ _ c.requires.there _ c.is_settled.ensures c.if-is_settled.true).0

pub improves-requires-clause-apart : goal.improves-requires-clause-apart
improves-requires-clause-apart c = there_paths _ c.requires.line.some _ _ _ _ _ c.requires.search c.requires.inner refl _ _ _ c.requires.there

pub improves-requires-clause-below : goal.improves-requires-clause-below
improves-requires-clause-below c = there_below _ c.requires.line.some _ _ _ _ _ c.requires.search c.requires.inner refl _ _ _ c.requires.there

pub returns-then-not-improves-clause-search : goal.returns-then-not-improves-clause-search
returns-then-not-improves-clause-search c =
    let no : c.improves.result ≡ false = search rules in
    (there_worse _ c.requires.line.some _ _ _ _ _ c.requires.search c.requires.inner refl _ _ _ c.requires.there _ c.improves.ensures.no no).0

pub least_over-requires-clause-at : goal.least_over-requires-clause-at
least_over-requires-clause-at c = there_within _ c.requires.line.some _ _ _ _ _ c.requires.search c.requires.inner refl _ _ _ c.requires.there

pub least_over-requires-clause-small : goal.least_over-requires-clause-small
least_over-requires-clause-small c = there_small _ c.requires.line.some _ _ _ _ _ c.requires.search c.requires.inner refl _ _ _ c.requires.there c.requires.line.short

pub reroute-requires-clause-at : goal.reroute-requires-clause-at
reroute-requires-clause-at c = there_within _ c.requires.line.some _ _ _ _ _ c.requires.search c.requires.inner refl _ _ _ c.requires.there

pub returns-clause-search : goal.returns-clause-search
returns-clause-search c =
    let yes : c.improves.result ≡ true = search rules in
    (there_better _ c.requires.line.some _ _ _ _ _ c.requires.search c.requires.inner refl _ _ _ c.requires.there _ _ c.is_settled.ensures c.if-is_settled.false c.improves.ensures.yes yes _ _ c.reroute.ensures _ c.least_over.ensures c.in_ok-push.ensures.pushes).0

pub returns-clause-settled : goal.returns-clause-settled
returns-clause-settled c =
    let yes : c.improves.result ≡ true = search rules in
    (there_better _ c.requires.line.some _ _ _ _ _ c.requires.search c.requires.inner refl _ _ _ c.requires.there _ _ c.is_settled.ensures c.if-is_settled.false c.improves.ensures.yes yes _ _ c.reroute.ensures _ c.least_over.ensures c.in_ok-push.ensures.pushes).1
