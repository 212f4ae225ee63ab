use Rattle.std.proofs.lemmas.Bool.{OnTrue_at, OnTrue_from}
use Rattle.std.specs.BinaryHeap.{heap_items}
use Rattle.search_frontier.proofs.Queue.{least_came_off, least_of_first, least_waits}
use Rattle.search_frontier.proofs.frontier.is_least.Goals as goal

pub returns-in-Some-clause-yes : goal.returns-in-Some-clause-yes
returns-in-Some-clause-yes c = OnTrue_from _ _ (λ yes. least_of_first c.args.first.now c.in-Some.least c.args.entry c.args.top (heap_items c.args.heap.now) c.in-Some.is c.requires (OnTrue_at yes c.is_up_to.ensures.yes))

pub returns-in-Waits-clause-yes : goal.returns-in-Waits-clause-yes
returns-in-Waits-clause-yes c =
    OnTrue_from _ _ (λ yes. least_waits c.args.first.now c.args.top (record { 0 = c.args.entry }) (heap_items c.args.heap.now) c.in_default.is c.in-Waits.is c.requires.heap (OnTrue_at yes (rw c.as_slice.ensures.value at c.is_up_to_at.ensures)))

pub returns-in-CameOff-clause-yes : goal.returns-in-CameOff-clause-yes
returns-in-CameOff-clause-yes c =
    OnTrue_from _ _ (λ yes. least_came_off c.args.first.now c.args.top (record { 0 = c.args.entry }) (heap_items c.args.heap.now) c.in_default.is c.in-CameOff.is (OnTrue_at yes (rw c.as_slice-in-CameOff.ensures.value at c.is_least_below.ensures)))
