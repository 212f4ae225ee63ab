use Rattle.std.proofs.Common.{◌+◌, ◌-◌, ◌<◌, List, get_or, length, sym, subst, arith}
use Rattle.run_parts.specs.declared.bounds.KnownBound.{KnownBound}
use Rattle.run_parts.specs.Bounds.{AreBounds, BeginTold, IsBound}
use Rattle.branch_runs.specs.Anew.{items_between}
use Rattle.part_walk.specs.Places.{place_in}
use Rattle.run_parts.specs.Runs.{seen_by}
use Rattle.run_parts.specs.Windows.{place_before}
use Rattle.run_parts.proofs.BoundsNoted.{window_bound, window_told}
use Rattle.run_parts.proofs.FirstParts.{bound_noted}
use Rattle.run_parts.proofs.bounds.note_bound.Goals as goal

pub prove-unreachable-requires : goal.prove-unreachable-requires
prove-unreachable-requires c =
    let tell = c.requires.told c.in-Some.told c.in-Some.is in
    let few : get_or c.args.window.now.view (c.in-Some.told - 1) 0 < length c.args.arena.now.tokens = c.requires.within (c.in-Some.told - 1) 0 (omega (arith, tell.later, tell.below)) in
    omega (arith, few, c.at_near-last.ensures 0, c.if-prove.true, c.len-items.ensures.count)

pub returns-clause-begin : goal.returns-clause-begin
returns-clause-begin c = λ later inside.
    let w = c.args.window.now in
    let told = c.in-Some.told in
    window_told c.args.arena.now w.number w.view w.first w.end (place_in c.args.begins) (place_in c.args.parts.inside) c.args.first c.args.parts.end told c.args.way.now.told c.max-way.result c.requires.window (c.requires.told told c.in-Some.is) c.requires.some
    (omega (arith, c.max-way.ensures)) (omega (arith, c.max-way.ensures, c.at_near-last.ensures 0)) (c.requires.begin later)

pub returns-clause-bounds : goal.returns-clause-bounds
returns-clause-bounds c =
    let arena = c.args.arena.now in
    let w = c.args.window.now in
    let ids = seen_by arena w.number in
    let told = c.in-Some.told in
    let end = c.args.parts.end in
    let now = c.max-way.result in
    let tell = c.requires.told told c.in-Some.is in
    let last : get_or w.view (told - 1) 0 < now = omega (arith, c.max-way.ensures, c.at_near-last.ensures 0) in
    let begun : BeginTold arena (items_between 0 now ids) (place_before arena w.number w.first + end) (place_in c.args.parts.inside) =
    window_told arena w.number w.view w.first w.end (place_in c.args.begins) (place_in c.args.parts.inside) c.args.first end told c.args.way.now.told now c.requires.window tell c.requires.some (omega (arith, c.max-way.ensures)) last (c.requires.begin c.if-not-window.false) in
    let is : IsBound arena ids c.at_near-item.result.0 now (place_in c.args.parts.inside) =
    subst (λ item. IsBound arena ids item now (place_in c.args.parts.inside)) (c.at_near-item.ensures 0)
    (window_bound arena w.number w.view w.first w.end end (place_in c.args.parts.inside) (told - 1) now c.requires.window (omega (arith, tell.later)) (omega (arith, tell.later, tell.below)) last begun) in
    let bound : KnownBound = record { item = c.at_near-item.result.0; told = now; inside = c.args.parts.inside } in
    subst (λ (bounds : List KnownBound). AreBounds arena ids bounds now) (sym c.in_ok-push.ensures.items)
    (bound_noted arena ids c.args.bounds.now.items c.args.way.now.told bound (omega (arith, c.max-way.ensures)) is c.requires.bounds)
