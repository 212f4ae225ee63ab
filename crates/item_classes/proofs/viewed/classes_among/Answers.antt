use Rattle.std.proofs.Common.{◌-◌, ◌∙◌, ap, arith, length, take, drop, get_or}
use Rattle.token_arena.specs.Segments.{no_segment}
use Rattle.item_classes.proofs.ItemClasses.{only_segment, viewed_fits}
use Rattle.item_classes.proofs.viewed.classes_among.Goals as goal

pub prove-unreachable-requires : goal.prove-unreachable-requires
prove-unreachable-requires c =
    let seen = c.segments-segments in
    let fits = viewed_fits (length c.args.arena.now.tokens) c.args.view.now seen.result.now 0 seen.ensures.rule seen.ensures.items c.requires.within (omega (arith, c.if-segments-eq1.true)) in
    omega (arith, fits.end, c.if-prove.true, c.len-items.ensures.count)

pub returns-then-segments-eq1-clause-classes : goal.returns-then-segments-eq1-clause-classes
returns-then-segments-eq1-clause-classes c =
    let seen = c.segments-segments in
    let only = get_or seen.result.now 0 no_segment in
    ap (λ all. take (only.end - only.first) (drop only.first all)) c.requires.all
    ∙ only_segment c.args.arena.now c.args.view.now seen.result.now seen.ensures.rule seen.ensures.items c.requires.within c.if-segments-eq1.true
