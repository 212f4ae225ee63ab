use Rattle.std.proofs.Common.{◌≡◌, ◌∙◌, [], length, map, subst, arith}
use Rattle.std.proofs.lemmas.List.{length-map}
use Rattle.branch_runs.specs.Marks.{mark_of, marks_of}
use Rattle.branch_runs.specs.Cut.{IsCutFrom}
use Rattle.branch_runs.proofs.Bridge.{marks_cut, marks_end, section_count, all_within}
use Rattle.branch_runs.proofs.Kept.{small_effects, small_nodes}
use Rattle.branch_runs.proofs.Live.{is_covered}
use Rattle.branch_runs.proofs.Order.{effects_cut}
use Rattle.branch_runs.proofs.Places.{never_parted}
use Rattle.branch_runs.proofs.Within.{effects_end}
use Rattle.branch_runs.proofs.tree.CondTree.build.Goals as goal

pub effects-requires-clause-few : goal.effects-requires-clause-few
effects-requires-clause-few c =
    let count = section_count 0 (length c.args.arena.now.tokens) c.args.sections.now c.requires.cut in
    omega (arith, count, c.len-items.ensures.count, c.len-items.ensures.most)

pub effects-requires-clause-within : goal.effects-requires-clause-within
effects-requires-clause-within c = all_within 0 (length c.args.arena.now.tokens) c.args.sections.now c.requires.cut

pub of_effects-requires-clause-small : goal.of_effects-requires-clause-small
of_effects-requires-clause-small c =
    let arena = c.args.arena.now in
    let count = section_count 0 (length arena.tokens) c.args.sections.now c.requires.cut in
    let same : length (map (mark_of arena) c.args.sections.now) ≡ length c.args.sections.now = length-map c.args.sections.now (mark_of arena) in
    small_nodes c.in_ok-nodes.nodes.now _ _ c.in_ok-nodes.ensures.marks (small_effects (map (mark_of arena) c.args.sections.now) _ (omega (arith, count, same, c.len-items.ensures.count, c.len-items.ensures.most)))

pub of_effects-requires-clause-cut : goal.of_effects-requires-clause-cut
of_effects-requires-clause-cut c =
    let arena = c.args.arena.now in
    rw c.in_ok-nodes.ensures.marks (effects_cut (map (mark_of arena) c.args.sections.now) 0 [] (marks_cut arena 0 (length arena.tokens) c.args.sections.now c.requires.cut))

pub of_effects-requires-clause-dead : goal.of_effects-requires-clause-dead
of_effects-requires-clause-dead c = rw c.in_ok-nodes.ensures.marks c.in_ok-nodes.ensures.dead

pub returns-clause-end : goal.returns-clause-end
returns-clause-end c =
    let arena = c.args.arena.now in
    rw (c.in_ok-tree.ensures, c.in_ok-nodes.ensures.marks)
    (effects_end (map (mark_of arena) c.args.sections.now) 0 [] ∙ marks_end arena 0 (length arena.tokens) c.args.sections.now c.requires.cut)

pub returns-clause-covered : goal.returns-clause-covered
returns-clause-covered c = is_covered (marks_of c.args.arena.now)

pub returns-clause-together : goal.returns-clause-together
returns-clause-together c =
    let cut = marks_cut c.args.arena.now 0 (length c.args.arena.now.tokens) c.args.sections.now c.requires.cut in
    never_parted (marks_of c.args.arena.now) (subst (λ s. IsCutFrom 0 (map (mark_of c.args.arena.now) s)) c.requires.sections cut)
