use Rattle.std.proofs.Common.{◌≡◌, ◌∙◌, ◌<◌, ◌+◌, ◌∷◌, ◌++◌, length, drop, map, [], sym, ap, arith}
use Rattle.std.proofs.lemmas.List.{drop_more, map-append}
use Rattle.branch_runs.specs.Flags.{flags_in}
use Rattle.branch_runs.specs.Links.{node_mark}
use Rattle.branch_runs.specs.Marks.{mark_of}
use Rattle.branch_runs.specs.Reading.{effects}
use Rattle.branch_runs.proofs.Effects.{one_flagged, one_marked}
use Rattle.branch_runs.proofs.effect.effects.Goals as goal

pub loop-section-preserved : goal.loop-section-preserved
loop-section-preserved c =
    let v = c.loop-section.invariant in
    let told = c.in_ok-kind.ensures in
    let arena = c.args.arena.now in
    let sections = c.args.sections.now in
    let i = c.loop-section.section-index in
    let stack = c.loop-section.groups in
    let mark = c.mark_of-mark.result in
    let all = effects (map (mark_of arena) sections) in
    let later = map (mark_of arena) (drop (i + 1) sections) in
    let within : i < length sections = omega (arith, c.loop-section-test.true) in
    let here : map (mark_of arena) (drop i sections) ≡ mark ∷ later = ap (map (mark_of arena)) (drop_more sections i _ within) ∙ ap (λ x. x ∷ later) (sym c.mark_of-mark.ensures) in
    let done = c.loop-section.done.items in
    let node = c.alone.result in
    let more = ap (map node_mark) c.in_ok-push.ensures.items ∙ map-append node_mark done (node ∷ []) ∙ ap (λ m. map node_mark done ++ m ∷ []) c.alone.ensures in
    record {
      marks = one_marked mark later (map node_mark c.loop-section.done.items) (map node_mark c.push.new.self.items) all stack c.enter.new.groups c.in_ok-kind.kind
          told.kind told.after more (rw here at v.marks);
      flags = one_flagged mark later c.loop-section.flags.items c.push_flags.new.flags.items (flags_in [] all) stack c.enter.new.groups c.in_ok-kind.kind c.in_ok-kind.dead c.saturating_sub.result
          told.kind told.after told.dead c.saturating_sub.ensures c.in_ok-push_flags.ensures (rw here at v.flags);
      depth = omega (arith, told.len, v.depth);
    }
