use Rattle.std.proofs.Common.{◌≡◌, ◌∙◌, ◌<◌, ◌≤◌, ◌++◌, [], map, drop, sym, ap, arith}
use Rattle.std.specs.Prelude.{min, max}
use Rattle.std.proofs.lemmas.List.{append-nil}
use Rattle.token_arena.specs.Segments.{bounds_of}
use Rattle.branch_runs.specs.Seen.{taken}
use Rattle.branch_runs.specs.Visible.{text_at}
use Rattle.branch_runs.specs.Inside.{inside}
use Rattle.branch_runs.proofs.Inside.{skip_before, none_behind, none_seen, inside_next}
use Rattle.branch_runs.proofs.Nodes.{pushed-stretch}
use Rattle.branch_runs.proofs.window.stretches_between.Goals as goal
use Rattle.branch_runs.proofs.window.stretches_between.Goals.{in-Some+then-end-begins, in_default}

pub loop-place-init : goal.loop-place-init
loop-place-init c = rw c.new-stretches.ensures.items (record {
  left = skip_before c.args.texts.now c.first_behind-at.result c.args.number c.args.first c.args.end c.first_behind-at.ensures.before;
  behind = c.first_behind-at.ensures.behind;
})

pub overflow_add-at : goal.overflow_add-at
overflow_add-at c = omega (arith, c.in-Some.ensures.next.1, c.next.ensures.few)

pub loop-place-preserved : goal.loop-place-preserved
loop-place-preserved c =
    let texts = c.args.texts.now in
    let place = c.in-Some.place in
    let seen = c.in-Some.ensures.next in
    let i = c.loop-place.invariant in
    let early : max c.args.first (text_at texts place).first < c.args.end = rw (← c.text-text.ensures, ← c.max-begins.ensures) (omega (arith, c.if-end-begins.false)) in
    let next = inside_next texts c.loop-place.at place c.args.number c.args.first c.args.end c.requires seen.0 seen.1 seen.2 seen.3 early (i.behind place seen.0 seen.1) in
    record {
      left = pushed-stretch c.loop-place.stretches.items c.push.new.self.items (record { first = max c.args.first (text_at texts place).first; end = min c.args.end (text_at texts place).end }) _ _ (rw (← c.text-text.ensures, ← c.max-begins.ensures, ← c.min.ensures) c.in_ok-push.ensures.items) next ∙ i.left;
      behind = λ k from within. i.behind k (omega (arith, from, seen.0)) within;
    }

pub returns : goal.returns
returns c =
    let texts = c.args.texts.now in
    let at = c.loop-place.at in
    let done : inside c.args.first c.args.end (taken (drop at texts) c.args.number) ≡ [] = elim c.match-next.branch [
      | in-Some+then-end-begins w ↦
          let late : c.args.end ≤ max c.args.first (text_at texts w.in-Some.place).first = rw (← w.text-text.ensures, ← w.max-begins.ensures) w.if-end-begins.true in
          none_behind texts at w.in-Some.place c.args.number c.args.first c.args.end c.requires w.in-Some.ensures.next.0 w.in-Some.ensures.next.1 w.in-Some.ensures.next.3 late
      | in_default w ↦ ap (inside c.args.first c.args.end) (none_seen texts at c.args.number w.in_default.ensures.next)
    ] in
    let stretches = map bounds_of c.loop-place.stretches.items in
    ap (map bounds_of) c.into_bump_slice.ensures ∙ (sym (ap (λ xs. stretches ++ xs) done ∙ append-nil stretches) ∙ c.loop-place.invariant.left)
