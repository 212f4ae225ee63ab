use Rattle.std.proofs.Common.{◌≡◌, ◌∙◌, ℕ, ◌-◌, ◌+◌, ◌<◌, get_or, length, refl, arith}
use Rattle.token_arena.specs.Segments.{HasPlace, no_segment}
use Rattle.token_arena.specs.declared.view.Segment.{Segment}
use Rattle.token_arena.proofs.SegmentLemmas.{well}
use Rattle.view_tokens.proofs.Starts.{apart_in, items_in}
use Rattle.view_tokens.proofs.start.start_in.Goals as goal

pub overflow_sub-count : goal.overflow_sub-count
overflow_sub-count c =
    omega (arith, (well c.args.segments.now 0 0 c.args.number (omega arith) c.requires.order c.requires.counts (omega (arith, c.if-number-segments.false))).some)

pub returns : goal.returns
returns c =
    let segments = c.args.segments.now in
    let segment : Segment = get_or segments c.args.number no_segment in
    let skipped : ℕ = c.args.place - segment.before in
    let count : ℕ = segment.end - segment.first in
    let within : c.args.number < length segments = omega (arith, c.if-number-segments.false) in
    let from : c.args.place ≡ segment.before + skipped = omega (arith, c.if-segment-place.false) in
    let has : HasPlace segments c.args.place c.args.number = record { low = omega (arith, c.if-segment-place.false); high = omega (arith, c.if-segment-place.false, c.if-skipped-count.false) } in
    record {
      some = omega (arith, c.if-skipped-count.false);
      items = items_in segments c.args.number c.args.place (count - skipped) skipped c.requires within from (omega (arith, c.if-skipped-count.false));
      apart = c.begins.ensures ∙ apart_in segments c.args.number c.args.place segment.before c.requires within has refl;
    }
