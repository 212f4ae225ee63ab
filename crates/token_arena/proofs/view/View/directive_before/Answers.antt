use Rattle.token_arena.proofs.SegmentLemmas.{parted}
use Rattle.token_arena.proofs.view.View.directive_before.Goals as goal

pub returns-then-place-gt0 : goal.returns-then-place-gt0
returns-then-place-gt0 c = parted c.self.inside.segments.now c.args.self.now c.segment_at.result c.args.place c.self.view_is c.self.invariant c.segment_at.ensures.within c.segment_at.ensures.has c.if-place-gt0.true
