use Rattle.std.proofs.Common.{◌∙◌, ap, Option, ℕ}
use Rattle.frame_store.specs.Store.{extended}
use Rattle.frame_store.proofs.Tops.{same_stays, on_topped}
use Rattle.frame_store.proofs.store.FrameStore.with_topmost.Goals as goal

pub returns-then-is_same_frame-clause-list : goal.returns-then-is_same_frame-clause-list
returns-then-is_same_frame-clause-list c = same_stays _ _ _ c.node-here.ensures _ _ c.in-Some.is (c.is_same_frame.ensures.0 c.if-is_same_frame.true)

pub returns-in_ok-kept-in-Some-clause-list : goal.returns-in_ok-kept-in-Some-clause-list
returns-in_ok-kept-in-Some-clause-list c = c.in_ok-kept-in-Some.ensures.list ∙ ap (λ (o : Option ℕ). extended c.args.self.now c.args.frame o) c.in-Some.is ∙ on_topped _ _ _ c.node-here.ensures c.args.frame _ c.in-Some.is
