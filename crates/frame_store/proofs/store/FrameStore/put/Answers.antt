use Rattle.std.proofs.Common.{◌≡◌, ◌∙◌, ◌++◌, ◌∷◌, [], sym, subst, arith, ap, length, List}
use Rattle.frame_store.specs.Store.{FrameList, lists_of, extended, IsKnown, IsNowhere}
use Rattle.frame_store.proofs.Lists.{lists_length}
use Rattle.frame_store.proofs.Sharing.{shared_more, shared_push, pushed_lists}
use Rattle.frame_store.proofs.store.FrameStore.put.Goals as goal

pub above-node-requires-clause-told : goal.above-node-requires-clause-told
above-node-requires-clause-told c = rw c.as_slice.ensures.value c.self.invariant.told

pub invariant_of-self-in_err-push : goal.invariant_of-self-in_err-push
invariant_of-self-in_err-push c = rw c.in_err-push.ensures.items (shared_more _ _ _ c.add.ensures.kept c.self.invariant)

pub invariant_of-self-2 : goal.invariant_of-self-2
invariant_of-self-2 c =
    let nodes = c.self.inside.nodes.items in
    let at : c.len-at.result ≡ length nodes = omega (arith, c.len-at.ensures) in
    let is = rw c.as_slice.ensures.value at c.above-node.ensures in
    let known = subst (λ (ls : List FrameList). IsKnown ls c.args.below) (sym c.self.view_is) c.requires.known in
    let new = subst (λ (ls : List FrameList). IsNowhere ls (extended ls c.args.frame c.args.below)) (sym c.self.view_is) c.requires.new in
    let added = rw (c.digest_of_node.ensures, at) at c.in_ok-add.ensures.added in
    rw c.in_ok-push.ensures.items (shared_push _ _ _ _ _ _ c.self.invariant is known new c.add.ensures.kept added (omega (arith, at, c.if-at.false)))

pub returns-clause-at : goal.returns-clause-at
returns-clause-at c = omega (arith, c.len-at.ensures, lists_length c.self.inside.nodes.items, ap length c.self.view_is)

pub returns-clause-ok : goal.returns-clause-ok
returns-clause-ok c =
    let nodes = c.self.inside.nodes.items in
    let at : c.len-at.result ≡ length nodes = omega (arith, c.len-at.ensures) in
    let is = rw c.as_slice.ensures.value at c.above-node.ensures in
    let known = subst (λ (ls : List FrameList). IsKnown ls c.args.below) (sym c.self.view_is) c.requires.known in
    let new = subst (λ (ls : List FrameList). IsNowhere ls (extended ls c.args.frame c.args.below)) (sym c.self.view_is) c.requires.new in
    let added = rw (c.digest_of_node.ensures, at) at c.in_ok-add.ensures.added in
    ap lists_of c.in_ok-push.ensures.items ∙ pushed_lists _ _ _ _ _ _ c.self.invariant is known new c.add.ensures.kept added (omega (arith, at, c.if-at.false))
    ∙ ap (λ (ls : List FrameList). ls ++ extended ls c.args.frame c.args.below ∷ []) c.self.view_is
