use Rattle.std.proofs.Common.{◌+◌, arith, subst, Some, sym, Option, ℕ}
use Rattle.frame_store.specs.Store.{lists_of, IsKnown, IsNewNode}
use Rattle.frame_store.proofs.Lists.{lists_length}
use Rattle.frame_store.proofs.Sharing.{on_node}
use Rattle.frame_store.proofs.store.above.Goals as goal

pub node_at-node-requires : goal.node_at-node-requires
node_at-node-requires c =
    let known = subst (λ (o : Option ℕ). IsKnown (lists_of c.args.nodes.now) o) c.in-Some.is c.requires.known in
    omega (arith, known, lists_length c.args.nodes.now)

pub overflow_add-result : goal.overflow_add-result
overflow_add-result c =
    let is = c.requires.told _ _ c.node_at-node.ensures in
    let known = subst (λ (o : Option ℕ). IsKnown (lists_of c.args.nodes.now) o) c.in-Some.is c.requires.known in
    omega (arith, is.shallow, known, lists_length c.args.nodes.now, c.requires.few)

pub returns-in-Some : goal.returns-in-Some
returns-in-Some c =
    let is = c.requires.told _ _ c.node_at-node.ensures in
    let known = subst (λ (o : Option ℕ). IsKnown (lists_of c.args.nodes.now) o) c.in-Some.is c.requires.known in
    subst (λ (o : Option ℕ). IsNewNode (lists_of c.args.nodes.now) c.args.frame o (record { frame = c.args.frame; below = Some c.in-Some.under; base = c.node_at-node.result.base; depth = c.node_at-node.result.depth + 1 })) (sym c.in-Some.is)
    (on_node (lists_of c.args.nodes.now) c.args.frame c.in-Some.under c.node_at-node.result known is)
