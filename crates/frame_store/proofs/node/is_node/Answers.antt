use Rattle.std.proofs.Common.{◌≡◌, refl}
use Rattle.std.proofs.lemmas.Option.{slice_get_read}
use Rattle.frame_store.specs.Store.{HasNode, LacksNode}
use Rattle.frame_store.proofs.Sharing.{lacks_node}
use Rattle.frame_store.proofs.Tests.{on_true_then, on_false_then}
use Rattle.frame_store.proofs.node.is_node.Goals as goal

pub returns-in-Some-clause-yes : goal.returns-in-Some-clause-yes
returns-in-Some-clause-yes c =
    let node = c.in-Some.node.now in
    let has : (node.frame ≡ c.args.frame.now) × (node.below ≡ c.args.below) → HasNode c.args.nodes.now c.args.at c.args.frame.now c.args.below = λ same. (node, slice_get_read _ _ _ node refl c.in-Some.ensures.lookup.3.0 c.in-Some.ensures.lookup.1, same.0, same.1) in
    on_true_then _ _ _ c.is_same_node.ensures.yes has

pub returns-in-Some-clause-no : goal.returns-in-Some-clause-no
returns-in-Some-clause-no c =
    let node = c.in-Some.node.now in
    let lacks : (node.frame ≡ c.args.frame.now → node.below ≡ c.args.below → ⊥) → LacksNode c.args.nodes.now c.args.at c.args.frame.now c.args.below = λ differs. lacks_node c.args.nodes.now c.args.at c.args.frame.now c.args.below node (slice_get_read _ _ _ node refl c.in-Some.ensures.lookup.3.0 c.in-Some.ensures.lookup.1) differs in
    on_false_then _ _ _ c.is_same_node.ensures.no lacks
