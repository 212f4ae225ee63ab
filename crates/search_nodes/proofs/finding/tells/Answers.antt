use Rattle.frame_store.proofs.Tests.{on_false_then, on_true_then}
use Rattle.std.proofs.Common.{◌≡◌, refl}
use Rattle.std.proofs.lemmas.Option.{slice_get_read}
use Rattle.frame_store.specs.Store.{IsSamePlace}
use Rattle.search_nodes.specs.Groups.{HasPlace, LacksPlace}
use Rattle.search_nodes.proofs.NodeChains.{lacks_here}
use Rattle.search_nodes.proofs.finding.tells.Goals as goal

pub returns-in-Some-clause-yes : goal.returns-in-Some-clause-yes
returns-in-Some-clause-yes c =
    let node = c.in-Some.node.now in
    let has : IsSamePlace node.state c.args.state.now → HasPlace c.args.nodes.now c.args.link.now.number c.args.state.now = λ same. (node, slice_get_read _ _ _ node refl c.in-Some.ensures.lookup.3.0 c.in-Some.ensures.lookup.1, same) in
    on_true_then _ _ _ c.is_same_place.ensures.yes has

pub returns-in-Some-clause-no : goal.returns-in-Some-clause-no
returns-in-Some-clause-no c =
    let node = c.in-Some.node.now in
    let lacks : (IsSamePlace node.state c.args.state.now → ⊥) → c.args.link.now.digest ≡ c.args.digest → LacksPlace c.args.nodes.now c.args.link.now.number c.args.state.now = λ differs _. lacks_here c.args.nodes.now c.args.state.now c.args.link.now.number node (slice_get_read _ _ _ node refl c.in-Some.ensures.lookup.3.0 c.in-Some.ensures.lookup.1) differs in
    on_false_then _ _ _ c.is_same_place.ensures.no lacks
