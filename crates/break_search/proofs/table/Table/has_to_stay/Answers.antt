use Rattle.break_search.proofs.Reaching.{from_goes, refused_nowhere}
use Rattle.break_search.proofs.table.Table.has_to_stay.Goals as goal

pub has_to_stay-requires-clause-some : goal.has_to_stay-requires-clause-some
has_to_stay-requires-clause-some c = (from_goes _ _ _ _ _ c.self.view_is c.self.invariant c.args.line.now _ _ c.index-node.ensures c.requires.at c.requires.on).0

pub has_to_stay-requires-clause-next : goal.has_to_stay-requires-clause-next
has_to_stay-requires-clause-next c = (from_goes _ _ _ _ _ c.self.view_is c.self.invariant c.args.line.now _ _ c.index-node.ensures c.requires.at c.requires.on).1

pub returns : goal.returns
returns c = refused_nowhere _ _ _ _ _ c.self.view_is c.self.invariant c.args.line.now _ _ c.index-node.ensures c.requires.at _ _ c.has_to_stay.ensures
