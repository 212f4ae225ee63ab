use Rattle.early_gaps.proofs.Staying.{next_is}
use Rattle.early_gaps.proofs.behind.next_behind.Goals as goal

pub returns : goal.returns
returns c = next_is c.args.arena.now c.args.place _ c.is_dead_item-dead.ensures c.is_joined-joined.ensures c.is_backslash-backslash.ensures
