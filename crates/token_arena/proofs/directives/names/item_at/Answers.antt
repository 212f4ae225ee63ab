use Rattle.token_arena.specs.Entries.{told_by}
use Rattle.token_arena.proofs.Ranges.{range_more}
use Rattle.token_arena.proofs.directives.names.item_at.Goals as goal

pub returns-then-at-end : goal.returns-then-at-end
returns-then-at-end c = range_more c.args.arena.now.tokens c.args.at c.args.end (told_by c.get.result) c.if-at-end.true c.get.ensures
