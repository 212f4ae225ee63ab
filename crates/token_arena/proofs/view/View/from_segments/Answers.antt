use Rattle.std.proofs.Common.{map}
use Rattle.token_arena.specs.Segments.{segment_bounds}
use Rattle.token_arena.proofs.IncreaseLemmas.{ids_increase}
use Rattle.token_arena.proofs.view.View.from_segments.Goals as goal

pub returns-clause-increase : goal.returns-clause-increase
returns-clause-increase c = ids_increase 0 (map segment_bounds c.args.segments.now) c.requires.order
