use Rattle.std.proofs.Common.{◌≡◌, ◌+◌, count_by, length}
use Rattle.token_arena.specs.Stored.{is_line_feed}
use Rattle.token_arena.proofs.facts.line_feeds.Given as goal

abbrev pub invariant-loop-sixteen : goal.invariant-loop-sixteen
invariant-loop-sixteen l = l.feeds + count_by is_line_feed l.rest ≡ count_by is_line_feed l.bytes

abbrev pub decreases-loop-sixteen : goal.decreases-loop-sixteen
decreases-loop-sixteen l = length l.rest
