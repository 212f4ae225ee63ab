-- Physical lines that are counted along.
use Rattle.std.specs.Prelude.{◌≡◌, ◌≤◌, length, take, count_by}
use Rattle.token_arena.specs.Gaps.{Contents}
use Rattle.token_arena.specs.Stored.{is_line_feed}
use Rattle.line_gaps.specs.declared.line_count.LineCount.{LineCount}

-- so many new-lines are among the bytes that are passed
pub record IsCounted (arena : Contents) (count : LineCount) : Type 0 where
  pub within : count.offset ≤ length arena.text
  pub feeds : count.feeds ≡ count_by is_line_feed (take count.offset arena.text)
