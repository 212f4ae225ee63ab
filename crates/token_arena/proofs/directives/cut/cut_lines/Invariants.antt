use Rattle.std.proofs.Common.{◌≡◌, ◌≤◌, ◌+◌, ◌-◌, ◌++◌, length, drop}
use Rattle.token_arena.specs.Hashes.{hashes_from}
use Rattle.token_arena.specs.Sections.{sections_of, sections_from, lines_of}
use Rattle.token_arena.proofs.Hashes.{from_number}
use Rattle.token_arena.proofs.LinesOf.{with_text}
use Rattle.token_arena.proofs.directives.cut.cut_lines.Given as goal

abbrev pub invariant-loop-hashes : goal.invariant-loop-hashes
invariant-loop-hashes l = record {
  order : l.from ≤ l.at;
  within : l.at ≤ length l.arena.tokens;
  same : l.done.items ++ with_text l.from l.at (sections_from l.arena.dialect l.at (lines_of (drop l.at l.arena.tokens))) ≡ sections_of l.arena;
  left : hashes_from l.at (drop l.at l.arena.tokens) ≡ from_number l.at l.hashes;
}

abbrev pub decreases-loop-hashes : goal.decreases-loop-hashes
decreases-loop-hashes l = length l.hashes + (length l.arena.tokens - l.at)
