use Rattle.std.proofs.Common.{◌-◌, ◌≡◌, ◌≤◌, ℕ, List, ◌++◌, length, drop}
use Rattle.std.specs.Io.KnownBytes.{Appends}
use Rattle.c_chars.specs.Characters.{mark_len}
use Rattle.token_arena.specs.Gaps.{gap_start}
use Rattle.replacements.specs.Written.{bytes_between, written_from}
use Rattle.replacements.specs.Guards.{guard_before}
use Rattle.replacements.specs.Stances.{stance_in, IsKnown}
use Rattle.replacements.specs.declared.guard.Guard.TheVariants.{Free}
use Rattle.replacements.proofs.written.write_tokens.Given as goal

abbrev pub invariant-loop-place : goal.invariant-loop-place
invariant-loop-place g l = record {
  within : l.place ≤ length l.arena.tokens;
  section : l.walk.section ≤ length l.sections;
  at : l.walk.at ≡ gap_start (mark_len l.arena.text) l.arena.tokens l.place;
  held : l.walk.held ≤ l.walk.at;
  known : IsKnown l.arena.dialect l.arena.tokens l.place l.walk.run.end l.walk.run.hash;
  later : (k : ℕ) → l.place ≤ k → stance_in (drop l.walk.section l.sections) k ≡ stance_in l.sections k;
  faults : g.K.Sink.faults l.sink ≡ g.K.Sink.faults l.initial.sink;
  taken : (done : List ℕ) × Appends (g.K.Sink.taken l.initial.sink) (g.K.Sink.taken l.sink) done
      × (written_from l.style l.crlf l.arena l.sections l.plan Free (mark_len l.arena.text) 0 l.arena.tokens
      ≡ done ++ (bytes_between l.arena.text l.walk.held l.walk.at
      ++ written_from l.style l.crlf l.arena l.sections l.plan (guard_before l.arena.tokens l.place) l.walk.at l.place (drop l.place l.arena.tokens)));
}

abbrev pub decreases-loop-place : goal.decreases-loop-place
decreases-loop-place g l = l.count - l.place
