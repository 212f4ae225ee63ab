use Rattle.std.proofs.Common.{◌≡◌, ◌≤◌, ◌++◌, Bool, List, drop}
use Rattle.style_table.specs.declared.style.Style.{Style}
use Rattle.c_chars.specs.Characters.{mark_len}
use Rattle.token_arena.specs.declared.directives.Section.{Section}
use Rattle.token_arena.specs.Gaps.{gap_start}
use Rattle.replacements.specs.Guards.{guard_before}
use Rattle.replacements.specs.Written.{bytes_between, written_from}
use Rattle.replacements.proofs.written.pass_blanks.Given as goal

abbrev pub invariant-loop-next : goal.invariant-loop-next
invariant-loop-next l = record {
  at : l.here ≡ gap_start (mark_len l.arena.text) l.arena.tokens l.next;
  later : l.place ≤ l.next;
  on : l.fn.at ≤ l.here;
  same : (style : Style) (crlf : Bool) (sections : List Section) → written_from style crlf l.arena sections l.plan (guard_before l.arena.tokens l.place) l.fn.at l.place (drop l.place l.arena.tokens)
      ≡ bytes_between l.arena.text l.fn.at l.here
      ++ written_from style crlf l.arena sections l.plan (guard_before l.arena.tokens l.next) l.here l.next (drop l.next l.arena.tokens);
}
