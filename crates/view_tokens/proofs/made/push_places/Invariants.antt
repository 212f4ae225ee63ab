use Rattle.std.proofs.Common.{◌≡◌, ◌+◌, ◌-◌, ◌≤◌, ◌++◌, length, drop}
use Rattle.std.specs.Prelude.{vec_capacity}
use Rattle.token_roles.specs.Held.{TellsHeld}
use Rattle.view_tokens.specs.Tokens.{toks_from}
use Rattle.view_tokens.proofs.made.push_places.Given as goal

abbrev pub invariant-loop-at : goal.invariant-loop-at
invariant-loop-at l = record {
  until : l.at ≤ l.count;
  count : length l.toks.items ≡ l.at;
  room : vec_capacity l.toks ≡ vec_capacity l.fn.toks;
  same : l.toks.items ++ toks_from l.arena l.view (l.first + length l.toks.items) (drop (length l.toks.items) l.marks) ≡ toks_from l.arena l.view l.first l.marks;
  told : TellsHeld l.marks l.toks.items;
}

abbrev pub decreases-loop-at : goal.decreases-loop-at
decreases-loop-at l = l.count - l.at
