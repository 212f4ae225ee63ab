use Rattle.std.proofs.Common.{◌≡◌, ◌+◌, ◌-◌, ◌≤◌, ◌++◌, length, drop}
use Rattle.std.specs.Prelude.{vec_capacity}
use Rattle.token_roles.specs.Held.{TellsHeld}
use Rattle.item_classes.specs.Items.{stands_apart}
use Rattle.view_tokens.specs.Tokens.{toks_from}
use Rattle.view_tokens.specs.Inside.{edge_at, TellsTouch}
use Rattle.view_tokens.proofs.made.push_stretch.Given as goal

abbrev pub invariant-loop-id : goal.invariant-loop-id
invariant-loop-id l = record {
  from : l.fn.stretch.first ≤ l.id;
  until : l.id ≤ l.fn.stretch.end - 1;
  count : length l.toks.items ≡ length l.fn.toks.items + (l.id - l.fn.stretch.first);
  room : vec_capacity l.toks ≡ vec_capacity l.fn.toks;
  same : l.toks.items ++ toks_from l.arena l.view (l.first + length l.toks.items) (drop (length l.toks.items) l.marks) ≡ l.fn.toks.items ++ toks_from l.arena l.view (l.first + length l.fn.toks.items) (drop (length l.fn.toks.items) l.marks);
  edge : l.edge ≡ edge_at l.arena l.id;
  left : TellsTouch l.arena l.id l.left l.edge;
  apart : l.apart ≡ stands_apart l.view (l.first + length l.toks.items);
  told : TellsHeld l.marks l.toks.items;
}
