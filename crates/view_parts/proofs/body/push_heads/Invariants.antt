use Rattle.std.proofs.Common.{◌≡◌, ◌++◌, ◌∷◌, [], drop, map}
use Rattle.token_arena.specs.Segments.{ids_of, AscendFrom, bounds_of}
use Rattle.view_parts.specs.Parts.{head_items, heads_end, Stand}
use Rattle.view_parts.proofs.body.push_heads.Given as goal

abbrev pub invariant-loop-head : goal.invariant-loop-head
invariant-loop-head l = record {
  ascend : AscendFrom 0 (map bounds_of (l.done.items ++ l.last ∷ []));
  items : ids_of (map bounds_of (l.done.items ++ l.last ∷ [])) ++ head_items (drop l.head-index l.heads) ≡ ids_of (map bounds_of (l.fn.done.items ++ l.fn.last ∷ [])) ++ head_items l.heads;
  stand : Stand l.last.end (drop l.head-index l.heads);
  end : heads_end l.last.end (drop l.head-index l.heads) ≡ heads_end l.fn.last.end l.heads;
}
