-- The item that two tokens spell together.
use Rattle.std.specs.Prelude.{ℕ, List, Option, Some, None, option_map, Vec}
use Rattle.std.specs.declared.alloc.Global.{Global}
use Rattle.item_kinds.specs.declared.ItemKind.{ItemKind}
use Rattle.pp_model.specs.Replace.{Reader}

-- a spelling and its kind, or none
abbrev pub item_shown : Option (Vec ℕ Global × ItemKind) → Option (List ℕ × ItemKind)
item_shown r = option_map (λ p. (p.0.items, p.1)) r

-- a spelling of this kind
abbrev pub with_kind : List ℕ → Option ItemKind → Option (List ℕ × ItemKind)
with_kind s None = None
with_kind s (Some kind) = Some (s, kind)

-- a spelling with its kind, where it is one item
abbrev pub item_read : Reader → Option (List ℕ) → Option (List ℕ × ItemKind)
item_read read None = None
item_read read (Some s) = with_kind s (read s)
