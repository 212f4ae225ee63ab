-- Operands that are one item.
use Rattle.std.specs.Prelude.{Bool, true, false, List, [], ◌∷◌, Option, Some, None}
use Rattle.item_kinds.specs.declared.ItemKind.{ItemKind}
use Rattle.item_kinds.specs.declared.ItemKind.TheVariants.{HeaderName}
use Rattle.pp_model.specs.Token.{Tok}

-- the kind of the only token
abbrev pub only_kind : List Tok → Option ItemKind
only_kind (t ∷ []) = Some t.kind
only_kind _ = None

-- a header name's
abbrev pub is_header : ItemKind → Bool
is_header HeaderName = true
is_header _ = false
