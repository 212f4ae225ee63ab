-- The items of a text that may be the `#` of a directive.
use Rattle.std.specs.Prelude.{◌==◌, ◌||◌, ◌&&◌, nat_le, ℕ, ◌+◌, Bool, List, [], ◌∷◌, get_or, if◌then◌else◌}
use Rattle.c_grammar.specs.Touch.{is_punct}
use Rattle.item_kinds.specs.declared.ItemKind.{ItemKind}
use Rattle.token_arena.specs.Stored.{Stored}

-- bytes of which this is the first may spell a `#` or its digraph: each that isn't a character by itself is among these
unfoldable pub may_spell_hash : ℕ → Bool
may_spell_hash b = nat_le b 37 || (b == 63 || b == 92)

-- an item of this kind and these bytes may be a `#`
abbrev pub may_be_hash : ItemKind → List ℕ → Bool
may_be_hash kind raw = is_punct kind && may_spell_hash (get_or raw 0 0)

-- this item may be one
abbrev pub is_likely_hash : Stored → Bool
is_likely_hash token = may_be_hash token.kind token.raw

-- the numbers of those among these items, of which the first has this number
abbrev pub hashes_from : ℕ → List Stored → List ℕ
hashes_from at [] = []
hashes_from at (token ∷ tokens) =
    if is_likely_hash token then at ∷ hashes_from (at + 1) tokens else hashes_from (at + 1) tokens
