-- Where the items of a text stand to its directives (C11 6.10), by what is kept of them.
use Rattle.std.specs.Prelude.{ℕ, zero, suc, Bool, false, List, [], ◌∷◌, if◌then◌else◌}
use Rattle.c_chars.specs.declared.Dialect.{Dialect}
use Rattle.c_grammar.specs.Items.{Place, LineStart, AfterMacroName, past_item}
use Rattle.replacements.specs.OneLine.{would_name}
use Rattle.token_arena.specs.Stored.{Stored}
use Rattle.token_arena.specs.Gaps.{Contents}
use Rattle.token_arena.specs.Directives.{spelling, is_opening}

-- where an item stands that this place leads to
abbrev pub stands_at : Place → Stored → Place
stands_at place token = if token.gap.began then LineStart else place

-- the place behind an item that stands at this place
abbrev pub behind_item : Dialect → Place → Stored → Place
behind_item d stood token = past_item d stood token.kind (spelling d token)

-- where the item with this number stands, of items that this place leads to
abbrev pub place_from : Dialect → Place → List Stored → ℕ → Place
place_from d place [] n = place
place_from d place (token ∷ tokens) zero = stands_at place token
place_from d place (token ∷ tokens) (suc n) = place_from d (behind_item d (stands_at place token) token) tokens n

-- where the item with this number stands in its text
abbrev pub place_in : Contents → ℕ → Place
place_in arena n = place_from arena.dialect LineStart arena.tokens n

-- The place leads directly from a macro's name to this item, and it is a `(`: it opens the macro's parameters where no
-- white space stands before it (6.10.3p10).
abbrev pub would_open : Dialect → Place → Stored → Bool
would_open d AfterMacroName token = is_opening d token
would_open d place token = false

-- With white space behind it an item that stands at this place would begin a header name before this next one (6.4.7).
abbrev pub would_begin_name : Dialect → Place → Stored → Stored → Bool
would_begin_name d stood left token = would_name stood left.kind (spelling d left) (spelling d token)
