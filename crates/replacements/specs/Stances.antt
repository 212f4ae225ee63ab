-- How an item stands in its text (C11 6.10p2), and what that means for the gap before it.
use Rattle.std.specs.Prelude.{◌≡◌, ◌==◌, ◌&&◌, ◌||◌, ◌<◌, ◌≤◌, not, ℕ, nat_lt, Bool, false, Some, slice_get, List, []}
use Rattle.std.specs.Prelude.{◌∷◌, drop, if◌then◌else◌}
use Rattle.c_chars.specs.declared.Dialect.{Dialect}
use Rattle.c_grammar.specs.Fitting.{is_comment}
use Rattle.c_grammar.specs.Items.{is_hash}
use Rattle.c_grammar.specs.Rewritten.{read_alone}
use Rattle.token_arena.specs.Stored.{Stored}
use Rattle.token_arena.specs.Directives.{is_hash_token}
use Rattle.token_arena.specs.declared.directives.Section.{Section}
use Rattle.token_arena.specs.declared.directives.Section.TheVariants.{Text, Dir}
use Rattle.replacements.specs.declared.stance.Stance.{Stance}
use Rattle.replacements.specs.declared.stance.Stance.TheVariants.{OfText, Leads, Within}

-- how the item with this number stands, where these sections hold it
abbrev pub stance_in : List Section → ℕ → Stance
stance_in [] place = OfText
stance_in (Text first end ∷ sections) place = if nat_lt place end then OfText else stance_in sections place
stance_in (Dir dir ∷ sections) place =
    if nat_lt place dir.end then (if place == dir.first then Leads else Within) else stance_in sections place

-- A `#` stands next in the line, comments aside, and doesn't begin it.
abbrev pub hash_comes : Dialect → List Stored → Bool
hash_comes d [] = false
hash_comes d (token ∷ tokens) =
    not token.gap.began && (if is_comment token.kind then hash_comes d tokens else is_hash_token d token)

-- A `#` may be spelled from this byte on: it is `#` or `%`, or a trigraph, a splice or a line end begins with it.
abbrev pub may_begin_hash : ℕ → Bool
may_begin_hash b = (b == 35) || ((b == 37) || ((b == 63) || ((b == 13) || (b == 92))))

-- In no dialect do these bytes spell a `#`.
abbrev pub SpellsNoHash : List ℕ → Type 0
SpellsNoHash raw = (d : Dialect) → is_hash (read_alone d raw) ≡ false

-- Whether a `#` comes is known for each of these items from a place up to another.
abbrev pub IsKnown : Dialect → List Stored → ℕ → ℕ → Bool → Type 0
IsKnown d tokens place end hash = (k : ℕ) → place ≤ k → k < end → hash_comes d (drop k tokens) ≡ hash

-- The item with this number is this one.
abbrev pub IsAt : List Stored → ℕ → Stored → Type 0
IsAt tokens place token = slice_get tokens place ≡ Some token
