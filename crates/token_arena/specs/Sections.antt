-- The cut of the items into texts and directives (C11 6.10p2).
use Rattle.std.specs.Prelude.{◌≡◌, ◌<◌, ◌≤◌, ℕ, ◌+◌, ◌-◌, Option, Some, None, List, [], ◌∷◌, length, if◌then◌else◌, ⊤}
use Rattle.c_chars.specs.declared.Dialect.{Dialect}
use Rattle.token_arena.specs.Stored.{Stored}
use Rattle.token_arena.specs.Gaps.{Contents}
use Rattle.token_arena.specs.Directives.{is_hash_token, past_comments, kind_behind, defines_function}
use Rattle.token_arena.specs.declared.directives.Directive.{Directive}
use Rattle.token_arena.specs.declared.directives.Section.{Section}
use Rattle.token_arena.specs.declared.directives.Section.TheVariants.{Text, Dir}

-- an item is put before the lines of the items behind it
abbrev pub before_lines : Stored → List Stored → List (List Stored) → List (List Stored)
before_lines x [] lines = (x ∷ []) ∷ []
before_lines x (y ∷ xs) [] = (x ∷ []) ∷ []
before_lines x (y ∷ xs) (line ∷ lines) = if y.gap.began then (x ∷ []) ∷ line ∷ lines else (x ∷ line) ∷ lines

-- the items, line by line
abbrev pub lines_of : List Stored → List (List Stored)
lines_of [] = []
lines_of (x ∷ xs) = before_lines x xs (lines_of xs)

-- the items behind the first of these, where that is a `#`
abbrev pub behind_first : Dialect → List Stored → Option (List Stored)
behind_first d [] = None
behind_first d (token ∷ tokens) = if is_hash_token d token then Some tokens else None

-- the items behind the `#` that is first in a line, comments aside
abbrev pub behind_hash : Dialect → List Stored → Option (List Stored)
behind_hash d line = behind_first d (past_comments line)

-- the directive from one place to another that has these items behind its `#`
abbrev pub directive : Dialect → ℕ → ℕ → List Stored → Directive
directive d first end behind = record {
  first = first;
  hash = record { 0 = end - length behind - 1 };
  end = end;
  kind = kind_behind d behind;
  function_like = defines_function d behind;
}

-- a line of text is joined with the text behind it
abbrev pub text_before : ℕ → ℕ → List Section → List Section
text_before first end [] = Text first end ∷ []
text_before first end (Text first' end' ∷ sections) = Text first end' ∷ sections
text_before first end (Dir dir ∷ sections) = Text first end ∷ Dir dir ∷ sections

-- a line before the sections of the lines behind it
abbrev pub line_before : Dialect → ℕ → ℕ → Option (List Stored) → List Section → List Section
line_before d first end None sections = text_before first end sections
line_before d first end (Some behind) sections = Dir (directive d first end behind) ∷ sections

-- the sections of lines whose first item has this number: a line is a directive where its first item, comments aside,
-- is a `#`
abbrev pub sections_from : Dialect → ℕ → List (List Stored) → List Section
sections_from d at [] = []
sections_from d at (line ∷ lines) =
    line_before d at (at + length line) (behind_hash d line) (sections_from d (at + length line) lines)

-- the sections of all items of a text
abbrev pub sections_of : Contents → List Section
sections_of arena = sections_from arena.dialect 0 (lines_of arena.tokens)

-- the first section is no text
abbrev pub BeginsNoText : List Section → Type 0
BeginsNoText [] = ⊤
BeginsNoText (Text first end ∷ sections) = ⊥
BeginsNoText (Dir dir ∷ sections) = ⊤

-- The sections cut the items from a place to another: one behind another, none empty, and no text directly behind a
-- text.
abbrev pub IsCut : ℕ → ℕ → List Section → Type 0
IsCut at len [] = at ≡ len
IsCut at len (Text first end ∷ sections) = (first ≡ at) × (first < end) × BeginsNoText sections × IsCut end len sections
IsCut at len (Dir dir ∷ sections) =
    (dir.first ≡ at) × (dir.first ≤ dir.hash.0) × (dir.hash.0 < dir.end) × IsCut dir.end len sections
