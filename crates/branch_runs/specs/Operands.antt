-- What the code asks of the items of a directive.
use Rattle.std.specs.Prelude.{◌≡◌, ◌≤◌, ◌<◌, ℕ, ◌+◌, List, ◌∷◌}
use Rattle.std.specs.List.{slice_range}
use Rattle.token_arena.specs.Stored.{Stored}
use Rattle.token_arena.specs.declared.directives.Section.{Section}
use Rattle.token_arena.specs.declared.directives.Section.TheVariants.{Text, Dir}
use Rattle.branch_runs.specs.Zero.{without_comments}

-- Of the items from a place on, up to an end, this one with this number is the first that is no comment.
pub record IsFirst (tokens : List Stored) (from end at : ℕ) (token : Stored) : Type 0 where
  pub after : from ≤ at
  pub within : at < end
  pub rest : without_comments (slice_range tokens from end) ≡ token ∷ without_comments (slice_range tokens (at + 1) end)

-- the items behind a directive's `#` are among this many items
abbrev pub IsWithin : ℕ → Section → Type 0
IsWithin len (Text first end) = first < end
IsWithin len (Dir directive) = (directive.hash.0 < directive.end) × (directive.end ≤ len)
