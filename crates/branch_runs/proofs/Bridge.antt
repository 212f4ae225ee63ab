-- The marks of sections that cut the items cut them too.
use Rattle.std.proofs.Common.{◌≡◌, ◌≢◌, ℕ, zero, suc, ◌+◌, ◌≤◌, Bool, true, false, List, [], ◌∷◌, map, length, arith}
use Rattle.std.specs.Prelude.{All}
use Rattle.token_arena.specs.Gaps.{Contents}
use Rattle.token_arena.specs.declared.directives.Section.{Section}
use Rattle.token_arena.specs.declared.directives.Section.TheVariants.{Text, Dir}
use Rattle.token_arena.specs.declared.directives.nesting.Nesting.{Nesting}
use Rattle.token_arena.specs.declared.directives.nesting.Nesting.TheVariants.{Opens, Branch, LastBranch, Ends, Flat}
use Rattle.token_arena.specs.Nesting.{nesting_of}
use Rattle.token_arena.specs.Sections as sections
use Rattle.branch_runs.specs.declared.mark.MarkKind.TheVariants as kind
use Rattle.branch_runs.specs.Marks.{mark_of, kind_by}
use Rattle.branch_runs.specs.Operands.{IsWithin}
use Rattle.branch_runs.specs.Zero.{is_if_zero}
use Rattle.branch_runs.specs.Cut.{IsCutFrom, BeginsNoText, end_of}

-- a directive's mark is that of no text
pub no_text : (is_zero : Bool) (nesting : Nesting) → kind_by is_zero nesting ≢ kind.Text
no_text true Opens = λ e. cc
no_text false Opens = λ e. cc
no_text is_zero Branch = λ e. cc
no_text is_zero LastBranch = λ e. cc
no_text is_zero Ends = λ e. cc
no_text is_zero Flat = λ e. cc

begins : (arena : Contents) (cut : List Section) → sections.BeginsNoText cut → BeginsNoText (map (mark_of arena) cut)
begins arena [] h = tt
begins arena (Text first end ∷ cut) h = absurd h
begins arena (Dir directive ∷ cut) h = no_text (is_if_zero arena directive) (nesting_of directive.kind)

pub marks_cut : (arena : Contents) (at len : ℕ) (cut : List Section) → sections.IsCut at len cut → IsCutFrom at (map (mark_of arena) cut)
marks_cut arena at len [] h = tt
marks_cut arena at len (Text first end ∷ cut) h = (h.0, h.1, (λ e. begins arena cut h.2), marks_cut arena end len cut h.3)
marks_cut arena at len (Dir directive ∷ cut) h = (
  h.0,
  omega (arith, h.1, h.2),
  (λ e. absurd (no_text (is_if_zero arena directive) (nesting_of directive.kind) e)),
  marks_cut arena directive.end len cut h.3,
)

-- they end where the items end
pub marks_end : (arena : Contents) (at len : ℕ) (cut : List Section) → sections.IsCut at len cut → end_of at (map (mark_of arena) cut) ≡ len
marks_end arena at len [] h = h
marks_end arena at len (Text first end ∷ cut) h = marks_end arena end len cut h.3
marks_end arena at len (Dir directive ∷ cut) h = marks_end arena directive.end len cut h.3

-- there are no more sections than items
pub section_count : (at len : ℕ) (cut : List Section) → sections.IsCut at len cut → at + length cut ≤ len
section_count at len [] h = omega (arith, h)
section_count at len (Text first end ∷ cut) h = let more = section_count end len cut h.3 in omega (arith, more, h.0, h.1)
section_count at len (Dir directive ∷ cut) h = let more = section_count directive.end len cut h.3 in omega (arith, more, h.0, h.1, h.2)

-- and each is among the items
pub all_within : (at len : ℕ) (cut : List Section) → sections.IsCut at len cut → All (IsWithin len) cut
all_within at len [] h k d below = absurd (omega (arith, below))
all_within at len (Text first end ∷ cut) h zero d below = h.1
all_within at len (Text first end ∷ cut) h (suc k) d below = all_within end len cut h.3 k d (omega (arith, below))
all_within at len (Dir directive ∷ cut) h zero d below = let count = section_count directive.end len cut h.3 in (h.2, omega (arith, count))
all_within at len (Dir directive ∷ cut) h (suc k) d below = all_within directive.end len cut h.3 k d (omega (arith, below))
