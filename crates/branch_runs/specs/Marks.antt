-- The sections of a text, as conditionals see them.
use Rattle.std.specs.Prelude.{Bool, true, false, List, map}
use Rattle.token_arena.specs.Gaps.{Contents}
use Rattle.token_arena.specs.Nesting.{nesting_of}
use Rattle.token_arena.specs.Sections.{sections_of}
use Rattle.token_arena.specs.declared.directives.nesting.Nesting.{Nesting}
use Rattle.token_arena.specs.declared.directives.nesting.Nesting.TheVariants.{Opens, Branch, LastBranch, Ends, Flat}
use Rattle.token_arena.specs.declared.directives.Section.{Section}
use Rattle.token_arena.specs.declared.directives.Section.TheVariants.{Text, Dir}
use Rattle.branch_runs.specs.Zero.{is_if_zero}
use Rattle.branch_runs.specs.declared.mark.MarkKind.{MarkKind}
use Rattle.branch_runs.specs.declared.mark.MarkKind.TheVariants as kind
use Rattle.branch_runs.specs.declared.mark.Mark.{Mark}

-- what a directive of this nesting does, which is a literal `#if 0` or not
abbrev pub kind_by : Bool → Nesting → MarkKind
kind_by true Opens = kind.IfZero
kind_by false Opens = kind.Opens
kind_by is_zero Branch = kind.Branch
kind_by is_zero LastBranch = kind.LastBranch
kind_by is_zero Ends = kind.Ends
kind_by is_zero Flat = kind.Flat

-- the mark of a section
abbrev pub mark_of : Contents → Section → Mark
mark_of arena (Text first end) = record { first = first; end = end; kind = kind.Text }
mark_of arena (Dir directive) =
    record {
      first = directive.first;
      end = directive.end;
      kind = kind_by (is_if_zero arena directive) (nesting_of directive.kind);
    }

-- the marks of a text's sections
abbrev pub marks_of : Contents → List Mark
marks_of arena = map (mark_of arena) (sections_of arena)
