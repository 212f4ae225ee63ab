-- Which count a refusal raised that the notes were told of: README.md, "Use".
use Rattle.std.specs.Prelude.{◌≤◌, ℕ, List}
use Rattle.command_refusals.specs.Counts.{Faults, Raises}
use Rattle.format_cli.specs.Account.{IsRefusedWith, World}

-- A call was refused so, and what its row names is what failed: that count rose and no other, but for the notes', which
-- may have failed at the row itself.
pub record IsRefusedFor (words : List (List ℕ)) (before now : World) (counts counts' : Faults) (status : ℕ) : Type 0
  where
    pub refused : IsRefusedWith words before now counts.notes counts'.notes status
    pub before_row : ℕ
    pub raised : Raises refused.refusal counts (record counts' { notes = before_row })
    pub later : before_row ≤ counts'.notes
