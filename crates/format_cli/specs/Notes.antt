-- The rows that the command writes of an input on standard error: README.md, "Use".
use Rattle.std.specs.Prelude.{ℕ, Bool, List, ◌++◌}
use Rattle.run_layout.specs.declared.report.Counts.{Counts}
use Rattle.run_layout.specs.declared.report.Report.{Report}
use Rattle.report_rows.specs.Rows.{report_rows, summary_row}
use Rattle.format_cli.specs.declared.input.Place.{Place}
use Rattle.format_cli.specs.declared.input.Place.TheVariants.{Output, Itself, Nowhere}

-- the rows of an input: those of its reports, and in a dry run its summary
abbrev pub input_rows : Place → (name : List ℕ) → ℕ → List Report → Counts → (changed : Bool) → List ℕ
input_rows Output name budget reports counts changed = report_rows name budget reports
input_rows Itself name budget reports counts changed = report_rows name budget reports
input_rows Nowhere name budget reports counts changed =
    report_rows name budget reports ++ summary_row name counts changed
