-- The rows that are told of an input: README.md, "Use".
use Rattle.std.specs.Prelude.{ℕ, Bool, true, false, List, [], ◌++◌, codes, map}
use Rattle.std.specs.List.{concat}
use Rattle.run_layout.specs.declared.report.Counts.{Counts}
use Rattle.run_layout.specs.declared.report.Report.{Report}
use Rattle.command_refusals.specs.Notes.{numbered_row}

-- the row of a line that is reported, in an input of this name
abbrev pub report_row : List ℕ → ℕ → Report → List ℕ
report_row name budget report =
    numbered_row name (codes ":") report.line (codes ": run ")
    ++ (numbered_row [] [] report.run (codes ": not searched within ") ++ numbered_row [] [] budget (codes " cells\n"))

-- the rows of the lines of an input that are reported
abbrev pub report_rows : List ℕ → ℕ → List Report → List ℕ
report_rows name budget reports = concat (map (report_row name budget) reports)

-- whether a text would change, as a summary tells it
abbrev pub change_word : Bool → List ℕ
change_word true = codes ", changed\n"
change_word false = codes ", unchanged\n"

-- what a summary tells of the lines that a text's runs saw: those left over and the costs of those searched
abbrev pub cost_row : Counts → Bool → List ℕ
cost_row counts changed =
    numbered_row [] [] counts.over (codes ", cost ") ++ numbered_row [] [] counts.cost (change_word changed)

-- how many lines were searched, and what comes behind it
abbrev pub lines_row : Counts → Bool → List ℕ
lines_row counts changed = numbered_row [] [] counts.searched (codes ", over ") ++ cost_row counts changed

-- the summary of an input of this name: `NAME: runs R, searched S, over O, cost C, changed`, or `unchanged`
abbrev pub summary_row : List ℕ → Counts → Bool → List ℕ
summary_row name counts changed =
    numbered_row name (codes ": runs ") counts.runs (codes ", searched ") ++ lines_row counts changed
