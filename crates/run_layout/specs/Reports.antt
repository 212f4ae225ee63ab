-- What is told of the lines of a text.
use Rattle.std.specs.Prelude.{ℕ, ◌+◌, List, [], ◌∷◌, ◌++◌}
use Rattle.run_layout.specs.Outcomes.{LineOutcome, Kept, Only, Least, Over, LaidLine}
use Rattle.run_layout.specs.declared.laid.Laid.{Laid}
use Rattle.run_layout.specs.declared.laid.Laid.TheVariants as laid
use Rattle.run_layout.specs.declared.report.Report.{Report}

-- a line over the budget has a report
abbrev pub report_by : ℕ → ℕ → LineOutcome → List Report
report_by run row Kept = []
report_by run row (Only breaks) = []
report_by run row (Least breaks cost) = []
report_by run row (Over cells) = record { run = run; line = row; cells = cells } ∷ []

-- the reports, in order of runs and lines
abbrev pub reports_of : List LaidLine → List Report
reports_of [] = []
reports_of (laid ∷ done) = report_by laid.run laid.row laid.outcome ++ reports_of done

-- a line that is broken at its least breaking counts
abbrev pub searched_by : LineOutcome → ℕ
searched_by Kept = 0
searched_by (Only breaks) = 0
searched_by (Least breaks cost) = 1
searched_by (Over cells) = 0

-- how many lines are
abbrev pub searched_of : List LaidLine → ℕ
searched_of [] = 0
searched_of (laid ∷ done) = searched_by laid.outcome + searched_of done

-- what such a line costs, as told
abbrev pub cost_by : LineOutcome → ℕ
cost_by Kept = 0
cost_by (Only breaks) = 0
cost_by (Least breaks cost) = cost
cost_by (Over cells) = 0

-- what they cost together
abbrev pub cost_of : List LaidLine → ℕ
cost_of [] = 0
cost_of (laid ∷ done) = cost_by laid.outcome + cost_of done

-- the same of what is told of a line
abbrev pub report_told : ℕ → ℕ → Laid → List Report
report_told run row laid.Unsearched = []
report_told run row (laid.Least cost) = []
report_told run row (laid.Over cells) = record { run = run; line = row; cells = cells } ∷ []

abbrev pub searched_told : Laid → ℕ
searched_told laid.Unsearched = 0
searched_told (laid.Least cost) = 1
searched_told (laid.Over cells) = 0

abbrev pub cost_told : Laid → ℕ
cost_told laid.Unsearched = 0
cost_told (laid.Least cost) = cost
cost_told (laid.Over cells) = 0
