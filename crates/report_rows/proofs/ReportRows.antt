-- The rows of reports, one after another.
use Rattle.std.proofs.Common.{◌≡◌, ◌+◌, ◌<◌, ℕ, List, ◌∷◌, ◌++◌, drop, length, get_or, ap, add-one, drop-cons, sym}
use Rattle.std.proofs.Common.{subst}
use Rattle.std.specs.declared.option.Option.{Option}
use Rattle.std.specs.Io.KnownBytes.{Appends}
use Rattle.std.proofs.KnownBytes.{Appends-trans}
use Rattle.fmt_ports.specs.Causes.{AppendsPart}
use Rattle.fmt_ports.proofs.Parts.{part_of_front, part_of_rest}
use Rattle.run_layout.specs.declared.report.Report.{Report}
use Rattle.report_rows.specs.Rows.{report_row, report_rows}

-- the rows of the reports that are left begin with that of the next one
rows_left : (name : List ℕ) (budget : ℕ) (reports : List Report) (i : ℕ) (d : Report) → i < length reports →
    report_rows name budget (drop i reports) ≡ report_row name budget (get_or reports i d) ++ report_rows name budget (drop (i + 1) reports)
rows_left name budget reports i d within =
    let step : drop i reports ≡ get_or reports i d ∷ drop (i + 1) reports = rw add-one (drop-cons reports i d within) in
    ap (report_rows name budget) step

pub row_told : (name : List ℕ) (budget : ℕ) (reports : List Report) (i : ℕ) (d : Report) (a b c : Option (List ℕ)) → i < length reports → Appends a b (report_row name budget (get_or reports i d))
    → Appends b c (report_rows name budget (drop (i + 1) reports)) → Appends a c (report_rows name budget (drop i reports))
row_told name budget reports i d a b c within row rest =
    subst (λ (x : List ℕ). Appends a c x) (sym (rows_left name budget reports i d within))
    (Appends-trans a b c (report_row name budget (get_or reports i d)) (report_rows name budget (drop (i + 1) reports)) row rest)

pub part_told : (name : List ℕ) (budget : ℕ) (reports : List Report) (i : ℕ) (d : Report) (a b c : Option (List ℕ)) → i < length reports → Appends a b (report_row name budget (get_or reports i d))
    → AppendsPart b c (report_rows name budget (drop (i + 1) reports)) → AppendsPart a c (report_rows name budget (drop i reports))
part_told name budget reports i d a b c within row rest =
    part_of_rest a b c (report_row name budget (get_or reports i d)) (report_rows name budget (drop (i + 1) reports)) (report_rows name budget (drop i reports)) (rows_left name budget reports i d within) row rest

pub front_told : (name : List ℕ) (budget : ℕ) (reports : List Report) (i : ℕ) (d : Report) (a b : Option (List ℕ)) → i < length reports → AppendsPart a b (report_row name budget (get_or reports i d))
    → AppendsPart a b (report_rows name budget (drop i reports))
front_told name budget reports i d a b within part =
    part_of_front a b (report_row name budget (get_or reports i d)) (report_rows name budget (drop (i + 1) reports)) (report_rows name budget (drop i reports)) (rows_left name budget reports i d within) part
