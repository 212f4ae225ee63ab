-- The lines of a run, one after another.
use Rattle.std.proofs.lemmas.List.{append-nil}
use Rattle.std.proofs.Common.{◌≡◌, ◌∙◌, ℕ, suc, ◌+◌, ◌<◌, ◌≤◌, Option, List, [], ◌∷◌, ◌++◌, length, get_or, drop}
use Rattle.std.proofs.Common.{append_assoc, refl, sym, ap, arith, subst}
use Rattle.std.proofs.Math.Seq.{drop-cons}
use Rattle.style_table.specs.declared.style.Style.{Style}
use Rattle.line_tokens.specs.declared.LineTok.{LineTok}
use Rattle.token_arena.specs.Gaps.{Contents}
use Rattle.line_tokens.specs.declared.line.ULine.{ULine}
use Rattle.line_tokens.specs.Lines.{CutPlaces}
use Rattle.replacements.specs.declared.slot.Slot.{Slot}
use Rattle.replacements.specs.Decisions.{decided_all}
use Rattle.line_gaps.specs.InputColumns.{input_before}
use Rattle.line_gaps.proofs.Walked.{cut_before}
use Rattle.run_layout.specs.Outcomes.{LineOutcome, Kept, Only, Least, Over, LaidLine, AfterLines, outcome_made, row_of}
use Rattle.run_layout.specs.Reports.{report_by, searched_by, cost_by, reports_of, searched_of, cost_of, report_told}
use Rattle.run_layout.specs.Reports.{searched_told, cost_told}
use Rattle.run_layout.specs.RunsLaid.{IsRunLaid}
use Rattle.run_layout.specs.Told.{IsTold, IsLaid}
use Rattle.run_layout.specs.declared.laid.Laid.{Laid}
use Rattle.run_layout.specs.declared.laid.Laid.TheVariants as laid
use Rattle.run_layout.specs.declared.report.Report.{Report}
use Rattle.run_layout.specs.declared.report.Tally.{Tally}

-- ## What is told of a line

told_reports : (run row : ℕ) (outcome : LineOutcome) (told : Laid) → IsTold outcome told → report_told run row told ≡ report_by run row outcome
told_reports run row Kept laid.Unsearched h = refl
told_reports run row (Only breaks) laid.Unsearched h = refl
told_reports run row (Least breaks cost) (laid.Least t) h = refl
told_reports run row (Over cells) (laid.Over t) h = ap (λ x. record { run = run; line = row; cells = x } ∷ []) h
told_reports run row Kept (laid.Least t) h = absurd h
told_reports run row Kept (laid.Over t) h = absurd h
told_reports run row (Only breaks) (laid.Least t) h = absurd h
told_reports run row (Only breaks) (laid.Over t) h = absurd h
told_reports run row (Least breaks cost) laid.Unsearched h = absurd h
told_reports run row (Least breaks cost) (laid.Over t) h = absurd h
told_reports run row (Over cells) laid.Unsearched h = absurd h
told_reports run row (Over cells) (laid.Least t) h = absurd h

told_searched : (outcome : LineOutcome) (told : Laid) → IsTold outcome told → searched_told told ≡ searched_by outcome
told_searched Kept laid.Unsearched h = refl
told_searched (Only breaks) laid.Unsearched h = refl
told_searched (Least breaks cost) (laid.Least t) h = refl
told_searched (Over cells) (laid.Over t) h = refl
told_searched Kept (laid.Least t) h = absurd h
told_searched Kept (laid.Over t) h = absurd h
told_searched (Only breaks) (laid.Least t) h = absurd h
told_searched (Only breaks) (laid.Over t) h = absurd h
told_searched (Least breaks cost) laid.Unsearched h = absurd h
told_searched (Least breaks cost) (laid.Over t) h = absurd h
told_searched (Over cells) laid.Unsearched h = absurd h
told_searched (Over cells) (laid.Least t) h = absurd h

told_cost : (outcome : LineOutcome) (told : Laid) → IsTold outcome told → cost_told told ≡ cost_by outcome
told_cost Kept laid.Unsearched h = refl
told_cost (Only breaks) laid.Unsearched h = refl
told_cost (Least breaks cost) (laid.Least t) h = h
told_cost (Over cells) (laid.Over t) h = refl
told_cost Kept (laid.Least t) h = absurd h
told_cost Kept (laid.Over t) h = absurd h
told_cost (Only breaks) (laid.Least t) h = absurd h
told_cost (Only breaks) (laid.Over t) h = absurd h
told_cost (Least breaks cost) laid.Unsearched h = absurd h
told_cost (Least breaks cost) (laid.Over t) h = absurd h
told_cost (Over cells) laid.Unsearched h = absurd h
told_cost (Over cells) (laid.Least t) h = absurd h

-- ## What goes on from here goes on from the start

-- some lines were laid out from here on, with these counts told so far: then all lines were
pub record AllLines (style : Style) (budget : ℕ) (arena : Contents) (ids : List ℕ) (toks : List LineTok) (run : ℕ) (plan : List (Option Slot)) (lines : List ULine) (before now : Tally) (final : List (Option Slot)) (done : List LaidLine) : Type 0 where
  pub whole : List LaidLine
  pub lines_are : AfterLines style budget arena ids toks run plan lines final whole
  pub reports : before.reports.items ++ reports_of whole ≡ now.reports.items ++ reports_of done
  pub searched : before.searched + searched_of whole ≡ now.searched + searched_of done
  pub cost : before.cost + cost_of whole ≡ now.cost + cost_of done

abbrev pub GoesOnLines : Style → ℕ → Contents → List ℕ → List LineTok → ℕ → List (Option Slot) → List ULine → Tally → List (Option Slot) → List ULine → Tally → Type 0
GoesOnLines style budget arena ids toks run plan lines before here left now =
    (final : List (Option Slot)) (done : List LaidLine) → AfterLines style budget arena ids toks run here left final done → AllLines style budget arena ids toks run plan lines before now final done

pub lines_begin : (style : Style) (budget : ℕ) (arena : Contents) (ids : List ℕ) (toks : List LineTok) (run : ℕ) (plan : List (Option Slot)) (lines : List ULine) (before : Tally)
    → GoesOnLines style budget arena ids toks run plan lines before plan lines before
lines_begin style budget arena ids toks run plan lines before = λ final done h. record { whole = done; lines_are = h; reports = refl; searched = refl; cost = refl }

pub line_done : (style : Style) (budget : ℕ) (arena : Contents) (ids : List ℕ) (toks : List LineTok) (run : ℕ) (plan : List (Option Slot)) (lines : List ULine) (before now next : Tally) (here after : List (Option Slot)) (i : ℕ) (d : ULine) (row : ℕ) (told : Laid)
    → i < length lines → GoesOnLines style budget arena ids toks run plan lines before here (drop i lines) now → IsLaid style budget arena ids toks here (get_or lines i d) after told → row ≡ row_of arena ids (get_or lines i d)
    → next.reports.items ≡ now.reports.items ++ report_told run row told → next.searched ≡ now.searched + searched_told told → next.cost ≡ now.cost + cost_told told
    → GoesOnLines style budget arena ids toks run plan lines before after (drop (i + 1) lines) next
line_done style budget arena ids toks run plan lines before now next here after i d row told within on laid at reports searched cost = λ final done h.
    let line : ULine = get_or lines i d in
    let one : suc i ≡ i + 1 = omega arith in
    let split : drop i lines ≡ line ∷ drop (i + 1) lines = drop-cons lines i d within ∙ ap (λ j. line ∷ drop j lines) one in
    let entry : LaidLine = record { run = run; row = row_of arena ids line; outcome = laid.outcome } in
    let made : List (ℕ × Slot) = outcome_made style arena ids toks here line laid.outcome in
    let rest : AfterLines style budget arena ids toks run (decided_all here made) (drop (i + 1) lines) final done = subst (λ (p : List (Option Slot)). AfterLines style budget arena ids toks run p (drop (i + 1) lines) final done) laid.plan_is h in
    let all : AfterLines style budget arena ids toks run here (line ∷ drop (i + 1) lines) final (entry ∷ done) = (laid.outcome, done, laid.comes, refl, rest) in
    let w = on final (entry ∷ done) (subst (λ (xs : List ULine). AfterLines style budget arena ids toks run here xs final (entry ∷ done)) (sym split) all) in
    let row_is : report_told run row told ≡ report_by run (row_of arena ids line) laid.outcome = ap (λ x. report_told run x told) at ∙ told_reports run (row_of arena ids line) laid.outcome told laid.told_is in
    record {
      whole = w.whole;
      lines_are = w.lines_are;
      reports = w.reports
          ∙ (sym (append_assoc now.reports.items (report_by run (row_of arena ids line) laid.outcome) (reports_of done))
          ∙ (ap (λ (xs : List Report). (now.reports.items ++ xs) ++ reports_of done) (sym row_is) ∙ ap (λ (xs : List Report). xs ++ reports_of done) (sym reports)));
      searched = omega (arith, w.searched, searched, told_searched laid.outcome told laid.told_is);
      cost = omega (arith, w.cost, cost, told_cost laid.outcome told laid.told_is);
    }

pub lines_end : (style : Style) (budget : ℕ) (arena : Contents) (ids : List ℕ) (toks : List LineTok) (run : ℕ) (plan : List (Option Slot)) (lines left : List ULine) (before now : Tally) (here : List (Option Slot))
    → left ≡ [] → GoesOnLines style budget arena ids toks run plan lines before here left now → IsRunLaid style budget arena ids toks run plan lines here before now
lines_end style budget arena ids toks run plan lines left before now here none on =
    let w = on here [] (subst (λ (xs : List ULine). AfterLines style budget arena ids toks run here xs here []) (sym none) (refl, refl)) in
    record {
      done = w.whole;
      lines_are = w.lines_are;
      told = record {
        reports = sym (w.reports ∙ append-nil now.reports.items);
        searched = omega (arith, w.searched);
        cost = omega (arith, w.cost);
      };
    }

-- ## The cut

-- the rest of a cut begins with its next line
pub record NextLine (at count : ℕ) (lines : List ULine) (i : ℕ) (line : ULine) : Type 0 where
  pub first : line.first ≡ at
  pub some : line.first ≤ line.last
  pub rest : CutPlaces (line.last + 1) count (drop (i + 1) lines)

pub next_line : (at count : ℕ) (lines : List ULine) (i : ℕ) (d : ULine) → i < length lines → CutPlaces at count (drop i lines) → NextLine at count lines i (get_or lines i d)
next_line at count lines i d within cut =
    let line : ULine = get_or lines i d in
    let one : suc i ≡ i + 1 = omega arith in
    let split : drop i lines ≡ line ∷ drop (i + 1) lines = drop-cons lines i d within ∙ ap (λ j. line ∷ drop j lines) one in
    let here : CutPlaces at count (line ∷ drop (i + 1) lines) = subst (λ (xs : List ULine). CutPlaces at count xs) split cut in
    record { first = here.0; some = here.1.0; rest = here.1.1 }

-- the columns of the input are told up to a place before the lines that are left
pub record IsAhead (style : Style) (arena : Contents) (ids : List ℕ) (place column : ℕ) (left : List ULine) : Type 0 where
  pub at : ℕ
  pub cut : CutPlaces at (length ids) left
  pub before : place ≤ at
  pub column_is : column ≡ input_before style arena ids place

pub ahead_more : (style : Style) (arena : Contents) (ids : List ℕ) (place column place_next column_next : ℕ) (lines : List ULine) (i : ℕ) (d : ULine) → i < length lines → IsAhead style arena ids place column (drop i lines)
    → place_next ≤ (get_or lines i d).last + 1 → column_next ≡ input_before style arena ids place_next → IsAhead style arena ids place_next column_next (drop (i + 1) lines)
ahead_more style arena ids place column place_next column_next lines i d within a low is =
    let n = next_line a.at (length ids) lines i d within a.cut in
    record { at = (get_or lines i d).last + 1; cut = n.rest; before = low; column_is = is }

-- what the next line needs of them
pub record NextNeeds (style : Style) (arena : Contents) (ids : List ℕ) (place : ℕ) (line : ULine) : Type 0 where
  pub some : line.first ≤ line.last
  pub within : line.last < length ids
  pub before : place ≤ line.first

pub next_needs : (style : Style) (arena : Contents) (ids : List ℕ) (place column : ℕ) (lines : List ULine) (i : ℕ) (d : ULine) → i < length lines → IsAhead style arena ids place column (drop i lines) → NextNeeds style arena ids place (get_or lines i d)
next_needs style arena ids place column lines i d within a =
    let n = next_line a.at (length ids) lines i d within a.cut in
    let below : (get_or lines i d).last + 1 ≤ length ids = cut_before ((get_or lines i d).last + 1) (length ids) (drop (i + 1) lines) n.rest in
    record { some = n.some; within = omega (arith, below); before = omega (arith, a.before, n.first) }

pub first_within : (style : Style) (arena : Contents) (ids : List ℕ) (place column : ℕ) (lines : List ULine) (i : ℕ) (d : ULine) → i < length lines → IsAhead style arena ids place column (drop i lines) → (get_or lines i d).first < length ids
first_within style arena ids place column lines i d within a =
    let n = next_needs style arena ids place column lines i d within a in
    omega (arith, n.some, n.within)

-- there are no more lines than places
pub cut_count : (at count : ℕ) (lines : List ULine) → CutPlaces at count lines → at + length lines ≤ count
cut_count at count [] cut = omega (arith, cut)
cut_count at count (line ∷ lines) cut =
    let rest : line.last + 1 + length lines ≤ count = cut_count (line.last + 1) count lines cut.1.1 in
    let from : line.first ≡ at = cut.0 in
    let some : line.first ≤ line.last = cut.1.0 in
    omega arith
