-- Runs, one after another, with what is told of their lines.
use Rattle.std.proofs.Common.{◌≡◌, ◌∙◌, ℕ, suc, ◌+◌, ◌<◌, Option, None, List, [], ◌∷◌, ◌++◌, length, append_assoc, refl}
use Rattle.std.proofs.Common.{sym, ap, arith, subst}
use Rattle.std.specs.Prelude.{All, IsSome}
use Rattle.std.proofs.lemmas.List.{append-nil}
use Rattle.style_table.specs.declared.style.Style.{Style}
use Rattle.line_tokens.specs.declared.LineTok.{LineTok}
use Rattle.token_arena.specs.Gaps.{Contents}
use Rattle.token_arena.specs.Ids.{Increase}
use Rattle.token_classes.specs.Kept.{kept_gaps_of}
use Rattle.token_classes.specs.Partners.{partners_of}
use Rattle.item_classes.specs.Viewed.{classes_of}
use Rattle.line_tokens.specs.declared.line.ULine.{ULine}
use Rattle.line_tokens.specs.Lines.{CutPlaces}
use Rattle.unwrapped_lines.proofs.Started.{lines_cut_views}
use Rattle.part_walk.specs.Places.{Place}
use Rattle.view_parts.specs.Parts.{PartStop, items_before, laid_items, part_ends}
use Rattle.replacements.specs.Decisions.{slot_of}
use Rattle.replacements.specs.declared.slot.Slot.{Slot}
use Rattle.run_layout.specs.Outcomes.{Kept, LaidLine, AfterLines, row_of}
use Rattle.run_layout.specs.Reports.{report_by, reports_of, searched_of, cost_of}
use Rattle.run_layout.specs.View.{joined_lines, AfterView, IsViewLaid}
use Rattle.run_layout.specs.declared.report.Report.{Report}
use Rattle.run_layout.specs.declared.report.Tally.{Tally}
use Rattle.run_layout.proofs.Views.{lines_cut}
use Rattle.run_layout.proofs.WaitingComments.{nothing_waits}
use Rattle.line_gaps.proofs.Walked.{cut_within}
use Rattle.format_core.specs.Plans.{AfterParts, AfterSeen, AfterRuns}
use Rattle.run_parts.specs.Runs.{AreDecided, seen_by, after_kept}
use Rattle.annotator.specs.Tokens.{toks_of_lines}
use Rattle.unwrapped_lines.specs.Lines.{lines_of_items}
use Rattle.format_core.specs.RunsTold.{AreItemsTold, ArePartsTold, AreSeenTold, AreRunsTold}
use Rattle.format_core.specs.PartByPart.{GoesOnParts}
use Rattle.run_parts.proofs.NothingNew.{kept_nothing}
use Rattle.run_parts.proofs.Parts.{all_decided_of, decided_all_of, laid_have}
use Rattle.run_parts.proofs.PlacesStand.{PlacesHave, part_places_have}
use Rattle.format_core.proofs.SoundPlan.{tell}

-- ## Lists of what came of lines

reports_append : (done later : List LaidLine) → reports_of (done ++ later) ≡ reports_of done ++ reports_of later
reports_append [] later = refl
reports_append (l ∷ done) later = ap (λ (xs : List Report). report_by l.run l.row l.outcome ++ xs) (reports_append done later) ∙ sym (append_assoc (report_by l.run l.row l.outcome) (reports_of done) (reports_of later))

searched_append : (done later : List LaidLine) → searched_of (done ++ later) ≡ searched_of done + searched_of later
searched_append [] later = omega arith
searched_append (l ∷ done) later = omega (arith, searched_append done later)

cost_append : (done later : List LaidLine) → cost_of (done ++ later) ≡ cost_of done + cost_of later
cost_append [] later = omega arith
cost_append (l ∷ done) later = omega (arith, cost_append done later)

-- ## Items whose gaps are decided

-- lines whose gaps are decided
record AllKept (style : Style) (budget : ℕ) (arena : Contents) (ids : List ℕ) (toks : List LineTok) (run : ℕ) (plan : List (Option Slot)) (lines : List ULine) : Type 0 where
  done : List LaidLine
  lines_are : AfterLines style budget arena ids toks run plan lines plan done
  reports : reports_of done ≡ []
  searched : searched_of done ≡ 0
  cost : cost_of done ≡ 0

all_kept : (style : Style) (budget : ℕ) (arena : Contents) (ids : List ℕ) (toks : List LineTok) (run : ℕ) (plan : List (Option Slot)) (at : ℕ) (lines : List ULine) → CutPlaces at (length ids) lines → AreDecided plan ids
    → AllKept style budget arena ids toks run plan lines
all_kept style budget arena ids toks run plan at [] cut some = record { done = []; lines_are = (refl, refl); reports = refl; searched = refl; cost = refl }
all_kept style budget arena ids toks run plan at (line ∷ lines) cut some =
    let within : line.last < length ids = cut_within at (length ids) (line ∷ lines) cut 0 line (omega arith) in
    let rest = all_kept style budget arena ids toks run plan (line.last + 1) lines cut.1.1 some in
    record {
      done = record { run = run; row = row_of arena ids line; outcome = Kept } ∷ rest.done;
      lines_are = (Kept, rest.done, (λ place low high. some place (omega (arith, high, within))), refl, rest.lines_are);
      reports = rest.reports;
      searched = omega (arith, rest.searched);
      cost = omega (arith, rest.cost);
    }

-- such items leave the plan as it is, and tell nothing
pub items_told_nothing : (style : Style) (budget : ℕ) (arena : Contents) (run : ℕ) (plan : List (Option Slot)) (ids : List ℕ) (tally : Tally) → AreDecided plan ids → AreItemsTold style budget arena run plan ids plan tally tally
items_told_nothing style budget arena run plan ids tally some =
    let first : after_kept style arena plan ids ≡ plan = kept_nothing style arena plan 0 ids (kept_gaps_of (classes_of arena ids)) some in
    let lines = lines_of_items style arena ids in
    let toks = toks_of_lines arena ids (lines_of_items style arena ids) in
    let cut = lines_cut style arena ids toks plan lines (lines_cut_views style arena ids (partners_of (classes_of arena ids))) in
    let k = all_kept style budget arena ids toks run plan 0 (joined_lines style arena ids toks plan lines) cut some in
    record {
      done = k.done;
      items = subst (λ (p : List (Option Slot)). AfterView style budget arena ids toks run p lines plan k.done) (sym first) (plan, k.lines_are, nothing_waits style arena ids toks plan (tell style arena ids) (λ j low. some j low));
      told = record {
        reports = sym (ap (λ (xs : List Report). tally.reports.items ++ xs) k.reports ∙ append-nil tally.reports.items);
        searched = omega (arith, k.searched);
        cost = omega (arith, k.cost);
      };
    }

-- ## The parts of a view

pub parts_begin : (style : Style) (budget : ℕ) (arena : Contents) (run : ℕ) (plan : List (Option Slot)) (ids : List ℕ) (ends left : List PartStop) (before : Tally) → left ≡ ends
    → GoesOnParts style budget arena run plan ids ends before plan None 0 left before
parts_begin style budget arena run plan ids ends left before all = λ final done h.
    record { whole = done; parts_are = subst (λ (es : List PartStop). AfterParts style budget arena run plan ids None 0 es final done) all h; reports = refl; searched = refl; cost = refl }

pub part_done : (style : Style) (budget : ℕ) (arena : Contents) (run : ℕ) (plan : List (Option Slot)) (ids : List ℕ) (ends : List PartStop) (before now next : Tally) (here after : List (Option Slot)) (begins : Option Place) (first : ℕ)
    (stop : PartStop) (left rest : List PartStop) → left ≡ stop ∷ rest → GoesOnParts style budget arena run plan ids ends before here begins first left now
    → AreItemsTold style budget arena run here (laid_items begins ids first stop.end) after now next → GoesOnParts style budget arena run plan ids ends before after stop.inside stop.end rest next
part_done style budget arena run plan ids ends before now next here after begins first stop left rest more on laid = λ final done h.
    let all : List LaidLine = laid.done ++ done in
    let parts : AfterParts style budget arena run here ids begins first (stop ∷ rest) final all = (after, laid.done, done, laid.items, h, refl) in
    let w = on final all (subst (λ (es : List PartStop). AfterParts style budget arena run here ids begins first es final all) (sym more) parts) in
    record {
      whole = w.whole;
      parts_are = w.parts_are;
      reports = w.reports
          ∙ (ap (λ (xs : List Report). now.reports.items ++ xs) (reports_append laid.done done)
          ∙ (sym (append_assoc now.reports.items (reports_of laid.done) (reports_of done)) ∙ ap (λ (xs : List Report). xs ++ reports_of done) (sym laid.told.reports)));
      searched = omega (arith, w.searched, laid.told.searched, searched_append laid.done done);
      cost = omega (arith, w.cost, laid.told.cost, cost_append laid.done done);
    }

pub parts_end : (style : Style) (budget : ℕ) (arena : Contents) (run : ℕ) (plan : List (Option Slot)) (ids : List ℕ) (ends left : List PartStop) (begins : Option Place) (first : ℕ) (before now : Tally) (here : List (Option Slot))
    → left ≡ [] → GoesOnParts style budget arena run plan ids ends before here begins first left now → ArePartsTold style budget arena run plan ids None 0 ends here before now
parts_end style budget arena run plan ids ends left begins first before now here none on =
    let w = on here [] (subst (λ (es : List PartStop). AfterParts style budget arena run here ids begins first es here []) (sym none) (refl, refl)) in
    record {
      done = w.whole;
      parts = w.parts_are;
      told = record { reports = sym (w.reports ∙ append-nil now.reports.items); searched = omega (arith, w.searched); cost = omega (arith, w.cost) };
    }

-- parts whose gaps are decided tell nothing
parts_told_nothing : (style : Style) (budget : ℕ) (arena : Contents) (run : ℕ) (plan : List (Option Slot)) (ids : List ℕ) (begins : Option Place) (first : ℕ) (stops : List PartStop) (tally : Tally) → All (λ id. IsSome (slot_of plan id)) ids
    → All (λ id. IsSome (slot_of plan id)) (items_before begins) → PlacesHave (λ id. IsSome (slot_of plan id)) stops → ArePartsTold style budget arena run plan ids begins first stops plan tally tally
parts_told_nothing style budget arena run plan ids begins first [] tally all before places = record {
  done = [];
  parts = (refl, refl);
  told = record { reports = sym (append-nil tally.reports.items); searched = omega arith; cost = omega arith };
}
parts_told_nothing style budget arena run plan ids begins first (stop ∷ stops) tally all before places =
    let items = laid_items begins ids first stop.end in
    let here = items_told_nothing style budget arena run plan items tally (all_decided_of plan items (laid_have (λ id. IsSome (slot_of plan id)) ids begins first stop.end before all)) in
    let later = parts_told_nothing style budget arena run plan ids stop.inside stop.end stops tally all places.0 places.1 in
    let reports = tally.reports.items in
    record {
      done = here.done ++ later.done;
      parts = (plan, here.done, later.done, here.items, later.parts, refl);
      told = record {
        reports = later.told.reports
            ∙ (ap (λ (xs : List Report). xs ++ reports_of later.done) here.told.reports
            ∙ (append_assoc reports (reports_of here.done) (reports_of later.done) ∙ ap (λ (xs : List Report). reports ++ xs) (sym (reports_append here.done later.done))));
        searched = omega (arith, here.told.searched, later.told.searched, searched_append here.done later.done);
        cost = omega (arith, here.told.cost, later.told.cost, cost_append here.done later.done);
      };
    }

pub seen_told_nothing : (style : Style) (budget : ℕ) (arena : Contents) (run : ℕ) (plan : List (Option Slot)) (ids : List ℕ) (tally : Tally) → Increase ids → AreDecided plan ids → AreSeenTold style budget arena run plan ids plan tally tally
seen_told_nothing style budget arena run plan ids tally increase some =
    let all = decided_all_of plan ids some in
    let none : All (λ id. IsSome (slot_of plan id)) (items_before None) = λ k d below. absurd (omega (arith, below)) in
    let told = parts_told_nothing style budget arena run plan ids None 0 (part_ends arena ids) tally all none (part_places_have (λ id. IsSome (slot_of plan id)) arena ids increase all) in
    record { done = told.done; seen = told.parts; told = told.told }

-- all parts are the run's
pub all_seen : (style : Style) (budget : ℕ) (arena : Contents) (run : ℕ) (plan : List (Option Slot)) (ids seen : List ℕ) (ends : List PartStop) (final : List (Option Slot)) (before after : Tally) → ids ≡ seen → ends ≡ part_ends arena ids
    → ArePartsTold style budget arena run plan ids None 0 ends final before after → AreSeenTold style budget arena run plan seen final before after
all_seen style budget arena run plan ids seen ends final before after is all laid = record {
  done = laid.done;
  seen = subst (λ (xs : List ℕ). AfterSeen style budget arena run plan xs final laid.done) is
      (subst (λ (es : List PartStop). AfterParts style budget arena run plan ids None 0 es final laid.done) all laid.parts);
  told = laid.told;
}

-- ## The runs

pub record AllRuns (style : Style) (budget : ℕ) (arena : Contents) (plan : List (Option Slot)) (count : ℕ) (before now : Tally) (final : List (Option Slot)) (done : List LaidLine) : Type 0 where
  pub whole : List LaidLine
  pub runs_are : AfterRuns style budget arena plan 0 count final whole
  pub reports : before.reports.items ++ reports_of whole ≡ now.reports.items ++ reports_of done
  pub searched : before.searched + searched_of whole ≡ now.searched + searched_of done
  pub cost : before.cost + cost_of whole ≡ now.cost + cost_of done

-- what goes on from here goes on from the first run
abbrev pub GoesOnRuns : Style → ℕ → Contents → List (Option Slot) → ℕ → Tally → List (Option Slot) → ℕ → ℕ → Tally → Type 0
GoesOnRuns style budget arena plan count before here run left now =
    (final : List (Option Slot)) (done : List LaidLine) → AfterRuns style budget arena here run left final done → AllRuns style budget arena plan count before now final done

pub runs_begin : (style : Style) (budget : ℕ) (arena : Contents) (plan : List (Option Slot)) (count left : ℕ) (before : Tally) → left ≡ count → GoesOnRuns style budget arena plan count before plan 0 left before
runs_begin style budget arena plan count left before all = λ final done h.
    record { whole = done; runs_are = subst (λ n. AfterRuns style budget arena plan 0 n final done) all h; reports = refl; searched = refl; cost = refl }

pub run_done : (style : Style) (budget : ℕ) (arena : Contents) (plan : List (Option Slot)) (count : ℕ) (before now next : Tally) (here after : List (Option Slot)) (run rest left : ℕ) → left ≡ suc rest
    → GoesOnRuns style budget arena plan count before here run left now → AreSeenTold style budget arena run here (seen_by arena run) after now next → GoesOnRuns style budget arena plan count before after (run + 1) rest next
run_done style budget arena plan count before now next here after run rest left more on laid = λ final done h.
    let all : List LaidLine = laid.done ++ done in
    let runs : AfterRuns style budget arena here run (suc rest) final all = (after, laid.done, done, laid.seen, h, refl) in
    let w = on final all (subst (λ n. AfterRuns style budget arena here run n final all) (sym more) runs) in
    record {
      whole = w.whole;
      runs_are = w.runs_are;
      reports = w.reports
          ∙ (ap (λ (xs : List Report). now.reports.items ++ xs) (reports_append laid.done done)
          ∙ (sym (append_assoc now.reports.items (reports_of laid.done) (reports_of done)) ∙ ap (λ (xs : List Report). xs ++ reports_of done) (sym laid.told.reports)));
      searched = omega (arith, w.searched, laid.told.searched, searched_append laid.done done);
      cost = omega (arith, w.cost, laid.told.cost, cost_append laid.done done);
    }

pub runs_end : (style : Style) (budget : ℕ) (arena : Contents) (plan : List (Option Slot)) (count run left : ℕ) (before now : Tally) (here : List (Option Slot)) → left ≡ 0
    → GoesOnRuns style budget arena plan count before here run left now → AreRunsTold style budget arena plan 0 count here before now
runs_end style budget arena plan count run left before now here none on =
    let w = on here [] (subst (λ n. AfterRuns style budget arena here run n here []) (sym none) (refl, refl)) in
    record {
      done = w.whole;
      runs = w.runs_are;
      told = record { reports = sym (w.reports ∙ append-nil now.reports.items); searched = omega (arith, w.searched); cost = omega (arith, w.cost) };
    }

-- ## One part

pub items_from : (style : Style) (budget : ℕ) (arena : Contents) (run : ℕ) (plan kept : List (Option Slot)) (ids : List ℕ) (toks : List LineTok) (lines : List ULine) (final : List (Option Slot)) (before after : Tally)
    → toks ≡ toks_of_lines arena ids (lines_of_items style arena ids) → kept ≡ after_kept style arena plan ids → lines ≡ lines_of_items style arena ids → IsViewLaid style budget arena ids toks run kept lines final before after
    → AreItemsTold style budget arena run plan ids final before after
items_from style budget arena run plan kept ids toks lines final before after toks_is kept_is lines_is laid = record {
  done = laid.done;
  items = subst (λ (ts : List LineTok). AfterView style budget arena ids ts run (after_kept style arena plan ids) (lines_of_items style arena ids) final laid.done) toks_is
      (subst (λ (p : List (Option Slot)). AfterView style budget arena ids toks run p (lines_of_items style arena ids) final laid.done) kept_is
      (subst (λ (ls : List ULine). AfterView style budget arena ids toks run kept ls final laid.done) lines_is laid.view_is));
  told = laid.told;
}
