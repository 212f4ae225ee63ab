-- What a line that is searched comes to, as the code makes it.
use Rattle.std.proofs.Common.{◌≡◌, ◌∙◌, ℕ, ◌<◌, ◌≤◌, Bool, Option, List, ◌∷◌, length, map, get_or, refl, sym, ap, arith}
use Rattle.std.proofs.Common.{subst}
use Rattle.std.specs.Prelude.{All, Result, OnOk, Ok, Err}
use Rattle.std.proofs.lemmas.List.{length-map}
use Rattle.style_table.specs.declared.style.Style.{Style}
use Rattle.line_tokens.specs.declared.LineTok.{LineTok}
use Rattle.line_tokens.specs.declared.Fixed.{Fixed}
use Rattle.line_state.specs.Line.{Line, first_layout, gaps}
use Rattle.searched_line.specs.Searched.{line_of}
use Rattle.break_search.specs.Outcome.{IsFound, IsOver}
use Rattle.line_walk.specs.Starts.{IsAdmissible}
use Rattle.token_arena.specs.Gaps.{Contents}
use Rattle.line_tokens.specs.declared.line.ULine.{ULine}
use Rattle.layout_tables.specs.Indents.{start_column}
use Rattle.replacements.specs.declared.slot.Slot.{Slot}
use Rattle.replacements.specs.Decisions.{decided, decided_all}
use Rattle.run_layout.specs.Ready.{IsReady, IsOpenLine}
use Rattle.run_layout.specs.Tells.{StandForItems}
use Rattle.run_layout.specs.declared.broken.OpenLine.{OpenLine}
use Rattle.line_gaps.specs.declared.view_layout.ViewLayout.{ViewLayout}
use Rattle.run_layout.specs.Broken.{number, of_line, broken_line, broken_made, inside_made}
use Rattle.line_gaps.specs.Fixed.{fixed_of_token}
use Rattle.line_gaps.specs.Rows.{first_slot, first_made}
use Rattle.run_layout.specs.Outcomes.{Only, Least, Over, Kept}
use Rattle.line_gaps.specs.OpenGaps.{IsOpen, AreDecided}
use Rattle.line_gaps.specs.InputColumns.{reported_made}
use Rattle.run_layout.specs.Told.{IsLaid}
use Rattle.run_layout.specs.OneRow.{IsRow, stays}
use Rattle.run_layout.specs.declared.laid.Laid.TheVariants as laid
use Rattle.run_layout.proofs.OneRow.{row_found}
use Rattle.run_layout.proofs.BrokenLines.{length_of_line}
use Rattle.run_layout.proofs.LineFacts.{line_numbers, fixed_are}
use Rattle.run_layout.proofs.RowLines.{tokens_within}

pub above_zero : (n : ℕ) → (n ≡ 0 → ⊥) → 0 < n
above_zero n not_zero = grind (arith, not_zero)

pub length_short : (toks tokens : List LineTok) (line : ULine) → tokens ≡ of_line line toks → line.last < length toks → line.last < 4294967295 → length tokens < 4294967296
length_short toks tokens line are within small = omega (arith, ap (λ (xs : List LineTok). length xs) are, length_of_line line toks within, small)

pub length_some : (toks tokens : List LineTok) (line : ULine) → tokens ≡ of_line line toks → line.first ≤ line.last → line.last < length toks → 0 < length tokens
length_some toks tokens line are some within = omega (arith, ap (λ (xs : List LineTok). length xs) are, length_of_line line toks within, some)

-- what holds whatever a call answers holds where it answers
pub on_ok : {T E : Type 0} (r : Result T E) (P : Type 0) → P → OnOk r P
on_ok (Ok x) P h = h
on_ok (Err e) P h = tt

-- what a search needs to know of a line's tokens
pub record IsSearched (tokens : List LineTok) (fixed : List (Option Fixed)) : Type 0 where
  pub some : 0 < length tokens
  pub short : length tokens < 4294967296
  pub even : length fixed ≡ length tokens

pub open_searched : (layout : ViewLayout) (plan : List (Option Slot)) (line : OpenLine) → IsReady layout → IsOpenLine layout plan line → IsSearched line.tokens.now line.fixed.now
open_searched layout plan line ready o =
    let within : line.line.now.last < length layout.tokens.now = omega (arith, o.places, ready.tell.as_many) in
    record {
      some = length_some layout.tokens.now line.tokens.now line.line.now o.tokens_are o.some within;
      short = length_short layout.tokens.now line.tokens.now line.line.now o.tokens_are within o.small;
      even = ap (λ (xs : List (Option Fixed)). length xs) o.fixed_are ∙ length-map line.tokens.now (fixed_of_token layout.arena.now plan);
    }

-- the least breaking is admissible
pub found_admissible : (l : Line) (budget : ℕ) (breaks : List Bool) (cost : ℕ) → IsFound l budget breaks cost → IsAdmissible l breaks
found_admissible l budget breaks cost found = record { count = found.least.count; layout = found.least.reaches.0; cost = found.whole; leads = found.least.reaches.1 }

-- its tokens are of items of the text
pub open_within : (layout : ViewLayout) (plan : List (Option Slot)) (line : OpenLine) (count : ℕ) → IsReady layout → IsOpenLine layout plan line → count ≡ length plan → All (λ token. token.id.0 < count) line.tokens.now
open_within layout plan line count ready o same =
    tokens_within layout.arena.now layout.view.now layout.tokens.now line.tokens.now line.line.now count ready.within ready.tell o.places (same ∙ o.whole) o.tokens_are

-- the decisions inside a line follow that for its first gap
pub first_then : (style : Style) (arena : Contents) (ids : List ℕ) (line : ULine) (plan mid after : List (Option Slot)) (id : ℕ) (inner : List (ℕ × Slot)) → get_or ids line.first 0 ≡ id → mid ≡ decided plan id (first_slot style arena ids line)
    → after ≡ decided_all mid inner → after ≡ decided_all plan (first_made style arena ids line ∷ inner)
first_then style arena ids line plan mid after id inner number first rest =
    rest ∙ ap (λ (p : List (Option Slot)). decided_all p inner) (first ∙ ap (λ x. decided plan x (first_slot style arena ids line)) (sym number))

module _ (style : Style) (budget : ℕ) (arena : Contents) (ids : List ℕ) (toks : List LineTok) (plan : List (Option Slot)) (line : ULine) where
  -- a line whose gaps are decided
  pub kept_laid : (after : List (Option Slot)) → AreDecided plan ids line → after ≡ plan → IsLaid style budget arena ids toks plan line after laid.Unsearched
  kept_laid after some same = record { outcome = Kept; comes = some; plan_is = same; told_is = tt }

  -- a line on one row
  pub row_laid : (after : List (Option Slot)) → IsOpen plan ids line → 0 < style.column_limit → IsRow (broken_line style arena ids toks plan line) budget
      → after ≡ decided_all plan (broken_made style arena ids toks plan line (stays (gaps (broken_line style arena ids toks plan line)))) → IsLaid style budget arena ids toks plan line after (laid.Least 0)
  row_laid after opens limit row made = record {
    outcome = Least (stays (gaps (broken_line style arena ids toks plan line))) 0;
    comes = (opens, limit, row_found (broken_line style arena ids toks plan line) budget row);
    plan_is = made;
    told_is = refl;
  }

  -- a line that is past its budget whatever is decided of its gaps
  pub past_laid : (cells : ℕ) (after : List (Option Slot)) → IsOpen plan ids line → 0 < style.column_limit → ((l : Line) → l.tokens ≡ of_line line toks → IsOver l budget cells)
      → after ≡ decided_all plan (first_made style arena ids line ∷ reported_made style arena ids line) → IsLaid style budget arena ids toks plan line after (laid.Over cells)
  past_laid cells after opens limit over made = record {
    outcome = Over cells;
    comes = (opens, limit, over (broken_line style arena ids toks plan line) refl);
    plan_is = made;
    told_is = refl;
  }

  module _ (column : ℕ) (tokens : List LineTok) (fixed : List (Option Fixed)) (tell : StandForItems arena ids toks) (are : tokens ≡ of_line line toks) (column_is : column ≡ start_column style line)
      (fixed_is : fixed ≡ map (fixed_of_token arena plan) tokens) (opens : IsOpen plan ids line) where
    start_same : line_of style (start_column style line) tokens fixed ≡ broken_line style arena ids toks plan line
    start_same =
        ap (λ (xs : List (Option Fixed)). line_of style (start_column style line) tokens xs) (fixed_is ∙ (ap (λ (xs : List LineTok). map (fixed_of_token arena plan) xs) are ∙ sym (fixed_are arena ids toks plan line tell)))
        ∙ ap (λ (xs : List LineTok). record { style = style; column = start_column style line; tokens = xs; fixed = (broken_line style arena ids toks plan line).fixed }) are

    line_same : line_of style column tokens fixed ≡ broken_line style arena ids toks plan line
    line_same = ap (λ x. line_of style x tokens fixed) column_is ∙ start_same

    items_same : map number tokens ≡ of_line line ids
    items_same = ap (λ (xs : List LineTok). map number xs) are ∙ line_numbers arena ids toks line tell

    pub made_same : (breaks : List Bool) (after : List (Option Slot))
        → after ≡ decided_all plan (first_made style arena ids line ∷ inside_made line (map number tokens) (line_of style (start_column style line) tokens fixed) (first_layout (line_of style (start_column style line) tokens fixed)) breaks)
        → after ≡ decided_all plan (broken_made style arena ids toks plan line breaks)
    made_same breaks after made =
        made
        ∙ (ap (λ (l : Line). decided_all plan (first_made style arena ids line ∷ inside_made line (map number tokens) l (first_layout l) breaks)) start_same
        ∙ ap (λ (items : List ℕ). decided_all plan (first_made style arena ids line ∷ inside_made line items (broken_line style arena ids toks plan line) (first_layout (broken_line style arena ids toks plan line)) breaks)) items_same)

    pub only_laid : (breaks : List Bool) (after : List (Option Slot)) → style.column_limit ≡ 0 → IsAdmissible (line_of style column tokens fixed) breaks
        → after ≡ decided_all plan (broken_made style arena ids toks plan line breaks)
        → IsLaid style budget arena ids toks plan line after laid.Unsearched
    only_laid breaks after limit admissible made = record {
      outcome = Only breaks;
      comes = (opens, limit, subst (λ (l : Line). IsAdmissible l breaks) line_same admissible);
      plan_is = made;
      told_is = tt;
    }

    pub least_laid : (breaks : List Bool) (cost : ℕ) (after : List (Option Slot)) → 0 < style.column_limit → IsFound (line_of style column tokens fixed) budget breaks cost
        → after ≡ decided_all plan (broken_made style arena ids toks plan line breaks)
        → IsLaid style budget arena ids toks plan line after (laid.Least cost)
    least_laid breaks cost after limit found made = record {
      outcome = Least breaks cost;
      comes = (opens, limit, subst (λ (l : Line). IsFound l budget breaks cost) line_same found);
      plan_is = made;
      told_is = refl;
    }

    pub over_laid : (cells : ℕ) (after : List (Option Slot)) → 0 < style.column_limit → IsOver (line_of style column tokens fixed) budget cells
        → after ≡ decided_all plan (first_made style arena ids line ∷ reported_made style arena ids line) → IsLaid style budget arena ids toks plan line after (laid.Over cells)
    over_laid cells after limit over made = record {
      outcome = Over cells;
      comes = (opens, limit, subst (λ (l : Line). IsOver l budget cells) line_same over);
      plan_is = made;
      told_is = refl;
    }
