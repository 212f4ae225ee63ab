-- What holds behind a run that lays out a view: what holds behind its lines, since joined lines cut it too, and then behind the decisions for its trailing comments.
use Rattle.std.proofs.Common.{◌≡◌, ◌∙◌, ℕ, ◌<◌, Option, List, length, map, get_or, sym, ap, arith, subst}
use Rattle.std.specs.Prelude.{All, IsSome}
use Rattle.std.proofs.lemmas.List.{get_or_default}
use Rattle.style_table.specs.declared.style.Style.{Style}
use Rattle.line_tokens.specs.declared.LineTok.{LineTok}
use Rattle.line_tokens.specs.declared.Fixed.{Fixed}
use Rattle.token_arena.specs.Gaps.{Contents}
use Rattle.token_classes.specs.declared.class.TokenClass.{TokenClass}
use Rattle.item_classes.specs.Viewed.{classes_of}
use Rattle.line_tokens.specs.declared.line.ULine.{ULine}
use Rattle.line_tokens.specs.Lines.{CutPlaces}
use Rattle.line_joiner.specs.Joined.{joined}
use Rattle.line_joiner.proofs.CutLines.{joined_cuts}
use Rattle.replacements.specs.declared.slot.Slot.{Slot}
use Rattle.replacements.specs.Breaks.{fixed_by}
use Rattle.replacements.specs.Decisions.{slot_of, decided_all}
use Rattle.replacements.specs.Sound.{IsSound}
use Rattle.replacements.proofs.Firsts.{stay}
use Rattle.comment_rows.specs.Comments.{comments_made}
use Rattle.line_tokens.specs.Tokens.{no_token}
use Rattle.line_gaps.specs.Fixed.{fixed_of_id}
use Rattle.run_layout.specs.Outcomes.{LaidLine, AfterLines}
use Rattle.run_layout.specs.RunsLaid.{IsRunLaid}
use Rattle.run_layout.specs.View.{joined_lines, AfterView, IsViewLaid}
use Rattle.run_layout.specs.ViewLaws.{ViewsStaySound, ViewsKeep, ViewsDecide}
use Rattle.run_layout.specs.declared.report.Tally.{Tally}
use Rattle.run_layout.proofs.LaidLines.{lines_stay_sound, lines_keep, lines_decide, lines_length}
use Rattle.line_gaps.proofs.MadeFor.{IsDecided, is_some-decided, length-decided_all}
use Rattle.run_layout.proofs.WaitingComments.{AreLaidOut, comments_decide, comments_stay_sound}

-- joined lines cut the view that the lines cut
pub lines_cut : (style : Style) (arena : Contents) (ids : List ℕ) (toks : List LineTok) (plan : List (Option Slot)) (lines : List ULine) → CutPlaces 0 (length ids) lines
    → CutPlaces 0 (length ids) (joined_lines style arena ids toks plan lines)
lines_cut style arena ids toks plan lines cut = joined_cuts style (classes_of arena ids) toks (map (λ id. fixed_by arena id (slot_of plan id)) ids) 0 0 (length ids) lines cut

module _ (style : Style) (budget : ℕ) (arena : Contents) (ids : List ℕ) (toks : List LineTok) (run : ℕ) (plan : List (Option Slot)) (lines : List ULine) (done : List LaidLine) (laid : List (Option Slot))
    (after : AfterLines style budget arena ids toks run plan (joined_lines style arena ids toks plan lines) laid done) where
  same_length : length laid ≡ length plan
  same_length = lines_length style budget arena ids toks run plan (joined_lines style arena ids toks plan lines) laid done after

  -- behind its lines the gaps of a view are decided, or wait before a trailing comment
  laid_out : length toks ≡ length ids → CutPlaces 0 (length ids) lines → AreLaidOut ids toks laid
  laid_out many cut = λ k below small.
      lines_decide style budget arena ids toks run plan (joined_lines style arena ids toks plan lines) laid done many (lines_cut style arena ids toks plan lines cut) after k below (omega (arith, small, same_length))

pub views_stay_sound : ViewsStaySound
views_stay_sound style budget arena ids toks run plan lines final done items texts tell cut after sound =
    let laid : List (Option Slot) = after.0 in
    let stays : IsSound arena laid =
    lines_stay_sound style budget arena ids toks run plan (joined_lines style arena ids toks plan lines) laid done items texts tell (lines_cut style arena ids toks plan lines cut) after.1 sound in
    subst (λ (p : List (Option Slot)). IsSound arena p) (sym after.2)
    (comments_stay_sound style arena ids toks laid items texts tell (laid_out style budget arena ids toks run plan lines done laid after.1 tell.as_many cut) stays)

pub views_keep : ViewsKeep
views_keep style budget arena ids toks run plan lines final done after place slot is =
    let laid : List (Option Slot) = after.0 in
    ap (λ (p : List (Option Slot)). slot_of p place) after.2
    ∙ stay laid (comments_made style toks laid) place slot (lines_keep style budget arena ids toks run plan (joined_lines style arena ids toks plan lines) laid done after.1 place slot is)

pub views_decide : ViewsDecide
views_decide style budget arena ids toks run plan lines final done small tell cut after = λ k d below.
    let laid : List (Option Slot) = after.0 in
    let within : All (λ id. id < length laid) ids = λ j e low. (let was = small j e low in omega (arith, was, same_length style budget arena ids toks run plan lines done laid after.1)) in
    let numbers : (j : ℕ) → j < length ids → (get_or toks j no_token).id.0 ≡ get_or ids j 0 = λ j low. (tell.items j low).number in
    let is : IsDecided (decided_all laid (comments_made style toks laid)) (get_or ids k 0) =
    comments_decide style arena ids toks laid tell.as_many numbers within (laid_out style budget arena ids toks run plan lines done laid after.1 tell.as_many cut) k below in
    subst (λ id. IsSome (slot_of final id)) (sym (get_or_default ids k d 0 below)) (subst (λ (p : List (Option Slot)). IsSome (slot_of p (get_or ids k 0))) (sym after.2)
    (is_some-decided (decided_all laid (comments_made style toks laid)) (get_or ids k 0) is))

-- a run makes the plan no longer
pub view_length : (style : Style) (budget : ℕ) (arena : Contents) (ids : List ℕ) (toks : List LineTok) (run : ℕ) (plan : List (Option Slot)) (lines : List ULine) (final : List (Option Slot)) (done : List LaidLine)
    → AfterView style budget arena ids toks run plan lines final done → length final ≡ length plan
view_length style budget arena ids toks run plan lines final done after =
    ap (λ (p : List (Option Slot)). length p) after.2 ∙ (length-decided_all after.0 (comments_made style toks after.0) ∙ same_length style budget arena ids toks run plan lines done after.0 after.1)

-- what was made of a view's lines is what its definition says
-- the lines of a view are joined by its classes and by what the plan has for its gaps
pub rows_joined : (style : Style) (arena : Contents) (ids : List ℕ) (toks : List LineTok) (plan : List (Option Slot)) (lines rows : List ULine) (classes : List TokenClass) (fixed : List (Option Fixed))
    → classes ≡ classes_of arena ids → fixed ≡ map (fixed_of_id arena plan) ids → rows ≡ joined style classes toks fixed lines → rows ≡ joined_lines style arena ids toks plan lines
rows_joined style arena ids toks plan lines rows classes fixed classes_is fixed_is rows_is =
    rows_is
    ∙ (ap (λ (cs : List TokenClass). joined style cs toks fixed lines) classes_is
    ∙ ap (λ (fs : List (Option Fixed)). joined style (classes_of arena ids) toks fs lines) fixed_is)

-- where none is joined, whatever is decided, they stay as they are
pub alone_joined : (style : Style) (arena : Contents) (ids : List ℕ) (toks : List LineTok) (plan : List (Option Slot)) (lines : List ULine) (classes : List TokenClass) → classes ≡ classes_of arena ids
    → ((fixed : List (Option Fixed)) → joined style classes toks fixed lines ≡ lines) → lines ≡ joined_lines style arena ids toks plan lines
alone_joined style arena ids toks plan lines classes classes_is alone =
    let fixed = map (fixed_of_id arena plan) ids in
    sym (alone fixed) ∙ ap (λ (cs : List TokenClass). joined style cs toks fixed lines) classes_is

pub view_laid : (style : Style) (budget : ℕ) (arena : Contents) (ids : List ℕ) (toks : List LineTok) (run : ℕ) (plan : List (Option Slot)) (lines rows : List ULine)
    (laid_plan final : List (Option Slot)) (before after : Tally) → rows ≡ joined_lines style arena ids toks plan lines
    → IsRunLaid style budget arena ids toks run plan rows laid_plan before after → final ≡ decided_all laid_plan (comments_made style toks laid_plan) → IsViewLaid style budget arena ids toks run plan lines final before after
view_laid style budget arena ids toks run plan lines rows laid_plan final before after rows_are laid final_is =
    record {
      done = laid.done;
      view_is = (laid_plan, subst (λ (ls : List ULine). AfterLines style budget arena ids toks run plan ls laid_plan laid.done) rows_are laid.lines_are, final_is);
      told = laid.told;
    }
