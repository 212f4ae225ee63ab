use Rattle.std.proofs.Common.{◌∙◌, List, length, sym, subst}
use Rattle.line_tokens.specs.declared.line.ULine.{ULine}
use Rattle.line_tokens.specs.Lines.{CutPlaces}
use Rattle.unwrapped_lines.proofs.CutLemmas.{cut_view}
use Rattle.unwrapped_lines.proofs.cutting.lines_of_classes.Goals as goal

pub returns-clause-cut : goal.returns-clause-cut
returns-clause-cut c =
    let P : List ULine → Type 0 = λ lines. CutPlaces 0 (length c.args.view.now) lines in
    subst P (sym (c.into_bump_slice.ensures ∙ c.in_ok-lines.ensures.lines))
    (cut_view c.args.style.now c.args.arena.now c.args.view.now c.args.partners.now c.in_ok-lines.ensures.tree)
