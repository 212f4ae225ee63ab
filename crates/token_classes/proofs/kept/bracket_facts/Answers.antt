use Rattle.std.proofs.Common.{◌∙◌, length, sym, ap}
use Rattle.token_classes.proofs.KeptPlaces.{kept_is, length-marks, length-partners_of, none_kept}
use Rattle.token_classes.proofs.kept.bracket_facts.Goals as goal
use Rattle.token_classes.proofs.kept.bracket_facts.Goals.{then-branch, else-branch}

pub spread-requires : goal.spread-requires
spread-requires c =
    length-marks c.args.classes.now c.read_brackets.new.marks c.in_ok-read_brackets.ensures.marks
    ∙ sym (length-partners_of c.args.classes.now) ∙ sym (ap length c.in_ok-read_brackets.ensures.partners)

pub returns-clause-kept : goal.returns-clause-kept
returns-clause-kept c =
    let classes = c.args.classes.now in
    let marks = c.read_brackets.new.marks in
    let braces = c.in_ok-read_brackets.ensures.marks in
    elim c.if-branch.branch [
      | then-branch w ↦ w.kept-is ∙ w.spread.ensures ∙ kept_is classes marks c.read_brackets.new.partners braces c.in_ok-read_brackets.ensures.partners
      | else-branch w ↦ w.kept-is ∙ none_kept classes marks braces (c.in_ok-read_brackets.ensures.none w.if-branch.false)
    ]
