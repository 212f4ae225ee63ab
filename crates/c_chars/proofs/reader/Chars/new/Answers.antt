use Rattle.std.proofs.Common.{drop, arith, subst}
use Rattle.std.proofs.lemmas.List.{length-drop}
use Rattle.c_chars.specs.Characters.{chars}
use Rattle.c_chars.specs.Coming.{AreBetween}
use Rattle.c_chars.proofs.Spans.{between_chars}
use Rattle.c_chars.proofs.reader.Chars.new.Goals as goal

pub returns-clause-spans : goal.returns-clause-spans
returns-clause-spans c =
    let at = c.mark_len-at.result in
    let rest = drop at c.args.text.now in
    let len = length-drop at c.args.text.now in
    subst (λ high. AreBetween at (chars c.args.dialect at rest) high) (omega (arith, len, c.mark_len-at.ensures.within)) (between_chars c.args.dialect at rest)
