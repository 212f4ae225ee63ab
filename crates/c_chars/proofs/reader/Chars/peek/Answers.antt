use Rattle.std.proofs.Common.{◌∙◌, slice_get, ap}
use Rattle.c_chars.proofs.Steps.{first_behind, next_first}
use Rattle.c_chars.proofs.reader.Chars.peek.Goals as goal

pub returns : goal.returns
returns c =
    next_first c.behind.result c.next.new.self c.next.result c.next.ensures.some c.next.ensures.none ∙ (ap (λ x. slice_get x.chars 0) c.behind.ensures ∙ first_behind c.args.self.now c.args.index)
