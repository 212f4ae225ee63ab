use Rattle.std.proofs.Common.{◌∙◌, false, sym, ap}
use Rattle.std.specs.Str.{chars}
use Rattle.unicode_width.specs.Width.{str_width}
use Rattle.token_arena.proofs.RowLemmas.{width_of-row, width_of-utf8}
use Rattle.token_arena.proofs.facts.width.Goals as goal

pub returns-in-Ok : goal.returns-in-Ok
returns-in-Ok c =
    c.width.ensures.value ∙ (ap (λ s. str_width false (chars s)) c.in-Ok.ensures.cases.0 ∙ sym (width_of-utf8 c.args.row.now c.in-Ok.ensures.cases.1))

pub returns-then-row_len-row : goal.returns-then-row_len-row
returns-then-row_len-row c = sym (width_of-row c.args.row.now (sym c.row_len.ensures ∙ c.if-row_len-row.true))
