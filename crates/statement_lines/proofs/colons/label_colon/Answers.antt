use Rattle.std.proofs.Common.{◌∙◌, ◌+◌, slice_index_or, sym, arith}
use Rattle.statement_lines.proofs.ColonLemmas.{label_found, label_up, cut_low, cut_high}
use Rattle.statement_lines.proofs.colons.label_colon.Goals as goal

pub returns-then-colon-end-clause-same : goal.returns-then-colon-end-clause-same
returns-then-colon-end-clause-same c =
    sym (label_found c.args.tokens.now c.args.colons.now c.args.end c.args.at (c.requires.colons (grind (arith, c.if-is_empty.false, c.is_empty.ensures))) c.requires.here c.requires.list
    ∙ sym (cut_low c.args.end (slice_index_or c.args.colons.now (c.args.at + 1) 0) c.if-colon-end.true))

pub returns-then-colon-end-clause-least : goal.returns-then-colon-end-clause-least
returns-then-colon-end-clause-least c = label_up c.args.tokens.now c.args.colons.now c.args.end c.args.at (c.requires.colons (grind (arith, c.if-is_empty.false, c.is_empty.ensures))) c.requires.here c.requires.list

pub returns-else-colon-end-clause-same : goal.returns-else-colon-end-clause-same
returns-else-colon-end-clause-same c =
    sym (label_found c.args.tokens.now c.args.colons.now c.args.end c.args.at (c.requires.colons (grind (arith, c.if-is_empty.false, c.is_empty.ensures))) c.requires.here c.requires.list
    ∙ sym (cut_high c.args.end (slice_index_or c.args.colons.now (c.args.at + 1) 0) c.if-colon-end.false))
