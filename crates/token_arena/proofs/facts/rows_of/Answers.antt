use Rattle.std.proofs.Common.{◌∙◌, sym, ap}
use Rattle.token_arena.specs.declared.facts.Rows.{Rows}
use Rattle.token_arena.proofs.RowLemmas.{first-printable, last-printable, rows-printable}
use Rattle.token_arena.proofs.facts.rows_of.Goals as goal

pub returns-then-is_printable-clause-count : goal.returns-then-is_printable-clause-count
returns-then-is_printable-clause-count c =
    ap (λ (rows : Rows). rows.count) c.one_row.ensures ∙ sym (rows-printable c.args.raw.now (sym c.is_printable.ensures ∙ c.if-is_printable.true))

pub returns-then-is_printable-clause-first : goal.returns-then-is_printable-clause-first
returns-then-is_printable-clause-first c =
    ap (λ (rows : Rows). rows.first_width) c.one_row.ensures ∙ sym (first-printable c.args.raw.now (sym c.is_printable.ensures ∙ c.if-is_printable.true))

pub returns-then-is_printable-clause-last : goal.returns-then-is_printable-clause-last
returns-then-is_printable-clause-last c =
    ap (λ (rows : Rows). rows.last_width) c.one_row.ensures ∙ sym (last-printable c.args.raw.now (sym c.is_printable.ensures ∙ c.if-is_printable.true))
