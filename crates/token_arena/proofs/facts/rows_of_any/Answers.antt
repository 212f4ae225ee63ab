use Rattle.std.proofs.Common.{◌∙◌, sym, ap}
use Rattle.token_arena.specs.Stored.{width_of}
use Rattle.token_arena.specs.declared.facts.Rows.{Rows}
use Rattle.token_arena.proofs.RowLemmas.{first-row, first_row-one, last-row, last_row-one, rows-row}
use Rattle.token_arena.proofs.facts.rows_of_any.Goals as goal

pub returns-then-row_len-raw-clause-count : goal.returns-then-row_len-raw-clause-count
returns-then-row_len-raw-clause-count c = ap (λ (rows : Rows). rows.count) c.one_row.ensures ∙ sym (rows-row c.args.raw.now (sym c.row_len.ensures ∙ c.if-row_len-raw.true))

pub returns-then-row_len-raw-clause-first : goal.returns-then-row_len-raw-clause-first
returns-then-row_len-raw-clause-first c = ap (λ (rows : Rows). rows.first_width) c.one_row.ensures ∙ sym (first-row c.args.raw.now (sym c.row_len.ensures ∙ c.if-row_len-raw.true))

pub returns-then-row_len-raw-clause-last : goal.returns-then-row_len-raw-clause-last
returns-then-row_len-raw-clause-last c = ap (λ (rows : Rows). rows.last_width) c.one_row.ensures ∙ sym (last-row c.args.raw.now (sym c.row_len.ensures ∙ c.if-row_len-raw.true))

pub returns-then-feeds-eq0-clause-first : goal.returns-then-feeds-eq0-clause-first
returns-then-feeds-eq0-clause-first c =
    ap (λ (rows : Rows). rows.first_width) c.one_row-then-feeds-eq0.ensures
    ∙ c.width.ensures ∙ ap width_of (sym (first_row-one c.args.raw.now (sym c.line_feeds-feeds.ensures ∙ c.if-feeds-eq0.true)))

pub returns-then-feeds-eq0-clause-last : goal.returns-then-feeds-eq0-clause-last
returns-then-feeds-eq0-clause-last c =
    ap (λ (rows : Rows). rows.last_width) c.one_row-then-feeds-eq0.ensures
    ∙ c.width.ensures ∙ ap width_of (sym (last_row-one c.args.raw.now (sym c.line_feeds-feeds.ensures ∙ c.if-feeds-eq0.true)))
