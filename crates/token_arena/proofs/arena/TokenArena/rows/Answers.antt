use Rattle.std.proofs.Common.{◌∙◌, ◌<◌, length, ap, sym}
use Rattle.token_arena.specs.declared.facts.Rows.{Rows}
use Rattle.token_arena.proofs.EntryLemmas.{length_kept}
use Rattle.token_arena.proofs.RowsKept.{any_rows, plain_rows}
use Rattle.token_arena.proofs.arena.TokenArena.rows.Goals as goal

pub returns-then-is_printable-clause-count : goal.returns-then-is_printable-clause-count
returns-then-is_printable-clause-count c = λ no_token.
    let text = c.self.inside.text.now in
    let entries = c.self.inside.entries.now in
    let below : c.args.id.0 < length entries = rw (← c.self.view_is, length_kept) at c.requires in
    rw (← c.self.view_is) (ap (λ (rows : Rows). rows.count) c.one_row.ensures ∙ (plain_rows text entries c.args.id.0 _ no_token below c.self.invariant.within c.self.invariant.plain (sym c.is_printable.ensures ∙ c.if-is_printable.true)).count_is)

pub returns-then-is_printable-clause-first : goal.returns-then-is_printable-clause-first
returns-then-is_printable-clause-first c = λ no_token.
    let text = c.self.inside.text.now in
    let entries = c.self.inside.entries.now in
    let below : c.args.id.0 < length entries = rw (← c.self.view_is, length_kept) at c.requires in
    rw (← c.self.view_is) (ap (λ (rows : Rows). rows.first_width) c.one_row.ensures ∙ (plain_rows text entries c.args.id.0 _ no_token below c.self.invariant.within c.self.invariant.plain (sym c.is_printable.ensures ∙ c.if-is_printable.true)).first_is)

pub returns-then-is_printable-clause-last : goal.returns-then-is_printable-clause-last
returns-then-is_printable-clause-last c = λ no_token.
    let text = c.self.inside.text.now in
    let entries = c.self.inside.entries.now in
    let below : c.args.id.0 < length entries = rw (← c.self.view_is, length_kept) at c.requires in
    rw (← c.self.view_is) (ap (λ (rows : Rows). rows.last_width) c.one_row.ensures ∙ (plain_rows text entries c.args.id.0 _ no_token below c.self.invariant.within c.self.invariant.plain (sym c.is_printable.ensures ∙ c.if-is_printable.true)).last_is)

pub returns : goal.returns
returns c =
    let text = c.self.inside.text.now in
    let entries = c.self.inside.entries.now in
    let below : c.args.id.0 < length entries = rw (← c.self.view_is, length_kept) at c.requires in
    record {
      count = λ no_token. rw (← c.self.view_is) (c.rows_of_any.ensures.count ∙ (any_rows text entries c.args.id.0 _ _ no_token below c.bytes_of.ensures).count_is);
      first = λ no_token. rw (← c.self.view_is) (c.rows_of_any.ensures.first ∙ (any_rows text entries c.args.id.0 _ _ no_token below c.bytes_of.ensures).first_is);
      last = λ no_token. rw (← c.self.view_is) (c.rows_of_any.ensures.last ∙ (any_rows text entries c.args.id.0 _ _ no_token below c.bytes_of.ensures).last_is);
    }
