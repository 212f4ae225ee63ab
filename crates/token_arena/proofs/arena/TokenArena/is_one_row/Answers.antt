use Rattle.std.proofs.Common.{◌∙◌, ◌<◌, length, sym}
use Rattle.token_arena.proofs.EntryLemmas.{length_kept}
use Rattle.token_arena.proofs.RowsKept.{one_row}
use Rattle.token_arena.proofs.arena.TokenArena.is_one_row.Goals as goal

pub returns : goal.returns
returns c =
    let text = c.self.inside.text.now in
    let entries = c.self.inside.entries.now in
    let below : c.args.id.0 < length entries = rw (← c.self.view_is, length_kept) at c.requires in
    record {
      count = λ no_token yes. rw (← c.self.view_is) (one_row text entries c.args.id.0 _ no_token below c.self.invariant.within c.self.invariant.plain (sym c.is_printable.ensures ∙ yes)).count_is;
      first = λ no_token yes. rw (← c.self.view_is) (one_row text entries c.args.id.0 _ no_token below c.self.invariant.within c.self.invariant.plain (sym c.is_printable.ensures ∙ yes)).first_is;
      last = λ no_token yes. rw (← c.self.view_is) (one_row text entries c.args.id.0 _ no_token below c.self.invariant.within c.self.invariant.plain (sym c.is_printable.ensures ∙ yes)).last_is;
    }
