use Rattle.std.proofs.Common.{◌∙◌, ap, sym, Bool, get_or, drop}
use Rattle.token_roles.specs.Held.{is_held}
use Rattle.view_tokens.specs.Tokens.{tok_of}
use Rattle.view_tokens.proofs.Pushed.{no_mark}
use Rattle.view_tokens.proofs.Rows.{in_row, row_made}
use Rattle.view_tokens.proofs.row.RowTokens.at.Goals as goal

pub number-id-requires : goal.number-id-requires
number-id-requires c = (in_row c.self.inside.arena.now c.self.inside.first c.self.inside.apart c.self.inside.marks.now c.self.inside.count c.args.self.now (sym c.self.view_is) c.self.invariant c.args.at c.requires).item

pub token_of-requires-clause-place : goal.token_of-requires-clause-place
token_of-requires-clause-place c = (in_row c.self.inside.arena.now c.self.inside.first c.self.inside.apart c.self.inside.marks.now c.self.inside.count c.args.self.now (sym c.self.view_is) c.self.invariant c.args.at c.requires).told

pub returns : goal.returns
returns c = λ d.
    row_made c.self.inside.arena.now c.self.inside.first c.self.inside.apart c.self.inside.marks.now c.self.inside.count c.args.self.now (sym c.self.view_is) c.self.invariant c.args.at c.number-id.result c.token_of.result d c.requires c.number-id.ensures.is
    (c.token_of.ensures no_mark
    ∙ ap (λ (b : Bool). tok_of c.self.inside.arena.now c.number-id.result b (get_or c.self.inside.marks.now c.args.at no_mark) (is_held (drop c.args.at c.self.inside.marks.now))) c.is_apart.ensures)
