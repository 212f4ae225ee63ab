use Rattle.std.proofs.Common.{◌∙◌, List, arith, ap, get_or, sym}
use Rattle.line_tokens.specs.declared.LineTok.{LineTok}
use Rattle.view_tokens.proofs.Rows.{view_count, view_token}
use Rattle.view_tokens.proofs.Starts.{first_item}
use Rattle.view_tokens.proofs.tokens.ViewTokens.id.Goals as goal

pub overflow_cast-place : goal.overflow_cast-place
overflow_cast-place c = omega (arith, view_count c.self.inside.arena.now c.self.inside.view.now c.self.inside.marks.now c.args.self.now (sym c.self.view_is), c.requires, c.self.invariant.places, c.self.invariant.few)

pub row_start-requires : goal.row_start-requires
row_start-requires c = omega (arith, view_count c.self.inside.arena.now c.self.inside.view.now c.self.inside.marks.now c.args.self.now (sym c.self.view_is), c.requires, c.self.invariant.places)

pub returns : goal.returns
returns c = λ d.
    sym (first_item c.self.inside.view.now c.args.place c.row_start.result c.row_start.ensures)
    ∙ (sym (ap (λ (t : LineTok). t.id.0) (view_token c.self.inside.arena.now c.self.inside.view.now c.self.inside.marks.now c.args.place d (omega (arith, view_count c.self.inside.arena.now c.self.inside.view.now c.self.inside.marks.now c.args.self.now (sym c.self.view_is), c.requires))))
    ∙ ap (λ (ts : List LineTok). (get_or ts c.args.place d).id.0) c.self.view_is)
