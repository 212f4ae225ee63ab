use Rattle.std.proofs.Common.{◌∙◌, ◌-◌, sym, ap, subst, arith, List}
use Rattle.token_roles.specs.declared.mark.Mark.{Mark}
use Rattle.view_tokens.specs.Row.{row_of, IsRow}
use Rattle.view_tokens.proofs.Rows.{view_count, row_within, row_range, together}
use Rattle.view_tokens.proofs.tokens.ViewTokens.row.Goals as goal

pub overflow_cast-first : goal.overflow_cast-first
overflow_cast-first c = omega (arith, view_count c.self.inside.arena.now c.self.inside.view.now c.self.inside.marks.now c.args.self.now (sym c.self.view_is), c.requires.within, c.requires.some, c.self.invariant.places, c.self.invariant.few)

pub overflow_cast-end : goal.overflow_cast-end
overflow_cast-end c = omega (arith, view_count c.self.inside.arena.now c.self.inside.view.now c.self.inside.marks.now c.args.self.now (sym c.self.view_is), c.requires.within, c.requires.some, c.self.invariant.places, c.self.invariant.few)

pub row_start-start-requires : goal.row_start-start-requires
row_start-start-requires c = omega (arith, view_count c.self.inside.arena.now c.self.inside.view.now c.self.inside.marks.now c.args.self.now (sym c.self.view_is), c.requires.within, c.requires.some, c.self.invariant.places, c.self.invariant.few)

pub marks_from-requires : goal.marks_from-requires
marks_from-requires c = omega (arith, view_count c.self.inside.arena.now c.self.inside.view.now c.self.inside.marks.now c.args.self.now (sym c.self.view_is), c.requires.within, c.requires.some, c.self.invariant.places, c.self.invariant.few)

pub of-requires : goal.of-requires
of-requires c =
    subst (λ (ms : List Mark). IsRow c.self.inside.arena.now c.row_start-start.result.id ms (c.args.end - c.args.first)) (sym c.marks_from.ensures)
    (row_within c.self.inside.arena.now c.self.inside.view.now c.self.inside.marks.now c.args.first (c.args.end - c.args.first) c.row_start-start.result.id c.self.invariant.within c.self.invariant.places (omega (arith, c.requires.some)) (omega (arith, view_count c.self.inside.arena.now c.self.inside.view.now c.self.inside.marks.now c.args.self.now (sym c.self.view_is), c.requires.within, c.requires.some, c.self.invariant.places, c.self.invariant.few)) (λ j below. c.row_start-start.ensures.items j (omega (arith, below, c.if-start-end.false))))

pub returns-clause-tokens : goal.returns-clause-tokens
returns-clause-tokens c =
    c.of.ensures
    ∙ (ap (λ (ms : List Mark). row_of c.self.inside.arena.now c.row_start-start.result.id c.row_start-start.result.apart ms (c.args.end - c.args.first)) c.marks_from.ensures
    ∙ row_range c.self.inside.arena.now c.self.inside.view.now c.self.inside.marks.now c.args.self.now c.args.first (c.args.end - c.args.first) c.row_start-start.result.id c.row_start-start.result.apart (sym c.self.view_is) (λ j below. c.row_start-start.ensures.items j (omega (arith, below, c.if-start-end.false))) c.row_start-start.ensures.apart)

pub returns-clause-together : goal.returns-clause-together
returns-clause-together c = λ k d some within.
    together c.self.inside.arena.now c.row_start-start.result.id c.row_start-start.result.apart c.marks_from.result.now (c.args.end - c.args.first) c.of.result c.of.ensures
    (subst (λ (ms : List Mark). IsRow c.self.inside.arena.now c.row_start-start.result.id ms (c.args.end - c.args.first)) (sym c.marks_from.ensures)
    (row_within c.self.inside.arena.now c.self.inside.view.now c.self.inside.marks.now c.args.first (c.args.end - c.args.first) c.row_start-start.result.id c.self.invariant.within c.self.invariant.places (omega (arith, c.requires.some)) (omega (arith, view_count c.self.inside.arena.now c.self.inside.view.now c.self.inside.marks.now c.args.self.now (sym c.self.view_is), c.requires.within, c.requires.some, c.self.invariant.places, c.self.invariant.few)) (λ j below. c.row_start-start.ensures.items j (omega (arith, below, c.if-start-end.false)))))
    k d some within
