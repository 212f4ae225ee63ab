use Rattle.std.proofs.Common.{◌≡◌, ◌∙◌, ◌+◌, ◌-◌, List, length, sym, ap, arith, take, drop}
use Rattle.token_roles.specs.declared.mark.Mark.{Mark}
use Rattle.view_tokens.specs.Row.{row_of}
use Rattle.view_tokens.proofs.Rows.{view_count, row_count, row_on, row_range}
use Rattle.view_tokens.proofs.tokens.ViewTokens.row_from.Goals as goal

pub overflow_cast-first : goal.overflow_cast-first
overflow_cast-first c = omega (arith, view_count c.self.inside.arena.now c.self.inside.view.now c.self.inside.marks.now c.args.self.now (sym c.self.view_is), c.requires, c.self.invariant.places, c.self.invariant.few)

pub row_start-start-requires : goal.row_start-start-requires
row_start-start-requires c = omega (arith, view_count c.self.inside.arena.now c.self.inside.view.now c.self.inside.marks.now c.args.self.now (sym c.self.view_is), c.requires, c.self.invariant.places)

pub overflow_sub-left : goal.overflow_sub-left
overflow_sub-left c = omega (arith, view_count c.self.inside.arena.now c.self.inside.view.now c.self.inside.marks.now c.args.self.now (sym c.self.view_is), c.requires)

pub marks_from-requires : goal.marks_from-requires
marks_from-requires c = omega (arith, view_count c.self.inside.arena.now c.self.inside.view.now c.self.inside.marks.now c.args.self.now (sym c.self.view_is), c.requires)

pub of-requires : goal.of-requires
of-requires c =
    row_on c.self.inside.arena.now c.self.inside.view.now c.self.inside.marks.now c.marks_from.result.now c.args.first c.min.result c.row_start-start.result c.self.invariant.within c.self.invariant.places (omega (arith, c.min.ensures, view_count c.self.inside.arena.now c.self.inside.view.now c.self.inside.marks.now c.args.self.now (sym c.self.view_is), c.requires, c.row_start-start.ensures.some))
    (omega (arith, c.min.ensures, view_count c.self.inside.arena.now c.self.inside.view.now c.self.inside.marks.now c.args.self.now (sym c.self.view_is), c.requires, c.self.invariant.places)) (omega (arith, c.min.ensures)) c.row_start-start.ensures c.marks_from.ensures

pub returns-clause-some : goal.returns-clause-some
returns-clause-some c =
    omega (
      arith,
      row_count c.self.inside.arena.now c.row_start-start.result.id c.row_start-start.result.apart c.marks_from.result.now c.min.result c.of.result c.of.ensures
          (row_on c.self.inside.arena.now c.self.inside.view.now c.self.inside.marks.now c.marks_from.result.now c.args.first c.min.result c.row_start-start.result c.self.invariant.within c.self.invariant.places (omega (arith, c.min.ensures, view_count c.self.inside.arena.now c.self.inside.view.now c.self.inside.marks.now c.args.self.now (sym c.self.view_is), c.requires, c.row_start-start.ensures.some))
          (omega (arith, c.min.ensures, view_count c.self.inside.arena.now c.self.inside.view.now c.self.inside.marks.now c.args.self.now (sym c.self.view_is), c.requires, c.self.invariant.places)) (omega (arith, c.min.ensures)) c.row_start-start.ensures c.marks_from.ensures),
      c.min.ensures,
      c.row_start-start.ensures.some,
      view_count c.self.inside.arena.now c.self.inside.view.now c.self.inside.marks.now c.args.self.now (sym c.self.view_is),
      c.requires,
    )

pub returns-clause-within : goal.returns-clause-within
returns-clause-within c =
    omega (
      arith,
      row_count c.self.inside.arena.now c.row_start-start.result.id c.row_start-start.result.apart c.marks_from.result.now c.min.result c.of.result c.of.ensures
          (row_on c.self.inside.arena.now c.self.inside.view.now c.self.inside.marks.now c.marks_from.result.now c.args.first c.min.result c.row_start-start.result c.self.invariant.within c.self.invariant.places (omega (arith, c.min.ensures, view_count c.self.inside.arena.now c.self.inside.view.now c.self.inside.marks.now c.args.self.now (sym c.self.view_is), c.requires, c.row_start-start.ensures.some))
          (omega (arith, c.min.ensures, view_count c.self.inside.arena.now c.self.inside.view.now c.self.inside.marks.now c.args.self.now (sym c.self.view_is), c.requires, c.self.invariant.places)) (omega (arith, c.min.ensures)) c.row_start-start.ensures c.marks_from.ensures),
      c.min.ensures,
      view_count c.self.inside.arena.now c.self.inside.view.now c.self.inside.marks.now c.args.self.now (sym c.self.view_is),
      c.requires,
    )

pub returns-clause-tokens : goal.returns-clause-tokens
returns-clause-tokens c =
    let many : length c.of.result ≡ c.min.result = row_count c.self.inside.arena.now c.row_start-start.result.id c.row_start-start.result.apart c.marks_from.result.now c.min.result c.of.result c.of.ensures
    (row_on c.self.inside.arena.now c.self.inside.view.now c.self.inside.marks.now c.marks_from.result.now c.args.first c.min.result c.row_start-start.result c.self.invariant.within c.self.invariant.places (omega (arith, c.min.ensures, view_count c.self.inside.arena.now c.self.inside.view.now c.self.inside.marks.now c.args.self.now (sym c.self.view_is), c.requires, c.row_start-start.ensures.some))
    (omega (arith, c.min.ensures, view_count c.self.inside.arena.now c.self.inside.view.now c.self.inside.marks.now c.args.self.now (sym c.self.view_is), c.requires, c.self.invariant.places)) (omega (arith, c.min.ensures)) c.row_start-start.ensures c.marks_from.ensures) in
    let width : c.args.first + length c.of.result - c.args.first ≡ c.min.result = omega (arith, many) in
    c.of.ensures
    ∙ (ap (λ (ms : List Mark). row_of c.self.inside.arena.now c.row_start-start.result.id c.row_start-start.result.apart ms c.min.result) c.marks_from.ensures
    ∙ (row_range c.self.inside.arena.now c.self.inside.view.now c.self.inside.marks.now c.args.self.now c.args.first c.min.result c.row_start-start.result.id c.row_start-start.result.apart (sym c.self.view_is) (λ j below. c.row_start-start.ensures.items j (omega (arith, below, c.min.ensures))) c.row_start-start.ensures.apart
    ∙ ap (λ n. take n (drop c.args.first c.args.self.now)) (sym width)))
