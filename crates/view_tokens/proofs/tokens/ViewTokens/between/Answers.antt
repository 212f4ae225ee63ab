use Rattle.std.proofs.Common.{◌∙◌, ◌-◌, ◌+◌, sym, ap, arith, List, drop, length, length-drop, ℕ}
use Rattle.token_roles.specs.declared.mark.Mark.{Mark}
use Rattle.view_tokens.specs.Tokens.{toks_from}
use Rattle.view_tokens.proofs.Rows.{view_count, made_range}
use Rattle.view_tokens.proofs.tokens.ViewTokens.between.Goals as goal

pub marks_from-requires : goal.marks_from-requires
marks_from-requires c = omega (arith, view_count c.self.inside.arena.now c.self.inside.view.now c.self.inside.marks.now c.args.self.now (sym c.self.view_is), c.requires.order, c.requires.within)

pub push_places-requires-clause-places : goal.push_places-requires-clause-places
push_places-requires-clause-places c = omega (arith, view_count c.self.inside.arena.now c.self.inside.view.now c.self.inside.marks.now c.args.self.now (sym c.self.view_is), c.requires.order, c.requires.within, c.self.invariant.places, ap length c.marks_from.ensures, length-drop c.args.first c.self.inside.marks.now)

pub push_places-requires-clause-count : goal.push_places-requires-clause-count
push_places-requires-clause-count c = omega (arith, view_count c.self.inside.arena.now c.self.inside.view.now c.self.inside.marks.now c.args.self.now (sym c.self.view_is), c.requires.order, c.requires.within, ap length c.marks_from.ensures, length-drop c.args.first c.self.inside.marks.now)

pub returns : goal.returns
returns c =
    let arena = c.self.inside.arena.now in
    let ids = c.self.inside.view.now in
    let first = c.args.first in
    let count : ℕ = c.args.end - first in
    let toks = c.push_places.new.toks.items in
    c.into_bump_slice.ensures
    ∙ made_range c.self.inside.arena.now c.self.inside.view.now c.self.inside.marks.now c.args.self.now toks (toks_from arena ids (first + count) (drop count c.marks_from.result.now)) first count (sym c.self.view_is) c.push_places.ensures.count
    (c.push_places.ensures.tokens ∙ ap (λ (ms : List Mark). toks_from arena ids first ms) c.marks_from.ensures)
