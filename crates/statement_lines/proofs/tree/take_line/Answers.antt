use Rattle.std.proofs.Common.{◌<◌, ◌≤◌, ◌+◌, length, refl, reverse}
use Rattle.std.proofs.lemmas.Result.{IfOk-weaker}
use Rattle.statement_lines.specs.Stack.{GoesBehind, Stands}
use Rattle.statement_lines.proofs.TurnLemmas.{end_small, ends_low, level_small, line_small, at_most_two_more, place_small}
use Rattle.statement_lines.proofs.TurnLemmas.{taken, taken_up}
use Rattle.statement_lines.proofs.tree.take_line.Goals as goal

pub push_form-requires-clause-begins : goal.push_form-requires-clause-begins
push_form-requires-clause-begins c = line_small _ _ _ c.requires.here c.requires.list c.requires.few

pub push_form-requires-clause-ends : goal.push_form-requires-clause-ends
push_form-requires-clause-ends c = end_small _ _ _ (ends_low c.args.place.at c.args.opened c.args.form _ refl c.requires.stays) c.requires.list c.requires.few

pub go_behind-requires-clause-end : goal.go_behind-requires-clause-end
go_behind-requires-clause-end c = place_small _ _ _ (ends_low c.args.place.at c.args.opened c.args.form _ refl c.requires.stays) c.requires.list c.requires.few

pub go_behind-requires-clause-level : goal.go_behind-requires-clause-level
go_behind-requires-clause-level c = level_small _ _ _ _ c.requires.level c.requires.here c.requires.list c.requires.few

pub returns-clause-stands : goal.returns-clause-stands
returns-clause-stands c =
    let f = c.args.form in
    let lists = reverse c.go_behind.new.stack.items in
    IfOk-weaker c.go_behind.result
    (λ p. GoesBehind c.args.tokens.now c.args.opened f (reverse c.push_open.new.stack.items) lists p.start p.at f.next × (length c.go_behind.new.stack.items ≤ length c.push_open.new.stack.items + 1))
    (λ p. Stands c.args.braces.now c.args.tokens.now c.push_form.new.out lists p.start p.at)
    (λ p w. taken c.args.braces.now c.args.tokens.now c.args.out.now c.push_form.new.out c.args.opened c.args.stack.now.items c.push_open.new.stack.items c.go_behind.new.stack.items
    c.args.place.start p.start c.args.place.at p.at f f.next c.requires.stands c.requires.here c.requires.form refl c.requires.stays c.requires.level
    c.in_ok-push_form.ensures c.in_ok-push_open.ensures.items w.0)
    c.go_behind.ensures

pub returns-clause-up : goal.returns-clause-up
returns-clause-up c =
    let f = c.args.form in
    let lists = reverse c.go_behind.new.stack.items in
    IfOk-weaker c.go_behind.result
    (λ p. GoesBehind c.args.tokens.now c.args.opened f (reverse c.push_open.new.stack.items) lists p.start p.at f.next × (length c.go_behind.new.stack.items ≤ length c.push_open.new.stack.items + 1))
    (λ p. (c.args.place.at < p.at) × (length c.go_behind.new.stack.items ≤ length c.args.stack.now.items + 2))
    (λ p w. (taken_up c.args.tokens.now c.args.opened f (reverse c.push_open.new.stack.items) lists p.start c.args.place.at p.at f.next refl c.requires.stays w.0, at_most_two_more (length c.go_behind.new.stack.items) c.args.stack.now.items c.push_open.new.stack.items c.args.opened c.in_ok-push_open.ensures.items w.1))
    c.go_behind.ensures
