use Rattle.std.proofs.Common.{◌<◌, ◌≤◌, ◌+◌, ◌-◌, length, refl, reverse}
use Rattle.std.proofs.lemmas.Result.{IfOk-weaker}
use Rattle.statement_lines.specs.Stack.{GoesBehind, LeadsToEnd}
use Rattle.statement_lines.proofs.TurnLemmas.{ends_low, level_small, place_small, taken_up}
use Rattle.statement_lines.proofs.EndLemmas.{into_skip, nearer, past_skip, skipped, whole_within}
use Rattle.statement_lines.proofs.ending.skip_line.Goals as goal

pub returns-then-block-opened-clause-leads : goal.returns-then-block-opened-clause-leads
returns-then-block-opened-clause-leads c =
    past_skip _ _ _ _ _ _ _ _ _ _ c.requires.leads c.requires.here c.requires.form c.in-Opens.is c.requires.stays c.requires.level
    c.if-block-opened.true c.in_ok-push_open.ensures.items

pub returns-in-Opens-clause-leads : goal.returns-in-Opens-clause-leads
returns-in-Opens-clause-leads c =
    into_skip _ _ _ _ c.args.stack.now.items _ _ _ _ _ _ c.requires.leads c.requires.here c.requires.form c.in-Opens.is c.requires.stays c.requires.level
    c.if-block-opened.false c.clear.ensures.items c.in_ok-push_open-2.ensures.items

pub go_behind-requires-clause-end : goal.go_behind-requires-clause-end
go_behind-requires-clause-end c =
    place_small _ _ _ (ends_low c.args.place.at c.args.opened c.args.form _ refl c.requires.stays) (whole_within _ _ _ _ _ _ c.requires.leads) c.requires.few

pub go_behind-requires-clause-level : goal.go_behind-requires-clause-level
go_behind-requires-clause-level c = level_small _ _ _ _ c.requires.level c.requires.here (whole_within _ _ _ _ _ _ c.requires.leads) c.requires.few

pub returns-clause-leads : goal.returns-clause-leads
returns-clause-leads c =
    let f = c.args.form in
    let lists = reverse c.go_behind.new.stack.items in
    IfOk-weaker c.go_behind.result
    (λ p. GoesBehind c.args.tokens.now c.args.opened f (reverse c.push_open-2.new.stack.items) lists p.start p.at f.next × (length c.go_behind.new.stack.items ≤ length c.push_open-2.new.stack.items + 1))
    (λ p. LeadsToEnd c.args.braces.now c.args.tokens.now lists p.start p.at)
    (λ p w. skipped c.args.braces.now c.args.tokens.now c.args.opened c.args.stack.now.items c.push_open-2.new.stack.items c.go_behind.new.stack.items c.args.place.start p.start c.args.place.at p.at f f.next c.requires.leads c.requires.here c.requires.form refl c.requires.stays c.requires.level c.in_default.not-Opens
    c.in_ok-push_open-3.ensures.items w.0)
    c.go_behind.ensures

pub returns-clause-up : goal.returns-clause-up
returns-clause-up c =
    let f = c.args.form in
    let lists = reverse c.go_behind.new.stack.items in
    IfOk-weaker c.go_behind.result
    (λ p. GoesBehind c.args.tokens.now c.args.opened f (reverse c.push_open-2.new.stack.items) lists p.start p.at f.next × (length c.go_behind.new.stack.items ≤ length c.push_open-2.new.stack.items + 1))
    (λ p. length c.args.tokens.now - p.at < length c.args.tokens.now - c.args.place.at)
    (λ p w. nearer (length c.args.tokens.now) c.args.opened.end c.args.place.at p.at c.requires.here (whole_within _ _ _ _ _ _ c.requires.leads) (taken_up c.args.tokens.now c.args.opened f (reverse c.push_open-2.new.stack.items) lists p.start c.args.place.at p.at f.next refl c.requires.stays w.0))
    c.go_behind.ensures
