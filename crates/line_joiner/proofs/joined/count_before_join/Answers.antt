use Rattle.std.proofs.Common.{◌≡◌, ◌∙◌, ◌+◌, ◌-◌, List, length, length-drop, take, drop, get_or, ap, refl, sym, arith}
use Rattle.std.proofs.lemmas.List.{take_all, take_more}
use Rattle.line_tokens.specs.declared.line.ULine.{ULine}
use Rattle.line_tokens.specs.declared.line.LineKind.TheVariants.{Simple}
use Rattle.line_joiner.specs.Joined.{lines_joined}
use Rattle.line_joiner.proofs.Alone.{alone_pushed, joined_pushed}
use Rattle.line_joiner.proofs.joined.count_before_join.Goals as goal

pub loop-index-preserved-then-not-is_head : goal.loop-index-preserved-then-not-is_head
loop-index-preserved-then-not-is_head c =
    let blank : ULine = record { first = 0; last = 0; level = 0; kind = Simple } in
    let lines = c.args.lines.now in
    let i = c.loop-index.index in
    let alone = sym (c.is_head.ensures c.args.style.now c.requires.heads) ∙ c.if-not-is_head.true in
    alone_pushed c.args.style.now c.args.classes.now c.args.tokens.now c.args.fixed.now 0 lines i blank _ _ _ c.loop-index-test.true refl alone c.loop-index.invariant (take_more lines i blank c.loop-index-test.true)

pub loop-index-preserved : goal.loop-index-preserved
loop-index-preserved c =
    let blank : ULine = record { first = 0; last = 0; level = 0; kind = Simple } in
    let lines = c.args.lines.now in
    let i = c.loop-index.index in
    let line = get_or lines i blank in
    let rest : take (length lines - (i + 1)) (drop (i + 1) lines) ≡ drop (i + 1) lines = take_all (length lines - (i + 1)) (drop (i + 1) lines) (omega (arith, length-drop (i + 1) lines)) in
    let more = c.in_ok-more.ensures ∙ ap (λ (ls : List ULine). lines_joined c.args.style.now c.args.classes.now c.args.tokens.now c.args.fixed.now line ls) rest in
    let none : 0 ≡ c.in_ok-more.more = omega (arith, c.if-more-gt0.false) in
    joined_pushed c.args.style.now c.args.classes.now c.args.tokens.now c.args.fixed.now 0 0 lines i blank (take i lines) _ _ c.loop-index-test.true refl (none ∙ more) c.loop-index.invariant (take_more lines i blank c.loop-index-test.true)
