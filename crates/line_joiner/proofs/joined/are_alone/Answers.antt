use Rattle.std.proofs.Common.{◌≡◌, ◌∙◌, ◌+◌, ◌-◌, List, suc, length, length-drop, take, drop, get_or, ap, sym, arith}
use Rattle.std.proofs.lemmas.List.{take_all}
use Rattle.line_tokens.specs.declared.line.ULine.{ULine}
use Rattle.line_tokens.specs.declared.line.LineKind.TheVariants.{Simple}
use Rattle.line_joiner.specs.JoinTable.{lines_by_table}
use Rattle.line_joiner.proofs.Alone.{one_more_alone, stay_alone, stays_alone}
use Rattle.line_joiner.proofs.joined.are_alone.Goals as goal

pub loop-index-preserved-then-not-is_head : goal.loop-index-preserved-then-not-is_head
loop-index-preserved-then-not-is_head c =
    let blank : ULine = record { first = 0; last = 0; level = 0; kind = Simple } in
    let style = c.args.style.now in
    let classes = c.args.classes.now in
    let toks = c.args.tokens.now in
    let lines = c.args.lines.now in
    let i = c.loop-index.index in
    let alone = sym (c.is_head.ensures style c.heads_of-heads.ensures) ∙ c.if-not-is_head.true in
    one_more_alone style classes toks lines i blank c.loop-index-test.true (omega (arith, stays_alone style classes toks (get_or lines i blank) (drop (suc i) lines) alone)) c.loop-index.invariant

pub loop-index-preserved : goal.loop-index-preserved
loop-index-preserved c =
    let blank : ULine = record { first = 0; last = 0; level = 0; kind = Simple } in
    let style = c.args.style.now in
    let classes = c.args.classes.now in
    let toks = c.args.tokens.now in
    let lines = c.args.lines.now in
    let i = c.loop-index.index in
    let next : i + 1 ≡ suc i = omega arith in
    let rest : take (length lines - (i + 1)) (drop (i + 1) lines) ≡ drop (suc i) lines = take_all (length lines - (i + 1)) (drop (i + 1) lines) (omega (arith, length-drop (i + 1) lines)) ∙ ap (λ n. drop n lines) next in
    let told : c.lines_by_table.result ≡ lines_by_table style classes toks (get_or lines i blank) (drop (suc i) lines) = c.lines_by_table.ensures ∙ ap (λ (ls : List ULine). lines_by_table style classes toks (get_or lines i blank) ls) rest in
    one_more_alone style classes toks lines i blank c.loop-index-test.true (omega (arith, told, c.if-lines_by_table-gt1.false)) c.loop-index.invariant

pub returns : goal.returns
returns c = λ told fixed.
    stay_alone c.args.style.now c.args.classes.now c.args.tokens.now fixed c.args.lines.now (λ i d within. c.loop-index.invariant i d (omega (arith, within, c.loop-index-test.false)))
