use Rattle.std.proofs.Common.{◌∙◌, ap}
use Rattle.std.proofs.lemmas.Bool.{false≢true}
use Rattle.token_classes.specs.Classes.{is_capital, is_case, is_close_brace, is_colon, is_control, is_default}
use Rattle.token_classes.specs.Classes.{is_extern, is_open_brace, is_open_round, is_plain, is_semicolon}
use Rattle.statement_lines.specs.Forms.{seen}
use Rattle.statement_lines.proofs.Known.{known}
use Rattle.statement_lines.proofs.SimpleLemmas.{call_rest, name_rest, other_rest}
use Rattle.statement_lines.proofs.simple.is_no_case.Goals as goal

pub returns-then-end-at : goal.returns-then-end-at
returns-then-end-at c = λ e braces. absurd (false≢true e)

pub returns-then-is_control : goal.returns-then-is_control
returns-then-is_control c = λ e braces. absurd (false≢true e)

pub returns-then-is_open_brace : goal.returns-then-is_open_brace
returns-then-is_open_brace c = λ e braces. absurd (false≢true e)

pub returns-then-is_colon : goal.returns-then-is_colon
returns-then-is_colon c = λ e braces. absurd (false≢true e)

pub returns-then-not-is_capital : goal.returns-then-not-is_capital
returns-then-not-is_capital c = λ e braces.
    let class = c.class_at-class.ensures in
    let next = c.seen-next.ensures in
    name_rest braces c.args.tokens.now c.args.opened c.args.at c.requires.statements
    (known is_control _ _ _ _ class c.is_control.ensures c.if-is_control.false)
    (known is_case _ _ _ _ class c.is_case.ensures c.if-is_case.false)
    (known is_extern _ _ _ _ class c.is_extern.ensures c.if-is_extern.false)
    (known is_open_brace _ _ _ _ class c.is_open_brace.ensures c.if-is_open_brace.false)
    (known is_close_brace _ _ _ _ class c.is_close_brace.ensures c.if-is_close_brace.false)
    (known is_colon _ _ _ _ next c.is_colon.ensures c.if-not-is_colon.true)
    (known is_open_round _ _ _ _ next c.is_open_round.ensures c.if-not-is_open_round.true)
    (known is_capital _ _ _ _ class c.is_capital.ensures c.if-not-is_capital.true)

pub returns-then-not-is_plain : goal.returns-then-not-is_plain
returns-then-not-is_plain c = λ e braces.
    let class = c.class_at-class.ensures in
    other_rest braces c.args.tokens.now c.args.opened c.args.at c.requires.statements
    (known is_control _ _ _ _ class c.is_control.ensures c.if-is_control.false)
    (known is_case _ _ _ _ class c.is_case.ensures c.if-is_case.false)
    (known is_default _ _ _ _ class c.is_default.ensures c.if-is_default.false)
    (known is_extern _ _ _ _ class c.is_extern.ensures c.if-is_extern.false)
    (known is_open_brace _ _ _ _ class c.is_open_brace.ensures c.if-is_open_brace.false)
    (known is_close_brace _ _ _ _ class c.is_close_brace.ensures c.if-is_close_brace.false)
    (known is_plain _ _ _ _ class c.is_plain.ensures c.if-not-is_plain.true)

pub returns : goal.returns
returns c = λ e braces.
    let class = c.class_at-class.ensures in
    let next = c.seen-next.ensures in
    let behind = c.seen.ensures ∙ ap (seen c.args.tokens.now c.args.opened.end) c.after_group-behind.ensures.same in
    call_rest braces c.args.tokens.now c.args.opened c.args.at c.requires.statements
    (known is_control _ _ _ _ class c.is_control.ensures c.if-is_control.false)
    (known is_case _ _ _ _ class c.is_case.ensures c.if-is_case.false)
    (known is_extern _ _ _ _ class c.is_extern.ensures c.if-is_extern.false)
    (known is_open_brace _ _ _ _ class c.is_open_brace.ensures c.if-is_open_brace.false)
    (known is_close_brace _ _ _ _ class c.is_close_brace.ensures c.if-is_close_brace.false)
    (known is_colon _ _ _ _ next c.is_colon-2.ensures c.if-is_colon.false)
    c.requires.list
    (known is_semicolon _ _ _ _ behind c.is_semicolon.ensures e)
