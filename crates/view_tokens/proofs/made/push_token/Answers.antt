use Rattle.std.proofs.Common.{◌∙◌, sym}
use Rattle.view_tokens.proofs.Pushed.{plain_pushed}
use Rattle.view_tokens.proofs.made.push_token.Goals as goal

pub push_told-requires-clause-touch : goal.push_told-requires-clause-touch
push_told-requires-clause-touch c = c.requires.touch c.in-Some.touch (sym c.touch_of.ensures ∙ c.in-Some.is)

pub push_read-requires-clause-touch : goal.push_read-requires-clause-touch
push_read-requires-clause-touch c = c.requires.touch c.in-Some.touch (sym c.touch_of.ensures ∙ c.in-Some.is)

pub returns-then-is_one_row-clause-token : goal.returns-then-is_one_row-clause-token
returns-then-is_one_row-clause-token c =
    plain_pushed c.args.arena.now c.args.id c.args.apart c.args.marks.now c.args.toks.now.items c.push_told.new.toks.items c.args.mark.now c.requires.mark
    (sym c.is_inner.ensures ∙ c.if-not-is_inner.true) c.push_told.ensures.items

pub returns-else-is_one_row-clause-token : goal.returns-else-is_one_row-clause-token
returns-else-is_one_row-clause-token c =
    plain_pushed c.args.arena.now c.args.id c.args.apart c.args.marks.now c.args.toks.now.items c.push_read.new.toks.items c.args.mark.now c.requires.mark
    (sym c.is_inner.ensures ∙ c.if-not-is_inner.true) c.push_read.ensures.items
