use Rattle.std.proofs.Common.{◌∙◌, sym, arith}
use Rattle.token_arena.specs.Entries.{told_by}
use Rattle.token_arena.specs.Keeping.{asks_whether_there}
use Rattle.token_arena.proofs.Ranges.{any_here, any_later}
use Rattle.token_arena.proofs.directives.keeping.some_asks_whether_there.Goals as goal

pub returns-then-asks_whether_there : goal.returns-then-asks_whether_there
returns-then-asks_whether_there c =
    let arena = c.args.arena.now in
    let test = sym c.asks_whether_there.ensures ∙ c.if-asks_whether_there.true in
    sym (c.loop-at.invariant ∙ any_here (asks_whether_there arena.dialect) arena.tokens c.loop-at.at c.args.end (told_by c.get.result) (omega arith) c.get.ensures (rw (← c.dialect.ensures) test))

pub loop-at-preserved : goal.loop-at-preserved
loop-at-preserved c =
    let arena = c.args.arena.now in
    let test = sym c.asks_whether_there.ensures ∙ c.if-asks_whether_there.false in
    c.loop-at.invariant ∙ any_later (asks_whether_there arena.dialect) arena.tokens c.loop-at.at c.args.end (told_by c.get.result) (omega arith) c.get.ensures (rw (← c.dialect.ensures) test)
