use Rattle.std.proofs.Common.{◌+◌, ◌-◌, drop, sym, ap}
use Rattle.directive_layout.specs.Laid.{longest_from, inner_from}
use Rattle.directive_layout.proofs.Longest.{laid_any}
use Rattle.directive_layout.proofs.laying.aligned_by.Goals as goal

pub returns-then-asks_for_longest : goal.returns-then-asks_for_longest
returns-then-asks_for_longest c =
    let arena = c.args.arena.now in
    let first = c.args.first in
    let items = drop (first + 1) arena.tokens in
    let count = c.args.end - (first + 1) in
    λ token is.
    ap (λ n. inner_from c.args.style.now arena.dialect c.args.depth c.args.staying c.args.toks.now n (first + 1) c.args.start token items count) (c.longest_spliced.ensures token is)

pub returns-else-asks_for_longest : goal.returns-else-asks_for_longest
returns-else-asks_for_longest c =
    let arena = c.args.arena.now in
    let first = c.args.first in
    let items = drop (first + 1) arena.tokens in
    let count = c.args.end - (first + 1) in
    λ token is.
    sym (laid_any c.args.style.now arena.dialect c.args.depth c.args.staying c.args.toks.now (longest_from c.args.style.now arena.dialect c.args.depth c.args.staying c.args.toks.now c.args.start token items count) (first + 1) c.args.start token items count
    (c.asks_for_longest.ensures c.if-asks_for_longest.false))
