use Rattle.std.proofs.Common.{◌≡◌, ◌≤◌, ◌-◌, ◌∙◌, length, arith}
use Rattle.std.proofs.lemmas.Result.{IfOk-weaker}
use Rattle.item_classes.proofs.Lists.{few_below}
use Rattle.unwrapped_lines.specs.Inside.{lines_with}
use Rattle.unwrapped_lines.specs.Lines.{tree_of, unwrapped_lines_of}
use Rattle.statement_lines.specs.Stack.{IsCut}
use Rattle.statement_lines.specs.Tree.{lines_of}
use Rattle.unwrapped_lines.proofs.PlainLemmas.{cut_read, lines_read, tokens_read}
use Rattle.unwrapped_lines.proofs.cutting.read_lines.Goals as goal

pub prove-unreachable-requires : goal.prove-unreachable-requires
prove-unreachable-requires c =
    let view = c.args.view.now in
    let items = length c.args.arena.now.tokens in
    let few : length view ≤ items - 0 = few_below 0 items view c.len-count.ensures.increase c.requires.within in
    omega (arith, few, c.if-prove.true, c.len-count.ensures.count, c.len-items.ensures.count)

pub lines_of_read-requires-clause-tokens : goal.lines_of_read-requires-clause-tokens
lines_of_read-requires-clause-tokens c = tokens_read c.args.arena.now c.args.view.now c.args.partners.now c.args.classes.now c.view_tokens-tokens.result.tokens c.view_tokens-tokens.ensures.tokens

pub returns-clause-lines : goal.returns-clause-lines
returns-clause-lines c =
    let arena = c.args.arena.now in
    let view = c.args.view.now in
    let classes = c.args.classes.now in
    let tokens = c.view_tokens-tokens.result.tokens in
    IfOk-weaker c.lines_of_read.result (λ lines. lines.items ≡ lines_with c.braces_of-braces.result arena view classes tokens)
    (λ lines. lines.items ≡ unwrapped_lines_of c.args.style.now arena view c.args.partners.now)
    (λ lines e. e ∙ lines_read c.args.style.now arena view c.args.partners.now classes tokens c.braces_of-braces.result c.requires.classes c.view_tokens-tokens.ensures.tokens c.braces_of-braces.ensures)
    c.lines_of_read.ensures.lines

pub returns-clause-tree : goal.returns-clause-tree
returns-clause-tree c =
    let arena = c.args.arena.now in
    let view = c.args.view.now in
    let classes = c.args.classes.now in
    let tokens = c.view_tokens-tokens.result.tokens in
    let tree = tree_of c.args.style.now arena view c.args.partners.now in
    IfOk-weaker c.lines_of_read.result (λ lines. IsCut 0 (length tokens) (lines_of c.braces_of-braces.result tokens)) (λ lines. IsCut 0 tree.total tree.lines)
    (λ lines cut. cut_read c.args.style.now arena view c.args.partners.now classes tokens c.braces_of-braces.result c.requires.classes c.view_tokens-tokens.ensures.tokens c.braces_of-braces.ensures cut)
    c.lines_of_read.ensures.tree
