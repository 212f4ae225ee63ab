use Rattle.std.proofs.Common.{◌≡◌, ◌∙◌, List, arith, length, subst}
use Rattle.std.proofs.lemmas.Result.{IfOk-weaker}
use Rattle.statement_lines.specs.declared.line.Line.{Line}
use Rattle.unwrapped_lines.specs.Comments.{begins_from, no_marks}
use Rattle.unwrapped_lines.specs.Inside.{lines_with, parts_with}
use Rattle.unwrapped_lines.specs.Lines.{lines_between}
use Rattle.statement_lines.specs.Stack.{IsCut}
use Rattle.statement_lines.specs.Tree.{lines_of}
use Rattle.unwrapped_lines.specs.Viewed.{parts_of}
use Rattle.unwrapped_lines.proofs.PlainLemmas.{lines_behind, plain_lines}
use Rattle.unwrapped_lines.proofs.cutting.lines_of_read.Goals as goal

-- ## Where there are no comments

pub returns-then-total-count-clause-lines : goal.returns-then-total-count-clause-lines
returns-then-total-count-clause-lines c =
    let braces = c.args.braces.now in
    let tokens = c.args.read.now.tokens in
    let tree = c.in_ok-tree.tree in
    let all : length tokens ≡ length c.args.classes.now = omega (arith, c.count-total.ensures, c.if-total-count.true) in
    c.into_rows.ensures ∙ plain_lines braces c.args.arena.now c.args.view.now c.args.classes.now tokens tree c.requires.tokens c.in_ok-tree.ensures.same c.in_ok-tree.ensures.cut all

pub returns-then-total-count-clause-tree : goal.returns-then-total-count-clause-tree
returns-then-total-count-clause-tree c =
    let Q : List Line → Type 0 = λ x. IsCut 0 (length c.args.read.now.tokens) x in
    subst Q c.in_ok-tree.ensures.same c.in_ok-tree.ensures.cut

-- ## With comments

pub returns-clause-lines : goal.returns-clause-lines
returns-clause-lines c =
    let braces = c.args.braces.now in
    let arena = c.args.arena.now in
    let view = c.args.view.now in
    let classes = c.args.classes.now in
    let tokens = c.args.read.now.tokens in
    let parts = parts_of arena view classes in
    let lines = c.in_ok-tree-2.tree in
    let comments = c.args.read.now.comments.now in
    let count = c.count-total.result in
    let level = c.in_ok-level.level in
    let by_count : count ≡ length tokens = c.count-total.ensures in
    let by_part : parts_with (length classes) 0 comments ≡ parts = c.requires.parts in
    IfOk-weaker c.comment_lines.result
    (λ r. r.items ≡ lines_between (length classes) (begins_from (record { lines = lines; total = count; end_level = level }) (parts_with (length classes) 0 comments) 0 no_marks))
    (λ r. r.items ≡ lines_with braces arena view classes tokens)
    (λ r e. e ∙ lines_behind braces arena view classes tokens lines comments count level c.in_ok-tree-2.ensures.same by_count by_part c.in_ok-level.ensures) c.comment_lines.ensures

pub returns-clause-tree : goal.returns-clause-tree
returns-clause-tree c =
    let braces = c.args.braces.now in
    let classes = c.args.classes.now in
    let tokens = c.args.read.now.tokens in
    let Q : List Line → Type 0 = λ x. IsCut 0 (length tokens) x in
    let cut : IsCut 0 (length tokens) (lines_of braces tokens) = subst Q c.in_ok-tree-2.ensures.same c.in_ok-tree-2.ensures.cut in
    IfOk-weaker c.comment_lines.result
    (λ r. r.items ≡ lines_between (length classes) (begins_from (record { lines = c.in_ok-tree-2.tree; total = c.count-total.result; end_level = c.in_ok-level.level })
    (parts_with (length classes) 0 c.args.read.now.comments.now) 0 no_marks))
    (λ r. IsCut 0 (length tokens) (lines_of braces tokens)) (λ r e. cut) c.comment_lines.ensures
