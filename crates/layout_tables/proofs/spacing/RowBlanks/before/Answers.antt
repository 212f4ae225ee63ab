use Rattle.std.proofs.Common.{◌∙◌, ◌≡◌, ◌==◌, ◌&&◌, not, ap, arith, sym, slice_index_or}
use Rattle.std.specs.Prelude.{if◌then◌else◌, min}
use Rattle.layout_tables.specs.Spaces.{spaces_by_table}
use Rattle.layout_tables.specs.Told.{blanks_between}
use Rattle.layout_tables.proofs.Groups.{kept_apart}
use Rattle.layout_tables.proofs.spacing.RowBlanks.before.Goals as goal

pub returns-clause-table : goal.returns-clause-table
returns-clause-table c =
    let left = c.args.left.now in
    let right = c.args.right.now in
    let blanks = c.args.self.now.of_group in
    let one : slice_index_or blanks c.min-group.result 0 ≡ blanks_between blanks left right = ap (λ n. slice_index_or blanks n 0) (c.min-group.ensures ∙ (ap (λ n. min n c.group_before.result) c.group_behind.ensures.is ∙ ap (min _) c.group_before.ensures.is)) in
    let table : spaces_by_table c.args.style.now left right ≡ blanks_between blanks left right = c.requires.tell left right (omega (arith, one, c.if-blanks-gt1.false)) in
    kept_apart (slice_index_or blanks c.min-group.result 0) c.one_if.result right.gap.empty right.touch c.if-blanks-gt1.false c.one_if.ensures
    ∙ ap (λ n. if (n == 0) && not right.gap.empty && not right.touch then 1 else n) (one ∙ sym table)
