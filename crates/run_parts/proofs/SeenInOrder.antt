-- The items that a run sees increase.
use Rattle.std.proofs.Common.{ℕ, ◌-◌, ◌≤◌, [], length, arith}
use Rattle.token_arena.specs.Gaps.{Contents}
use Rattle.token_arena.specs.Ids.{Increase}
use Rattle.token_arena.proofs.IncreaseLemmas.{ids_increase}
use Rattle.item_classes.proofs.Lists.{few_below}
use Rattle.token_arena.specs.Sections.{sections_of}
use Rattle.token_arena.proofs.Whole.{sections_are_cut}
use Rattle.branch_runs.specs.Marks.{marks_of}
use Rattle.branch_runs.specs.Reading.{effects, tree_of}
use Rattle.branch_runs.specs.Runs.{texts}
use Rattle.branch_runs.proofs.Bridge.{marks_cut}
use Rattle.branch_runs.proofs.Order.{effects_cut, texts_ascend}
use Rattle.run_parts.specs.Runs.{seen_by}
use Rattle.run_parts.proofs.Seen.{seen_within}

pub seen_increases : (arena : Contents) (run : ℕ) → Increase (seen_by arena run)
seen_increases arena run =
    let marks = marks_of arena in
    let cut = marks_cut arena 0 (length arena.tokens) (sections_of arena) (sections_are_cut arena) in
    ids_increase 0 (texts (tree_of marks) run) (texts_ascend (effects marks) run (effects_cut marks 0 [] cut))

-- so they are no more than the text has
pub seen_few : (arena : Contents) (run : ℕ) → length (seen_by arena run) ≤ length arena.tokens
seen_few arena run =
    let few : length (seen_by arena run) ≤ length arena.tokens - 0 = few_below 0 (length arena.tokens) (seen_by arena run) (seen_increases arena run) (seen_within arena run) in
    omega (arith, few)
