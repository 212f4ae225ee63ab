use Rattle.std.proofs.Common.{◌≡◌, map, drop}
use Rattle.style_table.specs.Words.{value_in}
use Rattle.style_table.proofs.words.value_in.Given as goal

abbrev pub invariant-loop-word : goal.invariant-loop-word
invariant-loop-word g l =
    value_in (map (λ row. (row.0.now, row.1)) (drop l.word-index l.rows)) l.text
    ≡ value_in (map (λ row. (row.0.now, row.1)) l.fn.rows) l.text
