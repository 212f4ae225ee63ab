use Rattle.std.proofs.Common.{◌≡◌, map, drop}
use Rattle.token_classes.specs.Words.{class_in}
use Rattle.token_classes.proofs.words.class_in.Given as goal

abbrev pub invariant-loop-word : goal.invariant-loop-word
invariant-loop-word l =
    class_in (map (λ row. (row.0.now, row.1)) (drop l.word-index l.rows)) l.spelled l.other
    ≡ class_in (map (λ row. (row.0.now, row.1)) l.fn.rows) l.spelled l.other
