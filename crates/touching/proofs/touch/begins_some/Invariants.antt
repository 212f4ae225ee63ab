use Rattle.std.proofs.Common.{◌≡◌, ◌++◌, drop, map}
use Rattle.std.specs.List.{list_any}
use Rattle.std.specs.Option.{option_to_list}
use Rattle.c_grammar.specs.Touch.{is_front}
use Rattle.touching.specs.Spelling.{spelling}
use Rattle.touching.proofs.touch.begins_some.Given as goal

abbrev pub invariant-loop-word : goal.invariant-loop-word
invariant-loop-word l =
    list_any (is_front (spelling l.dialect l.raw ++ option_to_list l.next)) (drop l.word-index (map (λ p. p.now) l.table)) ≡ list_any (is_front (spelling l.dialect l.raw ++ option_to_list l.next)) (map (λ p. p.now) l.table)
