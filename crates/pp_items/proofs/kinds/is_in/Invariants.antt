use Rattle.std.proofs.Common.{◌≡◌, map, drop}
use Rattle.std.specs.List.{list_any}
use Rattle.c_grammar.specs.Grammar.{is_same}
use Rattle.pp_items.proofs.kinds.is_in.Given as goal

abbrev pub invariant-loop-word : goal.invariant-loop-word
invariant-loop-word l = list_any (is_same l.text) (map (λ p. p.now) (drop l.word-index l.table)) ≡ list_any (is_same l.text) (map (λ p. p.now) l.table)
