use Rattle.std.proofs.Common.{◌≡◌, map, drop}
use Rattle.std.specs.Prelude.{fold}
use Rattle.clap.specs.Words.{app_of, with_rule}
use Rattle.command_words.specs.Kinds.{kind_rule}
use Rattle.command_words.proofs.command.with_words.Given as goal

-- the words that are left make of what is there what all of them make of the command
abbrev pub invariant-loop-name : goal.invariant-loop-name
invariant-loop-name l =
    fold with_rule (app_of l.grown) (map (λ row. kind_rule row.0.now row.1) (drop l.name-index l.words))
    ≡ fold with_rule (app_of l.initial.grown) (map (λ row. kind_rule row.0.now row.1) l.words)
