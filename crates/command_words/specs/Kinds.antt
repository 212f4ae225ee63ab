-- The kinds of words by which the code's table tells them.
use Rattle.clap.specs.Words.{Rule, Text}
use Rattle.command_words.specs.Command.{flag_rule, letter_rule, names_rule, option_rule}
use Rattle.command_words.specs.declared.command.WordKind.{WordKind}
use Rattle.command_words.specs.declared.command.WordKind.TheVariants.{Value, Flag, Letter, Names}

-- a word of a kind
abbrev pub kind_rule : Text → WordKind → Rule
kind_rule name Value = option_rule name
kind_rule name Flag = flag_rule name
kind_rule name (Letter letter) = letter_rule name letter
kind_rule name Names = names_rule name
