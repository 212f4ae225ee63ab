-- What the settings of a command do to what a parse reads of it.
use Rattle.std.proofs.Common.{◌≡◌, ap, true}
use Rattle.clap.specs.Words.{app_of}
use Rattle.clap.specs.Simple.{app_of_fields, on_top}
use Rattle.clap.specs.declared.builder.command.Command.{Command}
use Rattle.clap.specs.declared.builder.command.Command.TheViews.{out-Command}

-- the words begin without the program's name
pub app-no_binary_name : (a b : Command) → out-Command b ≡ record (out-Command a) { no_binary_name = true }
    → app_of b ≡ on_top (λ s. record s { no_binary_name = true }) (app_of a)
app-no_binary_name a b e = ap app_of_fields e

-- there is no help flag
pub app-disable_help_flag : (a b : Command) → out-Command b ≡ record (out-Command a) { disable_help_flag = true }
    → app_of b ≡ on_top (λ s. record s { disable_help_flag = true }) (app_of a)
app-disable_help_flag a b e = ap app_of_fields e

-- there is no version flag
pub app-disable_version_flag : (a b : Command) → out-Command b ≡ record (out-Command a) { disable_version_flag = true }
    → app_of b ≡ on_top (λ s. record s { disable_version_flag = true }) (app_of a)
app-disable_version_flag a b e = ap app_of_fields e
