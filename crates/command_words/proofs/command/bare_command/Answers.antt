use Rattle.std.proofs.Common.{ap, ◌∙◌, true}
use Rattle.clap.specs.Simple.{on_top}
use Rattle.command_words.proofs.Builders.{app-no_binary_name, app-disable_help_flag, app-disable_version_flag}
use Rattle.command_words.proofs.command.bare_command.Goals as goal

pub returns : goal.returns
returns c =
    app-disable_version_flag _ _ c.disable_version_flag.ensures
    ∙ ap (on_top (λ s. record s { disable_version_flag = true }))
    (app-disable_help_flag _ _ c.disable_help_flag.ensures
    ∙ ap (on_top (λ s. record s { disable_help_flag = true }))
    (app-no_binary_name _ _ c.no_binary_name.ensures
    ∙ ap (on_top (λ s. record s { no_binary_name = true })) c.new.ensures.app))
