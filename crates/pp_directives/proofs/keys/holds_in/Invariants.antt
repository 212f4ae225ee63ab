use Rattle.std.proofs.Common.{◌≡◌, map, drop}
use Rattle.pp_model.specs.Preprocess.{key_of}
use Rattle.pp_model.specs.Setting.{holds_in}
use Rattle.pp_events.specs.View.{tok_shown}
use Rattle.pp_directives.specs.SettingView.{condition_shown}
use Rattle.pp_directives.proofs.keys.holds_in.Given as goal

abbrev pub invariant-loop-condition : goal.invariant-loop-condition
invariant-loop-condition l =
    holds_in (map condition_shown (drop l.condition-index l.conditions)) (key_of (map tok_shown l.tokens)) ≡ holds_in (map condition_shown l.conditions) (key_of (map tok_shown l.tokens))
