use Rattle.std.proofs.Common.{◌≡◌, map, drop}
use Rattle.pp_model.specs.Preprocess.{key_of}
use Rattle.pp_model.specs.Setting.{find_text}
use Rattle.pp_events.specs.View.{tok_shown}
use Rattle.pp_directives.specs.SettingView.{text_shown}
use Rattle.pp_directives.proofs.keys.find_text.Given as goal

abbrev pub invariant-loop-include : goal.invariant-loop-include
invariant-loop-include l =
    find_text (map text_shown (drop l.include-index l.includes)) (key_of (map tok_shown l.tokens)) ≡ find_text (map text_shown l.includes) (key_of (map tok_shown l.tokens))
