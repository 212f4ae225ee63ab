use Rattle.std.proofs.Common.{◌≡◌, map, take}
use Rattle.pp_model.specs.Setting.{tok_by}
use Rattle.pp_events.specs.View.{tok_shown}
use Rattle.pp_directives.specs.SettingView.{body_token_shown}
use Rattle.pp_directives.proofs.tables.toks_by.Given as goal

abbrev pub invariant-loop-token : goal.invariant-loop-token
invariant-loop-token g l = map tok_shown l.out.items ≡ map (tok_by (g.R.Spellings.kinds l.reader)) (map body_token_shown (take l.token-index l.body))
