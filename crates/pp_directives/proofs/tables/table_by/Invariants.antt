use Rattle.std.proofs.Common.{◌≡◌, ◌++◌, map, drop}
use Rattle.pp_model.specs.Setting.{table_by}
use Rattle.pp_events.specs.View.{macro_shown}
use Rattle.pp_directives.specs.SettingView.{definition_shown}
use Rattle.pp_directives.proofs.tables.table_by.Given as goal

abbrev pub invariant-loop-definition : goal.invariant-loop-definition
invariant-loop-definition g l =
    map macro_shown l.table.items ++ table_by (g.R.Spellings.kinds l.reader) (map definition_shown (drop l.definition-index l.definitions)) ≡ table_by (g.R.Spellings.kinds l.reader) (map definition_shown l.definitions)
