use Rattle.std.proofs.Common.{◌∙◌, ap, map, sym}
use Rattle.std.specs.Prelude.{option_map}
use Rattle.pp_model.specs.Finding.{kind_of}
use Rattle.pp_model.specs.Preprocess.{starting, Lexed}
use Rattle.pp_model.specs.Setting.{Preprocess, table_by, holds_in, find_text}
use Rattle.pp_model.specs.Stream.{source_of}
use Rattle.pp_items.specs.View.{section_shown, source_shown}
use Rattle.pp_directives.specs.SettingView.{setting_shown, definition_shown}
use Rattle.pp_directives.specs.WorldView.{event_shown, world_shown}
use Rattle.pp_text.specs.Unread.{Rules}
use Rattle.pp_text.specs.ReadingView.{waiting_shown}
use Rattle.pp_text.proofs.Walks.{whole_source}
use Rattle.pp_text.proofs.Results.{ok_to}
use Rattle.pp_text.proofs.text.events.Goals as goal

pub returns-in-Some-clause-events : goal.returns-in-Some-clause-events
returns-in-Some-clause-events c =
    let d = c.args.dialect in
    let s = c.args.setting.now in
    let table = c.in_ok-table.ensures ∙ ap (λ ds. table_by (kind_of d) (map definition_shown ds)) c.as_slice.ensures.value in
    let shown = setting_shown s in
    let rules : Rules = record { kinds = kind_of d; holds = holds_in shown.conditions; files = λ k. option_map (source_of d) (find_text shown.includes k) } in
    ok_to c.read_all.result (λ r. map event_shown r.items) _ (Preprocess d (setting_shown s) c.args.text.now)
    (whole_source rules s.depth (world_shown c.starting-world.result) (starting (table_by (kind_of d) (map definition_shown s.macros.items)) s.turns)
    (map waiting_shown c.new.result.items) (map section_shown c.from_vec.result.items) (source_of d c.args.text.now) (ap (λ ss. map waiting_shown ss) c.new.ensures.items)
    (c.starting-world.ensures ∙ ap (λ t. starting t s.turns) table)
    (ap (λ xs. Lexed (map section_shown xs)) c.from_vec.ensures.items ∙ (ap source_shown (sym c.in-Some.is) ∙ c.in_ok-sections_of.ensures)))
    c.read_all.ensures.shown
