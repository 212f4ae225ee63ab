-- What the values of a reading stand for.
use Rattle.std.specs.Prelude.{List, map, Option, Some, None, option_map, Vec}
use Rattle.std.specs.declared.alloc.Global.{Global}
use Rattle.pp_model.specs.Preprocess.{Section, World, Includer, key_of}
use Rattle.pp_model.specs.Finding.{kind_of}
use Rattle.pp_model.specs.Setting.{holds_in, find_text}
use Rattle.pp_model.specs.Stream.{source_of}
use Rattle.pp_events.specs.View.{tok_shown}
use Rattle.pp_events.specs.declared.token.Tok.{Tok as TokValue}
use Rattle.pp_items.specs.View.{section_shown}
use Rattle.pp_items.specs.declared.item.PpSection.{PpSection}
use Rattle.pp_directives.specs.SettingView.{text_shown, condition_shown}
use Rattle.pp_directives.specs.WorldView.{world_shown, conds_shown, shift_shown}
use Rattle.pp_text.specs.Unread.{Rules, Unread, Waiting, Reading}
use Rattle.pp_text.specs.declared.rules.Rules.{Rules as RulesValue}
use Rattle.pp_text.specs.declared.reading.Unread.{Unread as UnreadValue}
use Rattle.pp_text.specs.declared.reading.Waiting.{Waiting as WaitingValue}
use Rattle.pp_text.specs.declared.reading.Reading.{Reading as ReadingValue}

-- what texts are read by
abbrev pub rules_shown : RulesValue → Rules
rules_shown r =
    record {
      kinds = kind_of r.spellings.dialect;
      holds = holds_in (map condition_shown r.setting.now.conditions.items);
      files =
          λ k. option_map (source_of r.spellings.dialect) (find_text (map text_shown r.setting.now.includes.items) k);
    }

-- what is left of a text
abbrev pub unread_shown : UnreadValue → Unread
unread_shown t = record { sections = map section_shown t.sections.items; shift = shift_shown t.shift; depth = t.depth }

-- a text that waits
abbrev pub waiting_shown : WaitingValue → Waiting
waiting_shown s = record { text = unread_shown s.text; conds = conds_shown s.conds }

-- where a reading stands
abbrev pub reading_shown : ReadingValue → Reading
reading_shown r =
    record { world = world_shown r.world; text = unread_shown r.text; waiting = map waiting_shown r.waiting.items }

-- the sections of a text, or none
abbrev pub sections_shown : Option (Vec PpSection Global) → Option (List Section)
sections_shown v = option_map (λ u. map section_shown u.items) v

-- an include of this operand, or none where the turns didn't suffice for it
abbrev pub included_by : Includer → Option (Vec TokValue Global) → World → World
included_by include None w = w
included_by include (Some ts) w = include w (key_of (map tok_shown ts.items))
