-- What the values of a setting stand for in the model.
use Rattle.std.specs.Prelude.{map}
use Rattle.pp_model.specs.Setting.{Spaced, MacroDef, IncludeText, Condition, Setting}
use Rattle.pp_events.specs.View.{shown}
use Rattle.pp_directives.specs.declared.settings.BodyToken.{BodyToken}
use Rattle.pp_directives.specs.declared.settings.MacroDefinition.{MacroDefinition}
use Rattle.pp_directives.specs.declared.settings.IncludeText.{IncludeText as TextValue}
use Rattle.pp_directives.specs.declared.settings.Condition.{Condition as ConditionValue}
use Rattle.pp_directives.specs.declared.settings.Setting.{Setting as SettingValue}

-- a token of a macro's body
abbrev pub body_token_shown : BodyToken → Spaced
body_token_shown t = record { token = shown t.token; white = t.white }

-- a macro
abbrev pub definition_shown : MacroDefinition → MacroDef
definition_shown d =
    record {
      name = d.name.items;
      function_like = d.function_like;
      params = map (λ n. n.items) d.params.items;
      variadic = d.variadic;
      body = map body_token_shown d.body.items;
    }

-- the bytes under a key
abbrev pub text_shown : TextValue → IncludeText
text_shown i = record { key = map shown i.key.items; bytes = i.bytes.items }

-- the answer to a condition
abbrev pub condition_shown : ConditionValue → Condition
condition_shown c = record { key = map shown c.key.items; holds = c.holds }

-- a setting
abbrev pub setting_shown : SettingValue → Setting
setting_shown s =
    record {
      macros = map definition_shown s.macros.items;
      includes = map text_shown s.includes.items;
      conditions = map condition_shown s.conditions.items;
      depth = s.depth;
      turns = s.turns;
    }
