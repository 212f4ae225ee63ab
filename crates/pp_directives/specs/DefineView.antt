-- What the values that a define directive is read with stand for in the model.
use Rattle.std.specs.Prelude.{Bool, List, [], ◌∷◌, ◌++◌, map, Option, Some, None, option_map, Vec}
use Rattle.std.specs.declared.alloc.Global.{Global}
use Rattle.pp_model.specs.Define.{Params, Place, Before, params_of, is_after_dots}
use Rattle.pp_model.specs.Token.{Tok, Name, text_of}
use Rattle.pp_model.specs.Macro.{Part, Macro}
use Rattle.pp_events.specs.View.{part_shown, macro_shown}
use Rattle.pp_events.specs.declared.token.Part.{Part as PartValue}
use Rattle.pp_events.specs.declared.token.Macro.{Macro as MacroValue}
use Rattle.pp_directives.specs.declared.parameters.Listed.{Listed as ListedValue}
use Rattle.pp_directives.specs.declared.parameters.Place.{Place as PlaceValue}
use Rattle.pp_directives.specs.declared.bodies.Before.{Before as BeforeValue}

-- where a parameter list is read
abbrev pub place_shown : PlaceValue → Place
place_shown PlaceValue.AfterOpen = Place.AfterOpen
place_shown PlaceValue.AfterName = Place.AfterName
place_shown PlaceValue.AfterComma = Place.AfterComma
place_shown PlaceValue.AfterDots = Place.AfterDots

-- the parameter list that ended in front of these tokens, or none
abbrev pub params_read : Option Bool → List Name → List Tok → Option Params
params_read None names rest = None
params_read (Some variadic) names rest = Some record { names = names; variadic = variadic; body = rest }

-- the parameter list from a token on, by what the token is
abbrev pub listed_on : ListedValue → List Name → Place → Tok → List Tok → Option Params
listed_on ListedValue.End names place t ts = Some record { names = names; variadic = is_after_dots place; body = ts }
listed_on (ListedValue.Mark next) names place t ts = params_of names (place_shown next) ts
listed_on ListedValue.Name names place t ts = params_of (names ++ text_of t.token ∷ []) Place.AfterName ts
listed_on ListedValue.Malformed names place t ts = None

-- what was read of a body last
abbrev pub before_shown : BeforeValue → Before
before_shown BeforeValue.Nothing = Before.Nothing
before_shown BeforeValue.Item = Before.Item
before_shown BeforeValue.Paste = Before.Paste
before_shown (BeforeValue.Hash glue white) = Before.Hash glue white

-- the parts of a body, or none
abbrev pub some_parts : Option (Vec PartValue Global) → Option (List Part)
some_parts ps = option_map (λ v. map part_shown v.items) ps

-- a macro, or none
abbrev pub some_macro : Option MacroValue → Option Macro
some_macro m = option_map macro_shown m
