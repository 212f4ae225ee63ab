-- What the values of tokens and macros stand for in the model.
use Rattle.std.specs.Prelude.{Bool, false, List, [], ◌∷◌, map, drop, Option, Some, None, option_map, Vec}
use Rattle.std.specs.declared.alloc.Global.{Global}
use Rattle.pp_model.specs.Token.{PpToken, Plain, Line, Str, Pasted, Spaceds, no_part, part, PpTokens, no_token}
use Rattle.pp_model.specs.Token.{one_more, Tok}
use Rattle.pp_model.specs.Call.{Actuals}
use Rattle.pp_model.specs.Macro.{What, Part, Macro}
use Rattle.pp_model.specs.Replace.{Piece}
use Rattle.pp_events.specs.declared.token.What.{What as WhatValue}
use Rattle.pp_events.specs.declared.token.Part.{Part as PartValue}
use Rattle.pp_events.specs.declared.token.Macro.{Macro as MacroValue}
use Rattle.pp_events.specs.declared.token.Piece.{Piece as PieceValue}
use Rattle.pp_events.specs.declared.token.PpToken.{PpToken as TokenValue}
use Rattle.pp_events.specs.declared.token.PpTokens.{PpTokens as TokensValue}
use Rattle.pp_events.specs.declared.token.SpacedList.{SpacedList as PartsValue}
use Rattle.pp_events.specs.declared.token.Spaced.{Spaced as SpacedValue}
use Rattle.pp_events.specs.declared.token.Tok.{Tok as TokValue}
use Rattle.pp_events.specs.declared.token.Actuals.{Actuals as ActualsValue}
use Rattle.pp_events.specs.declared.token.PpToken.TheOpen.{PpToken-F, PpTokens-F, Spaced-F, SpacedList-F}
use Rattle.pp_events.specs.declared.token.PpToken.TheFolds.{fold-PpToken, fold-PpTokens, fold-Spaced, fold-SpacedList}

-- a list of tokens as the model has it
abbrev pub tokens_of : List PpToken → PpTokens
tokens_of [] = no_token
tokens_of (t ∷ ts) = one_more t (tokens_of ts)

-- tokens with the white space before them
abbrev pub spaceds_of : List (Bool × PpToken) → Spaceds
spaceds_of [] = no_part
spaceds_of (p ∷ ps) = part p.0 p.1 (spaceds_of ps)

-- one layer of a token
abbrev pub token_step : PpToken-F PpToken PpTokens (Bool × PpToken) Spaceds → PpToken
token_step (PpToken-F.Plain s) = Plain s.items
token_step (PpToken-F.Line n) = Line n
token_step (PpToken-F.Str ps) = Str ps
token_step (PpToken-F.Pasted ts) = Pasted ts

-- one layer of a list of tokens
abbrev pub tokens_step : PpTokens-F PpToken PpTokens (Bool × PpToken) Spaceds → PpTokens
tokens_step x = tokens_of x.items.items

-- one layer of a token with its white space
abbrev pub spaced_step : Spaced-F PpToken PpTokens (Bool × PpToken) Spaceds → Bool × PpToken
spaced_step x = (x.white, x.token)

-- one layer of a list of those
abbrev pub spaceds_step : SpacedList-F PpToken PpTokens (Bool × PpToken) Spaceds → Spaceds
spaceds_step x = spaceds_of x.items.items

-- the token that a value is
abbrev pub shown : TokenValue → PpToken
shown = fold-PpToken PpToken PpTokens (Bool × PpToken) Spaceds token_step tokens_step spaced_step spaceds_step

-- a token while it is expanded
abbrev pub tok_shown : TokValue → Tok
tok_shown t =
    record {
      token = shown t.token;
      kind = t.kind;
      hide = map (λ n. n.items) t.hide.items;
      white = t.white;
      line = t.line;
    }

-- a list of those
abbrev pub toks_shown : Vec TokValue Global → List Tok
toks_shown v = map tok_shown v.items

-- the arguments of a call, which these tokens begin with
abbrev pub actuals_shown : List TokValue → ActualsValue → Actuals
actuals_shown rest a =
    record {
      args = map toks_shown a.args.items;
      close = map (λ n. n.items) a.close.items;
      after = map tok_shown (drop a.taken rest);
    }

-- the arguments of a call, or none
abbrev pub some_actuals : List TokValue → Option ActualsValue → Option Actuals
some_actuals rest None = None
some_actuals rest (Some a) = Some (actuals_shown rest a)

-- the list of tokens that a value is
abbrev pub shown_tokens : TokensValue → PpTokens
shown_tokens = fold-PpTokens PpToken PpTokens (Bool × PpToken) Spaceds token_step tokens_step spaced_step spaceds_step

-- a token with its white space
abbrev pub shown_spaced : SpacedValue → Bool × PpToken
shown_spaced = fold-Spaced PpToken PpTokens (Bool × PpToken) Spaceds token_step tokens_step spaced_step spaceds_step

-- a list of those
abbrev pub shown_spaceds : PartsValue → Spaceds
shown_spaceds =
    fold-SpacedList PpToken PpTokens (Bool × PpToken) Spaceds token_step tokens_step spaced_step spaceds_step

-- what comes in the place of a part
abbrev pub what_shown : WhatValue → What
what_shown (WhatValue.Word t) = What.Word (tok_shown t)
what_shown (WhatValue.Full i) = What.Full i
what_shown (WhatValue.Written i) = What.Written i
what_shown (WhatValue.Quoted i) = What.Quoted i

-- a part of a body
abbrev pub part_shown : PartValue → Part
part_shown p = record { what = what_shown p.what; white = p.white; glue = p.glue }

-- a macro
abbrev pub macro_shown : MacroValue → Macro
macro_shown m =
    record {
      name = m.name.items;
      function_like = m.function_like;
      arity = m.arity;
      variadic = m.variadic;
      body = map part_shown m.body.items;
    }

-- a piece of a replacement
abbrev pub piece_shown : PieceValue → Piece
piece_shown p = record { tok = option_map tok_shown p.tok; glue = p.glue }

-- the tokens of an argument, each with its white space
abbrev pub spaced_pairs : List TokValue → List (Bool × PpToken)
spaced_pairs [] = []
spaced_pairs (t ∷ ts) = (t.white, shown t.token) ∷ spaced_pairs ts

-- the parts, with no white space before the first
abbrev pub trimmed : List (Bool × PpToken) → List (Bool × PpToken)
trimmed [] = []
trimmed (p ∷ ps) = (false, p.1) ∷ ps
