-- Arguments that are read token by token.
use Rattle.std.specs.Prelude.{ℕ, List, [], ◌∷◌, ◌++◌, map, drop, Option, Some, None}
use Rattle.pp_model.specs.Token.{Tok}
use Rattle.pp_model.specs.Call.{Actuals, collect, one_less}
use Rattle.pp_events.specs.View.{tok_shown}
use Rattle.pp_events.specs.declared.token.Tok.{Tok as TokValue}
use Rattle.pp_events.specs.declared.call.Mark.{Mark as MarkValue}

-- the arguments from a token on, by what it is
abbrev pub collect_on : MarkValue → Option ℕ → ℕ → List Tok → List (List Tok) → Tok → List Tok → Option Actuals
collect_on MarkValue.End limit depth arg args t ts = Some record { args = args ++ arg ∷ []; close = t.hide; after = ts }
collect_on MarkValue.Comma limit depth arg args t ts = collect (one_less limit) depth [] (args ++ arg ∷ []) ts
collect_on (MarkValue.Within inner) limit depth arg args t ts = collect limit inner (arg ++ t ∷ []) args ts

-- how many brackets are open behind a token
abbrev pub depth_behind : MarkValue → ℕ
depth_behind (MarkValue.Within depth) = depth
depth_behind _ = 0

-- these arguments, before the first of the tokens, which is the `)`
abbrev pub ended : List (List Tok) → List Tok → Option Actuals
ended args [] = None
ended args (t ∷ ts) = Some record { args = args; close = t.hide; after = ts }

-- these arguments, before the token of this number, or none
abbrev pub collected : Option ℕ → List (List Tok) → List TokValue → Option Actuals
collected None args rest = None
collected (Some i) args rest = ended args (map tok_shown (drop i rest))
