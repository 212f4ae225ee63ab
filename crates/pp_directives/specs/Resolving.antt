-- A condition whose `defined` are answered by tokens that are held back.
use Rattle.std.specs.Prelude.{ℕ, List, [], ◌∷◌, ◌++◌}
use Rattle.pp_model.specs.Token.{Tok}
use Rattle.pp_model.specs.Macro.{Table}
use Rattle.pp_model.specs.Condition.{Held, Free, Asked, Opened, Named, resolve, answer}
use Rattle.pp_directives.specs.declared.resolve.Act.{Act as ActValue}

-- what was read, by the tokens that are held back, of which there are three at most
abbrev pub held_of : List Tok → Held
held_of [] = Free
held_of (d ∷ []) = Asked d
held_of (d ∷ o ∷ []) = Opened d o
held_of (d ∷ o ∷ x ∷ ts) = Named d o x

-- what comes of these tokens, which are held back, and those behind them
abbrev pub acted : Table → ActValue → List Tok → List Tok → List Tok
acted table ActValue.Wait held ts = resolve table (held_of held) ts
acted table ActValue.Release held ts = held ++ resolve table Free ts
acted table (ActValue.Answer holds) [] ts = resolve table Free ts
acted table (ActValue.Answer holds) (d ∷ held) ts = answer d holds ∷ resolve table Free ts

-- how many tokens more are held back
abbrev pub more_held : ActValue → ℕ
more_held ActValue.Wait = 1
more_held _ = 0
