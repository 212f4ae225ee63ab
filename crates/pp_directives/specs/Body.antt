-- The parts of a body that is read from its front.
use Rattle.std.specs.Prelude.{Bool, true, false, List, ◌++◌, Option, Some, None}
use Rattle.pp_model.specs.Token.{Tok, Name}
use Rattle.pp_model.specs.Macro.{Part, What, Word, Full, Written, Quoted}
use Rattle.pp_model.specs.Define.{Before, Hash, Item, parts_of_body, and_part}
use Rattle.pp_directives.specs.DefineView.{before_shown}
use Rattle.pp_directives.specs.declared.bodies.Stand.{Stand}
use Rattle.pp_directives.specs.declared.bodies.Next.{Next as NextValue}
use Rattle.pp_directives.specs.declared.bodies.Before.{Before as BeforeValue}

-- these parts before the others, where the body isn't malformed
abbrev pub behind : List Part → Option (List Part) → Option (List Part)
behind ps None = None
behind ps (Some qs) = Some (ps ++ qs)

-- what is read from here on, unless it is malformed already
abbrev pub goes_on : Option BeforeValue → (BeforeValue → Option (List Part)) → Option (List Part)
goes_on None go = None
goes_on (Some before) go = go before

-- behind a #
abbrev pub is_hash_before : Before → Bool
is_hash_before (Hash glue white) = true
is_hash_before _ = false

-- what comes in the place of a token
abbrev pub stood : Stand → Tok → What
stood Stand.Itself t = Word t
stood (Stand.Full i) t = Full i
stood (Stand.Written i) t = Written i
stood (Stand.Quoted i) t = Quoted i

-- the parts from a token on, by what it is
abbrev pub next_parts : NextValue → List Name → Bool → Tok → List Tok → Option (List Part)
next_parts (NextValue.Mark before) names function_like t ts = parts_of_body names function_like (before_shown before) ts
next_parts (NextValue.Part stand white glue) names function_like t ts =
    and_part (record { what = stood stand t; white = white; glue = glue }) (parts_of_body names function_like Item ts)
next_parts NextValue.Malformed names function_like t ts = None
