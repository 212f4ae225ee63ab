-- What a macro's body becomes (C11 6.10.3.1 to 6.10.3.3): parameters are replaced, then ## pastes from left to right,
-- then placemarkers vanish.
use Rattle.std.specs.Prelude.{ℕ, zero, suc, Bool, true, false, List, [], ◌∷◌, ◌++◌, map, Option, Some, None, flat_map}
use Rattle.pp_model.specs.Token.{Tok, Name, PpToken, Plain, Line, Str, Pasted, Spaceds, no_part, part, PpTokens}
use Rattle.pp_model.specs.Token.{no_token, one_more, common}
use Rattle.item_kinds.specs.declared.ItemKind.{ItemKind}
use Rattle.item_kinds.specs.declared.ItemKind.TheVariants.{Other}
use Rattle.pp_model.specs.Macro.{Part, What, Word, Full, Written, Quoted}

-- a token, or none for a placemarker; `glue` says that it is pasted to what stands before it
pub record Piece : Type 0 where
  pub tok : Option Tok
  pub glue : Bool

-- the argument of this number
abbrev pub argument : List (List Tok) → ℕ → List Tok
argument [] i = []
argument (a ∷ as') zero = a
argument (a ∷ as') (suc i) = argument as' i

-- tokens, each with `white before`
abbrev pub spaced : List Tok → Spaceds
spaced [] = no_part
spaced (t ∷ ts) = part t.white t.token (spaced ts)

-- the parts of a string: white space before the first token is dropped (6.10.3.2p2)
abbrev pub parts_of : List Tok → Spaceds
parts_of [] = no_part
parts_of (t ∷ ts) = part false t.token (spaced ts)

-- the string that # makes of an argument
abbrev pub quoted : ℕ → List Tok → Tok
quoted line ts = record { token = Str (parts_of ts); kind = Other; hide = []; white = false; line = line }

-- with this `white before`
abbrev pub placed : Bool → Tok → Tok
placed white t = record { token = t.token; kind = t.kind; hide = t.hide; white = white; line = t.line }

-- on this line
abbrev pub lined : ℕ → Tok → Tok
lined line t = record { token = t.token; kind = t.kind; hide = t.hide; white = t.white; line = line }

-- pasted to nothing
abbrev pub free : Tok → Piece
free t = record { tok = Some t; glue = false }

-- The tokens that come in the place of a part. Only the first is pasted to what stands before; none is a placemarker
-- (6.10.3.3p2).
abbrev pub pieces : Bool → Bool → List Tok → List Piece
pieces glue white [] = record { tok = None; glue = glue } ∷ []
pieces glue white (t ∷ ts) = record { tok = Some (placed white t); glue = glue } ∷ map free ts

-- what comes in the place of a part; a body's own token is on the line of the macro's name
abbrev pub tokens_of : ℕ → List (List Tok) → List (List Tok) → What → List Tok
tokens_of line written full (Word t) = lined line t ∷ []
tokens_of line written full (Full i) = argument full i
tokens_of line written full (Written i) = argument written i
tokens_of line written full (Quoted i) = quoted line (argument written i) ∷ []

-- the pieces of a part
abbrev pub pieces_of : ℕ → List (List Tok) → List (List Tok) → Part → List Piece
pieces_of line written full p = pieces p.glue p.white (tokens_of line written full p.what)

-- the spelling of two items beside each other
abbrev pub joined : PpToken → PpToken → Option (List ℕ)
joined (Plain s) (Plain t) = Some (s ++ t)
joined _ _ = None

-- the kind of a spelling that is one item other than a comment
abbrev pub Reader : Type 0
Reader = List ℕ → Option ItemKind

-- a token that comes of a paste: hidden by what hides both
abbrev pub made : PpToken → ItemKind → Tok → Tok → Tok
made token kind a b = record { token = token; kind = kind; hide = common a.hide b.hide; white = a.white; line = a.line }

-- one list of tokens behind another
abbrev pub joined_tokens : PpTokens → PpTokens → PpTokens
joined_tokens no_token us = us
joined_tokens (one_more t ts) us = one_more t (joined_tokens ts us)

-- what was pasted in a token
abbrev pub pasted : PpToken → PpTokens
pasted (Pasted ts) = ts
pasted (Plain s) = one_more (Plain s) no_token
pasted (Line n) = one_more (Line n) no_token
pasted (Str ps) = one_more (Str ps) no_token

-- a paste that is no item, as the list of all that was pasted
abbrev pub two : PpToken → PpToken → PpToken
two a b = Pasted (joined_tokens (pasted a) (pasted b))

-- what is pasted is the item that both spell together, where they do
abbrev pub paste_read : Tok → Tok → List ℕ → Option ItemKind → Tok
paste_read a b s None = made (two a.token b.token) Other a b
paste_read a b s (Some kind) = made (Plain s) kind a b

-- the paste of two tokens by their common spelling, where both are items
abbrev pub paste_joined : Reader → Tok → Tok → Option (List ℕ) → Tok
paste_joined read a b None = made (two a.token b.token) Other a b
paste_joined read a b (Some s) = paste_read a b s (read s)

-- the paste of two tokens (6.10.3.3p3)
abbrev pub paste : Reader → Tok → Tok → Tok
paste read a b = paste_joined read a b (joined a.token b.token)

-- the paste of two operands: a placemarker vanishes
abbrev pub join : Reader → Option Tok → Option Tok → Option Tok
join read None q = q
join read (Some a) None = Some a
join read (Some a) (Some b) = Some (paste read a b)

-- C11 leaves the order of pastes open (6.10.3.3p3): here it is from left to right.
abbrev pub paste_from : Reader → Piece → List Piece → List Piece
paste_from read p [] = p ∷ []
paste_from read p (q ∷ qs) =
    elim q.glue [
      | true ↦ paste_from read (record { tok = join read p.tok q.tok; glue = false }) qs
      | false ↦ p ∷ paste_from read q qs
    ]

-- all pastes of a body
abbrev pub paste_all : Reader → List Piece → List Piece
paste_all read [] = []
paste_all read (p ∷ ps) = paste_from read p ps

-- the token before these, where it is one
abbrev pub add_kept : Option Tok → List Tok → List Tok
add_kept None ts = ts
add_kept (Some t) ts = t ∷ ts

-- no placemarkers
abbrev pub kept : List Piece → List Tok
kept [] = []
kept (p ∷ ps) = add_kept p.tok (kept ps)

-- hidden by these names too
abbrev pub hidden : List Name → Tok → Tok
hidden hide t = record { token = t.token; kind = t.kind; hide = hide ++ t.hide; white = t.white; line = t.line }

-- What a body becomes with these arguments, as written and expanded, for a name on this line. All of it is hidden by
-- `hide`.
abbrev pub replacement : Reader → ℕ → List Name → List (List Tok) → List (List Tok) → List Part → List Tok
replacement read line hide written full body =
    map (hidden hide) (kept (paste_all read (flat_map (pieces_of line written full) body)))
