-- Preprocessing tokens (C11 6.4): those of events, and those of an expansion that is under way; and what Erase leaves
-- of each.
use Rattle.std.specs.Prelude.{ℕ, Bool, true, false, cond, not, ◌&&◌, nat_eq, List, [], ◌∷◌, bytes_eq}
use Rattle.std.specs.List.{list_any, filter}
use Rattle.item_kinds.specs.declared.ItemKind.{ItemKind}

-- both are true, or both are false
abbrev pub same_bool : Bool → Bool → Bool
same_bool v w = cond v w (not w)

-- A token of an event: an item by its spelling; the number that `__LINE__` became (6.10.8.1); the string that # made of
-- an argument, each of its tokens with `white before` (6.10.3.2); a paste that is no item (6.10.3.3p3), with what was
-- pasted.
mutual
  pub data PpToken : Type 0 where
    Plain : List ℕ → PpToken
    Line : ℕ → PpToken
    Str : Spaceds → PpToken
    Pasted : PpTokens → PpToken

  pub data Spaceds : Type 0 where
    no_part : Spaceds
    part : Bool → PpToken → Spaceds → Spaceds

  pub data PpTokens : Type 0 where
    no_token : PpTokens
    one_more : PpToken → PpTokens → PpTokens

-- Erase: a token without the number of its line, and without the white space of its string
abbrev mutual
  pub erase : PpToken → PpToken
  erase (Plain s) = Plain s
  erase (Line n) = Line 0
  erase (Str ps) = Str (erase_parts ps)
  erase (Pasted ts) = Pasted (erase_tokens ts)

  pub erase_parts : Spaceds → Spaceds
  erase_parts no_part = no_part
  erase_parts (part w t ps) = part false (erase t) (erase_parts ps)

  pub erase_tokens : PpTokens → PpTokens
  erase_tokens no_token = no_token
  erase_tokens (one_more t ts) = one_more (erase t) (erase_tokens ts)

-- whether two tokens are the same
abbrev mutual
  pub token_eq : PpToken → PpToken → Bool
  token_eq (Plain s) (Plain t) = bytes_eq s t
  token_eq (Line m) (Line n) = nat_eq m n
  token_eq (Str ps) (Str qs) = parts_eq ps qs
  token_eq (Pasted ts) (Pasted us) = tokens_eq ts us
  token_eq _ _ = false

  pub parts_eq : Spaceds → Spaceds → Bool
  parts_eq no_part no_part = true
  parts_eq (part v t ps) (part w u qs) = same_bool v w && (token_eq t u && parts_eq ps qs)
  parts_eq _ _ = false

  pub tokens_eq : PpTokens → PpTokens → Bool
  tokens_eq no_token no_token = true
  tokens_eq (one_more t ts) (one_more u us) = token_eq t u && tokens_eq ts us
  tokens_eq _ _ = false

-- whether two lists of tokens are the same
abbrev pub list_eq : List PpToken → List PpToken → Bool
list_eq [] [] = true
list_eq (t ∷ ts) (u ∷ us) = token_eq t u && list_eq ts us
list_eq _ _ = false

-- the spelling of an identifier
abbrev pub Name : Type 0
Name = List ℕ

-- A token while it is expanded: its kind as an item, Other for one that no item spells; the names that hide it from
-- being replaced again (6.10.3.4p2, as Prosser's hide sets have it); whether white space stands before it; its presumed
-- line.
pub record Tok : Type 0 where
  pub token : PpToken
  pub kind : ItemKind
  pub hide : List Name
  pub white : Bool
  pub line : ℕ

-- the spelling of an item; nothing for a token that was made
abbrev pub text_of : PpToken → List ℕ
text_of (Plain s) = s
text_of (Line n) = []
text_of (Str ps) = []
text_of (Pasted ts) = []

-- the token is an item with this spelling
abbrev pub is_text : List ℕ → Tok → Bool
is_text s t = bytes_eq (text_of t.token) s

-- one of these names
abbrev pub is_in : Name → List Name → Bool
is_in x xs = list_any (bytes_eq x) xs

-- the names in both
abbrev pub common : List Name → List Name → List Name
common xs ys = filter (λ x. is_in x ys) xs
