-- The items of a view, and what the tokens of its lines tell of them.
use Rattle.std.specs.Prelude.{slice_get, ◌≡◌, ℕ, zero, suc, ◌+◌, ◌-◌, ◌==◌, Bool, true, false, ◌&&◌, not, nat_lt}
use Rattle.std.specs.Prelude.{get_or, Some, List, []}
use Rattle.c_chars.specs.declared.Dialect.{Dialect}
use Rattle.c_grammar.specs.Touch.{may_touch}
use Rattle.item_kinds.specs.declared.ItemKind.TheVariants.{Other as OtherKind}
use Rattle.touching.specs.Spelling.{spelling}
use Rattle.line_tokens.specs.declared.LineTok.{LineTok}
use Rattle.token_arena.specs.Stored.{Stored}
use Rattle.token_arena.specs.Gaps.{Contents}

-- ## The item and the one before it

-- what a list of items has past its end
abbrev pub no_item : Stored
no_item = record {
  kind = OtherKind;
  start = 0;
  raw = [];
  line = 0;
  rows = 0;
  first_width = 0;
  last_width = 0;
  back = false;
  gap = record { lines = 0; empty = false; white = false; splice = false; began = false };
}

-- the item with this number
abbrev pub item_at : Contents → ℕ → Stored
item_at arena id = get_or arena.tokens id no_item

-- two items may stand side by side
abbrev pub items_touch : Dialect → Stored → Stored → Bool
items_touch d left right = may_touch left.kind (spelling d left.raw) right.kind (spelling d right.raw)

-- the item with this number may stand directly behind the one before it in the file
abbrev pub touches : Contents → ℕ → Bool
touches arena zero = true
touches arena (suc before) = items_touch arena.dialect (item_at arena before) (item_at arena (suc before))

-- a directive stands between the place before this one and it: the two items don't follow one another in the file
abbrev pub stands_apart : List ℕ → ℕ → Bool
stands_apart ids k = nat_lt 0 k && not (get_or ids k 0 == get_or ids (k - 1) 0 + 1)

-- ## What tokens tell of their items

-- the token at a place tells the number of its item, its kind, the gap before it and whether it may touch the item
-- before it, and whether a directive stands between
pub record TellsItem (arena : Contents) (ids : List ℕ) (k : ℕ) (tok : LineTok) : Type 0 where
  pub id : tok.id.0 ≡ get_or ids k 0
  pub kind : tok.kind ≡ (item_at arena (get_or ids k 0)).kind
  pub gap : tok.gap ≡ (item_at arena (get_or ids k 0)).gap
  pub touch : tok.touch ≡ touches arena (get_or ids k 0)
  pub directive : tok.directive ≡ stands_apart ids k

abbrev pub TellItems : Contents → List ℕ → List LineTok → Type 0
TellItems arena ids toks = (k : ℕ) (tok : LineTok) → slice_get toks k ≡ Some tok → TellsItem arena ids k tok
