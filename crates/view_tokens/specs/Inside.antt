-- What the functions of this crate tell one another.
use Rattle.std.specs.Prelude.{◌≡◌, ◌<◌, ◌+◌, ℕ, Bool, false, Some, List, get_or}
use Rattle.line_tokens.specs.declared.LineTok.{LineTok}
use Rattle.line_tokens.specs.declared.role.Role.TheVariants.{Word}
use Rattle.token_arena.specs.Gaps.{Contents}
use Rattle.item_classes.specs.Items.{item_at, touches, stands_apart}
use Rattle.touching.specs.declared.edge.Edge.{Edge}
use Rattle.touching.specs.Edges.{edge_of, touch_of}
use Rattle.token_roles.specs.declared.mark.Mark.{Mark}
use Rattle.view_tokens.specs.declared.start.RowStart.{RowStart}

-- what the item with this number is to the items beside it
abbrev pub edge_at : Contents → ℕ → Edge
edge_at arena id = edge_of (item_at arena id).kind (item_at arena id).raw

-- Where an item has this edge behind one that has that edge, and these tell whether the two touch, they do or don't.
abbrev pub TellsTouch : Contents → ℕ → Edge → Edge → Type 0
TellsTouch arena id left edge = (touch : Bool) → touch_of left edge ≡ Some touch → touch ≡ touches arena id

-- an item of which its line tells nothing yet
abbrev pub item_tok : Contents → ℕ → Bool → LineTok
item_tok arena id apart = record {
  id = record { 0 = id };
  role = Word;
  power = 0;
  depth = 0;
  trailing_list = false;
  held = false;
  touch = touches arena id;
  directive = apart;
  gap = (item_at arena id).gap;
  kind = (item_at arena id).kind;
  rows = (item_at arena id).rows;
  first_width = (item_at arena id).first_width;
  last_width = (item_at arena id).last_width;
}

-- a token with what its line tells of its place
abbrev pub told : LineTok → Mark → Bool → LineTok
told tok mark held =
    record tok {
      role = mark.seen.role;
      power = mark.power;
      depth = mark.around.depth;
      trailing_list = mark.trailing_list;
      held = held;
    }

-- items of a view follow one another from a place on
pub record IsRowStart (ids : List ℕ) (place : ℕ) (start : RowStart) : Type 0 where
  pub some : 0 < start.count
  pub items : (j : ℕ) → j < start.count → get_or ids (place + j) 0 ≡ start.id + j
  pub apart : start.apart ≡ stands_apart ids place
