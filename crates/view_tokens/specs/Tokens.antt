-- The tokens of a view as tables of the layout look at them.
use Rattle.std.specs.Prelude.{◌≡◌, ◌<◌, ◌^◌, ℕ, ◌+◌, Bool, get_or, List, [], ◌∷◌, ◌++◌, length, drop}
use Rattle.line_tokens.specs.declared.LineTok.{LineTok}
use Rattle.token_arena.specs.Gaps.{Contents}
use Rattle.item_classes.specs.Items.{item_at, touches, stands_apart}
use Rattle.item_classes.specs.Viewed.{AreWithin}
use Rattle.token_roles.specs.declared.mark.Mark.{Mark}
use Rattle.token_roles.specs.Held.{is_held}

-- an item in its line
abbrev pub tok_of : Contents → ℕ → Bool → Mark → Bool → LineTok
tok_of arena id apart mark held = record {
  id = record { 0 = id };
  role = mark.seen.role;
  power = mark.power;
  depth = mark.around.depth;
  trailing_list = mark.trailing_list;
  held = held;
  touch = touches arena id;
  directive = apart;
  gap = (item_at arena id).gap;
  kind = (item_at arena id).kind;
  rows = (item_at arena id).rows;
  first_width = (item_at arena id).first_width;
  last_width = (item_at arena id).last_width;
}

-- the tokens of these places, the first of which is this one
abbrev pub toks_from : Contents → List ℕ → ℕ → List Mark → List LineTok
toks_from arena ids k [] = []
toks_from arena ids k (mark ∷ marks) =
    tok_of arena (get_or ids k 0) (stands_apart ids k) mark (is_held (mark ∷ marks)) ∷ toks_from arena ids (k + 1) marks

-- the token of an item is the one more that is made, behind those of the places before its own
abbrev pub IsPushed : Contents → ℕ → Bool → List Mark → List LineTok → List LineTok → Type 0
IsPushed arena id apart marks toks after =
    (d : Mark) →
    after ≡ toks ++ tok_of arena id apart (get_or marks (length toks) d) (is_held (drop (length toks) marks)) ∷ []

-- the tokens of a view: the places are places of a text, and as much is told of them as there are
pub record AreTold (arena : Contents) (ids : List ℕ) (marks : List Mark) : Type 0 where
  pub within : AreWithin arena ids
  pub places : length marks ≡ length ids
  pub few : length ids < 2 ^ 32
