-- What the tokens of a view tell of its items. No more is needed for a layout whose text is a twin of the input,
-- whatever roles the tokens have.
use Rattle.std.specs.Prelude.{◌≡◌, ◌<◌, ◌+◌, ◌-◌, ℕ, suc, List, get_or, length, IsTrue, IsFalse}
use Rattle.c_chars.specs.declared.Dialect.{Dialect}
use Rattle.c_grammar.specs.Touch.{may_touch}
use Rattle.touching.specs.Spelling.{spelling}
use Rattle.line_tokens.specs.declared.LineTok.{LineTok}
use Rattle.token_arena.specs.Stored.{Stored}
use Rattle.token_arena.specs.Gaps.{Contents}
use Rattle.item_classes.specs.Items.{item_at}
use Rattle.line_tokens.specs.Tokens.{no_token}

-- the two items may stand side by side
abbrev pub MayTouch : Dialect → Stored → Stored → Type 0
MayTouch d left right = IsTrue (may_touch left.kind (spelling d left.raw) right.kind (spelling d right.raw))

-- A token stands for an item: it tells its number, its kind and its gap, and that it may touch the item before it in
-- the text only where it may.
pub record StandsForItem (arena : Contents) (id : ℕ) (tok : LineTok) : Type 0 where
  pub number : tok.id.0 ≡ id
  pub kind : tok.kind ≡ (item_at arena id).kind
  pub gap : tok.gap ≡ (item_at arena id).gap
  pub touch : IsTrue tok.touch → 0 < id → MayTouch arena.dialect (item_at arena (id - 1)) (item_at arena id)

-- There is a token for each item, and one of which no directive is told comes next in the text behind the item before
-- it.
pub record StandForItems (arena : Contents) (ids : List ℕ) (toks : List LineTok) : Type 0 where
  pub as_many : length toks ≡ length ids
  pub items : (k : ℕ) → k < length ids → StandsForItem arena (get_or ids k 0) (get_or toks k no_token)
  pub next : (k : ℕ) → suc k < length ids → IsFalse (get_or toks (suc k) no_token).directive →
      get_or ids (suc k) 0 ≡ get_or ids k 0 + 1
