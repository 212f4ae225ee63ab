-- Items of a text.
use Rattle.std.proofs.Common.{◌∙◌, ◌≡◌, ℕ, zero, suc, ◌+◌, Bool, ◌<◌, ◌≤◌, ◌-◌, Some, List, [], ◌∷◌, length, get_or}
use Rattle.std.proofs.Common.{arith, subst, ap}
use Rattle.std.specs.Prelude.{slice_get}
use Rattle.c_chars.specs.declared.Dialect.{Dialect}
use Rattle.token_arena.specs.Stored.{Stored}
use Rattle.token_arena.specs.Gaps.{Contents, behind, StandFrom}
use Rattle.item_classes.specs.Viewed.{AreWithin}
use Rattle.touching.specs.declared.edge.Edge.{Edge}
use Rattle.touching.specs.Edges.{touch_of}
use Rattle.view_tokens.specs.Inside.{edge_at, TellsTouch}
use Rattle.item_classes.specs.Items.{item_at, items_touch, touches}
use Rattle.touching.proofs.Edges.{edges_tell}

-- an item that stands in a text is no longer than the text
pub no_longer : (text : List ℕ) (at : ℕ) (tokens : List Stored) (k : ℕ) (token : Stored) → StandFrom text at tokens → slice_get tokens k ≡ Some token → length token.raw ≤ length text
no_longer text at [] k token stand is = cc
no_longer text at (t ∷ tokens) zero token stand is =
    let same : t ≡ token = cc in
    let within : behind t ≤ length text = stand.0.within in
    let P : Stored → Type 0 = λ x. length x.raw ≤ length text in
    subst P same (omega arith)
no_longer text at (t ∷ tokens) (suc k) token stand is = no_longer text (behind t) tokens k token stand.1 is

-- the item at a place of a view is one of the text
pub item_within : (arena : Contents) (ids : List ℕ) (k id : ℕ) → AreWithin arena ids → k < length ids → get_or ids k 0 ≡ id → id < length arena.tokens
item_within arena ids k id items within at = rw (← at) (items k 0 within)

-- two items of a text that follow one another touch where the second says so
pub touched : (arena : Contents) (id : ℕ) (d : Dialect) (left right : Stored) → 0 < id → d ≡ arena.dialect → left ≡ item_at arena (id - 1) → right ≡ item_at arena id → items_touch d left right ≡ touches arena id
touched arena zero d left right some ed el er = absurd (omega (arith, some))
touched arena (suc before) d left right some ed el er =
    let same : suc before - 1 ≡ before = omega arith in
    ap (λ (x : Dialect). items_touch x left right) ed
    ∙ ap (λ (x : Stored). items_touch arena.dialect x right) (el ∙ ap (item_at arena) same)
    ∙ ap (items_touch arena.dialect (item_at arena before)) er

-- the edges of two items that follow one another tell whether they touch
edges_of_two : (arena : Contents) (id : ℕ) (touch : Bool) → touch_of (edge_at arena id) (edge_at arena (suc id)) ≡ Some touch → touch ≡ touches arena (suc id)
edges_of_two arena id touch told =
    edges_tell arena.dialect (item_at arena id).kind (item_at arena (suc id)).kind (item_at arena id).raw (item_at arena (suc id)).raw touch told

pub edges_touch : (arena : Contents) (id : ℕ) (left : Edge) → left ≡ edge_at arena id → TellsTouch arena (id + 1) left (edge_at arena (id + 1))
edges_touch arena id left is touch told =
    let one : suc id ≡ id + 1 = omega arith in
    let next : (said : Bool) → touch_of (edge_at arena id) (edge_at arena (id + 1)) ≡ Some said → said ≡ touches arena (id + 1) =
    subst (λ (n : ℕ). (said : Bool) → touch_of (edge_at arena id) (edge_at arena n) ≡ Some said → said ≡ touches arena n) one (edges_of_two arena id) in
    next touch (subst (λ (e : Edge). touch_of e (edge_at arena (id + 1)) ≡ Some touch) is told)
