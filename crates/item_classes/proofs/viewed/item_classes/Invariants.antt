use Rattle.std.proofs.Common.{◌≡◌, ◌<◌, ℕ, get_or, length}
use Rattle.token_classes.specs.declared.class.TokenClass.TheVariants.{Nothing}
use Rattle.item_classes.specs.Viewed.{item_classes}
use Rattle.item_classes.proofs.viewed.item_classes.Given as goal

abbrev pub invariant-loop-id : goal.invariant-loop-id
invariant-loop-id l = record {
  whole : length l.classes ≡ length l.arena.tokens;
  told : (k : ℕ) → k < l.id → get_or l.classes k Nothing ≡ get_or (item_classes l.arena) k Nothing;
}
