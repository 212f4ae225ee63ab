use Rattle.std.proofs.Common.{◌≡◌, map, take}
use Rattle.pp_events.specs.View.{shown, shown_spaced}
use Rattle.pp_events.proofs.copy.+copying.Given as goal

abbrev pub invariant-copy_tokens-loop-token : goal.invariant-copy_tokens-loop-token
invariant-copy_tokens-loop-token l = map shown l.items.items ≡ map shown (take l.token-index l.token-items)

abbrev pub invariant-copy_parts-loop-part : goal.invariant-copy_parts-loop-part
invariant-copy_parts-loop-part l = map shown_spaced l.items.items ≡ map shown_spaced (take l.part-index l.part-items)
