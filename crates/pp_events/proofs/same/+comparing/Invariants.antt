use Rattle.std.proofs.Common.{◌≡◌, map, drop}
use Rattle.pp_model.specs.Token.{erase_tokens, erase_parts, tokens_eq, parts_eq}
use Rattle.pp_events.specs.View.{shown, shown_spaced, tokens_of, spaceds_of}
use Rattle.pp_events.proofs.same.+comparing.Given as goal

abbrev pub invariant-are_same_tokens-loop-token : goal.invariant-are_same_tokens-loop-token
invariant-are_same_tokens-loop-token l =
    tokens_eq (erase_tokens (tokens_of (map shown (drop l.token-index l.token-items)))) (erase_tokens (tokens_of (map shown l.rest)))
    ≡ tokens_eq (erase_tokens (tokens_of (map shown l.token-items))) (erase_tokens (tokens_of (map shown l.initial.rest)))

abbrev pub invariant-are_same_parts-loop-part : goal.invariant-are_same_parts-loop-part
invariant-are_same_parts-loop-part l =
    parts_eq (erase_parts (spaceds_of (map shown_spaced (drop l.part-index l.part-items)))) (erase_parts (spaceds_of (map shown_spaced l.rest)))
    ≡ parts_eq (erase_parts (spaceds_of (map shown_spaced l.part-items))) (erase_parts (spaceds_of (map shown_spaced l.initial.rest)))
