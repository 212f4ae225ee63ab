use Rattle.std.proofs.Common.{map, ap, sym, ◌∙◌, take_all}
use Rattle.pp_events.specs.View.{shown, shown_spaced, tokens_of, spaceds_of}
use Rattle.pp_events.proofs.Compared.{tokens_out, parts_out}
use Rattle.pp_events.proofs.copy.+copying.Goals as goal

pub copy_tokens-returns : goal.copy_tokens-returns
copy_tokens-returns t c =
    c.as_tokens.ensures
    ∙ ap tokens_of (c.loop-token.invariant ∙ ap (map shown) (take_all c.loop-token.token-index c.deref-token-items.result.now c.loop-token-test.false ∙ c.deref-token-items.ensures.value))
    ∙ sym (tokens_out c.args.tokens.now)

pub copy_parts-returns : goal.copy_parts-returns
copy_parts-returns t c =
    c.as_parts.ensures
    ∙ ap spaceds_of (c.loop-part.invariant ∙ ap (map shown_spaced) (take_all c.loop-part.part-index c.deref-part-items.result.now c.loop-part-test.false ∙ c.deref-part-items.ensures.value))
    ∙ sym (parts_out c.args.parts.now)
