use Rattle.std.proofs.Common.{◌≡◌, map, ap, sym, ◌∙◌}
use Rattle.pp_model.specs.Token.{erase_tokens, erase_parts, tokens_eq, parts_eq}
use Rattle.pp_events.specs.View.{shown, shown_spaced, shown_tokens, shown_spaceds, tokens_of, spaceds_of}
use Rattle.pp_events.proofs.Compared.{tokens_all, parts_all, tokens_out, parts_out}
use Rattle.pp_events.proofs.same.+comparing.Goals as goal

pub are_same_tokens-returns : goal.are_same_tokens-returns
are_same_tokens-returns t c =
    let a : tokens_of (map shown c.deref-token-items.result.now) ≡ shown_tokens c.args.left.now = ap (λ xs. tokens_of (map shown xs)) c.deref-token-items.ensures.value ∙ sym (tokens_out c.args.left.now) in
    let b : tokens_of (map shown c.as_slice-rest.result.now) ≡ shown_tokens c.args.right.now = ap (λ xs. tokens_of (map shown xs)) c.as_slice-rest.ensures.value ∙ sym (tokens_out c.args.right.now) in
    let all : tokens_eq (erase_tokens (tokens_of (map shown c.deref-token-items.result.now))) (erase_tokens (tokens_of (map shown c.as_slice-rest.result.now))) ≡ tokens_eq (erase_tokens (shown_tokens c.args.left.now)) (erase_tokens (shown_tokens c.args.right.now)) = cc in
    c.is_empty.ensures ∙ sym (tokens_all c.deref-token-items.result.now c.loop-token.token-index c.loop-token.rest.now c.loop-token-test.false) ∙ c.loop-token.invariant ∙ all

pub are_same_parts-returns : goal.are_same_parts-returns
are_same_parts-returns t c =
    let a : spaceds_of (map shown_spaced c.deref-part-items.result.now) ≡ shown_spaceds c.args.left.now = ap (λ xs. spaceds_of (map shown_spaced xs)) c.deref-part-items.ensures.value ∙ sym (parts_out c.args.left.now) in
    let b : spaceds_of (map shown_spaced c.as_slice-rest.result.now) ≡ shown_spaceds c.args.right.now = ap (λ xs. spaceds_of (map shown_spaced xs)) c.as_slice-rest.ensures.value ∙ sym (parts_out c.args.right.now) in
    let all : parts_eq (erase_parts (spaceds_of (map shown_spaced c.deref-part-items.result.now))) (erase_parts (spaceds_of (map shown_spaced c.as_slice-rest.result.now))) ≡ parts_eq (erase_parts (shown_spaceds c.args.left.now)) (erase_parts (shown_spaceds c.args.right.now)) = cc in
    c.is_empty.ensures ∙ sym (parts_all c.deref-part-items.result.now c.loop-part.part-index c.loop-part.rest.now c.loop-part-test.false) ∙ c.loop-part.invariant ∙ all
