use Rattle.std.proofs.Common.{◌∙◌, ℕ, List, ap, map, subst}
use Rattle.unwrapped_lines.specs.Inside.{AreJoined, comment_place}
use Rattle.unwrapped_lines.specs.declared.part.ViewComment.{ViewComment}
use Rattle.unwrapped_lines.proofs.Noted.{places_noted}
use Rattle.unwrapped_lines.proofs.viewed.read_view.Goals as goal

pub joined_tokens-requires-clause-comments : goal.joined_tokens-requires-clause-comments
joined_tokens-requires-clause-comments c =
    c.as_slice-places.ensures.value
    ∙ (c.in_ok-marked.ensures ∙ (ap (λ (cs : List ViewComment). map comment_place cs) (c.as_slice-comments.ensures.value ∙ c.in_ok-noted.ensures.comments) ∙ places_noted c.args.arena.now c.args.view.now 0 0 c.args.classes.now))

pub returns-clause-marked : goal.returns-clause-marked
returns-clause-marked c =
    c.in_ok-marked.ensures ∙ (ap (λ (cs : List ViewComment). map comment_place cs) (c.as_slice-comments.ensures.value ∙ c.in_ok-noted.ensures.comments) ∙ places_noted c.args.arena.now c.args.view.now 0 0 c.args.classes.now)

pub returns-clause-joined : goal.returns-clause-joined
returns-clause-joined c =
    let joined = c.in_ok-joined.joined in
    let P : List ℕ → Type 0 = λ ms. AreJoined c.args.classes.now c.args.partners.now ms joined.classes.items joined.partners.items joined.numbers.items in
    subst P c.as_slice-places.ensures.value c.in_ok-joined.ensures
