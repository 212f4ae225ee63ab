use Rattle.std.proofs.Common.{◌∙◌, ◌+◌, ◌-◌, List, get_or, drop, ap, sym}
use Rattle.std.proofs.lemmas.List.{drop_more}
use Rattle.unwrapped_lines.specs.Comments.{token_follows}
use Rattle.item_classes.specs.declared.part.Part.TheVariants.{Token}
use Rattle.unwrapped_lines.specs.declared.part.ViewComment.{ViewComment}
use Rattle.unwrapped_lines.specs.Inside.{parts_with}
use Rattle.unwrapped_lines.proofs.Passed.{drop_none, follows_behind, follows_none}
use Rattle.unwrapped_lines.proofs.comments.token_follows.Goals as goal

pub loop-comment-preserved : goal.loop-comment-preserved
loop-comment-preserved c =
    let comments = c.args.comments.now in
    let place = c.loop-comment.place in
    let i = c.loop-comment.comment-index in
    let blank : ViewComment = record { place = 0; part = Token } in
    follows_behind c.args.count place (get_or comments i blank) (drop (i + 1) comments) c.if-count-place.false c.if-comment-place.false c.in-Inner.is
    ∙ (ap (λ (rest : List ViewComment). token_follows (parts_with (c.args.count - place) place rest)) (sym (drop_more comments i blank c.loop-comment-test.true)) ∙ c.loop-comment.invariant)

pub returns : goal.returns
returns c =
    let comments = c.args.comments.now in
    let place = c.loop-comment.place in
    sym (follows_none c.args.count place)
    ∙ (ap (λ (rest : List ViewComment). token_follows (parts_with (c.args.count - place) place rest)) (sym (drop_none comments c.loop-comment.comment-index c.loop-comment-test.false)) ∙ c.loop-comment.invariant)
