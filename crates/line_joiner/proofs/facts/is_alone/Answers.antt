use Rattle.std.proofs.Common.{◌∙◌, ap, arith}
use Rattle.line_tokens.specs.Tokens.{no_token}
use Rattle.line_joiner.specs.Facts.{is_alone}
use Rattle.line_joiner.proofs.Ranges.{some_alone}
use Rattle.line_joiner.proofs.facts.is_alone.Goals as goal

pub returns-else-places : goal.returns-else-places
returns-else-places c =
    let places = c.places_of-places.result in
    let told = c.places_of-places.ensures in
    c.all_comments.ensures
    ∙ (some_alone c.args.tokens.now no_token places.first places.end (omega (arith, told.order, c.if-places.false)) told.within ∙ ap is_alone told.row)
