use Rattle.std.proofs.Common.{◌∙◌}
use Rattle.c_grammar.specs.Place.{place_of}
use Rattle.c_grammar.proofs.Places.{hash_place}
use Rattle.c_grammar.proofs.place.past_hash.Goals as goal

pub returns-then-is_mark : goal.returns-then-is_mark
returns-then-is_mark c = λ d n within left_is.
    hash_place d c.args.text.now c.args.left.now c.in_ok-mark.mark (place_of c.args.standing) c.args.kind n c.requires c.in_ok-mark.ensures.some c.if-mark-ne35.false (c.if-mark-at.false ∙ c.at.ensures)
    (c.is_first_in_line.ensures.first c.if-is_first_in_line.true) (c.is_mark.ensures c.if-is_mark.true) within left_is
