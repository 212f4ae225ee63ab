use Rattle.std.proofs.Common.{◌∙◌, sym, ap}
use Rattle.c_grammar.specs.Place.{place_of, past_word}
use Rattle.c_grammar.proofs.Places.{other_word}
use Rattle.c_grammar.proofs.place.past_plain_word.Goals as goal

pub returns-then-is_behind_define : goal.returns-then-is_behind_define
returns-then-is_behind_define c = λ d s. sym (ap (λ p. past_word d p s) (c.is_behind_define.ensures.define c.if-is_behind_define.true))

pub returns : goal.returns
returns c = λ d s. c.past_other.ensures ∙ sym (other_word d (place_of c.args.standing) s (c.is_behind_hash.ensures.other c.if-is_behind_hash.false) (c.is_behind_define.ensures.other c.if-is_behind_define.false))
