use Rattle.std.proofs.Common.{◌≡◌, ◌∙◌, ◌∷◌, ◌++◌, ◌<◌, [], sym, ap, subst, ◌≤◌, take, length, length-set, arith}
use Rattle.std.proofs.lemmas.List.{take_more_set}
use Rattle.c_chars.specs.Characters.{bytes_of}
use Rattle.c_lexer.proofs.WideOff.{take_next, too_few, char_there}
use Rattle.c_lexer.proofs.utf8.char_of.Goals as goal

pub loop-index-preserved : goal.loop-index-preserved
loop-index-preserved c =
    let next = take_next c.args.text.now.chars c.loop-index.index c.in-Some.character (sym c.peek.ensures ∙ c.in-Some.is) in
    let there : c.loop-index.index < length c.loop-index.bytes = omega arith in (
      next.0,
      take_more_set c.loop-index.bytes c.loop-index.index c.in-Some.character.byte there ∙ (ap (λ z. z ++ c.in-Some.character.byte ∷ []) c.loop-index.invariant.1 ∙ sym next.1),
      length-set c.loop-index.bytes c.loop-index.index c.in-Some.character.byte ∙ c.loop-index.invariant.2,
    )

pub returns-in-None : goal.returns-in-None
returns-in-None c = too_few c.args.text.now.chars c.args.len c.loop-index.index c.loop-index-test.true (sym c.peek.ensures ∙ c.in-None.is)

pub returns : goal.returns
returns c =
    let end : c.loop-index.index ≡ c.args.len = omega arith in
    char_there c.args.text.now.chars c.args.len (take c.args.len c.loop-index.bytes) c.only_char.result
    (subst (λ k. take k c.loop-index.bytes ≡ take k (bytes_of c.args.text.now.chars)) end c.loop-index.invariant.1) (subst (λ k. k ≤ length c.args.text.now.chars) end c.loop-index.invariant.0) c.only_char.ensures
