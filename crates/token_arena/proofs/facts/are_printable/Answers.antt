use Rattle.std.proofs.Common.{◌∙◌, sym, ap}
use Rattle.std.proofs.lemmas.Bool.{eqb-true}
use Rattle.token_arena.specs.Eight.{unprintable}
use Rattle.token_arena.proofs.Eights.{eight_printable}
use Rattle.token_arena.proofs.facts.are_printable.Goals as goal

pub returns : goal.returns
returns c = λ none. eight_printable c.args.eight.now c.told-eight c.fits-eight (sym (c.unprintable.ensures ∙ ap unprintable c.from_le_bytes.ensures) ∙ eqb-true c.unprintable.result 0 none)
