use Rattle.std.proofs.Common.{◌∙◌, ap}
use Rattle.c_chars.specs.Characters.{bytes_of}
use Rattle.c_chars.specs.Coming.{behind}
use Rattle.c_lexer.proofs.FirstBytes.{head_digit, head_point}
use Rattle.c_lexer.proofs.WordsOff.{number_off}
use Rattle.c_lexer.proofs.cut.cut_number.Goals.{then-first-eq46, else-first-eq46}
use Rattle.c_lexer.proofs.cut.cut_number.Goals as goal

pub returns : goal.returns
returns c =
    number_off c.args.text.now c.behind.result c.behind_number.result c.args.dialect c.requires.dialect c.requires.number
    (c.behind.ensures ∙ ap (λ k. behind c.args.text.now k) (elim c.if-first-eq46.branch [
      | then-first-eq46 w ↦ w.head-is ∙ head_point c.args.first (bytes_of c.args.text.now.chars) c.requires.first w.if-first-eq46.true
      | else-first-eq46 w ↦ w.head-is ∙ head_digit c.args.first (bytes_of c.args.text.now.chars) c.requires.first c.requires.number w.if-first-eq46.false
    ])) c.behind_number.ensures
