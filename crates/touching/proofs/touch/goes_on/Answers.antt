use Rattle.std.proofs.Common.{◌∙◌, ◌++◌, ◌∷◌, ap}
use Rattle.std.specs.Prelude.{codes}
use Rattle.std.specs.List.{list_any}
use Rattle.c_grammar.specs.Grammar.{common_punctuators}
use Rattle.c_grammar.specs.Touch.{is_front}
use Rattle.touching.specs.Spelling.{spelling}
use Rattle.touching.proofs.Words.{first_list}
use Rattle.touching.proofs.touch.goes_on.Goals as goal

pub returns : goal.returns
returns c =
    c.begins_some.ensures
    ∙ ap (λ z. list_any (is_front (spelling c.args.dialect c.args.left.now ++ z)) (codes "::" ∷ codes "//" ∷ codes "/*" ∷ common_punctuators)) (first_list (spelling c.args.dialect c.args.right.now) c.first_char-next.result c.first_char-next.ensures)
