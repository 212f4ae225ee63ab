use Rattle.std.proofs.Common.{◌∙◌, ap, sym}
use Rattle.token_classes.specs.Words.{word_class}
use Rattle.item_classes.proofs.Spellings.{reads_itself}
use Rattle.item_classes.proofs.viewed.class_of_plain_word.Goals as goal

pub returns : goal.returns
returns c = λ dialect. c.word_class.ensures ∙ ap word_class (sym (reads_itself dialect c.args.raw.now c.requires))
