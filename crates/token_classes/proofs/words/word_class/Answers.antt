use Rattle.std.proofs.Common.{sym}
use Rattle.token_classes.proofs.ShortWords.{short_word}
use Rattle.token_classes.proofs.words.word_class.Goals as goal

pub returns-then-spelled-lt2 : goal.returns-then-spelled-lt2
returns-then-spelled-lt2 c = sym (short_word c.args.spelled.now c.if-spelled-lt2.true)
