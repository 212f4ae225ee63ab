use Rattle.std.proofs.Common.{◌∙◌, sym}
use Rattle.std.specs.Option.{option_to_list}
use Rattle.touching.specs.Spelling.{spelling}
use Rattle.touching.proofs.Firsts.{front_other}
use Rattle.touching.proofs.touch.begins_behind.Goals as goal

pub returns-else-begins_with : goal.returns-else-begins_with
returns-else-begins_with c =
    c.if-begins_with.false
    ∙ sym (front_other (spelling c.args.dialect c.args.raw.now) (option_to_list c.args.right) c.args.word.now c.in-Some.first (sym c.in-Some.is ∙ c.requires.first) (sym c.begins_with.ensures ∙ c.if-begins_with.false))
