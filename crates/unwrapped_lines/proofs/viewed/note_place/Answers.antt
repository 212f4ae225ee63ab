use Rattle.token_classes.specs.declared.class.TokenClass.TheVariants.{If}
use Rattle.unwrapped_lines.proofs.Noted.{other_item}
use Rattle.unwrapped_lines.proofs.viewed.note_place.Goals as goal

pub returns-then-not-is_other : goal.returns-then-not-is_other
returns-then-not-is_other c =
    other_item c.args.arena.now c.args.view.now c.args.classes.now c.args.place If c.args.noted.now.comments.items c.args.noted.now.touched.items c.requires.before c.requires.places
    (c.is_other.ensures.comment c.if-not-is_other.true) (c.is_other.ensures.colon c.if-not-is_other.true)
