use Rattle.std.proofs.Common.{refl}
use Rattle.style_config.proofs.Seen.{key_is_new, key_is_old}
use Rattle.style_config.proofs.whole.note_key.Goals as goal

pub returns-then-is_new : goal.returns-then-is_new
returns-then-is_new c = key_is_new _ _ c.in_ok-name.name _ _ c.in_ok-is_new.ensures.added c.if-is_new.true c.in_ok-is_new.ensures.keys c.in_ok-name.ensures

pub returns-else-is_new : goal.returns-else-is_new
returns-else-is_new c = (key_is_old _ c.in_ok-name.name _ _ c.in_ok-is_new.ensures.added c.if-is_new.false c.in_ok-name.ensures, refl)
