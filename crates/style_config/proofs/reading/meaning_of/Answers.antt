use Rattle.std.proofs.Common.{refl}
use Rattle.style_config.proofs.reading.meaning_of.Goals as goal

pub returns-in-Some : goal.returns-in-Some
returns-in-Some c =
    rw (c.in-Some.is, c.known.ensures, c.find.ensures, c.as_bytes.ensures.value, c.name.ensures, c.as_bytes-in-Some.ensures.value) refl
