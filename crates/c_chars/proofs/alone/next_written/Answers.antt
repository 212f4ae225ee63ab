use Rattle.std.proofs.Common.{◌∙◌, ◌+◌, ap, ◌∷◌, sym}
use Rattle.c_chars.specs.Characters.{bytes_of, chars}
use Rattle.c_chars.proofs.Moved.{bytes_at}
use Rattle.c_chars.proofs.alone.next_written.Goals as goal

pub returns : goal.returns
returns c =
    let first = c.in-Some.first in
    ap bytes_of (c.in-Some.ensures.first 0) ∙ (ap (λ z. first.byte ∷ z) (bytes_at c.args.dialect ((0 + first.before) + first.len) _) ∙ ap (λ z. first.byte ∷ bytes_of (chars c.args.dialect 0 z)) (sym c.split_at.ensures.back))
