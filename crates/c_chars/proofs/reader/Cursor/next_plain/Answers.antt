use Rattle.std.proofs.Common.{◌∙◌, refl, sym, arith}
use Rattle.c_chars.proofs.Runs.{plain_taken}
use Rattle.c_chars.proofs.reader.Cursor.next_plain.Goals as goal

pub returns-then-self-clause-next : goal.returns-then-self-clause-next
returns-then-self-clause-next c = (refl, refl)

pub returns-then-is_plain-clause-next : goal.returns-then-is_plain-clause-next
returns-then-is_plain-clause-next c =
    let old = c.args.self.now in
    let new = c.take_unit.new.self in
    let taken = c.take_unit.ensures in (
      plain_taken old.dialect new.dialect old.at new.at old.text.now new.text.now c.take_unit.result (omega (arith, c.if-self.false, old.within)) (sym c.is_plain.ensures ∙ c.if-is_plain.true)
          taken.made.0 taken.made.1 taken.made.2 taken.dialect taken.at taken.text,
      taken.at ∙ sym taken.made.2,
    )
