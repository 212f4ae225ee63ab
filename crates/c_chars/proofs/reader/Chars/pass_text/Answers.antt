use Rattle.std.proofs.Common.{drop, subst}
use Rattle.c_chars.specs.Characters.{chars, is_text_byte}
use Rattle.c_chars.specs.Coming.{ArePassed}
use Rattle.c_chars.proofs.Runs.{run_passed, text_plain}
use Rattle.c_chars.proofs.Rests.{left_behind, run_is, run_within}
use Rattle.c_chars.proofs.reader.Chars.pass_text.Goals as goal

pub pass-requires : goal.pass-requires
pass-requires c = run_within is_text_byte c.self.inside.cursor.at c.run_len-len.result c.self.inside.cursor.text.now c.rest.result.now c.self.inside.cursor.within c.rest.ensures c.run_len-len.ensures

pub returns : goal.returns
returns c =
    let old = c.self.inside.cursor in
    let new = c.pass.new.self in
    subst (λ v. ArePassed is_text_byte v (record { dialect = new.dialect; at = new.at; chars = chars new.dialect new.at (drop new.at new.text.now) })) c.self.view_is
    (run_passed is_text_byte old.dialect new.dialect old.at new.at c.run_len-len.result (drop old.at old.text.now) (drop new.at new.text.now) text_plain (run_is is_text_byte c.run_len-len.result _ _ c.rest.ensures c.run_len-len.ensures)
    c.pass.ensures.dialect c.pass.ensures.at (left_behind old.at new.at c.run_len-len.result old.text.now new.text.now c.pass.ensures.at c.pass.ensures.text))
