use Rattle.std.proofs.Common.{drop, subst}
use Rattle.c_chars.specs.Characters.{chars, is_quiet_byte}
use Rattle.c_chars.specs.Coming.{AreBytesPassed, ArePassed}
use Rattle.c_chars.proofs.Runs.{bytes_passed, quiet_plain, run_passed}
use Rattle.c_chars.proofs.Rests.{left_behind, run_is, run_within}
use Rattle.c_chars.proofs.reader.Chars.pass_quiet.Goals as goal

pub pass-requires : goal.pass-requires
pass-requires c = run_within is_quiet_byte c.self.inside.cursor.at c.quiet_len-len.result c.self.inside.cursor.text.now c.rest.result.now c.self.inside.cursor.within c.rest.ensures c.quiet_len-len.ensures

pub returns-clause-passed : goal.returns-clause-passed
returns-clause-passed c =
    let old = c.self.inside.cursor in
    let new = c.pass.new.self in
    subst (λ v. ArePassed is_quiet_byte v (record { dialect = new.dialect; at = new.at; chars = chars new.dialect new.at (drop new.at new.text.now) })) c.self.view_is
    (run_passed is_quiet_byte old.dialect new.dialect old.at new.at c.quiet_len-len.result (drop old.at old.text.now) (drop new.at new.text.now) quiet_plain (run_is is_quiet_byte c.quiet_len-len.result _ _ c.rest.ensures c.quiet_len-len.ensures)
    c.pass.ensures.dialect c.pass.ensures.at (left_behind old.at new.at c.quiet_len-len.result old.text.now new.text.now c.pass.ensures.at c.pass.ensures.text))

pub returns-clause-bytes : goal.returns-clause-bytes
returns-clause-bytes c =
    let old = c.self.inside.cursor in
    let new = c.pass.new.self in
    subst (λ v. AreBytesPassed is_quiet_byte v (record { dialect = new.dialect; at = new.at; chars = chars new.dialect new.at (drop new.at new.text.now) })) c.self.view_is
    (bytes_passed is_quiet_byte old.dialect new.dialect old.at new.at c.quiet_len-len.result (drop old.at old.text.now) (drop new.at new.text.now) quiet_plain (run_is is_quiet_byte c.quiet_len-len.result _ _ c.rest.ensures c.quiet_len-len.ensures)
    c.pass.ensures.dialect c.pass.ensures.at (left_behind old.at new.at c.quiet_len-len.result old.text.now new.text.now c.pass.ensures.at c.pass.ensures.text))
