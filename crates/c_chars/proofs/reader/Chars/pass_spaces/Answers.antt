use Rattle.std.proofs.Common.{drop, subst}
use Rattle.c_chars.specs.Characters.{chars, is_space_byte}
use Rattle.c_chars.specs.Coming.{AreSpacesPassed}
use Rattle.c_chars.proofs.Runs.{spaces_passed}
use Rattle.c_chars.proofs.Rests.{left_behind, run_is, run_within}
use Rattle.c_chars.proofs.reader.Chars.pass_spaces.Goals as goal

pub pass-requires : goal.pass-requires
pass-requires c = run_within is_space_byte c.self.inside.cursor.at c.space_len-len.result c.self.inside.cursor.text.now c.rest.result.now c.self.inside.cursor.within c.rest.ensures c.space_len-len.ensures

pub returns-clause-passed : goal.returns-clause-passed
returns-clause-passed c =
    let old = c.self.inside.cursor in
    let new = c.pass.new.self in
    subst (λ v. AreSpacesPassed v (record { dialect = new.dialect; at = new.at; chars = chars new.dialect new.at (drop new.at new.text.now) }) c.space_len-len.result) c.self.view_is
    (spaces_passed old.dialect new.dialect old.at new.at c.space_len-len.result (drop old.at old.text.now) (drop new.at new.text.now) (run_is is_space_byte c.space_len-len.result _ _ c.rest.ensures c.space_len-len.ensures)
    c.pass.ensures.dialect c.pass.ensures.at (left_behind old.at new.at c.space_len-len.result old.text.now new.text.now c.pass.ensures.at c.pass.ensures.text))
