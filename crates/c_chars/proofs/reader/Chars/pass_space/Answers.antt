use Rattle.std.proofs.Common.{◌∙◌, ◌==◌, cond, drop, get_or, ap, subst}
use Rattle.c_chars.specs.Characters.{chars}
use Rattle.c_chars.specs.Coming.{AreSpacesPassed}
use Rattle.c_chars.proofs.Runs.{first_space_passed}
use Rattle.c_chars.proofs.Rests.{left_behind, space_within}
use Rattle.c_chars.proofs.reader.Chars.pass_space.Goals as goal

pub pass-requires : goal.pass-requires
pass-requires c = space_within c.self.inside.cursor.at c.first_space_len-len.result c.self.inside.cursor.text.now c.rest.result.now c.self.inside.cursor.within c.rest.ensures c.first_space_len-len.ensures

pub returns-clause-passed : goal.returns-clause-passed
returns-clause-passed c =
    let old = c.self.inside.cursor in
    let new = c.pass.new.self in
    subst (λ v. AreSpacesPassed v (record { dialect = new.dialect; at = new.at; chars = chars new.dialect new.at (drop new.at new.text.now) }) c.first_space_len-len.result) c.self.view_is
    (first_space_passed old.dialect new.dialect old.at new.at c.first_space_len-len.result (drop old.at old.text.now) (drop new.at new.text.now)
    (c.first_space_len-len.ensures ∙ ap (λ s. cond (get_or s 0 0 == 32) 1 0) c.rest.ensures)
    c.pass.ensures.dialect c.pass.ensures.at (left_behind old.at new.at c.first_space_len-len.result old.text.now new.text.now c.pass.ensures.at c.pass.ensures.text))
