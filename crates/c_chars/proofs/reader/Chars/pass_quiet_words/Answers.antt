use Rattle.std.proofs.Common.{◌≤◌, ◌≡◌, true, drop, length, take, subst}
use Rattle.std.specs.List.{list_all}
use Rattle.c_chars.specs.Characters.{are_words, chars, is_quiet_comment}
use Rattle.c_chars.specs.Coming.{AreBytesPassed, AreWordsPassed}
use Rattle.c_chars.proofs.Words.{front_passed, quiet_comment_plain, words_passed}
use Rattle.c_chars.proofs.Rests.{left_behind, words_within}
use Rattle.c_chars.proofs.reader.Chars.pass_quiet_words.Goals as goal

pub pass-requires : goal.pass-requires
pass-requires c =
    words_within c.self.inside.cursor.at c.quiet_words_len-len.result c.self.inside.cursor.text.now c.rest.result.now c.self.inside.cursor.within c.rest.ensures c.quiet_words_len-len.ensures.within

pub returns-clause-passed : goal.returns-clause-passed
returns-clause-passed c =
    let old = c.self.inside.cursor in
    let new = c.pass.new.self in
    let n = c.quiet_words_len-len.result in
    subst (λ v. AreWordsPassed v (record { dialect = new.dialect; at = new.at; chars = chars new.dialect new.at (drop new.at new.text.now) })) c.self.view_is
    (words_passed old.dialect new.dialect old.at new.at n (drop old.at old.text.now) (drop new.at new.text.now)
    (subst (λ s. n ≤ length s) c.rest.ensures c.quiet_words_len-len.ensures.within) (subst (λ s. are_words (take n s) ≡ true) c.rest.ensures c.quiet_words_len-len.ensures.words)
    c.pass.ensures.dialect c.pass.ensures.at (left_behind old.at new.at n old.text.now new.text.now c.pass.ensures.at c.pass.ensures.text))

pub returns-clause-bytes : goal.returns-clause-bytes
returns-clause-bytes c =
    let old = c.self.inside.cursor in
    let new = c.pass.new.self in
    let n = c.quiet_words_len-len.result in
    subst (λ v. AreBytesPassed is_quiet_comment v (record { dialect = new.dialect; at = new.at; chars = chars new.dialect new.at (drop new.at new.text.now) })) c.self.view_is
    (front_passed is_quiet_comment old.dialect new.dialect old.at new.at n (drop old.at old.text.now) (drop new.at new.text.now) quiet_comment_plain
    (subst (λ s. n ≤ length s) c.rest.ensures c.quiet_words_len-len.ensures.within) (subst (λ s. list_all is_quiet_comment (take n s) ≡ true) c.rest.ensures c.quiet_words_len-len.ensures.quiet)
    c.pass.ensures.dialect c.pass.ensures.at (left_behind old.at new.at n old.text.now new.text.now c.pass.ensures.at c.pass.ensures.text))
