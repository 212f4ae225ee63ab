use Rattle.std.proofs.Common.{◌≤◌, ◌≡◌, true, drop, length, take, subst}
use Rattle.c_chars.specs.Characters.{are_words, chars}
use Rattle.c_chars.specs.Coming.{AreWordsPassed}
use Rattle.c_chars.proofs.Words.{words_passed}
use Rattle.c_chars.proofs.Rests.{left_behind, words_within}
use Rattle.c_chars.proofs.reader.Chars.pass_words.Goals as goal

pub pass-requires : goal.pass-requires
pass-requires c = words_within c.self.inside.cursor.at c.words_len-len.result c.self.inside.cursor.text.now c.rest.result.now c.self.inside.cursor.within c.rest.ensures c.words_len-len.ensures.within

pub returns : goal.returns
returns c =
    let old = c.self.inside.cursor in
    let new = c.pass.new.self in
    let n = c.words_len-len.result in
    subst (λ v. AreWordsPassed v (record { dialect = new.dialect; at = new.at; chars = chars new.dialect new.at (drop new.at new.text.now) })) c.self.view_is
    (words_passed old.dialect new.dialect old.at new.at n (drop old.at old.text.now) (drop new.at new.text.now)
    (subst (λ s. n ≤ length s) c.rest.ensures c.words_len-len.ensures.within) (subst (λ s. are_words (take n s) ≡ true) c.rest.ensures c.words_len-len.ensures.words)
    c.pass.ensures.dialect c.pass.ensures.at (left_behind old.at new.at n old.text.now new.text.now c.pass.ensures.at c.pass.ensures.text))
