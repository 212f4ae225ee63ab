use Rattle.std.proofs.Common.{◌≡◌, ◌∙◌, ◌&&◌, ◌+◌, false, refl, sym, ap, drop}
use Rattle.std.proofs.lemmas.Bool.{and_right}
use Rattle.token_arena.specs.Entries.{told_by}
use Rattle.replacements.specs.Stances.{hash_comes, stance_in}
use Rattle.replacements.specs.Written.{is_of_text}
use Rattle.replacements.proofs.Items.{drop_next}
use Rattle.replacements.proofs.written.blank_comes.Goals as goal

pub returns-then-comes_no_hash-clause-is : goal.returns-then-comes_no_hash-clause-is
returns-then-comes_no_hash-clause-is c =
    let arena = c.args.arena.now in
    let place = c.args.place in
    let text = is_of_text (stance_in c.args.sections.now place) in
    let none : hash_comes arena.dialect (drop place arena.tokens) ≡ false =
    ap (hash_comes arena.dialect) (drop_next arena.tokens place (told_by c.args.token.now) c.requires.here) ∙ c.comes_no_hash.ensures c.if-comes_no_hash.true arena.dialect (drop (place + 1) arena.tokens) in
    sym (ap (λ b. text && b) none ∙ and_right text false refl)
