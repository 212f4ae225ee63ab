use Rattle.std.proofs.Common.{◌≡◌, ◌∙◌, ◌&&◌, false, sym, ap, refl}
use Rattle.std.proofs.lemmas.Bool.{and_right}
use Rattle.c_grammar.specs.Items.{is_hash}
use Rattle.c_grammar.specs.Rewritten.{read_alone}
use Rattle.c_grammar.specs.Touch.{is_punct}
use Rattle.token_arena.specs.Entries.{told_by}
use Rattle.replacements.proofs.hash.is_hash.Goals as goal

pub returns-then-begins_no_hash : goal.returns-then-begins_no_hash
returns-then-begins_no_hash c =
    let token = told_by c.args.token.now in
    let none : is_hash (read_alone c.args.dialect token.raw) ≡ false = c.begins_no_hash.ensures c.if-begins_no_hash.true c.args.dialect in
    sym (ap (λ b. is_punct token.kind && b) none ∙ and_right (is_punct token.kind) false refl)
