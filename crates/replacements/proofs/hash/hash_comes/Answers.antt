use Rattle.std.proofs.Common.{◌≡◌, ◌∙◌, false, sym, ap}
use Rattle.std.proofs.lemmas.Option.{slice_get_within}
use Rattle.c_grammar.specs.Fitting.{is_comment}
use Rattle.token_arena.specs.Directives.{is_hash_token}
use Rattle.token_arena.specs.Entries.{told_by}
use Rattle.replacements.proofs.Items.{hash_began, hash_here}
use Rattle.replacements.proofs.hash.hash_comes.Goals as goal

pub returns-then-token-clause-is : goal.returns-then-token-clause-is
returns-then-token-clause-is c =
    let arena = c.args.arena.now in
    sym (hash_began arena.dialect arena.tokens c.args.place (told_by c.args.token.now) c.requires.here c.if-token.true)

pub returns-then-not-is_comment-clause-is : goal.returns-then-not-is_comment-clause-is
returns-then-not-is_comment-clause-is c =
    let arena = c.args.arena.now in
    let token = told_by c.args.token.now in
    let other : is_comment token.kind ≡ false = cc in
    c.is_hash.ensures ∙ (ap (λ d. is_hash_token d token) c.dialect.ensures ∙ sym (hash_here arena.dialect arena.tokens c.args.place token c.requires.here c.if-token.false other))

pub run_of-requires : goal.run_of-requires
run_of-requires c = record { here = slice_get_within c.args.arena.now.tokens c.args.place (told_by c.args.token.now) c.requires.here }
