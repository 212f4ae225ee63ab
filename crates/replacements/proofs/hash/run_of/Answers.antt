use Rattle.std.proofs.Common.{◌≡◌, ◌∙◌, false, true, sym, ap, arith}
use Rattle.c_grammar.specs.Fitting.{is_comment}
use Rattle.token_arena.specs.Directives.{is_hash_token}
use Rattle.token_arena.specs.Entries.{told_by}
use Rattle.replacements.proofs.Items.{known_at, known_end, hash_began, hash_here, one_begun, one_more}
use Rattle.replacements.proofs.hash.run_of.Goals as goal

pub loop-at-init : goal.loop-at-init
loop-at-init c = one_begun c.args.arena.now.dialect c.args.arena.now.tokens c.args.place

pub returns-then-token-clause-known : goal.returns-then-token-clause-known
returns-then-token-clause-known c =
    let arena = c.args.arena.now in
    known_at arena.dialect arena.tokens c.args.place c.loop-at.at false c.loop-at.invariant
    (hash_began arena.dialect arena.tokens c.loop-at.at (told_by c.get-token.result) c.get-token.ensures c.if-token.true)

pub returns-then-not-is_comment-clause-known : goal.returns-then-not-is_comment-clause-known
returns-then-not-is_comment-clause-known c =
    let arena = c.args.arena.now in
    let token = told_by c.get-token.result in
    let other : is_comment token.kind ≡ false = cc in
    known_at arena.dialect arena.tokens c.args.place c.loop-at.at c.is_hash.result c.loop-at.invariant
    (hash_here arena.dialect arena.tokens c.loop-at.at token c.get-token.ensures c.if-token.false other
    ∙ sym (c.is_hash.ensures ∙ ap (λ d. is_hash_token d token) c.dialect.ensures))

pub loop-at-preserved : goal.loop-at-preserved
loop-at-preserved c =
    let arena = c.args.arena.now in
    let token = told_by c.get-token.result in
    let comment : is_comment token.kind ≡ true = cc in
    one_more arena.dialect arena.tokens c.args.place c.loop-at.at token c.loop-at.invariant c.get-token.ensures c.if-token.false comment

pub returns-clause-known : goal.returns-clause-known
returns-clause-known c =
    let arena = c.args.arena.now in
    known_end arena.dialect arena.tokens c.args.place c.loop-at.at c.len-count.result c.loop-at.invariant
    (omega (arith, c.len-count.ensures.count, c.loop-at-test.false))
    (omega (arith, c.loop-at-test.false))
