use Rattle.std.proofs.Common.{not, sym, ap, arith}
use Rattle.std.proofs.lemmas.Bool.{ne_eqb}
use Rattle.std.proofs.lemmas.List.Sums.{position_or_len_is}
use Rattle.token_arena.specs.Entries.{is_begun}
use Rattle.token_arena.proofs.LineEnds.{no_entry}
use Rattle.token_arena.proofs.arena.first_begun.Goals as goal

pub returns-then-entry-ne0 : goal.returns-then-entry-ne0
returns-then-entry-ne0 c = sym (position_or_len_is is_begun c.args.entries.now c.loop-i.i _ (omega (arith, c.loop-i-test.true)) (λ k below. c.loop-i.invariant k _ below) (λ _. ap not (ne_eqb _ 0 c.if-entry-ne0.true)))

pub returns : goal.returns
returns c =
    sym (position_or_len_is is_begun c.args.entries.now _ no_entry (omega arith) (λ k below. c.loop-i.invariant k no_entry (omega (arith, below, c.loop-i-test.false))) (λ below. absurd (omega (arith, below))))
