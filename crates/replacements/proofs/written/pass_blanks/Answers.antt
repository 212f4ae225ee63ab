use Rattle.std.proofs.Common.{◌≡◌, ◌+◌, arith, drop, rules, sym}
use Rattle.c_chars.specs.Characters.{mark_len}
use Rattle.token_arena.specs.Entries.{told_by}
use Rattle.token_arena.specs.Gaps.{Stands, behind, gap_start}
use Rattle.replacements.specs.Guards.{guard_before}
use Rattle.replacements.specs.Written.{written_from}
use Rattle.replacements.proofs.Held.{held_begun, stands_at}
use Rattle.replacements.proofs.Items.{gap_start-next}
use Rattle.replacements.proofs.SameGaps.{passed_more}
use Rattle.replacements.proofs.written.pass_blanks.Goals as goal

pub loop-next-init : goal.loop-next-init
loop-next-init c =
    let arena = c.args.arena.now in
    record {
      at = c.requires.at;
      later = omega arith;
      on = omega arith;
      same = λ style crlf sections. held_begun arena.text c.args.at (written_from style crlf arena sections c.args.plan.now (guard_before arena.tokens c.args.place) c.args.at c.args.place (drop c.args.place arena.tokens));
    }

pub has_same_blanks-requires : goal.has_same_blanks-requires
has_same_blanks-requires c =
    let arena = c.args.arena.now in
    let token = told_by c.get-token.result in
    record {
      whole = omega (arith, c.requires.whole, c.len-count.ensures.count, c.loop-next-test.true);
      stands = rw c.loop-next.invariant.at (stands_at arena.text (mark_len arena.text) arena.tokens c.loop-next.next token c.len-count.ensures.stand c.get-token.ensures);
      later = omega (arith, c.requires.behind, c.loop-next.invariant.later);
      here = c.get-token.ensures;
    }

pub loop-next-preserved : goal.loop-next-preserved
loop-next-preserved c =
    let arena = c.args.arena.now in
    let token = told_by c.get-token.result in
    let at = c.loop-next.here in
    let stands : Stands arena.text at token = rw c.loop-next.invariant.at (stands_at arena.text (mark_len arena.text) arena.tokens c.loop-next.next token c.len-count.ensures.stand c.get-token.ensures) in
    let start : gap_start (mark_len arena.text) arena.tokens (c.loop-next.next + 1) ≡ behind token = gap_start-next (mark_len arena.text) arena.tokens c.loop-next.next token c.get-token.ensures in
    record {
      at = sym start;
      on = omega (arith, c.loop-next.invariant.on, stands.later);
      later = omega (arith, c.loop-next.invariant.later);
      same = λ style crlf sections. passed_more style crlf arena sections c.args.plan.now at c.loop-next.next c.args.at token _ stands c.loop-next.invariant.on c.get-token.ensures
          (c.has_same_blanks.ensures (search rules) style crlf) (c.loop-next.invariant.same style crlf sections);
    }
