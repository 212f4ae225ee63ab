use Rattle.std.proofs.Common.{sym, ◌∙◌, take}
use Rattle.token_arena.specs.Entries.{told_by}
use Rattle.replacements.specs.GapText.{level_columns}
use Rattle.replacements.proofs.SameGaps.{lines_written}
use Rattle.replacements.proofs.same.lines_piece.Goals as goal

pub returns-clause-is : goal.returns-clause-is
returns-clause-is c =
    let gap = c.args.gap in
    lines_written c.args.style.now c.args.crlf c.args.arena.now c.args.place gap.count gap.column gap.level (told_by c.args.token.now) (take c.in_ok-piece.piece.len c.in_ok-piece.piece.bytes.now) c.if-place-eq0.false c.if-not-token.false
    (sym c.guard_before.ensures ∙ c.is_free.ensures c.if-not-is_free.false) (c.in_ok-piece.ensures.is (level_columns c.args.style.now gap.level gap.column))
