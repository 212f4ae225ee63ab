use Rattle.std.proofs.Common.{◌+◌, arith, rules}
use Rattle.std.proofs.KnownBytes.{Appends-trans, Appends-nil}
use Rattle.fmt_ports.proofs.Parts.{part_of_front, part_of_rest}
use Rattle.replacements.specs.GapText.{line_ends}
use Rattle.replacements.proofs.Blanks.{line_ends-zero, line_ends-next, line_ends-front}
use Rattle.replacements.proofs.gap_text.white.write_line_ends.Goals as goal

pub loop-line-init : goal.loop-line-init
loop-line-init g c = record {
  taken = rw line_ends-zero (Appends-nil _);
  faults = search rules;
}

pub loop-line-preserved : goal.loop-line-preserved
loop-line-preserved g c = record {
  taken = rw line_ends-next (Appends-trans _ _ _ _ _ c.loop-line.invariant.taken (rw (← c.line_end.ensures) c.in_ok-write_all.ensures.ok));
  faults = search rules;
}

pub returns-in_err-write_all-clause-part : goal.returns-in_err-write_all-clause-part
returns-in_err-write_all-clause-part g c =
    let front = line_ends-front c.args.crlf (c.loop-line._line + 1) c.args.count (omega arith) in
    part_of_front _ _ (line_ends c.args.crlf (c.loop-line._line + 1)) front.0 _ front.1
    (part_of_rest _ _ _ _ _ _ (line_ends-next c.args.crlf c.loop-line._line) c.loop-line.invariant.taken (rw (← c.line_end.ensures) c.in_err-write_all.ensures.part))
