use Rattle.std.proofs.Common.{◌-◌, arith, rules}
use Rattle.std.proofs.KnownBytes.{Appends-trans}
use Rattle.fmt_ports.proofs.Parts.{part_of_front, part_of_rest}
use Rattle.replacements.specs.GapText.{blanks}
use Rattle.replacements.proofs.Blanks.{blanks_split}
use Rattle.replacements.proofs.gap_text.white.write_many_blanks.Goals as goal

pub returns-in_err-write_all-clause-part : goal.returns-in_err-write_all-clause-part
returns-in_err-write_all-clause-part g c =
    let done = c.args.count - c.loop-left.left in
    let after = c.loop-left.left - c.min-piece.result in
    part_of_rest _ _ _ (blanks done) (blanks c.loop-left.left) _ (blanks_split done c.loop-left.left c.args.count (omega (arith, c.loop-left.invariant.within))) c.loop-left.invariant.taken
    (part_of_front _ _ (blanks c.min-piece.result) (blanks after) _ (blanks_split c.min-piece.result after c.loop-left.left (omega (arith, c.min-piece.ensures)))
    (rw (← c.some_blanks.ensures) c.in_err-write_all.ensures.part))

pub loop-left-preserved : goal.loop-left-preserved
loop-left-preserved g c =
    let after = c.loop-left.left - c.min-piece.result in
    record {
      within = omega (arith, c.loop-left.invariant.within);
      taken = rw (blanks_split (c.args.count - c.loop-left.left) c.min-piece.result (c.args.count - after) (omega (arith, c.loop-left.invariant.within, c.min-piece.ensures)))
          (Appends-trans _ _ _ _ _ c.loop-left.invariant.taken (rw (← c.some_blanks.ensures) c.in_ok-write_all.ensures.ok));
      faults = search rules;
    }
