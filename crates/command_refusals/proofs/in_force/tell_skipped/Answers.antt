use Rattle.std.proofs.Common.{◌≡◌, ◌+◌, ℕ, List, ◌++◌, drop, refl, sym, subst, rules}
use Rattle.std.specs.Io.KnownBytes.{Appends}
use Rattle.std.proofs.KnownBytes.{Appends-trans}
use Rattle.fmt_ports.proofs.Parts.{part_of_front, part_of_rest}
use Rattle.command_refusals.specs.Notes.{skipped_row, skipped_rows}
use Rattle.command_refusals.proofs.SkippedRows.{rows_step}
use Rattle.command_refusals.proofs.in_force.tell_skipped.Goals as goal

pub loop-key-init : goal.loop-key-init
loop-key-init g c = record { ok = λ end h. h; part = λ end h. h; faults = refl }

pub loop-key-preserved : goal.loop-key-preserved
loop-key-preserved g c =
    let file = c.args.file.now in
    let row = skipped_row file c.key-item.result in
    let rest = skipped_rows file (drop (c.loop-key.key-index + 1) c.args.keys.now) in
    let step : skipped_rows file (drop c.loop-key.key-index c.args.keys.now) ≡ row ++ rest =
    rows_step file c.args.keys.now c.loop-key.key-index c.key-item.result c.loop-key-test.true (sym c.key-item.is) in
    record {
      ok = λ end h.
          c.loop-key.invariant.ok end
          (subst (λ (x : List ℕ). Appends (g.E.Sink.taken c.loop-key.notes) end x) (sym step)
          (Appends-trans _ _ _ row rest c.in_ok-tell_key.ensures.ok h));
      part = λ end h. c.loop-key.invariant.part end (part_of_rest _ _ _ row rest _ step c.in_ok-tell_key.ensures.ok h);
      faults = search rules;
    }

pub returns-in_err-tell_key-clause-part : goal.returns-in_err-tell_key-clause-part
returns-in_err-tell_key-clause-part g c =
    let file = c.args.file.now in
    let row = skipped_row file c.key-item.result in
    let rest = skipped_rows file (drop (c.loop-key.key-index + 1) c.args.keys.now) in
    let step : skipped_rows file (drop c.loop-key.key-index c.args.keys.now) ≡ row ++ rest =
    rows_step file c.args.keys.now c.loop-key.key-index c.key-item.result c.loop-key-test.true (sym c.key-item.is) in
    c.loop-key.invariant.part _ (part_of_front _ _ row rest _ step c.in_err-tell_key.ensures.part)
