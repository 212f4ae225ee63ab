use Rattle.std.proofs.Common.{refl, inl, inr}
use Rattle.command_refusals.specs.Counts.{Faults}
use Rattle.command_refusals.proofs.Counts.{raises_after, same_after}
use Rattle.format_cli.specs.Account.{world}
use Rattle.format_cli.proofs.Rest.{passed}
use Rattle.format_cli.proofs.Changes.{answers}
use Rattle.format_cli.proofs.Ends.{keeps_all_self, keeps_self}
use Rattle.format_cli.proofs.command.run.Goals as goal

pub returns-in-Err-clause-refused : goal.returns-in-Err-clause-refused
returns-in-Err-clause-refused g c =
    inl (record {
      cause = c.refusal_of.ensures.cause _ c.in-Err.ensures.reads;
      untouched = record { taken = keeps_self _; held = keeps_all_self _; left = refl };
      silent = keeps_self _;
    })

pub returns-in-Err-clause-counts : goal.returns-in-Err-clause-counts
returns-in-Err-clause-counts g c = c.refusal_of.ensures.counts _

pub returns-in_err-style-clause-refused : goal.returns-in_err-style-clause-refused
returns-in_err-style-clause-refused g c =
    rw (passed c.from_residual.result c.in_err-style.field-0.0 c.from_residual.ensures)
    (inr (inl (record {
      said = c.in-Ok.said;
      reads = c.in-Ok.ensures.reads;
      refused = c.in_err-style.ensures.refused;
      untouched = record { taken = keeps_self _; held = c.in_err-style.ensures.same; left = refl };
    })))

pub returns-in_err-style-clause-counts : goal.returns-in_err-style-clause-counts
returns-in_err-style-clause-counts g c =
    let all : Faults = record { source = g.S.Source.faults c.args.source.now; out = g.K.Sink.faults c.args.out.now; notes = 0; files = 0; misses = 0 } in
    rw (passed c.from_residual.result c.in_err-style.field-0.0 c.from_residual.ensures) (c.in_err-style.ensures.counts all)

pub returns-clause-done : goal.returns-clause-done
returns-clause-done g c =
    rw c.outcome_of.ensures
    (rw c.asks_for_changes.ensures
    (record {
      said = c.in-Ok.said;
      style = c.in_ok-style.style;
      begun = world (g.S.Source.left c.args.source.now) (g.K.Sink.taken c.args.out.now) (g.F.Files.holds c.style_in_force.new.files) (g.E.Sink.taken c.style_in_force.new.notes);
      begins = record {
        reads = c.in-Ok.ensures.reads;
        rows = c.in_ok-style.ensures.chosen.0;
        in_force = c.in_ok-style.ensures.chosen.1;
        told = c.in_ok-style.ensures.chosen.2;
        untouched = record { taken = keeps_self _; held = c.in_ok-style.ensures.same; left = refl };
      };
      performed = c.in_ok-changes.ensures.done.0;
      answers = answers c.in-Ok.said c.in_ok-changes.changes _ c.in_ok-changes.ensures.done.1;
    }))

pub returns-clause-counts : goal.returns-clause-counts
returns-clause-counts g c =
    let all : Faults = record { source = g.S.Source.faults c.args.source.now; out = g.K.Sink.faults c.args.out.now; notes = 0; files = 0; misses = 0 } in
    same_after _ _ _ (c.in_ok-style.ensures.counts all) (c.in_ok-changes.ensures.counts all)

pub returns-in_err-changes-clause-refused : goal.returns-in_err-changes-clause-refused
returns-in_err-changes-clause-refused g c =
    rw (passed c.from_residual-in_err-changes.result c.in_err-changes.field-0.0 c.from_residual-in_err-changes.ensures)
    (inr (inr (record {
      said = c.in-Ok.said;
      style = c.in_ok-style.style;
      begun = world (g.S.Source.left c.args.source.now) (g.K.Sink.taken c.args.out.now) (g.F.Files.holds c.style_in_force.new.files) (g.E.Sink.taken c.style_in_force.new.notes);
      begins = record {
        reads = c.in-Ok.ensures.reads;
        rows = c.in_ok-style.ensures.chosen.0;
        in_force = c.in_ok-style.ensures.chosen.1;
        told = c.in_ok-style.ensures.chosen.2;
        untouched = record { taken = keeps_self _; held = c.in_ok-style.ensures.same; left = refl };
      };
      refused = c.in_err-changes.ensures.refused;
    })))

pub returns-in_err-changes-clause-counts : goal.returns-in_err-changes-clause-counts
returns-in_err-changes-clause-counts g c =
    let all : Faults = record { source = g.S.Source.faults c.args.source.now; out = g.K.Sink.faults c.args.out.now; notes = 0; files = 0; misses = 0 } in
    rw (passed c.from_residual-in_err-changes.result c.in_err-changes.field-0.0 c.from_residual-in_err-changes.ensures)
    (raises_after c.in_err-changes.field-0.0 _ _ _ (c.in_ok-style.ensures.counts all) (c.in_err-changes.ensures.counts all))

pub returns-in-Err-clause-done : goal.returns-in-Err-clause-done
returns-in-Err-clause-done g c = tt

pub returns-in_err-style-clause-done : goal.returns-in_err-style-clause-done
returns-in_err-style-clause-done g c = rw (passed c.from_residual.result c.in_err-style.field-0.0 c.from_residual.ensures) tt

pub returns-in_err-changes-clause-done : goal.returns-in_err-changes-clause-done
returns-in_err-changes-clause-done g c = rw (passed c.from_residual-in_err-changes.result c.in_err-changes.field-0.0 c.from_residual-in_err-changes.ensures) tt

pub returns-clause-refused : goal.returns-clause-refused
returns-clause-refused g c = tt
