use Rattle.std.proofs.Common.{◌∙◌, false, ◌||◌, ap, map, ℕ, List, refl, sym, subst, inl, inr}
use Rattle.std.specs.Borrow.{Bor}
use Rattle.command_refusals.specs.Counts.{Faults}
use Rattle.command_refusals.proofs.Counts.{raises_after}
use Rattle.format_cli.specs.Options.{values_of}
use Rattle.format_cli.specs.Inputs.{ends, AreDoneWith, AreRefused}
use Rattle.format_cli.proofs.Rest.{names_step, passed, rest_end}
use Rattle.format_cli.proofs.Changes.{all_told, and_those_behind, none_left, one_more}
use Rattle.format_cli.proofs.input.format_files.Goals as goal

pub returns-in_err-here-clause-refused : goal.returns-in_err-here-clause-refused
returns-in_err-here-clause-refused g c =
    let step = names_step c.args.names.now c.loop-name.name-index _ c.loop-name-test.true in
    let before = ends (g.K.Sink.taken c.loop-name.out) (g.F.Files.holds c.loop-name.files) (g.E.Sink.taken c.loop-name.notes) in
    let now = ends (g.K.Sink.taken c.format_file.new.out) (g.F.Files.holds c.format_file.new.files) (g.E.Sink.taken c.format_file.new.notes) in
    let refusal = c.in_err-here.field-0.0 in
    rw (passed c.from_residual.result refusal c.from_residual.ensures)
    (c.loop-name.invariant.refused now refusal
    (subst (λ (names : List (List ℕ)). AreRefused (values_of c.args.options.now) c.args.place names before now refusal) (sym step) (inl c.in_err-here.ensures.refused)))

pub returns-in_err-here-clause-counts : goal.returns-in_err-here-clause-counts
returns-in_err-here-clause-counts g c = λ f.
    rw (passed c.from_residual.result c.in_err-here.field-0.0 c.from_residual.ensures)
    (raises_after c.in_err-here.field-0.0 _ _ _
    (record { source = refl; out = c.loop-name.invariant.out; notes = c.loop-name.invariant.notes; files = c.loop-name.invariant.files; misses = c.loop-name.invariant.misses })
    (c.in_err-here.ensures.counts f))

pub loop-name-preserved : goal.loop-name-preserved
loop-name-preserved g c =
    let step = names_step c.args.names.now c.loop-name.name-index _ c.loop-name-test.true in
    let before = ends (g.K.Sink.taken c.loop-name.out) (g.F.Files.holds c.loop-name.files) (g.E.Sink.taken c.loop-name.notes) in
    let between = ends (g.K.Sink.taken c.format_file.new.out) (g.F.Files.holds c.format_file.new.files) (g.E.Sink.taken c.format_file.new.notes) in
    let none : Faults = record { source = 0; out = 0; notes = 0; files = 0; misses = 0 } in
    let same = c.in_ok-here.ensures.counts none in
    record {
      done = λ end rest k.
          rw c.some_changes-changes.ensures
          (one_more (values_of c.args.options.now) c.args.place _ _ end c.loop-name.changes c.in_ok-here.here rest
          (c.loop-name.invariant.done end (c.in_ok-here.here || rest)
          (subst (λ (names : List (List ℕ)). AreDoneWith (values_of c.args.options.now) c.args.place names before end (c.in_ok-here.here || rest)) (sym step)
          (and_those_behind (values_of c.args.options.now) c.args.place _ _ before between end c.in_ok-here.here rest c.in_ok-here.ensures.done k))));
      refused = λ end refusal k.
          c.loop-name.invariant.refused end refusal
          (subst (λ (names : List (List ℕ)). AreRefused (values_of c.args.options.now) c.args.place names before end refusal) (sym step) (inr (between, c.in_ok-here.ensures.done.0, k)));
      out = same.out ∙ c.loop-name.invariant.out;
      notes = same.notes ∙ c.loop-name.invariant.notes;
      files = same.files ∙ c.loop-name.invariant.files;
      misses = same.misses ∙ c.loop-name.invariant.misses;
    }

pub returns-clause-done : goal.returns-clause-done
returns-clause-done g c =
    all_told (values_of c.args.options.now) c.args.place _ _ _ c.loop-name.changes
    (c.loop-name.invariant.done _ false (none_left (values_of c.args.options.now) c.args.place _ _ (ap (map (λ (name : Bor (List ℕ)). name.now)) (rest_end c.args.names.now c.loop-name.name-index c.loop-name-test.false))))

pub returns-in_err-here-clause-done : goal.returns-in_err-here-clause-done
returns-in_err-here-clause-done g c = rw (passed c.from_residual.result c.in_err-here.field-0.0 c.from_residual.ensures) tt

pub returns-clause-refused : goal.returns-clause-refused
returns-clause-refused g c = tt

pub returns-clause-counts : goal.returns-clause-counts
returns-clause-counts g c = λ f.
    record { source = refl; out = c.loop-name.invariant.out; notes = c.loop-name.invariant.notes; files = c.loop-name.invariant.files; misses = c.loop-name.invariant.misses }
