use Rattle.std.proofs.Common.{◌≡◌, ◌||◌, Bool, drop, map}
use Rattle.command_refusals.specs.declared.refusal.Refusal.{Refusal}
use Rattle.format_cli.specs.Options.{values_of}
use Rattle.format_cli.specs.Inputs.{Ends, ends, AreDoneWith, AreRefused}
use Rattle.format_cli.proofs.input.format_files.Given as goal

-- what is done with the other FILEs is, with what was done, what is done with all
abbrev pub invariant-loop-name : goal.invariant-loop-name
invariant-loop-name g l = record {
  done : (end : Ends) (rest : Bool) → AreDoneWith (values_of l.options) l.place (map (λ name. name.now) (drop l.name-index l.names)) (ends (g.K.Sink.taken l.out) (g.F.Files.holds l.files) (g.E.Sink.taken l.notes)) end rest
      → AreDoneWith (values_of l.options) l.place (map (λ name. name.now) l.names) (ends (g.K.Sink.taken l.initial.out) (g.F.Files.holds l.initial.files) (g.E.Sink.taken l.initial.notes)) end (l.changes || rest);
  refused : (end : Ends) (refusal : Refusal)
      → AreRefused (values_of l.options) l.place (map (λ name. name.now) (drop l.name-index l.names)) (ends (g.K.Sink.taken l.out) (g.F.Files.holds l.files) (g.E.Sink.taken l.notes)) end refusal
      → AreRefused (values_of l.options) l.place (map (λ name. name.now) l.names) (ends (g.K.Sink.taken l.initial.out) (g.F.Files.holds l.initial.files) (g.E.Sink.taken l.initial.notes)) end refusal;
  out : g.K.Sink.faults l.out ≡ g.K.Sink.faults l.initial.out;
  notes : g.E.Sink.faults l.notes ≡ g.E.Sink.faults l.initial.notes;
  files : g.F.Files.faults l.files ≡ g.F.Files.faults l.initial.files;
  misses : g.F.Files.misses l.files ≡ g.F.Files.misses l.initial.files;
}
