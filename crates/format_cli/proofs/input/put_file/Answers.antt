use Rattle.std.proofs.Common.{◌∙◌, refl}
use Rattle.command_refusals.proofs.Results.{err_map, ok_follows}
use Rattle.format_cli.proofs.Ends.{keeps_all_self, keeps_self}
use Rattle.format_cli.proofs.input.put_file.Goals as goal

pub returns-in-Output-clause-done : goal.returns-in-Output-clause-done
returns-in-Output-clause-done g c =
    rw c.in-Output.is (ok_follows _ _ c.write_text.result (λ changes k. (k.0, (k.1, keeps_all_self _))) c.write_text.ensures.done)

pub returns-in-Output-clause-refused : goal.returns-in-Output-clause-refused
returns-in-Output-clause-refused g c =
    rw c.in-Output.is (err_map _ _ c.write_text.result (λ refusal k. (k.0, k.1, keeps_all_self _)) c.write_text.ensures.refused)

pub returns-in-Output-clause-counts : goal.returns-in-Output-clause-counts
returns-in-Output-clause-counts g c = λ f.
    c.write_text.ensures.counts (record f { files = g.F.Files.faults c.args.files.now; misses = g.F.Files.misses c.args.files.now })

pub returns-then-formatted-clause-done : goal.returns-then-formatted-clause-done
returns-then-formatted-clause-done g c =
    rw c.in-Itself.is (rw c.if-formatted.true (ok_follows _ _ c.write_back.result (λ changes k. (k.0 ∙ c.if-formatted.true, (keeps_self _, k.1, k.2))) c.write_back.ensures.done))

pub returns-then-formatted-clause-refused : goal.returns-then-formatted-clause-refused
returns-then-formatted-clause-refused g c =
    rw c.in-Itself.is (err_map _ _ c.write_back.result (λ refusal k. (c.if-formatted.true, keeps_self _, k)) c.write_back.ensures.refused)

pub returns-then-formatted-clause-counts : goal.returns-then-formatted-clause-counts
returns-then-formatted-clause-counts g c = λ f. c.write_back.ensures.counts (record f { out = g.K.Sink.faults c.args.out.now })

pub returns-else-formatted-clause-done : goal.returns-else-formatted-clause-done
returns-else-formatted-clause-done g c = rw c.in-Itself.is (rw c.if-formatted.false (refl, (keeps_self _, keeps_all_self _)))

pub returns-else-formatted-clause-counts : goal.returns-else-formatted-clause-counts
returns-else-formatted-clause-counts g c = λ f. record { source = refl; out = refl; notes = refl; files = refl; misses = refl }

pub returns-in-Nowhere-clause-done : goal.returns-in-Nowhere-clause-done
returns-in-Nowhere-clause-done g c = rw c.in-Nowhere.is (refl, (keeps_self _, keeps_all_self _))

pub returns-in-Nowhere-clause-counts : goal.returns-in-Nowhere-clause-counts
returns-in-Nowhere-clause-counts g c = λ f. record { source = refl; out = refl; notes = refl; files = refl; misses = refl }

pub returns-else-formatted-clause-refused : goal.returns-else-formatted-clause-refused
returns-else-formatted-clause-refused g c = tt

pub returns-in-Nowhere-clause-refused : goal.returns-in-Nowhere-clause-refused
returns-in-Nowhere-clause-refused g c = tt
