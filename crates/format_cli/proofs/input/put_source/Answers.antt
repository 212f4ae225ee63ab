use Rattle.std.proofs.Common.{refl}
use Rattle.format_cli.proofs.Ends.{keeps_self}
use Rattle.format_cli.proofs.input.put_source.Goals as goal

pub returns-in-Output-clause-done : goal.returns-in-Output-clause-done
returns-in-Output-clause-done g c = rw c.in-Output.is c.write_text.ensures.done

pub returns-in-Output-clause-refused : goal.returns-in-Output-clause-refused
returns-in-Output-clause-refused g c = rw c.in-Output.is c.write_text.ensures.refused

pub returns-in-Itself-clause-done : goal.returns-in-Itself-clause-done
returns-in-Itself-clause-done g c = rw c.in-Itself.is c.write_text-in-Itself.ensures.done

pub returns-in-Itself-clause-refused : goal.returns-in-Itself-clause-refused
returns-in-Itself-clause-refused g c = rw c.in-Itself.is c.write_text-in-Itself.ensures.refused

pub returns-in-Nowhere-clause-done : goal.returns-in-Nowhere-clause-done
returns-in-Nowhere-clause-done g c = rw c.in-Nowhere.is (refl, keeps_self _)

pub returns-in-Nowhere-clause-counts : goal.returns-in-Nowhere-clause-counts
returns-in-Nowhere-clause-counts g c = λ f. record { source = refl; out = refl; notes = refl; files = refl; misses = refl }

pub returns-in-Nowhere-clause-refused : goal.returns-in-Nowhere-clause-refused
returns-in-Nowhere-clause-refused g c = tt

pub returns-in-Output-clause-counts : goal.returns-in-Output-clause-counts
returns-in-Output-clause-counts g c = c.write_text.ensures.counts

pub returns-in-Itself-clause-counts : goal.returns-in-Itself-clause-counts
returns-in-Itself-clause-counts g c = c.write_text-in-Itself.ensures.counts
