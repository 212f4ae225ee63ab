use Rattle.std.proofs.Common.{refl}
use Rattle.command_refusals.proofs.words.refusal_of.Goals as goal

pub returns-in-Form-clause-cause : goal.returns-in-Form-clause-cause
returns-in-Form-clause-cause c = rw c.in-Form.is (λ words k. k)

pub returns-in-Form-clause-counts : goal.returns-in-Form-clause-counts
returns-in-Form-clause-counts c = λ f. record { source = refl; out = refl; notes = refl; files = refl; misses = refl }

pub returns-in-BadLines-clause-cause : goal.returns-in-BadLines-clause-cause
returns-in-BadLines-clause-cause c = rw c.in-BadLines.is (λ words k. k)

pub returns-in-BadLines-clause-counts : goal.returns-in-BadLines-clause-counts
returns-in-BadLines-clause-counts c = λ f. record { source = refl; out = refl; notes = refl; files = refl; misses = refl }

pub returns-in-BadStates-clause-cause : goal.returns-in-BadStates-clause-cause
returns-in-BadStates-clause-cause c = rw c.in-BadStates.is (λ words k. k)

pub returns-in-BadStates-clause-counts : goal.returns-in-BadStates-clause-counts
returns-in-BadStates-clause-counts c = λ f. record { source = refl; out = refl; notes = refl; files = refl; misses = refl }

pub returns-in-NoInput-clause-cause : goal.returns-in-NoInput-clause-cause
returns-in-NoInput-clause-cause c = rw c.in-NoInput.is (λ words k. k)

pub returns-in-NoInput-clause-counts : goal.returns-in-NoInput-clause-counts
returns-in-NoInput-clause-counts c = λ f. record { source = refl; out = refl; notes = refl; files = refl; misses = refl }

pub returns-in-ManyFiles-clause-cause : goal.returns-in-ManyFiles-clause-cause
returns-in-ManyFiles-clause-cause c = rw c.in-ManyFiles.is (λ words k. k)

pub returns-in-ManyFiles-clause-counts : goal.returns-in-ManyFiles-clause-counts
returns-in-ManyFiles-clause-counts c = λ f. record { source = refl; out = refl; notes = refl; files = refl; misses = refl }

pub returns-in-BadGenerate-clause-cause : goal.returns-in-BadGenerate-clause-cause
returns-in-BadGenerate-clause-cause c = rw c.in-BadGenerate.is (λ words k. k)

pub returns-in-BadGenerate-clause-counts : goal.returns-in-BadGenerate-clause-counts
returns-in-BadGenerate-clause-counts c = λ f. record { source = refl; out = refl; notes = refl; files = refl; misses = refl }

pub returns-in-GenerateBeside-clause-cause : goal.returns-in-GenerateBeside-clause-cause
returns-in-GenerateBeside-clause-cause c = rw c.in-GenerateBeside.is (λ words k. k)

pub returns-in-GenerateBeside-clause-counts : goal.returns-in-GenerateBeside-clause-counts
returns-in-GenerateBeside-clause-counts c = λ f. record { source = refl; out = refl; notes = refl; files = refl; misses = refl }
