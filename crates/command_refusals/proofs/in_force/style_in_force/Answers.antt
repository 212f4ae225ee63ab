use Rattle.std.proofs.Common.{[], refl, inl, inr}
use Rattle.command_refusals.proofs.Results.{ok_follows, err_map}
use Rattle.command_refusals.proofs.Causes.{appends_none}
use Rattle.command_refusals.proofs.Counts.{counted_after}
use Rattle.command_refusals.proofs.Causes.{style_refused}
use Rattle.command_refusals.proofs.in_force.style_in_force.Goals as goal

pub returns-in-Ok-clause-refused : goal.returns-in-Ok-clause-refused
returns-in-Ok-clause-refused g c =
    let held = g.F.Files.holds c.args.files.now in
    rw c.in-FileAt.is
    (err_map _ _ c.configured.result
    (λ refusal k. style_refused _ held c.in-FileAt.path c.in-Ok.text.items _ _ refusal c.in-Ok.ensures.bytes.1 refl (λ style rows made. (c.in-Ok.text.items, c.in-Ok.ensures.bytes.1, made)) k)
    (rw c.deref.ensures.value at c.configured.ensures.refused))

pub returns-in-Ok-clause-counts : goal.returns-in-Ok-clause-counts
returns-in-Ok-clause-counts g c = λ f.
    counted_after _ c.configured.result _ _ _
    (record { source = refl; out = refl; notes = refl; files = c.in-Ok.ensures.counts.cause.0; misses = c.in-Ok.ensures.counts.cause.1 })
    (c.configured.ensures.counts (record f { files = g.F.Files.faults c.read.new.self; misses = g.F.Files.misses c.read.new.self }))

pub returns-in-Ok-Some-clause-chosen : goal.returns-in-Ok-Some-clause-chosen
returns-in-Ok-Some-clause-chosen g c =
    let bytes = rw c.in-Ok-Some.field-0-is at c.in-Ok-Some.ensures.bytes in
    rw c.in-File.is
    (ok_follows _ _ c.configured-in-Ok-Some.result
    (λ style k. (k.0, inl (c.in-Ok-Some.text.items, bytes.1, k.1), k.2))
    (rw c.deref-in-Ok-Some.ensures.value at c.configured-in-Ok-Some.ensures.made))

pub returns-in-Ok-Some-clause-refused : goal.returns-in-Ok-Some-clause-refused
returns-in-Ok-Some-clause-refused g c =
    let held = g.F.Files.holds c.args.files.now in
    let bytes = rw c.in-Ok-Some.field-0-is at c.in-Ok-Some.ensures.bytes in
    rw c.in-File.is
    (err_map _ _ c.configured-in-Ok-Some.result
    (λ refusal k. style_refused _ held _ c.in-Ok-Some.text.items _ _ refusal bytes.1 refl (λ style rows made. inl (c.in-Ok-Some.text.items, bytes.1, made)) k)
    (rw c.deref-in-Ok-Some.ensures.value at c.configured-in-Ok-Some.ensures.refused))

pub returns-in-Ok-Some-clause-counts : goal.returns-in-Ok-Some-clause-counts
returns-in-Ok-Some-clause-counts g c = λ f.
    let counts = c.in-Ok-Some.ensures.counts.cause in
    counted_after _ c.configured-in-Ok-Some.result _ _ _
    (record { source = refl; out = refl; notes = refl; files = counts.0; misses = counts.1 })
    (c.configured-in-Ok-Some.ensures.counts (record f { files = g.F.Files.faults c.find.new.self; misses = g.F.Files.misses c.find.new.self }))

pub returns-in-Ok-None-clause-chosen : goal.returns-in-Ok-None-clause-chosen
returns-in-Ok-None-clause-chosen g c =
    let bytes = rw c.in-Ok-None.field-0-is at c.in-Ok-None.ensures.bytes in
    rw c.in-File.is
    (ok_follows _ _ c.named_style-in-Ok-None.result
    (λ style k. ([], inr (bytes, k, refl), appends_none _))
    c.named_style-in-Ok-None.ensures.table)
