use Rattle.std.proofs.Common.{◌≡◌, ◌≢◌, ◌∙◌, ℕ, List, [], IfOk, None, Some, ap, map, refl, subst, sym, inl, inr}
use Rattle.std.specs.declared.option.Option.{Option}
use Rattle.std.specs.Borrow.{Bor}
use Rattle.command_refusals.proofs.Results.{err_map, ok_follows}
use Rattle.off_regions.specs.declared.range.LineRange.{LineRange}
use Rattle.format_cli.specs.Account.{files_of, place_of}
use Rattle.format_cli.specs.Generated.{IsGeneratedDoneWith, text_of}
use Rattle.format_cli.specs.Inputs.{IsSourceDoneWith}
use Rattle.format_cli.proofs.Changes.{none_changes}
use Rattle.format_cli.proofs.Ends.{keeps_all_self, keeps_self}
use Rattle.format_cli.proofs.Rest.{none_of, some_of}
use Rattle.format_cli.proofs.command.perform.Goals as goal

-- what isn't there is nothing
not_some : {A : Type 0} (o : Option A) → ((x : A) → o ≡ Some x → ⊥) → o ≡ None
not_some None h = refl
not_some (Some x) h = absurd (h x refl)

pub returns-then-said-clause-done : goal.returns-then-said-clause-done
returns-then-said-clause-done g c =
    ok_follows _ _ c.dump_style.result
    (λ changes k. (inl (c.if-said.true, record { text = k.1; held = keeps_all_self _; told = keeps_self _; left = refl }), none_changes changes k.0))
    c.dump_style.ensures.done

pub returns-then-said-clause-refused : goal.returns-then-said-clause-refused
returns-then-said-clause-refused g c =
    err_map _ _ c.dump_style.result
    (λ refusal k. inl (c.if-said.true, record { cause = k.0; text = k.1; held = keeps_all_self _; told = keeps_self _; left = refl }))
    c.dump_style.ensures.refused

pub returns-then-said-clause-counts : goal.returns-then-said-clause-counts
returns-then-said-clause-counts g c = λ f.
    c.dump_style.ensures.counts (record f { source = g.S.Source.faults c.args.source.now; notes = g.E.Sink.faults c.args.notes.now; files = g.F.Files.faults c.args.files.now; misses = g.F.Files.misses c.args.files.now })

pub returns-in-Some-clause-done : goal.returns-in-Some-clause-done
returns-in-Some-clause-done g c =
    ok_follows _ _ c.format_generated.result
    (λ changes k. (inr (inr (inr (c.if-said.false, record { generate = c.in-Some.generate; given = c.in-Some.is; done = k.0; taken = keeps_self _; held = keeps_all_self _; left = refl }))), k.1))
    (subst (λ (ranges : Option (List LineRange)).
    IfOk c.format_generated.result (IsGeneratedDoneWith (record { style = c.args.style.now; ranges = ranges; budget = c.args.said.now.budget }) (text_of c.in-Some.generate) (g.E.Sink.taken c.args.notes.now) (g.E.Sink.taken c.format_generated.new.notes)))
    c.as_ref.ensures.value c.format_generated.ensures.done)

pub returns-in-Some-clause-refused : goal.returns-in-Some-clause-refused
returns-in-Some-clause-refused g c =
    err_map _ _ c.format_generated.result
    (λ refusal k. inr (inr (inr (c.if-said.false, record { generate = c.in-Some.generate; given = c.in-Some.is; refused = k; taken = keeps_self _; held = keeps_all_self _; left = refl }))))
    (rw c.as_ref.ensures.value at c.format_generated.ensures.refused)

pub returns-in-Some-clause-counts : goal.returns-in-Some-clause-counts
returns-in-Some-clause-counts g c = λ f.
    c.format_generated.ensures.counts (record f { source = g.S.Source.faults c.args.source.now; out = g.K.Sink.faults c.args.out.now; files = g.F.Files.faults c.args.files.now; misses = g.F.Files.misses c.args.files.now })

pub returns-then-is_empty-clause-done : goal.returns-then-is_empty-clause-done
returns-then-is_empty-clause-done g c =
    let none : files_of c.args.said.now ≡ [] = ap (map (λ (name : Bor (List ℕ)). name.now)) (none_of c.args.said.now.files.items c.args.said.now.files.len c.args.said.now.files.ok.0 (sym c.is_empty.ensures ∙ c.if-is_empty.true)) in
    ok_follows _ _ c.format_source.result
    (λ changes k. (inr (inl (c.if-said.false, none, record { done = k.0; held = keeps_all_self _ }, not_some _ c.in_default.not-Some)), k.1))
    (subst (λ (ranges : Option (List LineRange)).
    IfOk c.format_source.result (IsSourceDoneWith (record { style = c.args.style.now; ranges = ranges; budget = c.args.said.now.budget }) (place_of c.args.said.now.dry_run c.args.said.now.in_place) (g.S.Source.left c.args.source.now) (g.K.Sink.taken c.args.out.now) (g.K.Sink.taken c.format_source.new.out)
    (g.E.Sink.taken c.args.notes.now) (g.E.Sink.taken c.format_source.new.notes)))
    c.as_ref.ensures.value (rw c.place_of-place.ensures at c.format_source.ensures.done))

pub returns-then-is_empty-clause-refused : goal.returns-then-is_empty-clause-refused
returns-then-is_empty-clause-refused g c =
    let none : files_of c.args.said.now ≡ [] = ap (map (λ (name : Bor (List ℕ)). name.now)) (none_of c.args.said.now.files.items c.args.said.now.files.len c.args.said.now.files.ok.0 (sym c.is_empty.ensures ∙ c.if-is_empty.true)) in
    err_map _ _ c.format_source.result
    (λ refusal k. inr (inl (c.if-said.false, none, record { refused = k; held = keeps_all_self _ }, not_some _ c.in_default.not-Some)))
    (rw (c.as_ref.ensures.value, c.place_of-place.ensures) at c.format_source.ensures.refused)

pub returns-then-is_empty-clause-counts : goal.returns-then-is_empty-clause-counts
returns-then-is_empty-clause-counts g c = λ f.
    c.format_source.ensures.counts (record f { files = g.F.Files.faults c.args.files.now; misses = g.F.Files.misses c.args.files.now })

pub returns-clause-counts : goal.returns-clause-counts
returns-clause-counts g c = λ f. c.format_files.ensures.counts (record f { source = g.S.Source.faults c.args.source.now })

pub returns-clause-done : goal.returns-clause-done
returns-clause-done g c =
    let some : files_of c.args.said.now ≢ [] = some_of c.args.said.now.files.items c.args.said.now.files.len _ c.args.said.now.files.ok.0 (sym c.is_empty.ensures ∙ c.if-is_empty.false) in
    ok_follows _ _ c.format_files.result
    (λ changes k. (inr (inr (inl (c.if-said.false, record { some = some; done = k.0; left = refl }))), k.1))
    (rw (c.as_ref.ensures.value, c.deref.ensures.value, c.place_of-place.ensures) at c.format_files.ensures.done)

pub returns-clause-refused : goal.returns-clause-refused
returns-clause-refused g c =
    let some : files_of c.args.said.now ≢ [] = some_of c.args.said.now.files.items c.args.said.now.files.len _ c.args.said.now.files.ok.0 (sym c.is_empty.ensures ∙ c.if-is_empty.false) in
    err_map _ _ c.format_files.result
    (λ refusal k. inr (inr (inl (c.if-said.false, record { some = some; refused = k; left = refl }))))
    (rw (c.as_ref.ensures.value, c.deref.ensures.value, c.place_of-place.ensures) at c.format_files.ensures.refused)
