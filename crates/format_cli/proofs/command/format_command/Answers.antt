use Rattle.std.proofs.Common.{◌∙◌, inl, inr, map, refl, rules, string_bytes, sym}
use Rattle.command_refusals.proofs.Statuses.{not_one, not_zero, failed, source_fault, out_fault, files_fault, missing, misses}
use Rattle.format_cli.specs.Account.{EndsWell, world}
use Rattle.format_cli.proofs.Statuses.{known, bad_words, form, no_style, apart, not_read, not_risen}
use Rattle.format_cli.proofs.Kept.{asks, out_kept_well, out_kept, files_kept_well, files_kept, missing_name, refused_input}
use Rattle.format_cli.proofs.Order.{ends_not_well, ends_so, lacks_not_well, lacks_so, row_told}
use Rattle.format_cli.proofs.command.format_command.Goals as goal

pub returns-in-Err-clause-done : goal.returns-in-Err-clause-done
returns-in-Err-clause-done g c is = elim is [
  | inl zero ↦ absurd (not_zero c.in-Err.refusal (sym c.status_of.ensures ∙ zero))
  | inr one ↦ absurd (not_one c.in-Err.refusal (sym c.status_of.ensures ∙ one))
]

pub returns-in-Err-clause-refused : goal.returns-in-Err-clause-refused
returns-in-Err-clause-refused g c some more = record {
  refused = record {
    refusal = c.in-Err.refusal;
    is_its = c.status_of.ensures;
    told = g.E.Sink.taken c.run.new.notes;
    refused = c.in-Err.ensures.refused;
    row = row_told c.in-Err.refusal _ _ _ _ _ c.tell.result c.in-Err.ensures.counts c.tell.ensures.counts c.tell.ensures.ok c.tell.ensures.part;
  };
  before_row = g.E.Sink.faults c.run.new.notes;
  raised = c.in-Err.ensures.counts;
  later = c.tell.ensures.counts.later;
}

pub returns-in-Err-clause-known : goal.returns-in-Err-clause-known
returns-in-Err-clause-known g c = rw c.status_of.ensures (known c.in-Err.refusal)

pub returns-in-Err-clause-usage : goal.returns-in-Err-clause-usage
returns-in-Err-clause-usage g c is = bad_words _ _ _ c.in-Err.refusal (sym c.status_of.ensures ∙ is) c.in-Err.ensures.refused

pub returns-in-Err-clause-form : goal.returns-in-Err-clause-form
returns-in-Err-clause-form g c bad = rw c.status_of.ensures (form _ _ _ c.in-Err.refusal bad c.in-Err.ensures.refused)

pub returns-in-Err-clause-style : goal.returns-in-Err-clause-style
returns-in-Err-clause-style g c is = no_style _ _ _ c.in-Err.refusal (sym c.status_of.ensures ∙ is) c.in-Err.ensures.refused

pub returns-in-Ok-Done-clause-first : goal.returns-in-Ok-Done-clause-first
returns-in-Ok-Done-clause-first g c = λ status stops. absurd (ends_not_well _ _ _ _ status c.in-Ok-Done.ensures.done stops)

pub returns-in-Ok-WouldChange-clause-first : goal.returns-in-Ok-WouldChange-clause-first
returns-in-Ok-WouldChange-clause-first g c = λ status stops. absurd (ends_not_well _ _ _ _ status c.in-Ok-WouldChange.ensures.done stops)

pub returns-in-Err-clause-first : goal.returns-in-Err-clause-first
returns-in-Err-clause-first g c = λ status stops. rw c.status_of.ensures (ends_so _ _ _ c.in-Err.refusal status c.in-Err.ensures.refused stops)

pub returns-in-Ok-Done-clause-skipped : goal.returns-in-Ok-Done-clause-skipped
returns-in-Ok-Done-clause-skipped g c lacks = absurd (lacks_not_well _ _ _ _ c.in-Ok-Done.ensures.done lacks)

pub returns-in-Ok-WouldChange-clause-skipped : goal.returns-in-Ok-WouldChange-clause-skipped
returns-in-Ok-WouldChange-clause-skipped g c lacks = absurd (lacks_not_well _ _ _ _ c.in-Ok-WouldChange.ensures.done lacks)

pub returns-in-Err-clause-skipped : goal.returns-in-Err-clause-skipped
returns-in-Err-clause-skipped g c lacks =
    rw c.status_of.ensures (lacks_so _ _ _ _ _ _ c.in-Err.refusal c.in-Err.ensures.refused
    (row_told c.in-Err.refusal _ _ _ _ _ c.tell.result c.in-Err.ensures.counts c.tell.ensures.counts c.tell.ensures.ok c.tell.ensures.part) lacks)

pub returns-in-Err-clause-failed : goal.returns-in-Err-clause-failed
returns-in-Err-clause-failed g c is = failed c.in-Err.refusal _ _ _ c.tell.ensures.counts.later (sym c.status_of.ensures ∙ is) c.in-Err.ensures.counts

pub returns-in-Err-clause-source_fault : goal.returns-in-Err-clause-source_fault
returns-in-Err-clause-source_fault g c more = c.status_of.ensures ∙ source_fault c.in-Err.refusal _ _ c.in-Err.ensures.counts more

pub returns-in-Err-clause-out_fault : goal.returns-in-Err-clause-out_fault
returns-in-Err-clause-out_fault g c more = c.status_of.ensures ∙ out_fault c.in-Err.refusal _ _ c.in-Err.ensures.counts more

pub returns-in-Err-clause-file_fault : goal.returns-in-Err-clause-file_fault
returns-in-Err-clause-file_fault g c more = c.status_of.ensures ∙ files_fault c.in-Err.refusal _ _ c.in-Err.ensures.counts more

pub returns-in-Err-clause-note_fault : goal.returns-in-Err-clause-note_fault
returns-in-Err-clause-note_fault g c more =
    (λ is. not_zero c.in-Err.refusal (sym c.status_of.ensures ∙ is), λ is. not_one c.in-Err.refusal (sym c.status_of.ensures ∙ is))

pub returns-in-Err-clause-missing : goal.returns-in-Err-clause-missing
returns-in-Err-clause-missing g c is = missing c.in-Err.refusal _ _ (sym c.status_of.ensures ∙ is) c.in-Err.ensures.counts

pub returns-in-Err-clause-misses : goal.returns-in-Err-clause-misses
returns-in-Err-clause-misses g c more = c.status_of.ensures ∙ misses c.in-Err.refusal _ _ c.in-Err.ensures.counts more

pub returns-in-Ok-Done-clause-out_kept : goal.returns-in-Ok-Done-clause-out_kept
returns-in-Ok-Done-clause-out_kept g c back = out_kept_well _ _ _ _ back c.in-Ok-Done.ensures.done

pub returns-in-Ok-WouldChange-clause-out_kept : goal.returns-in-Ok-WouldChange-clause-out_kept
returns-in-Ok-WouldChange-clause-out_kept g c back = out_kept_well _ _ _ _ back c.in-Ok-WouldChange.ensures.done

pub returns-in-Err-clause-out_kept : goal.returns-in-Err-clause-out_kept
returns-in-Err-clause-out_kept g c back = out_kept _ _ _ c.in-Err.refusal back c.in-Err.ensures.refused

pub returns-in-Ok-Done-clause-files_kept : goal.returns-in-Ok-Done-clause-files_kept
returns-in-Ok-Done-clause-files_kept g c forth = files_kept_well _ _ _ _ forth c.in-Ok-Done.ensures.done

pub returns-in-Ok-WouldChange-clause-files_kept : goal.returns-in-Ok-WouldChange-clause-files_kept
returns-in-Ok-WouldChange-clause-files_kept g c forth = files_kept_well _ _ _ _ forth c.in-Ok-WouldChange.ensures.done

pub returns-in-Err-clause-files_kept : goal.returns-in-Err-clause-files_kept
returns-in-Err-clause-files_kept g c forth = files_kept _ _ _ c.in-Err.refusal forth c.in-Err.ensures.refused

pub returns-in-Err-clause-missing_name : goal.returns-in-Err-clause-missing_name
returns-in-Err-clause-missing_name g c is = missing_name _ _ _ c.in-Err.refusal (sym c.status_of.ensures ∙ is) c.in-Err.ensures.refused

pub returns-in-Err-clause-input : goal.returns-in-Err-clause-input
returns-in-Err-clause-input g c is forth = refused_input _ _ _ c.in-Err.refusal (sym c.status_of.ensures ∙ is) forth c.in-Err.ensures.refused

pub returns-in-Ok-WouldChange-clause-changed : goal.returns-in-Ok-WouldChange-clause-changed
returns-in-Ok-WouldChange-clause-changed g c is =
    let before = world (g.S.Source.left c.args.source.now) (g.K.Sink.taken c.args.out.now) (g.F.Files.holds c.args.files.now) (g.E.Sink.taken c.args.notes.now) in
    let now = world (g.S.Source.left c.run.new.source) (g.K.Sink.taken c.run.new.out) (g.F.Files.holds c.run.new.files) (g.E.Sink.taken c.run.new.notes) in
    let well : EndsWell (map string_bytes c.args.words.now) before now 1 = search rules in
    asks (map string_bytes c.args.words.now) before now 1 refl well

pub returns-in-Err-clause-changed : goal.returns-in-Err-clause-changed
returns-in-Err-clause-changed g c is = absurd (not_one c.in-Err.refusal (sym c.status_of.ensures ∙ is))

pub returns-in-Ok-Done-clause-refused : goal.returns-in-Ok-Done-clause-refused
returns-in-Ok-Done-clause-refused g c some more = absurd (some refl)

pub returns-in-Ok-Done-clause-known : goal.returns-in-Ok-Done-clause-known
returns-in-Ok-Done-clause-known g c = inl refl

pub returns-in-Ok-Done-clause-changed : goal.returns-in-Ok-Done-clause-changed
returns-in-Ok-Done-clause-changed g c is = absurd (apart 0 1 refl is)

pub returns-in-Ok-Done-clause-usage : goal.returns-in-Ok-Done-clause-usage
returns-in-Ok-Done-clause-usage g c is = absurd (apart 0 2 refl is)

pub returns-in-Ok-Done-clause-form : goal.returns-in-Ok-Done-clause-form
returns-in-Ok-Done-clause-form g c bad = absurd (not_read _ _ bad c.in-Ok-Done.ensures.done.begins.reads)

pub returns-in-Ok-Done-clause-style : goal.returns-in-Ok-Done-clause-style
returns-in-Ok-Done-clause-style g c is = absurd (apart 0 3 refl is)

pub returns-in-Ok-Done-clause-input : goal.returns-in-Ok-Done-clause-input
returns-in-Ok-Done-clause-input g c is forth = absurd (apart 0 4 refl is)

pub returns-in-Ok-Done-clause-failed : goal.returns-in-Ok-Done-clause-failed
returns-in-Ok-Done-clause-failed g c is = absurd (apart 0 5 refl is)

pub returns-in-Ok-Done-clause-source_fault : goal.returns-in-Ok-Done-clause-source_fault
returns-in-Ok-Done-clause-source_fault g c more = absurd (not_risen _ _ c.in-Ok-Done.ensures.counts.source more)

pub returns-in-Ok-Done-clause-out_fault : goal.returns-in-Ok-Done-clause-out_fault
returns-in-Ok-Done-clause-out_fault g c more = absurd (not_risen _ _ c.in-Ok-Done.ensures.counts.out more)

pub returns-in-Ok-Done-clause-file_fault : goal.returns-in-Ok-Done-clause-file_fault
returns-in-Ok-Done-clause-file_fault g c more = absurd (not_risen _ _ c.in-Ok-Done.ensures.counts.files more)

pub returns-in-Ok-Done-clause-note_fault : goal.returns-in-Ok-Done-clause-note_fault
returns-in-Ok-Done-clause-note_fault g c more = absurd (not_risen _ _ c.in-Ok-Done.ensures.counts.notes more)

pub returns-in-Ok-Done-clause-misses : goal.returns-in-Ok-Done-clause-misses
returns-in-Ok-Done-clause-misses g c more = absurd (not_risen _ _ c.in-Ok-Done.ensures.counts.misses more)

pub returns-in-Ok-Done-clause-missing_name : goal.returns-in-Ok-Done-clause-missing_name
returns-in-Ok-Done-clause-missing_name g c is = absurd (apart 0 6 refl is)

pub returns-in-Ok-Done-clause-missing : goal.returns-in-Ok-Done-clause-missing
returns-in-Ok-Done-clause-missing g c is = absurd (apart 0 6 refl is)

pub returns-in-Ok-WouldChange-clause-refused : goal.returns-in-Ok-WouldChange-clause-refused
returns-in-Ok-WouldChange-clause-refused g c some more = absurd (more refl)

pub returns-in-Ok-WouldChange-clause-known : goal.returns-in-Ok-WouldChange-clause-known
returns-in-Ok-WouldChange-clause-known g c = inr (inl refl)

pub returns-in-Ok-WouldChange-clause-usage : goal.returns-in-Ok-WouldChange-clause-usage
returns-in-Ok-WouldChange-clause-usage g c is = absurd (apart 1 2 refl is)

pub returns-in-Ok-WouldChange-clause-form : goal.returns-in-Ok-WouldChange-clause-form
returns-in-Ok-WouldChange-clause-form g c bad = absurd (not_read _ _ bad c.in-Ok-WouldChange.ensures.done.begins.reads)

pub returns-in-Ok-WouldChange-clause-style : goal.returns-in-Ok-WouldChange-clause-style
returns-in-Ok-WouldChange-clause-style g c is = absurd (apart 1 3 refl is)

pub returns-in-Ok-WouldChange-clause-input : goal.returns-in-Ok-WouldChange-clause-input
returns-in-Ok-WouldChange-clause-input g c is forth = absurd (apart 1 4 refl is)

pub returns-in-Ok-WouldChange-clause-failed : goal.returns-in-Ok-WouldChange-clause-failed
returns-in-Ok-WouldChange-clause-failed g c is = absurd (apart 1 5 refl is)

pub returns-in-Ok-WouldChange-clause-source_fault : goal.returns-in-Ok-WouldChange-clause-source_fault
returns-in-Ok-WouldChange-clause-source_fault g c more = absurd (not_risen _ _ c.in-Ok-WouldChange.ensures.counts.source more)

pub returns-in-Ok-WouldChange-clause-out_fault : goal.returns-in-Ok-WouldChange-clause-out_fault
returns-in-Ok-WouldChange-clause-out_fault g c more = absurd (not_risen _ _ c.in-Ok-WouldChange.ensures.counts.out more)

pub returns-in-Ok-WouldChange-clause-file_fault : goal.returns-in-Ok-WouldChange-clause-file_fault
returns-in-Ok-WouldChange-clause-file_fault g c more = absurd (not_risen _ _ c.in-Ok-WouldChange.ensures.counts.files more)

pub returns-in-Ok-WouldChange-clause-note_fault : goal.returns-in-Ok-WouldChange-clause-note_fault
returns-in-Ok-WouldChange-clause-note_fault g c more = absurd (not_risen _ _ c.in-Ok-WouldChange.ensures.counts.notes more)

pub returns-in-Ok-WouldChange-clause-misses : goal.returns-in-Ok-WouldChange-clause-misses
returns-in-Ok-WouldChange-clause-misses g c more = absurd (not_risen _ _ c.in-Ok-WouldChange.ensures.counts.misses more)

pub returns-in-Ok-WouldChange-clause-missing_name : goal.returns-in-Ok-WouldChange-clause-missing_name
returns-in-Ok-WouldChange-clause-missing_name g c is = absurd (apart 1 6 refl is)

pub returns-in-Ok-WouldChange-clause-missing : goal.returns-in-Ok-WouldChange-clause-missing
returns-in-Ok-WouldChange-clause-missing g c is = absurd (apart 1 6 refl is)

pub returns-in-Ok-Done-clause-done : goal.returns-in-Ok-Done-clause-done
returns-in-Ok-Done-clause-done g c is = rw c.in-Ok-Done.field-0-is at c.in-Ok-Done.ensures.done

pub returns-in-Ok-WouldChange-clause-done : goal.returns-in-Ok-WouldChange-clause-done
returns-in-Ok-WouldChange-clause-done g c is = rw c.in-Ok-WouldChange.field-0-is at c.in-Ok-WouldChange.ensures.done
