use Rattle.std.proofs.Common.{◌∙◌}
use Rattle.view_parts.specs.declared.notes.Note.{Note}
use Rattle.view_parts.specs.declared.known.KnownEnd.TheVariants.{Unknown}
use Rattle.view_parts.proofs.NoteChains.{walk_back, walk_low}
use Rattle.view_parts.proofs.notes.note_of.Goals as goal

pub loop-place-preserved : goal.loop-place-preserved
loop-place-preserved c =
    let none : Note = record { id = 0; before = 0; end = Unknown } in
    let walked = c.loop-place.invariant in
    record {
      within = walk_low c.args.notes.now c.loop-place.place none c.requires.fall c.loop-place-test.true walked.within;
      same = walk_back c.args.notes.now c.args.id c.loop-place.place none c.requires.fall c.loop-place-test.true walked.within c.if-note-id.false ∙ walked.same;
    }
