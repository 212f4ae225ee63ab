use Rattle.command_words.specs.Parts.{text_of}
use Rattle.command_words.proofs.Joined.{part_added}
use Rattle.command_words.proofs.generator.add_parts.Goals as goal

pub loop-part-preserved : goal.loop-part-preserved
loop-part-preserved c =
    rw c.in_ok-extend_from_slice.ensures.items
    (rw c.as_bytes.ensures.value
    (rw c.text_of.ensures
    (rw c.loop-part.invariant (part_added (text_of c.args.place.now c.args.value.now) c.args.text.now.items c.args.parts.now c.loop-part.part-index _ c.loop-part-test.true))))
