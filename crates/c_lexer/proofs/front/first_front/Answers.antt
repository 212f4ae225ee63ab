use Rattle.std.proofs.Common.{◌∙◌, sym, []}
use Rattle.c_chars.specs.Characters.{bytes_of}
use Rattle.c_lexer.proofs.Fronts.{first_yes, first_no}
use Rattle.c_lexer.proofs.front.first_front.Goals as goal

pub returns-then-begins_with : goal.returns-then-begins_with
returns-then-begins_with c =
    sym (first_yes c.args.table.now (bytes_of c.args.text.now.chars) c.loop-entry.entry-index (record { ref_ptr = (0, 0); now = [] }) c.loop-entry-test.true (sym c.begins_with.ensures ∙ c.if-begins_with.true))
    ∙ c.loop-entry.invariant

pub loop-entry-preserved : goal.loop-entry-preserved
loop-entry-preserved c =
    sym (first_no c.args.table.now (bytes_of c.args.text.now.chars) c.loop-entry.entry-index (record { ref_ptr = (0, 0); now = [] }) c.loop-entry-test.true (sym c.begins_with.ensures ∙ c.if-begins_with.false))
    ∙ c.loop-entry.invariant
