use Rattle.std.proofs.Common.{◌∙◌, ◌++◌, [], sym}
use Rattle.std.specs.Option.{option_to_list}
use Rattle.c_grammar.specs.Touch.{is_front}
use Rattle.touching.specs.Spelling.{spelling}
use Rattle.touching.proofs.Words.{some_yes, some_no}
use Rattle.touching.proofs.touch.begins_some.Goals as goal

pub returns-then-begins_behind : goal.returns-then-begins_behind
returns-then-begins_behind c =
    sym (some_yes (is_front (spelling c.args.dialect c.args.raw.now ++ option_to_list c.args.next)) c.args.table.now c.loop-word.word-index (record { ref_ptr = (0, 0); now = [] }) c.loop-word-test.true (sym c.begins_behind.ensures ∙ c.if-begins_behind.true))
    ∙ c.loop-word.invariant

pub loop-word-preserved : goal.loop-word-preserved
loop-word-preserved c =
    sym (some_no (is_front (spelling c.args.dialect c.args.raw.now ++ option_to_list c.args.next)) c.args.table.now c.loop-word.word-index (record { ref_ptr = (0, 0); now = [] }) c.loop-word-test.true (sym c.begins_behind.ensures ∙ c.if-begins_behind.false))
    ∙ c.loop-word.invariant
