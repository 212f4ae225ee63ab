use Rattle.std.proofs.Common.{◌≡◌, ◌++◌, map, take}
use Rattle.std.specs.List.{concat}
use Rattle.command_words.specs.Parts.{text_of}
use Rattle.command_words.proofs.generator.add_parts.Given as goal

-- the parts so far stand behind the text
abbrev pub invariant-loop-part : goal.invariant-loop-part
invariant-loop-part l = l.text.items ≡ l.initial.text.items ++ concat (map (text_of l.place l.value) (take l.part-index l.parts))
