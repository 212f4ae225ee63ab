use Rattle.std.proofs.Common.{◌≡◌, ◌≤◌, ◌+◌, ◌*◌, ◌++◌, take}
use Rattle.arrayvec.specs.ArrayString.{array_string_len}
use Rattle.style_config.specs.Dump.{entries_text}
use Rattle.style_config.proofs.writing.push_entries.Given as goal

abbrev pub invariant-loop-key : goal.invariant-loop-key
invariant-loop-key l =
    (l.text.bytes ≡ l.initial.text.bytes ++ entries_text l.style (take l.key-index l.keys))
    × (array_string_len l.text ≤ array_string_len l.initial.text + 128 * l.key-index)
