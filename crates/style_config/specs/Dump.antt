-- A style as the text of a configuration: docs/PROFILE.md, "Styles".
use Rattle.std.specs.Prelude.{ℕ, if◌then◌else◌, List, [], ◌++◌, ◌==◌, length, codes}
use Rattle.std.specs.List.{flat_map}
use Rattle.style_table.specs.declared.style.Style.{Style}
use Rattle.style_table.specs.declared.key.Key.{Key}
use Rattle.style_table.specs.Keys.{keys, outer_of, label_of, is_first_inside, shown}

-- an outer key's own line, before the first of the keys under it
abbrev pub heading_of : Key → List ℕ
heading_of key = if is_first_inside key then outer_of key ++ codes ":\n" else []

-- two blanks before a key that stands under another
abbrev pub indent_of : Key → List ℕ
indent_of key = if length (outer_of key) == 0 then [] else codes "  "

-- the lines of a key
abbrev pub entry_text : Style → Key → List ℕ
entry_text style key = heading_of key ++ indent_of key ++ label_of key ++ codes ": " ++ shown style key ++ codes "\n"

-- the entries of these keys
abbrev pub entries_text : Style → List Key → List ℕ
entries_text style keys = flat_map (entry_text style) keys

-- the whole text: one document with an entry for each key
unfoldable pub dump_text : Style → List ℕ
dump_text style = codes "---\nLanguage: Cpp\n" ++ entries_text style keys ++ codes "...\n"
