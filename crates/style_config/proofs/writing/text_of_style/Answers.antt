use Rattle.std.proofs.Common.{◌∙◌, ◌++◌, ℕ, List, ap, append_assoc, codes}
use Rattle.style_table.specs.Keys.{keys}
use Rattle.style_config.specs.Dump.{entries_text, dump_text}
use Rattle.style_config.proofs.writing.text_of_style.Goals as goal

pub returns : goal.returns
unfolding dump_text
returns c =
    let begun = c.push_str.ensures.bytes ∙ ap (λ (bytes : List ℕ). bytes ++ codes "---\nLanguage: Cpp\n") c.new-text.ensures in
    let filled = c.push_entries.ensures.entries ∙ ap (λ (bytes : List ℕ). bytes ++ entries_text c.args.style.now keys) begun in
    c.push_str-2.ensures.bytes
    ∙ (ap (λ (bytes : List ℕ). bytes ++ codes "...\n") filled
    ∙ append_assoc (codes "---\nLanguage: Cpp\n") (entries_text c.args.style.now keys) (codes "...\n"))
