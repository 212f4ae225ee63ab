use Rattle.std.proofs.Common.{◌≡◌, ap, arith, option_map}
use Rattle.std.specs.BTreeMap.{get_by_text}
use Rattle.std.proofs.lemmas.Map.Text.{text_keys}
use Rattle.memory_ports.proofs.files.MemFiles.put.Goals as goal

pub returns-clause-others : goal.returns-clause-others
returns-clause-others c = λ other differs.
    let same : get_by_text c.insert.new.self other ≡ get_by_text c.args.self.now.held other = grind (arith, text_keys) in
    ap (option_map (λ bytes. bytes.items)) same
