use Rattle.std.proofs.Common.{ap, sym, is_some}
use Rattle.style_config.proofs.Names.{not_named}
use Rattle.style_config.proofs.reading.names_style.Goals as goal

pub returns-in-Err : goal.returns-in-Err
returns-in-Err c = sym (ap is_some (not_named c.args.value.now c.in-Err.ensures.cases.0))
