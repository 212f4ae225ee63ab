use Rattle.std.proofs.Common.{ap, sym, unwrap_or}
use Rattle.style_config.proofs.Names.{not_named}
use Rattle.style_config.proofs.document.based_on.Goals as goal

pub returns-in-Err-clause-style : goal.returns-in-Err-clause-style
returns-in-Err-clause-style c =
    rw c.in-Some.is (ap (λ named. unwrap_or named c.args.style) (sym (not_named c.in-Some.value.now c.in-Err.ensures.cases.0)))
