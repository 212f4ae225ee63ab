use Rattle.std.proofs.Common.{Result, subst}
use Rattle.std.specs.Prelude.{IfOk}
use Rattle.style_table.specs.declared.style.Style.{Style}
use Rattle.style_table.specs.declared.value.ValueFault.{ValueFault}
use Rattle.style_table.specs.Range.{IsInRange}
use Rattle.style_table.proofs.ReadRange.{with_value-IsInRange}
use Rattle.style_table.proofs.style.Style.with_value.Goals as goal

pub returns-clause-range : goal.returns-clause-range
returns-clause-range c =
    λ range. subst (λ (read : Result Style ValueFault). IfOk read (λ style. IsInRange style)) c.in_ok-set.ensures
    (with_value-IsInRange c.args.self range c.args.key c.args.text.now)
