-- What an open conditional stands for in the model.
use Rattle.pp_model.specs.Condition.{Cond}
use Rattle.pp_directives.specs.declared.cond.Cond.{Cond as CondValue}

-- an open conditional
abbrev pub cond_shown : CondValue → Cond
cond_shown c = record { taken = c.taken; active = c.active; had_else = c.had_else; skipped = c.skipped }
