use Rattle.std.proofs.Common.{sym, subst}
use Rattle.line_state.specs.declared.gap.GapRules.{GapRules}
use Rattle.line_state.specs.Layout.{AreRules}
use Rattle.searched_line.proofs.line.SearchedLine.rules_before.Goals as goal

pub returns : goal.returns
returns c = λ left right one other. subst (λ (rules : GapRules). AreRules c.args.self.now.style left right rules) (sym c.rules.ensures) (c.gap.ensures left right one other).rules
