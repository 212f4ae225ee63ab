use Rattle.std.proofs.Common.{◌∙◌, List, Option, length, sym, ap}
use Rattle.std.proofs.lemmas.List.{length-map}
use Rattle.std.proofs.lemmas.Result.{IfOk-weaker}
use Rattle.line_tokens.specs.declared.Fixed.{Fixed}
use Rattle.run_layout.proofs.Views.{rows_joined, alone_joined}
use Rattle.run_layout.proofs.view.joined_lines.Goals as goal

pub join_of_classes-requires-clause-same : goal.join_of_classes-requires-clause-same
join_of_classes-requires-clause-same c =
    ap (λ (xs : List (Option Fixed)). length xs) c.in_ok-fixed.ensures ∙ (length-map c.args.layout.now.view.now _ ∙ sym c.requires.count)

pub returns-then-are_alone-clause-lines : goal.returns-then-are_alone-clause-lines
returns-then-are_alone-clause-lines c =
    alone_joined c.args.layout.now.style.now c.args.layout.now.arena.now c.args.layout.now.view.now c.args.layout.now.tokens.now c.args.plan.now c.args.lines.now c.args.layout.now.classes.now c.requires.classes
    (c.are_alone.ensures c.if-are_alone.true)

pub returns-clause-lines : goal.returns-clause-lines
returns-clause-lines c =
    IfOk-weaker c.join_of_classes.result _ _
    (λ rows is. rows_joined c.args.layout.now.style.now c.args.layout.now.arena.now c.args.layout.now.view.now c.args.layout.now.tokens.now c.args.plan.now c.args.lines.now _ c.args.layout.now.classes.now c.in_ok-fixed.fixed.now
    c.requires.classes c.in_ok-fixed.ensures is) c.join_of_classes.ensures.lines
