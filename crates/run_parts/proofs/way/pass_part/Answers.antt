use Rattle.std.proofs.Common.{List, sym, subst}
use Rattle.view_parts.specs.declared.known.KnownEnd.{KnownEnd}
use Rattle.run_parts.specs.Runs.{AreRowsDecided}
use Rattle.run_parts.proofs.JoinedRows.{joined_decided}
use Rattle.run_parts.proofs.way.pass_part.Goals as goal
use Rattle.run_parts.proofs.way.pass_part.Goals.{then-is_none, else-is_none}

pub returns-clause-rows : goal.returns-clause-rows
returns-clause-rows c = λ plan all.
    elim c.if-is_none.branch [
      | then-is_none w ↦
          subst (λ (knowns : List KnownEnd). AreRowsDecided plan knowns) (sym w.known-is)
          (subst (λ (knowns : List KnownEnd). AreRowsDecided plan knowns) (sym w.join_rows-way.ensures.joined) (joined_decided plan c.args.known.now c.args.way.now.row.0 c.args.id.0 all))
      | else-is_none w ↦ subst (λ (knowns : List KnownEnd). AreRowsDecided plan knowns) (sym w.known-is) all
    ]
