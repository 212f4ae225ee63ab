use Rattle.std.proofs.Common.{List, sym, subst}
use Rattle.view_parts.specs.declared.known.KnownEnd.{KnownEnd}
use Rattle.run_parts.specs.Runs.{AreRowsDecided}
use Rattle.run_parts.proofs.JoinedRows.{noted_decided, joined_decided}
use Rattle.run_parts.proofs.way.pass_row.Goals as goal

pub returns-clause-rows : goal.returns-clause-rows
returns-clause-rows c = λ plan all.
    subst (λ (knowns : List KnownEnd). AreRowsDecided plan knowns) (sym c.join_rows-way.ensures.joined) (joined_decided plan c.args.known.now c.args.way.now.row.0 c.args.id.0 all)

pub returns-clause-decided : goal.returns-clause-decided
returns-clause-decided c = λ plan all.
    noted_decided plan c.args.known.now c.args.view.now c.args.way.now.first c.in_ok-parts.parts.end c.args.id.0 c.in_ok-parts.ensures.row all

pub returns-clause-told : goal.returns-clause-told
returns-clause-told c = λ told is.
    let parts = c.in_ok-parts.ensures in
    record { tell = parts.told told is; later = parts.later told is; below = parts.below told is }
