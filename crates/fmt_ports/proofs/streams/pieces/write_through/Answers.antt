use Rattle.std.proofs.Common.{sym, subst}
use Rattle.fmt_ports.specs.Causes.{AppendsPart}
use Rattle.fmt_ports.specs.Taken.{Grows, taken_by}
use Rattle.fmt_ports.specs.declared.streams.pieces.Pieces.{Pieces}
use Rattle.fmt_ports.proofs.Behind.{grows_on, part_behind, part_kept}
use Rattle.fmt_ports.proofs.streams.pieces.write_through.Goals as goal
use Rattle.fmt_ports.proofs.streams.pieces.write_through.Goals.{in-Ok, in-Err}

pub returns-clause-part : goal.returns-clause-part
returns-clause-part g c =
    let made = c.into_pieces-pieces in
    let part : AppendsPart (taken_by g.K.Sink.taken c.args.pieces) (taken_by g.K.Sink.taken made.result) (g.T.Stream.bytes c.args.text.now) =
    rw made.ensures.pieces c.write-written.ensures.part in
    let grows : Grows (g.K.Sink.taken c.args.pieces.out.now) (g.K.Sink.taken made.result.out.now) = rw c.requires.first made.ensures.grows in
    let P : Pieces g.row.K.Denot → Type 0 = λ p. AppendsPart (g.K.Sink.taken c.args.pieces.out.now) (g.K.Sink.taken p.out.now) (g.T.Stream.bytes c.args.text.now) in
    elim c.match-written.branch [
      | in-Ok w ↦ subst P (sym w.pieces-is)
          (part_behind _ _ _ _ _ c.requires.empty (grows_on _ _ _ grows w.flush-result.ensures.grows) (part_kept _ _ _ _ part w.flush-result.ensures.bytes))
      | in-Err w ↦ subst P (sym w.pieces-is) (part_behind _ _ _ _ _ c.requires.empty grows part)
    ]
