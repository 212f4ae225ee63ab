use Rattle.fmt_ports.proofs.streams.pieces.write_in_pieces.Given as goal

abbrev pub ghosts-write_through : goal.ghosts-write_through
ghosts-write_through g a = record { name = a.pieces.out.ghost_name; first = g.K.Sink.taken a.pieces.out.now }
