use Rattle.fmt_ports.proofs.streams.stream.is_same.Given as goal

abbrev pub ghosts-compare : goal.ghosts-compare
ghosts-compare g a = record { original = a.original.now }
