use Rattle.std.proofs.Common.{None}
use Rattle.std.proofs.lemmas.List.{take-replicate}
use Rattle.line_gaps.proofs.fixed.some_open.Goals as goal

pub returns : goal.returns
returns c = take-replicate c.args.count 4096 None c.requires
