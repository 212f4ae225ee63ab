use Rattle.std.proofs.Common.{sym}
use Rattle.pp_directives.specs.WorldView.{world_shown}
use Rattle.pp_directives.proofs.Branches.{blame_skipped}
use Rattle.pp_directives.proofs.state.World.blame.Goals as goal

pub returns-then-skipped : goal.returns-then-skipped
returns-then-skipped c = sym (blame_skipped c.args.skipped (world_shown c.args.self.now) c.if-skipped.true)
