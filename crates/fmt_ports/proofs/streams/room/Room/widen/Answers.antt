use Rattle.std.proofs.Common.{◌∙◌}
use Rattle.fmt_ports.proofs.streams.room.Room.widen.Goals as goal

pub returns : goal.returns
returns c = c.make_ready.ensures.same c.self.inside.sent c.self.invariant.0 ∙ c.self.view_is
