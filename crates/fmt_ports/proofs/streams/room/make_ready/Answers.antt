use Rattle.std.proofs.Common.{◌∙◌}
use Rattle.fmt_ports.proofs.Taken.{held_still, still_within}
use Rattle.fmt_ports.proofs.streams.room.make_ready.Goals as goal

pub loop-page-preserved : goal.loop-page-preserved
loop-page-preserved c =
    let before = c.loop-page.bytes.items in
    let after = c.extend_from_slice.new.self.items in
    record {
      within = still_within c.extend_from_slice.result before _ after c.args.end c.loop-page.invariant.within c.extend_from_slice.ensures.items;
      same = λ sent first. held_still c.extend_from_slice.result before _ after sent c.args.end first c.loop-page.invariant.within c.extend_from_slice.ensures.items ∙ c.loop-page.invariant.same sent first;
    }
