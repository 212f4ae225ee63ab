use Rattle.std.proofs.Common.{◌∙◌, get_or, refl}
use Rattle.std.proofs.lemmas.Option.{slice_get-get_or}
use Rattle.frame_store.specs.declared.group.Link.{Link}
use Rattle.frame_store.proofs.Chaining.{one_more_spread, all_spread, from_slot}
use Rattle.frame_store.proofs.group.spread.Goals as goal

pub loop-link-preserved : goal.loop-link-preserved
loop-link-preserved c =
    let links = c.args.links.now in
    let link : Link = get_or links c.loop-link.link-index (record { digest = 0; number = 0; before = 0 }) in
    record {
      len = c.in_ok-list.ensures.len ∙ c.loop-link.invariant.len;
      listed = one_more_spread links _ _ _ _ _ _ _ link (slice_get-get_or links _ _ c.loop-link-test.true) c.slot.ensures.value c.in_ok-list.ensures.kept c.in_ok-list.ensures.added c.loop-link.invariant.listed;
    }

pub returns-clause-listed : goal.returns-clause-listed
returns-clause-listed c = λ d u h. from_slot _ _ _ d u refl (all_spread _ _ _ _ _ c.loop-link-test.false c.loop-link.invariant.len c.loop-link.invariant.listed d u h)
