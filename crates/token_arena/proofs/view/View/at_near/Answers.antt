use Rattle.std.proofs.Common.{ℕ, ◌<◌, length, subst, sym}
use Rattle.token_arena.specs.Segments.{HasPlace}
use Rattle.token_arena.proofs.SegmentLemmas.{item_at_start}
use Rattle.token_arena.proofs.view.View.at_near.Goals as goal
use Rattle.token_arena.proofs.view.View.at_near.Goals.{then-not-has_place, else-not-has_place}

pub returns : goal.returns
returns c =
    let segments = c.self.inside.segments.now in
    let k = c.args.place in
    let number = c.if-not-has_place.number in
    let Within : ℕ → Type 0 = λ n. n < length segments in
    let Has : ℕ → Type 0 = λ n. HasPlace segments k n in
    let within : number < length segments = elim c.if-not-has_place.branch [
      | then-not-has_place w ↦ subst Within (sym w.number-is) w.segment_at.ensures.within
      | else-not-has_place w ↦ subst Within (sym w.number-is) w.if-not-has_place.ensures.within
    ] in
    let has : HasPlace segments k number = elim c.if-not-has_place.branch [
      | then-not-has_place w ↦ subst Has (sym w.number-is) w.segment_at.ensures.has
      | else-not-has_place w ↦ subst Has (sym w.number-is) w.if-not-has_place.ensures.has
    ] in
    λ d. rw (← c.self.view_is) (item_at_start segments number k d c.self.invariant within has)
