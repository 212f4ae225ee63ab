use Rattle.std.proofs.Common.{◌<◌, ◌∙◌, ap, sym, arith, length}
use Rattle.std.proofs.lemmas.List.{length-set}
use Rattle.item_classes.proofs.ItemClasses.{all_classes, class_next}
use Rattle.item_classes.proofs.viewed.item_classes.Goals as goal

pub loop-id-init : goal.loop-id-init
loop-id-init c = record {
  whole = ap length c.into_bump_slice_mut-classes.ensures ∙ sym c.in_ok-vec.field-0.ok.0 ∙ c.in_ok-vec.ensures.len ∙ c.len-count.ensures.count;
  told = λ k below. absurd (omega (arith, below));
}

pub loop-id-preserved : goal.loop-id-preserved
loop-id-preserved c =
    let arena = c.args.arena.now in
    let id = c.loop-id.id in
    let v = c.loop-id.invariant in
    let within : id < length arena.tokens = omega (arith, c.loop-id-test.true, c.len-count.ensures.count) in
    let room : id < length c.loop-id.classes = omega (arith, within, v.whole) in
    record {
      whole = length-set c.loop-id.classes id c.in_ok-classes.field-0 ∙ v.whole;
      told = class_next arena c.loop-id.classes id c.in_ok-classes.field-0 room within c.in_ok-classes.ensures v.told;
    }

pub returns : goal.returns
returns c =
    let v = c.loop-id.invariant in
    all_classes c.args.arena.now c.loop-id.classes c.loop-id.id v.whole (omega (arith, c.loop-id-test.false, c.len-count.ensures.count, v.whole)) v.told
