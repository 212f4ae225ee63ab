use Rattle.std.proofs.Common.{◌≡◌, ◌∙◌, ◌+◌, ◌-◌, ℕ, Bool, Some, None, suc, length, ap, arith}
use Rattle.std.specs.Prelude.{if◌then◌else◌}
use Rattle.line_gaps.specs.InputColumns.{kept_slot}
use Rattle.early_gaps.specs.Columns.{column_at}
use Rattle.early_gaps.specs.Kept.{is_kept, kept_at}
use Rattle.early_gaps.proofs.Places.{none_between, one_more}
use Rattle.early_gaps.proofs.Staying.{none_kept, stays_by}
use Rattle.early_gaps.proofs.keep.keep_gaps.Goals as goal

pub loop-place-preserved : goal.loop-place-preserved
loop-place-preserved c =
    let arena = c.args.arena.now in
    let tab = c.args.tab in
    let frozen = c.args.frozen.now in
    let from = c.loop-place.place in
    let place = c.pass_plain-place.result in
    let passed = c.pass_plain-place.ensures in
    let v = c.loop-place.invariant in
    let n : ℕ = length arena.tokens + 1 in
    let column : ℕ = column_at tab arena place in
    let kept : c.stays-kept.result ≡ is_kept arena frozen place =
    c.stays-kept.ensures ∙ stays_by arena frozen place _ c.loop-place.behind c.next_behind-here.result c.is_marked.ensures passed.behind c.next_behind-here.ensures in
    let more : n - place ≡ suc (n - (place + 1)) = omega (arith, passed.within) in
    record {
      within = omega (arith, passed.within);
      known = c.keep-known.ensures.known;
      order = omega (arith, c.keep-known.ensures.order);
      behind = c.next_behind-here.ensures;
      len = c.keep-known.ensures.len ∙ v.len;
      rest = one_more (kept_at tab arena frozen) c.loop-place.plan c.keep-known.new.plan place (n - (place + 1)) (n - place) (if c.stays-kept.result then Some (kept_slot column) else None) more
          (ap (λ (b : Bool). if b then Some (kept_slot column) else None) kept) c.keep-known.ensures.plan
          ∙ (none_between (kept_at tab arena frozen) c.loop-place.plan from place n passed.later (omega (arith, passed.within)) (λ k low high. none_kept tab arena frozen k (passed.none k low high)) ∙ v.rest);
    }
