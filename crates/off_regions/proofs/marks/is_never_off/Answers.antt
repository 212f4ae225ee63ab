use Rattle.std.proofs.Common.{◌∙◌, false, refl, sym, ap}
use Rattle.token_arena.specs.Entries.{told_by}
use Rattle.off_regions.specs.Switches.{off_behind}
use Rattle.off_regions.proofs.Marked.{all_passed, comment_within, none_passed, one_passed}
use Rattle.off_regions.proofs.marks.is_never_off.Goals as goal

pub loop-id-init : goal.loop-id-init
loop-id-init c = none_passed c.args.arena.now c.comments-comments.result.now c.comments-comments.ensures

pub get-requires : goal.get-requires
get-requires c = comment_within c.args.arena.now c.comments-comments.result.now c.loop-id.id-index c.loop-id-test.true c.loop-id.invariant

pub loop-id-preserved : goal.loop-id-preserved
loop-id-preserved c =
    let token = told_by c.get.result in
    one_passed c.args.arena.now c.comments-comments.result.now c.loop-id.id-index _ token c.loop-id-test.true refl c.get.ensures
    (ap (λ d. off_behind d false token) (sym c.dialect-dialect.ensures) ∙ (sym c.off_behind.ensures ∙ c.if-off_behind.false)) c.loop-id.invariant

pub returns : goal.returns
returns c = λ yes. all_passed c.args.arena.now c.comments-comments.result.now c.loop-id.id-index c.loop-id-test.false c.loop-id.invariant
