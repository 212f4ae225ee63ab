use Rattle.std.proofs.Common.{◌<◌, ◌∙◌, sym, arith}
use Rattle.token_classes.specs.Classes.{is_word}
use Rattle.statement_lines.specs.Forms.{is_member_word}
use Rattle.statement_lines.proofs.Known.{known}
use Rattle.statement_lines.proofs.ScanLemmas.{tag_at_end, tag_group, tag_member, tag_other}
use Rattle.statement_lines.proofs.scans.tag_before.Goals as goal

pub returns-then-is_member_word : goal.returns-then-is_member_word
returns-then-is_member_word c =
    let n = c.loop-place.invariant.0 in
    let member = known is_member_word _ _ _ _ c.class_at-class.ensures c.is_member_word.ensures c.if-is_member_word.true in
    c.class_at-class.ensures
    ∙ (sym (tag_member n c.args.tokens.now c.args.first c.loop-place.place c.loop-place.found c.loop-place-test.true c.loop-place.invariant.1.0 member) ∙ c.loop-place.invariant.1.1)

pub returns-then-opener-eq0 : goal.returns-then-opener-eq0
returns-then-opener-eq0 c =
    let n = c.loop-place.invariant.0 in
    let member = known is_member_word _ _ _ _ c.class_at-class.ensures c.is_member_word.ensures c.if-is_member_word.false in
    let word = known is_word _ _ _ _ c.class_at-class.ensures c.is_word.ensures c.if-is_word.false in
    let none = sym c.call_opener-opener.ensures.same ∙ c.if-opener-eq0.true in
    sym (tag_other n c.args.tokens.now c.args.first c.loop-place.place c.loop-place.found c.loop-place-test.true c.loop-place.invariant.1.0 member word none) ∙ c.loop-place.invariant.1.1

pub loop-place-preserved : goal.loop-place-preserved
loop-place-preserved c =
    let n = c.loop-place.invariant.0 in
    let opener = c.call_opener-opener.result in
    let some : 0 < opener = omega (arith, c.if-opener-eq0.false) in
    tag_group n c.args.tokens.now c.args.first c.loop-place.place opener c.loop-place.found _ c.loop-place-test.true some c.loop-place.invariant.1.0 (c.call_opener-opener.ensures.most some)
    (known is_member_word _ _ _ _ c.class_at-class.ensures c.is_member_word.ensures c.if-is_member_word.false)
    (known is_word _ _ _ _ c.class_at-class.ensures c.is_word.ensures c.if-is_word.false)
    c.call_opener-opener.ensures.same c.loop-place.invariant.1.1

pub returns : goal.returns
returns c = sym (tag_at_end c.loop-place.invariant.0 c.args.tokens.now c.args.first c.loop-place.place c.loop-place.found c.loop-place-test.false) ∙ c.loop-place.invariant.1.1
