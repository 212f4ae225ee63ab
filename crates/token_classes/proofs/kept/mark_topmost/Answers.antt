use Rattle.std.proofs.Common.{◌≡◌, ◌∙◌, ◌&&◌, true, false, nat_lt, reverse, length, refl, sym, ap}
use Rattle.std.specs.Prelude.{slice_set, if◌then◌else◌}
use Rattle.std.proofs.lemmas.Bool.{lt-ltb, le-ltb, and_right}
use Rattle.token_classes.specs.Classes.{is_open_brace}
use Rattle.token_classes.specs.Partners.{count_braces}
use Rattle.token_classes.proofs.KeptLemmas.{marked_top}
use Rattle.token_classes.proofs.kept.mark_topmost.Goals as goal
use Rattle.token_classes.proofs.kept.mark_topmost.Goals.{else-is_open_brace-via-then-is_open_brace+else-braces-stack, else-is_open_brace-via-else-is_open_brace}

pub returns-then-braces-stack-clause-marks : goal.returns-then-braces-stack-clause-marks
returns-then-braces-stack-clause-marks c =
    let marks = c.args.marks.now in
    let place = c.in-Some.opener.now.place in
    let brace : is_open_brace c.in-Some.opener.now.kind ≡ true = cc in
    let fewer : nat_lt (count_braces (reverse c.args.stack.now)) (length c.args.stack.now) ≡ true = ap (λ n. nat_lt n (length c.args.stack.now)) (sym c.requires.count) ∙ lt-ltb _ _ c.if-braces-stack.true in
    let both : (is_open_brace c.in-Some.opener.now.kind && nat_lt (count_braces (reverse c.args.stack.now)) (length c.args.stack.now)) ≡ true = rw (brace, fewer) refl in
    sym (marked_top c.args.stack.now c.in-Some.opener.now marks c.in-Some.ensures.value c.requires.openers
    ∙ ap (λ b. if b then slice_set marks place true else marks) both)

pub returns-else-is_open_brace-clause-marks : goal.returns-else-is_open_brace-clause-marks
returns-else-is_open_brace-clause-marks c =
    let marks = c.args.marks.now in
    let place = c.in-Some.opener.now.place in
    let top = marked_top c.args.stack.now c.in-Some.opener.now marks c.in-Some.ensures.value c.requires.openers in
    let count = ap (λ n. nat_lt n (length c.args.stack.now)) (sym c.requires.count) in
    let result = λ (e : (is_open_brace c.in-Some.opener.now.kind && nat_lt (count_braces (reverse c.args.stack.now)) (length c.args.stack.now)) ≡ false).
    sym (top ∙ ap (λ b. if b then slice_set marks place true else marks) e) in
    elim c.else-is_open_brace.branch [
      | else-is_open_brace-via-then-is_open_brace+else-braces-stack w ↦ result (and_right _ _ (count ∙ le-ltb _ _ w.if-braces-stack.false))
      | else-is_open_brace-via-else-is_open_brace w ↦
          let other : is_open_brace c.in-Some.opener.now.kind ≡ false = sym c.is_open_brace.ensures ∙ w.if-is_open_brace.false in
          result (rw other refl)
    ]
