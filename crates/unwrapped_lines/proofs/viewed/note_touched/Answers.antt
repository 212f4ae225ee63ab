use Rattle.std.proofs.Common.{◌≡◌, ◌∙◌, ◌∷◌, [], true, false, List, Bool, length, length-append, ap, arith}
use Rattle.std.specs.Prelude.{slice_get}
use Rattle.statement_lines.specs.Tokens.{is_touched}
use Rattle.unwrapped_lines.proofs.Noted.{push_before, push_false, push_here}
use Rattle.unwrapped_lines.proofs.viewed.note_touched.Goals as goal

pub loop-preserved : goal.loop-preserved
loop-preserved c =
    let old = c.loop.touched.items in
    let more = length-append old (false ∷ []) in
    record {
      same = λ i. ap (λ (xs : List Bool). is_touched (slice_get xs i)) c.in_ok-push.ensures.items ∙ push_false old i ∙ c.loop.invariant.same i;
      count = omega (arith, ap length c.in_ok-push.ensures.items, more, c.loop.invariant.count);
      most = omega (arith, c.loop-test.true);
    }

pub returns-clause-before : goal.returns-clause-before
returns-clause-before c =
    let old = c.loop.touched.items in
    let all : length old ≡ c.args.place = omega (arith, c.loop.invariant.count, c.loop.invariant.most, c.loop-test.false) in
    λ i lt. ap (λ (xs : List Bool). is_touched (slice_get xs i)) c.in_ok-push-2.ensures.items ∙ push_before old true i (omega (arith, all, lt)) ∙ c.loop.invariant.same i

pub returns-clause-here : goal.returns-clause-here
returns-clause-here c =
    let old = c.loop.touched.items in
    let all : c.args.place ≡ length old = omega (arith, c.loop.invariant.count, c.loop.invariant.most, c.loop-test.false) in
    ap (λ (xs : List Bool). is_touched (slice_get xs c.args.place)) c.in_ok-push-2.ensures.items ∙ push_here old true c.args.place all

pub returns-clause-few : goal.returns-clause-few
returns-clause-few c =
    let old = c.loop.touched.items in
    let more = length-append old (true ∷ []) in
    omega (arith, ap length c.in_ok-push-2.ensures.items, more, c.loop.invariant.count, c.loop.invariant.most, c.loop-test.false)
