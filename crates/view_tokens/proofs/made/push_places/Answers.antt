use Rattle.std.proofs.Common.{◌≡◌, ◌∙◌, ◌+◌, ◌++◌, List, length, get_or, drop, ap, sym, refl, arith}
use Rattle.line_tokens.specs.declared.LineTok.{LineTok}
use Rattle.item_classes.specs.Items.{stands_apart}
use Rattle.view_tokens.specs.Tokens.{toks_from}
use Rattle.view_tokens.proofs.Starts.{start_within}
use Rattle.view_tokens.proofs.made.push_places.Goals as goal

pub loop-at-init : goal.loop-at-init
loop-at-init c =
    let first = c.args.first in
    let marks = c.args.marks.now in
    let toks = c.args.toks.now.items in
    let here : first + 0 ≡ first = omega arith in
    let none : length toks ≡ 0 = ap length c.requires.none in
    record {
      until = omega arith;
      count = none;
      room = refl;
      same = ap (λ (ts : List LineTok). ts ++ toks_from c.args.arena.now c.args.view.now (first + length ts) (drop (length ts) marks)) c.requires.none
          ∙ ap (λ n. toks_from c.args.arena.now c.args.view.now n marks) here;
      told = λ d some. absurd (omega (arith, none, some));
    }

pub overflow_add-stretch : goal.overflow_add-stretch
overflow_add-stretch c =
    omega (arith, c.len-items.ensures.most, c.len-items.ensures.count, start_within c.args.arena.now c.args.view.now (c.args.first + c.loop-at.at) c.min-taken.result c.row_start-start.result c.requires.within (omega (arith, c.min-taken.ensures, c.row_start-start.ensures.some, c.loop-at-test.true, c.requires.count, c.requires.places)) (omega (arith, c.min-taken.ensures, c.row_start-start.ensures.some, c.loop-at-test.true)) (omega (arith, c.min-taken.ensures)) c.row_start-start.ensures)

pub push_stretch-requires-clause-within : goal.push_stretch-requires-clause-within
push_stretch-requires-clause-within c = start_within c.args.arena.now c.args.view.now (c.args.first + c.loop-at.at) c.min-taken.result c.row_start-start.result c.requires.within (omega (arith, c.min-taken.ensures, c.row_start-start.ensures.some, c.loop-at-test.true, c.requires.count, c.requires.places)) (omega (arith, c.min-taken.ensures, c.row_start-start.ensures.some, c.loop-at-test.true)) (omega (arith, c.min-taken.ensures)) c.row_start-start.ensures

pub push_stretch-requires-clause-places : goal.push_stretch-requires-clause-places
push_stretch-requires-clause-places c = omega (arith, c.loop-at.invariant.count, c.min-taken.ensures, c.row_start-start.ensures.some, c.loop-at-test.true, c.requires.count)

pub push_stretch-requires-clause-items : goal.push_stretch-requires-clause-items
push_stretch-requires-clause-items c = λ j below.
    ap (λ n. get_or c.args.view.now (c.args.first + n + j) 0) c.loop-at.invariant.count ∙ c.row_start-start.ensures.items j (omega (arith, below, c.min-taken.ensures))

pub push_stretch-requires-clause-apart : goal.push_stretch-requires-clause-apart
push_stretch-requires-clause-apart c = c.row_start-start.ensures.apart ∙ ap (λ n. stands_apart c.args.view.now (c.args.first + n)) (sym c.loop-at.invariant.count)

pub push_stretch-requires-clause-room : goal.push_stretch-requires-clause-room
push_stretch-requires-clause-room c =
    omega (arith, c.loop-at.invariant.count, c.loop-at.invariant.room, c.min-taken.ensures, c.row_start-start.ensures.some, c.loop-at-test.true, c.requires.room)

pub loop-at-preserved : goal.loop-at-preserved
loop-at-preserved c =
    let v = c.loop-at.invariant in
    record {
      until = omega (arith, c.min-taken.ensures, c.row_start-start.ensures.some, c.loop-at-test.true);
      count = c.push_stretch.ensures.count ∙ omega (arith, v.count);
      room = c.push_stretch.ensures.room ∙ v.room;
      same = c.push_stretch.ensures.tokens ∙ v.same;
      told = c.push_stretch.ensures.told;
    }
