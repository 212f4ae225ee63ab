use Rattle.std.proofs.Common.{◌≡◌, ◌∙◌, ◌<◌, ◌+◌, ◌-◌, Some, None, length, sym, ap, subst, arith}
use Rattle.line_tokens.specs.declared.TokenId.{TokenId}
use Rattle.part_walk.specs.declared.walk.Walk.{Walk}
use Rattle.view_parts.specs.Quiet.{PassesQuiet, is_held}
use Rattle.view_parts.proofs.QuietPassed.{behind_so, item_behind, none_passed, passes_so, placed, quiet_by_number, row_ends, within_all}
use Rattle.view_parts.proofs.RowParts.{some_is}
use Rattle.view_parts.proofs.Rows.{row_stored}
use Rattle.view_parts.proofs.ends.pass_quiet.Goals as goal

pub quiet_from-quiet-requires-clause-within : goal.quiet_from-quiet-requires-clause-within
quiet_from-quiet-requires-clause-within c = row_stored c.args.source.now.view.now (c.args.first + c.args.walk.now.place) (length c.args.source.now.classes.now) c.item_at-id.new.row c.requires.items c.item_at-id.ensures.some c.item_at-id.ensures.row

pub bounds-all-id : goal.bounds-all-id
bounds-all-id c =
    let stored = row_stored c.args.source.now.view.now (c.args.first + c.args.walk.now.place) (length c.args.source.now.classes.now) c.item_at-id.new.row c.requires.items c.item_at-id.ensures.some c.item_at-id.ensures.row in
    omega (arith, stored, c.item_at-id.ensures.shift, c.item_at-id.ensures.some)

pub overflow_add-last : goal.overflow_add-last
overflow_add-last c =
    let stored = row_stored c.args.source.now.view.now (c.args.first + c.args.walk.now.place) (length c.args.source.now.classes.now) c.item_at-id.new.row c.requires.items c.item_at-id.ensures.some c.item_at-id.ensures.row in
    omega (arith, stored, c.requires.fits, c.item_at-id.ensures.shift, c.quiet_from-quiet.ensures.within, c.if-quiet-eq0.false)

pub bounds-all-last : goal.bounds-all-last
bounds-all-last c =
    let stored = row_stored c.args.source.now.view.now (c.args.first + c.args.walk.now.place) (length c.args.source.now.classes.now) c.item_at-id.new.row c.requires.items c.item_at-id.ensures.some c.item_at-id.ensures.row in
    omega (arith, stored, c.item_at-id.ensures.shift, c.quiet_from-quiet.ensures.within, c.if-quiet-eq0.false)

pub pass_quiet-requires : goal.pass_quiet-requires
pass_quiet-requires c =
    let stored = row_stored c.args.source.now.view.now (c.args.first + c.args.walk.now.place) (length c.args.source.now.classes.now) c.item_at-id.new.row c.requires.items c.item_at-id.ensures.some c.item_at-id.ensures.row in
    omega (arith, stored, c.requires.fits, c.item_at-id.ensures.shift, c.quiet_from-quiet.ensures.within, c.if-quiet-eq0.false)

none_id : (id : TokenId) → Some id ≡ None → ⊥
none_id id e = cc

pub returns-then-may_end : goal.returns-then-may_end
returns-then-may_end c =
    let at = c.item_at-id.ensures in
    record {
      row = at.row;
      some = at.some;
      place = omega arith;
      within = omega (arith, at.some);
      quiet = none_passed c.args.source.now.classes.now c.args.around c.args.walk.now _;
      behind = λ none. absurd (none_id _ none);
      below = λ next is. at.some;
      item = λ next is. ap (λ (id : TokenId). id.0) (sym (some_is _ _ is)) ∙ at.shift;
    }

pub returns-then-not-is_quiet : goal.returns-then-not-is_quiet
returns-then-not-is_quiet c =
    let at = c.item_at-id.ensures in
    record {
      row = at.row;
      some = at.some;
      place = omega arith;
      within = omega (arith, at.some);
      quiet = none_passed c.args.source.now.classes.now c.args.around c.args.walk.now _;
      behind = λ none. absurd (none_id _ none);
      below = λ next is. at.some;
      item = λ next is. ap (λ (id : TokenId). id.0) (sym (some_is _ _ is)) ∙ at.shift;
    }

pub returns-then-quiet-eq0 : goal.returns-then-quiet-eq0
returns-then-quiet-eq0 c =
    let at = c.item_at-id.ensures in
    record {
      row = at.row;
      some = at.some;
      place = omega arith;
      within = omega (arith, at.some);
      quiet = none_passed c.args.source.now.classes.now c.args.around c.args.walk.now _;
      behind = λ none. absurd (none_id _ none);
      below = λ next is. at.some;
      item = λ next is. ap (λ (id : TokenId). id.0) (sym (some_is _ _ is)) ∙ at.shift;
    }

pub returns-then-first-walk : goal.returns-then-first-walk
returns-then-first-walk c =
    let walk = c.args.walk.now in
    let around = c.args.around in
    let all = c.args.source.now.classes.now in
    let id = c.item_at-id.result.0 in
    let row = c.item_at-id.new.row in
    let at = c.item_at-id.ensures in
    let told = c.quiet_from-quiet.ensures in
    let n = c.quiet_from-quiet.result in
    let next = c.pass_quiet.new.self in
    let some : 0 < n = omega (arith, c.if-quiet-eq0.false) in
    let stored = row_stored c.args.source.now.view.now (c.args.first + walk.place) (length all) row c.requires.items at.some at.row in
    let place : next.place ≡ walk.place + n = ap (λ (w : Walk). w.place) c.pass_quiet.ensures ∙ placed walk around _ _ _ in
    let behind = behind_so c.args.first walk.place n next.place row.end place told.within in
    let never = sym c.may_end.ensures ∙ c.if-may_end.false in
    let quiet = quiet_by_number all around (is_held walk) c.args.first walk.place n row.shift id at.shift told.quiet in
    let past = passes_so all around walk id n next some (within_all c.args.first walk.place n row.end row.shift id (length all) at.shift told.within stored) c.pass_quiet.ensures never told.low quiet in
    record {
      row = at.row;
      some = at.some;
      place = behind.later;
      within = behind.within;
      quiet = subst (λ j. PassesQuiet all around walk j (next.place - walk.place) next) at.shift past;
      behind = λ none. row_ends c.args.first next.place row.end behind.within c.if-first-walk.true;
      below = λ later is. absurd (none_id later (sym is));
      item = λ later is. absurd (none_id later (sym is));
    }

pub returns : goal.returns
returns c =
    let walk = c.args.walk.now in
    let around = c.args.around in
    let all = c.args.source.now.classes.now in
    let id = c.item_at-id.result.0 in
    let row = c.item_at-id.new.row in
    let at = c.item_at-id.ensures in
    let told = c.quiet_from-quiet.ensures in
    let n = c.quiet_from-quiet.result in
    let next = c.pass_quiet.new.self in
    let some : 0 < n = omega (arith, c.if-quiet-eq0.false) in
    let stored = row_stored c.args.source.now.view.now (c.args.first + walk.place) (length all) row c.requires.items at.some at.row in
    let place : next.place ≡ walk.place + n = ap (λ (w : Walk). w.place) c.pass_quiet.ensures ∙ placed walk around _ _ _ in
    let behind = behind_so c.args.first walk.place n next.place row.end place told.within in
    let never = sym c.may_end.ensures ∙ c.if-may_end.false in
    let quiet = quiet_by_number all around (is_held walk) c.args.first walk.place n row.shift id at.shift told.quiet in
    let past = passes_so all around walk id n next some (within_all c.args.first walk.place n row.end row.shift id (length all) at.shift told.within stored) c.pass_quiet.ensures never told.low quiet in
    record {
      row = at.row;
      some = at.some;
      place = behind.later;
      within = behind.within;
      quiet = subst (λ j. PassesQuiet all around walk j (next.place - walk.place) next) at.shift past;
      behind = λ none. absurd (none_id _ none);
      below = λ later is. c.if-first-walk.false;
      item = λ later is. ap (λ (id : TokenId). id.0) (sym (some_is _ _ is)) ∙ item_behind c.args.first walk.place n next.place row.shift id place some at.shift;
    }
