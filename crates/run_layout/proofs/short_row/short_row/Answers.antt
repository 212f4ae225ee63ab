use Rattle.std.proofs.Common.{inr, Some, None, get_or, true, false, ◌≤◌, ◌≡◌, ◌∙◌, ◌+◌, ◌-◌, ◌||◌, suc, slice_get, refl, sym, ap, subst, arith, length}
use Rattle.std.proofs.lemmas.Bool.{or_parts}
use Rattle.line_tokens.specs.Roles.{is_own, is_trailing}
use Rattle.line_tokens.specs.Columns.{end_of}
use Rattle.line_tokens.specs.Tokens.{no_token}
use Rattle.layout_tables.specs.Breaks.{ends_its_row, gap_rule}
use Rattle.run_layout.specs.OneRow.{IsOneRowUpTo, open_behind, width_to}
use Rattle.run_layout.proofs.ShortRows.{all_stand, one_waits, stand_more, width_more}
use Rattle.run_layout.proofs.RowRoles.{no_break, trails}
use Rattle.run_layout.proofs.RowSteps.{row_begins, row_begins_free, row_ends}
use Rattle.std.proofs.lemmas.Option.{slice_get-get_or, slice_get_within}
use Rattle.line_gaps.proofs.Inside.{inside_more, open_told}
use Rattle.replacements.specs.Decisions.{slot_of}
use Rattle.run_layout.proofs.RowBounds.{comment_ends, end_within, frames_within, goes_on_up_to}
use Rattle.run_layout.proofs.short_row.short_row.Goals as goal

pub loop-at-init : goal.loop-at-init
loop-at-init c =
    let left = get_or c.args.tokens.now 0 no_token in
    let column = c.args.column in
    let most = column + c.most_width.result in
    let there : slice_get c.args.tokens.now 0 ≡ Some left = slice_get-get_or c.args.tokens.now 0 no_token c.requires.some in
    let near : end_of left column ≤ most = end_within left column column most (omega arith) (omega (arith, c.most_width.ensures.last)) in
    let none : width_to c.args.tokens.now (1 - 1) ≡ 0 = refl in
    record {
      stand = λ i token some within. absurd (omega (arith, some, within));
      widths = omega (arith, none, near, c.from.ensures, c.from-2.ensures);
      inside = λ i token some within. absurd (omega (arith, some, within));
      from = omega arith;
      kind = c.kind-kind.ensures no_token;
      few = omega (arith, c.from.ensures, c.from-2.ensures);
      row = λ line is fits. record {
        column = end_of left column;
        frames = open_behind 0 left;
        count = open_behind 0 left + 1;
        row = row_begins line c.args.style.now column c.args.tokens.now None is left column (end_of left column) (open_behind 0 left) _ c.requires.some there refl refl refl refl;
        within = omega (arith, near, c.from.ensures, c.from-2.ensures);
        few = omega (arith, frames_within 0 left);
        cheap = omega (arith, frames_within 0 left);
      };
      first = omega (arith, c.most_width.ensures.first, c.from.ensures, c.from-2.ensures);
      free = λ line is fits. row_begins_free line c.args.style.now column c.args.tokens.now None is left column c.requires.some there refl (λ none. inr (omega (arith, fits)));
    }

pub loop-at-preserved : goal.loop-at-preserved
loop-at-preserved c =
    let at = c.loop-at.at in
    let v = c.loop-at.invariant in
    let here : at + 1 - 1 ≡ at = omega arith in
    let next : suc (at - 1) ≡ at = omega (arith, v.from) in
    let placed : at - 1 + 1 ≡ at + 1 - 1 = omega (arith, v.from) in
    let left = get_or c.args.tokens.now (at - 1) no_token in
    let right = get_or c.args.tokens.now at no_token in
    let there : slice_get c.args.tokens.now at ≡ Some right = slice_get-get_or c.args.tokens.now at no_token (omega (arith, c.loop-at-test.true, c.len-at-end.ensures)) in
    let before : slice_get c.args.tokens.now (at - 1) ≡ Some left = slice_get-get_or c.args.tokens.now (at - 1) no_token (omega (arith, v.from, c.loop-at-test.true, c.len-at-end.ensures)) in
    let parts = or_parts _ _ c.if-ends_row-is_own_or_trailing.false in
    let ends : (right.trailing_list || ends_its_row left.kind) ≡ false =
    ap (λ b. b || ends_its_row left.kind) (sym (c.is_in_trailing_list.ensures no_token)) ∙ (ap (λ k. c.is_in_trailing_list.result || ends_its_row k) (sym v.kind) ∙ (sym c.ends_row.ensures ∙ parts.0)) in
    let waits : (is_own right.role || is_trailing right.role) ≡ false = ap (λ r. is_own r || is_trailing r) (sym (c.role.ensures no_token)) ∙ (sym c.is_own_or_trailing.ensures ∙ parts.1) in
    let roles = or_parts _ _ waits in
    let stays : (gap_rule c.args.style.now left right).must ≡ false = no_break c.args.style.now left right (c.requires.together at no_token (omega (arith, v.from)) (omega (arith, c.loop-at-test.true, c.len-at-end.ensures))) ends roles.0 c.requires.limit in
    let places : is_trailing right.role ≡ false = roles.1 in
    let number : (get_or c.args.tokens.now at no_token).id.0 ≡ c.id.result = sym (c.id.ensures no_token) in
    let width = c.from-least.result in
    let most = c.loop-at.least + (at - 1) in
    let grown = c.loop-at.least + width + (at + 1 - 1) in
    record {
      from = omega arith;
      kind = c.kind-kind-in-loop-at.ensures no_token ∙ ap (λ i. (get_or c.args.tokens.now i no_token).kind) (sym here);
      few = omega (arith, v.few);
      row = λ line is fits.
          subst (λ n. IsOneRowUpTo line n grown) placed
          (goes_on_up_to line c.args.style.now c.args.column c.args.tokens.now None is (at - 1) most grown left right (v.row line is (omega (arith, v.from, fits))) before
          (ap (λ i. slice_get c.args.tokens.now i) next ∙ there) stays places (omega (arith, v.from, fits, c.most_width-in-loop-at.ensures.first, c.from-least.ensures))
          (omega (arith, v.from, c.loop-at-test.true, c.len-at-end.ensures, c.requires.few)) (omega (arith, v.from, c.most_width-in-loop-at.ensures.last, c.from-least.ensures)));
      inside = inside_more c.args.plan.now c.args.tokens.now at right v.inside there
          (ap (slot_of c.args.plan.now) number ∙ open_told (slot_of c.args.plan.now c.id.result) c.is_decided.result c.is_decided.ensures c.if-is_decided.false);
      stand = stand_more c.args.tokens.now at right v.stand there places;
      widths = width_more c.args.tokens.now (end_of (get_or c.args.tokens.now 0 no_token) c.args.column) at most grown right v.from there v.widths
          (omega (arith, v.from, c.most_width-in-loop-at.ensures.last, c.from-least.ensures));
      first = omega (arith, v.first);
      free = v.free;
    }

pub returns-then-most-limit-clause-inside : goal.returns-then-most-limit-clause-inside
returns-then-most-limit-clause-inside c = λ i token some is. c.loop-at.invariant.inside i token some (omega (arith, c.loop-at-test.false, c.len-at-end.ensures, slice_get_within c.args.tokens.now i token is)) is

pub returns-then-most-limit-clause-row : goal.returns-then-most-limit-clause-row
returns-then-most-limit-clause-row c = λ line budget rich is.
    let v = c.loop-at.invariant in
    let all : suc (c.loop-at.at - 1) ≡ length c.args.tokens.now = omega (arith, v.from, c.loop-at-test.false, c.len-at-end.ensures, c.loop-at.auto.at-end (omega (arith, c.len-at-end.ensures, c.requires.some))) in
    let fits : c.loop-at.least + (c.loop-at.at - 1) ≤ c.args.style.now.column_limit = omega (arith, all, c.if-most-limit.true, c.from-limit.ensures, c.len-count.ensures) in
    let row = v.row line is fits in
    row_ends line c.args.style.now c.args.column c.args.tokens.now None is budget (c.loop-at.at - 1) row.column row.frames row.count row.row all
    (omega (arith, row.cheap, all, c.requires.few, rich)) (v.free line is (omega (arith, v.first, fits)))

pub returns-then-most-limit-clause-short : goal.returns-then-most-limit-clause-short
returns-then-most-limit-clause-short c =
    let v = c.loop-at.invariant in
    let all : c.loop-at.at ≡ length c.args.tokens.now = omega (arith, v.from, c.loop-at-test.false, c.len-at-end.ensures, c.loop-at.auto.at-end (omega (arith, c.len-at-end.ensures, c.requires.some))) in
    all_stand c.args.tokens.now (end_of (get_or c.args.tokens.now 0 no_token) c.args.column) c.loop-at.at c.len-count.result (c.loop-at.least + (c.loop-at.at - 1)) c.requires.some all c.len-count.ensures v.stand v.widths
    (omega (arith, all, c.if-most-limit.true, c.from-limit.ensures, c.len-count.ensures, c.requires.range.column_limit))

pub returns-then-is_near_row-clause-inside : goal.returns-then-is_near_row-clause-inside
returns-then-is_near_row-clause-inside c = λ i token some is. c.loop-at.invariant.inside i token some (omega (arith, c.loop-at-test.false, c.len-at-end.ensures, slice_get_within c.args.tokens.now i token is)) is

pub returns-then-is_near_row-clause-row : goal.returns-then-is_near_row-clause-row
returns-then-is_near_row-clause-row c = c.is_near_row.ensures c.if-is_near_row.true

pub returns-then-is_near_row-clause-short : goal.returns-then-is_near_row-clause-short
returns-then-is_near_row-clause-short c =
    let v = c.loop-at.invariant in
    let all : c.loop-at.at ≡ length c.args.tokens.now = omega (arith, v.from, c.loop-at-test.false, c.len-at-end.ensures, c.loop-at.auto.at-end (omega (arith, c.len-at-end.ensures, c.requires.some))) in
    all_stand c.args.tokens.now (end_of (get_or c.args.tokens.now 0 no_token) c.args.column) c.loop-at.at c.len-count.result (c.loop-at.least + (c.loop-at.at - 1)) c.requires.some all c.len-count.ensures v.stand v.widths
    (omega (arith, all, c.if-most-gt-MOST_COLUMNS.false, c.len-count.ensures))

pub returns-then-ends_row-is_own_or_trailing-clause-row : goal.returns-then-ends_row-is_own_or_trailing-clause-row
returns-then-ends_row-is_own_or_trailing-clause-row c = λ line budget rich is.
    let v = c.loop-at.invariant in
    let at = c.loop-at.at in
    let fits : c.loop-at.least + (at - 1) ≤ c.args.style.now.column_limit = omega (arith, v.from, c.if-least-at.false, c.from-limit.ensures) in
    let next : suc (at - 1) ≡ at = omega (arith, v.from) in
    let left = get_or c.args.tokens.now (at - 1) no_token in
    let right = get_or c.args.tokens.now at no_token in
    let there : slice_get c.args.tokens.now at ≡ Some right = slice_get-get_or c.args.tokens.now at no_token (omega (arith, c.loop-at-test.true, c.len-at-end.ensures)) in
    let before : slice_get c.args.tokens.now (at - 1) ≡ Some left = slice_get-get_or c.args.tokens.now (at - 1) no_token (omega (arith, v.from, c.loop-at-test.true, c.len-at-end.ensures)) in
    let last : at + 1 ≡ length c.args.tokens.now = c.ends_waiting.ensures.last c.if-not-ends_waiting.false in
    let waits : is_trailing right.role ≡ true = c.ends_waiting.ensures.waits c.if-not-ends_waiting.false in
    let ends : (right.trailing_list || ends_its_row left.kind) ≡ false = ap (λ b. b || ends_its_row left.kind) (c.ends_waiting.ensures.apart c.if-not-ends_waiting.false) ∙ c.ends_waiting.ensures.goes_on c.if-not-ends_waiting.false in
    let stays = no_break c.args.style.now left right (c.requires.together at no_token (omega (arith, v.from)) (omega (arith, c.loop-at-test.true, c.len-at-end.ensures))) ends (trails right.role waits) c.requires.limit in
    comment_ends line c.args.style.now c.args.column c.args.tokens.now None is budget (at - 1) (c.loop-at.least + (at - 1)) left right (v.row line is fits) before
    (ap (λ i. slice_get c.args.tokens.now i) next ∙ there) stays waits (omega (arith, v.from, last))
    c.requires.few rich (v.free line is (omega (arith, v.first, fits)))

pub returns-then-ends_row-is_own_or_trailing-clause-short : goal.returns-then-ends_row-is_own_or_trailing-clause-short
returns-then-ends_row-is_own_or_trailing-clause-short c =
    let v = c.loop-at.invariant in
    let at = c.loop-at.at in
    let fits : c.loop-at.least + (at - 1) ≤ c.args.style.now.column_limit = omega (arith, v.from, c.if-least-at.false, c.from-limit.ensures) in
    let right = get_or c.args.tokens.now at no_token in
    let there : slice_get c.args.tokens.now at ≡ Some right = slice_get-get_or c.args.tokens.now at no_token (omega (arith, c.loop-at-test.true, c.len-at-end.ensures)) in
    let last : at + 1 ≡ length c.args.tokens.now = c.ends_waiting.ensures.last c.if-not-ends_waiting.false in
    record {
      some = omega (arith, v.from);
      within = omega (arith, last);
      stand = v.stand;
      wait = one_waits c.args.tokens.now at right there last (c.ends_waiting.ensures.waits c.if-not-ends_waiting.false);
      few = omega (arith, v.widths, fits, c.requires.range.column_limit);
    }

pub ends_waiting-requires : goal.ends_waiting-requires
ends_waiting-requires c = record {
  some = omega (arith, c.loop-at.invariant.from);
  short = c.requires.few;
  within = omega (arith, c.loop-at-test.true, c.len-at-end.ensures);
}
