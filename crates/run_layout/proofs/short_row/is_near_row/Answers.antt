use Rattle.std.proofs.Common.{◌≡◌, ◌∙◌, ◌+◌, ◌-◌, ◌||◌, inr, suc, Some, None, false, get_or, slice_get, refl, sym, ap, subst, arith}
use Rattle.std.proofs.lemmas.Bool.{or_parts}
use Rattle.std.proofs.lemmas.Option.{slice_get-get_or}
use Rattle.line_tokens.specs.Columns.{columns}
use Rattle.line_tokens.specs.Roles.{is_own, is_trailing}
use Rattle.line_tokens.specs.Tokens.{no_token}
use Rattle.layout_tables.specs.Breaks.{ends_its_row, gap_rule}
use Rattle.layout_tables.specs.Told.{group_behind}
use Rattle.run_layout.proofs.NearRows.{IsRowTo, near_begins, near_ends, near_goes_on}
use Rattle.run_layout.proofs.RowRoles.{no_break}
use Rattle.run_layout.proofs.RowSteps.{row_begins_free}
use Rattle.run_layout.proofs.short_row.is_near_row.Goals as goal

pub loop-at-init : goal.loop-at-init
loop-at-init c =
    let style = c.args.style.now in
    let tokens = c.args.tokens.now in
    let column = c.args.column in
    let left = get_or tokens 0 no_token in
    let there : slice_get tokens 0 ≡ Some left = slice_get-get_or tokens 0 no_token c.requires.some in
    record {
      from = omega arith;
      kind = c.kind-kind.ensures no_token;
      behind = c.groups_of-behind.ensures.behind ∙ ap group_behind (c.role.ensures no_token);
      row = λ line is. subst (λ x. IsRowTo line 0 x) (sym c.end_at-end.ensures) (near_begins line style column tokens is left c.requires.some there);
      free = λ line is. row_begins_free line style column tokens None is left column c.requires.some there refl (λ none. inr (c.fits_at.ensures c.if-not-fits_at.false));
    }

pub loop-at-preserved : goal.loop-at-preserved
loop-at-preserved c =
    let at = c.loop-at.at in
    let v = c.loop-at.invariant in
    let style = c.args.style.now in
    let tokens = c.args.tokens.now in
    let here : at + 1 - 1 ≡ at = omega arith in
    let next : suc (at - 1) ≡ at = omega (arith, v.from) in
    let placed : at - 1 + 1 ≡ at + 1 - 1 = omega (arith, v.from) in
    let left = get_or tokens (at - 1) no_token in
    let right = get_or tokens at no_token in
    let there : slice_get tokens at ≡ Some right = slice_get-get_or tokens at no_token (omega (arith, c.loop-at-test.true, c.len-at-end.ensures)) in
    let before : slice_get tokens (at - 1) ≡ Some left = slice_get-get_or tokens (at - 1) no_token (omega (arith, v.from, c.loop-at-test.true, c.len-at-end.ensures)) in
    let parts = or_parts _ _ c.if-ends_row-is_own_or_trailing.false in
    let ends : (right.trailing_list || ends_its_row left.kind) ≡ false =
    ap (λ b. b || ends_its_row left.kind) (sym (c.is_in_trailing_list.ensures no_token)) ∙ (ap (λ k. c.is_in_trailing_list.result || ends_its_row k) (sym v.kind) ∙ (sym c.ends_row.ensures ∙ parts.0)) in
    let waits : (is_own right.role || is_trailing right.role) ≡ false = ap (λ r. is_own r || is_trailing r) (sym (c.role-in-loop-at.ensures no_token)) ∙ (sym c.is_own_or_trailing.ensures ∙ parts.1) in
    let roles = or_parts _ _ waits in
    let stays : (gap_rule style left right).must ≡ false = no_break style left right (c.requires.together at no_token (omega (arith, v.from)) (omega (arith, c.loop-at-test.true, c.len-at-end.ensures))) ends roles.0 c.requires.limit in
    record {
      from = omega arith;
      kind = c.kind-kind-in-loop-at.ensures no_token ∙ ap (λ i. (get_or tokens i no_token).kind) (sym here);
      behind = c.groups_of-groups.ensures.behind ∙ ap group_behind (c.role-in-loop-at-2.ensures no_token ∙ ap (λ i. (get_or tokens i no_token).role) (sym here));
      row = λ line is.
          subst (λ n. IsRowTo line n c.end_at-end-in-loop-at.result) placed
          (near_goes_on line style c.args.column tokens is (at - 1) c.loop-at.end c.saturating_add-start.result c.end_at-end-in-loop-at.result left right (v.row line is) before
          (ap (λ i. slice_get tokens i) next ∙ there) stays
          (c.saturating_add-start.ensures ∙ ap (λ x. columns c.loop-at.end x) (c.from-spaces.ensures ∙ c.spaces_at.ensures)) (c.fits_at-in-loop-at.ensures c.if-not-fits_at-2.false)
          (omega (arith, v.from, c.loop-at-test.true, c.len-at-end.ensures, c.requires.few)) c.end_at-end-in-loop-at.ensures);
      free = v.free;
    }

pub returns : goal.returns
returns c = λ yes line budget rich is.
    let v = c.loop-at.invariant in
    near_ends line c.args.style.now c.args.column c.args.tokens.now is budget (c.loop-at.at - 1) c.loop-at.end (v.row line is)
    (omega (arith, v.from, c.loop-at-test.false, c.len-at-end.ensures, c.loop-at.auto.at-end (omega (arith, c.len-at-end.ensures, c.requires.some)))) c.requires.few rich (v.free line is)
