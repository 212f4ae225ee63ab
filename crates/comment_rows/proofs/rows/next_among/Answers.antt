use Rattle.std.proofs.Common.{◌≡◌, ◌∙◌, ◌+◌, ◌<◌, ap, arith, false, get_or, length, nat_eq, sym, true}
use Rattle.line_tokens.specs.Roles.{is_trailing}
use Rattle.line_tokens.specs.Tokens.{no_token}
use Rattle.replacements.specs.Decisions.{slot_of}
use Rattle.comment_rows.specs.Comments.{rows_before}
use Rattle.comment_rows.proofs.NextRows.{next_found, next_goes_on, next_stops, next_told}
use Rattle.comment_rows.proofs.rows.next_among.Goals as goal

pub returns-then-is_behind_directive-clause-told : goal.returns-then-is_behind_directive-clause-told
returns-then-is_behind_directive-clause-told c = λ later.
    next_told c.args.plan.now c.args.row.now later c.loop-at.at c.loop-at.ended no_token (omega (arith, c.loop-at-test.true, c.len-at-end.ensures)) (sym (c.is_behind_directive.ensures no_token) ∙ c.if-is_behind_directive.true)
    ∙ c.loop-at.invariant.rest later

pub slot-requires : goal.slot-requires
slot-requires c =
    omega (arith, c.id.ensures no_token, c.requires.within c.loop-at.at no_token (omega (arith, c.loop-at-test.true, c.len-at-end.ensures)))

pub returns-then-is_trailing-clause-told : goal.returns-then-is_trailing-clause-told
returns-then-is_trailing-clause-told c = λ later.
    let plan = c.args.plan.now in
    let token = get_or c.args.row.now c.loop-at.at no_token in
    let below : c.loop-at.at < length c.args.row.now = omega (arith, c.loop-at-test.true, c.len-at-end.ensures) in
    let slot_is : c.slot.result ≡ slot_of plan token.id.0 = c.slot.ensures ∙ ap (λ n. slot_of plan n) (c.id.ensures no_token) in
    let rows_is : c.from.result ≡ rows_before (slot_of plan token.id.0) token = c.from.ensures ∙ (c.rows_before.ensures no_token ∙ ap (λ slot. rows_before slot token) slot_is) in
    let trailing : is_trailing token.role ≡ true = sym (c.is_trailing.ensures ∙ ap (λ role. is_trailing role) (c.role.ensures no_token)) ∙ c.if-is_trailing.true in
    ap (λ n. nat_eq (c.loop-at.ended + n) 1) rows_is
    ∙ (next_found plan c.args.row.now later c.loop-at.at c.loop-at.ended no_token below (sym (c.is_behind_directive.ensures no_token) ∙ c.if-is_behind_directive.false) trailing
    ∙ c.loop-at.invariant.rest later)

pub returns-then-ended-gt1-clause-told : goal.returns-then-ended-gt1-clause-told
returns-then-ended-gt1-clause-told c = λ later.
    let plan = c.args.plan.now in
    let token = get_or c.args.row.now c.loop-at.at no_token in
    let below : c.loop-at.at < length c.args.row.now = omega (arith, c.loop-at-test.true, c.len-at-end.ensures) in
    let slot_is : c.slot.result ≡ slot_of plan token.id.0 = c.slot.ensures ∙ ap (λ n. slot_of plan n) (c.id.ensures no_token) in
    let trailing : is_trailing token.role ≡ false = sym (c.is_trailing.ensures ∙ ap (λ role. is_trailing role) (c.role.ensures no_token)) ∙ c.if-is_trailing.false in
    sym (next_stops plan c.args.row.now later c.loop-at.at c.loop-at.ended no_token c.slot.result below (sym (c.is_behind_directive.ensures no_token) ∙ c.if-is_behind_directive.false) trailing slot_is
    (omega (arith, c.rows_before.ensures no_token, c.from.ensures, c.saturating_sub.ensures, c.from-in-loop-at.ensures, c.extent.ensures.rows no_token, c.if-ended-gt1.true)))
    ∙ c.loop-at.invariant.rest later

pub loop-at-preserved : goal.loop-at-preserved
loop-at-preserved c =
    let plan = c.args.plan.now in
    let token = get_or c.args.row.now c.loop-at.at no_token in
    let below : c.loop-at.at < length c.args.row.now = omega (arith, c.loop-at-test.true, c.len-at-end.ensures) in
    let slot_is : c.slot.result ≡ slot_of plan token.id.0 = c.slot.ensures ∙ ap (λ n. slot_of plan n) (c.id.ensures no_token) in
    let rows_is : c.from.result ≡ rows_before (slot_of plan token.id.0) token = c.from.ensures ∙ (c.rows_before.ensures no_token ∙ ap (λ slot. rows_before slot token) slot_is) in
    let trailing : is_trailing token.role ≡ false = sym (c.is_trailing.ensures ∙ ap (λ role. is_trailing role) (c.role.ensures no_token)) ∙ c.if-is_trailing.false in
    record {
      short = omega (arith, c.if-ended-gt1.false);
      rest = λ later.
          next_goes_on plan c.args.row.now later c.loop-at.at c.loop-at.ended (c.loop-at.ended + c.from.result + c.from-in-loop-at.result) no_token below (sym (c.is_behind_directive.ensures no_token) ∙ c.if-is_behind_directive.false) trailing
          (omega (arith, rows_is, c.saturating_sub.ensures, c.from-in-loop-at.ensures, c.extent.ensures.rows no_token))
          ∙ c.loop-at.invariant.rest later;
    }
