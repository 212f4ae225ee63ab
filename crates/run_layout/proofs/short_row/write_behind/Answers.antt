use Rattle.std.proofs.Common.{◌≡◌, ◌∙◌, ◌+◌, ◌-◌, ◌≤◌, ℕ, Bool, Some, true, List, drop, get_or, slice_get, subst, sym, ap, arith}
use Rattle.std.specs.Prelude.{All, if◌then◌else◌}
use Rattle.std.proofs.lemmas.Option.{slice_get-get_or}
use Rattle.line_tokens.specs.Tokens.{no_token}
use Rattle.layout_tables.specs.Told.{group_behind}
use Rattle.line_tokens.specs.Columns.{columns, end_of}
use Rattle.line_tokens.specs.Roles.{is_trailing}
use Rattle.replacements.specs.Decisions.{decided, decided_all}
use Rattle.replacements.specs.declared.gap_text.Decision.TheVariants.{Spaces}
use Rattle.replacements.specs.declared.slot.Slot.{Slot}
use Rattle.run_layout.specs.OneRow.{row_made}
use Rattle.run_layout.proofs.RowBounds.{end_within, one_at_most}
use Rattle.run_layout.proofs.RowSteps.{row_written}
use Rattle.run_layout.proofs.ShortRows.{none_stand, starts_near, width_at}
use Rattle.run_layout.proofs.short_row.write_behind.Goals as goal

pub overflow_add-start : goal.overflow_add-start
overflow_add-start c =
    let v = c.loop-at.invariant in
    let at = c.loop-at.at in
    let tokens = c.args.tokens.now in
    let left = get_or tokens (at - 1) no_token in
    let right = get_or tokens at no_token in
    let there : slice_get tokens at ≡ Some right = slice_get-get_or tokens at no_token (omega (arith, c.loop-at-test.true, c.requires.short.within)) in
    let near : c.loop-at.column + c.in-Some.spaces + right.last_width ≤ 1000 =
    starts_near c.args.style.now tokens c.args.column c.args.count at c.loop-at.column c.in-Some.spaces left right c.requires.short v.from c.loop-at-test.true there v.near c.in-Some.ensures in
    omega (arith, near, c.from-in-loop-at.ensures)

pub near_end_at-end-requires-clause-near : goal.near_end_at-end-requires-clause-near
near_end_at-end-requires-clause-near c =
    let v = c.loop-at.invariant in
    let at = c.loop-at.at in
    let tokens = c.args.tokens.now in
    let left = get_or tokens (at - 1) no_token in
    let right = get_or tokens at no_token in
    let there : slice_get tokens at ≡ Some right = slice_get-get_or tokens at no_token (omega (arith, c.loop-at-test.true, c.requires.short.within)) in
    let near : c.loop-at.column + c.in-Some.spaces + right.last_width ≤ 1000 =
    starts_near c.args.style.now tokens c.args.column c.args.count at c.loop-at.column c.in-Some.spaces left right c.requires.short v.from c.loop-at-test.true there v.near c.in-Some.ensures in
    omega (arith, near, c.from-in-loop-at.ensures, c.from-in-loop-at-2.ensures)

pub overflow_cast-end : goal.overflow_cast-end
overflow_cast-end c =
    let v = c.loop-at.invariant in
    let at = c.loop-at.at in
    let tokens = c.args.tokens.now in
    let left = get_or tokens (at - 1) no_token in
    let right = get_or tokens at no_token in
    let there : slice_get tokens at ≡ Some right = slice_get-get_or tokens at no_token (omega (arith, c.loop-at-test.true, c.requires.short.within)) in
    let near : c.loop-at.column + c.in-Some.spaces + right.last_width ≤ 1000 =
    starts_near c.args.style.now tokens c.args.column c.args.count at c.loop-at.column c.in-Some.spaces left right c.requires.short v.from c.loop-at-test.true there v.near c.in-Some.ensures in
    let start = c.from-in-loop-at-2.result in
    let ends : end_of right start ≤ 1000 = end_within right start start 1000 (omega arith) (omega (arith, near, c.from-in-loop-at.ensures, c.from-in-loop-at-2.ensures)) in
    omega (arith, ends, c.near_end_at-end.ensures)

pub loop-at-preserved : goal.loop-at-preserved
loop-at-preserved c =
    let v = c.loop-at.invariant in
    let at = c.loop-at.at in
    let tokens = c.args.tokens.now in
    let plan = c.loop-at.plan in
    let left = get_or tokens (at - 1) no_token in
    let right = get_or tokens at no_token in
    let there : slice_get tokens at ≡ Some right = slice_get-get_or tokens at no_token (omega (arith, c.loop-at-test.true, c.requires.short.within)) in
    let spaces = c.from-in-loop-at-3.result in
    let start = c.from-in-loop-at-4.result in
    let here : at + 1 - 1 ≡ at = omega arith in
    let near : c.loop-at.column + c.in-Some.spaces + right.last_width ≤ 1000 =
    starts_near c.args.style.now tokens c.args.column c.args.count at c.loop-at.column c.in-Some.spaces left right c.requires.short v.from c.loop-at-test.true there v.near c.in-Some.ensures in
    let stands = c.requires.short.stand at right (omega (arith, v.from)) c.loop-at-test.true there in
    let one : c.in-Some.spaces ≤ 1 = omega (arith, c.in-Some.ensures, one_at_most c.args.style.now left right stands) in
    let slot : Slot = record { decision = Spaces spaces; end = start } in
    let starts : start ≡ columns c.loop-at.column spaces = omega (arith, near, c.from-in-loop-at.ensures, c.from-in-loop-at-3.ensures, c.from-in-loop-at-4.ensures) in
    let same : c.from-in-loop-at-2.result ≡ start = omega (arith, c.from-in-loop-at-2.ensures, c.from-in-loop-at-4.ensures) in
    let grown = width_at tokens at right v.from there in
    let behind : c.near_end_at-end.result ≡ end_of right start = c.near_end_at-end.ensures ∙ ap (λ x. end_of right x) same in
    let ends : end_of right start ≤ c.loop-at.column + 1 + right.last_width =
    end_within right start (c.loop-at.column + 1) (c.loop-at.column + 1 + right.last_width) (omega (arith, one, c.from-in-loop-at.ensures, c.from-in-loop-at-4.ensures)) (omega arith) in
    let made = c.decide.ensures.plan ∙ (ap (λ n. decided plan n slot) (c.id.ensures no_token) ∙ sym (ap (λ (b : Bool). if b then plan else decided plan right.id.0 slot) stands)) in
    record {
      from = omega arith;
      behind = c.groups_of-groups.ensures.behind ∙ ap group_behind (c.role-in-loop-at.ensures no_token ∙ ap (λ i. (get_or tokens i no_token).role) (sym here));
      len = c.decide.ensures.len ∙ v.len;
      near = omega (arith, grown, ends, v.near, behind);
      rest = ap (λ i. decided_all c.decide.new.self (row_made c.args.style.now c.near_end_at-end.result (get_or tokens i no_token) (drop (at + 1) tokens))) here
          ∙ (row_written c.args.style.now plan c.decide.new.self tokens c.loop-at.column at spaces start c.near_end_at-end.result left right
          there (c.from-in-loop-at-3.ensures ∙ c.in-Some.ensures) starts behind made
          ∙ v.rest);
    }

pub returns-clause-plan : goal.returns-clause-plan
returns-clause-plan c =
    let v = c.loop-at.invariant in
    let tokens = c.args.tokens.now in
    let plan = c.loop-at.plan in
    let all : c.args.count ≡ c.loop-at.at = omega (arith, v.from, c.loop-at-test.false, c.loop-at.auto.at-end c.requires.short.some) in
    let wait : All (λ token. is_trailing token.role ≡ true) (drop c.loop-at.at tokens) = subst (λ n. All (λ token. is_trailing token.role ≡ true) (drop n tokens)) all c.requires.short.wait in
    let none = none_stand c.args.style.now c.loop-at.column (get_or tokens (c.loop-at.at - 1) no_token) (drop c.loop-at.at tokens) wait in
    sym (ap (λ (made : List (ℕ × Slot)). decided_all plan made) none) ∙ v.rest
