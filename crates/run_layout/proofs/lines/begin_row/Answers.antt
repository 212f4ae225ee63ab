use Rattle.std.proofs.Common.{◌≡◌, ◌∙◌, ◌<◌, ◌≤◌, Some, length, get_or, slice_get, sym, ap, arith}
use Rattle.std.proofs.lemmas.Option.{slice_get-get_or}
use Rattle.line_tokens.specs.Tokens.{no_token}
use Rattle.item_classes.specs.Items.{item_at}
use Rattle.replacements.specs.Decisions.{decided}
use Rattle.replacements.specs.declared.gap_text.Decision.TheVariants.{Lines}
use Rattle.replacements.specs.declared.slot.Slot.{Slot}
use Rattle.run_layout.proofs.LineOutcomes.{length_some}
use Rattle.run_layout.proofs.RowLines.{first_lines, first_number, row_slot, tokens_within}
use Rattle.run_layout.proofs.lines.begin_row.Goals as goal

pub id-id-requires : goal.id-id-requires
id-id-requires c = length_some c.args.layout.now.tokens.now c.args.row.now c.args.line.now c.requires.row c.requires.some (omega (arith, c.requires.places, c.requires.ready.tell.as_many))

pub lines-requires : goal.lines-requires
lines-requires c = length_some c.args.layout.now.tokens.now c.args.row.now c.args.line.now c.requires.row c.requires.some (omega (arith, c.requires.places, c.requires.ready.tell.as_many))

pub decide-requires : goal.decide-requires
decide-requires c =
    let toks = c.args.layout.now.tokens.now in
    let row = c.args.row.now in
    let some : 0 < length row = length_some toks row c.args.line.now c.requires.row c.requires.some (omega (arith, c.requires.places, c.requires.ready.tell.as_many)) in
    let all = tokens_within c.args.layout.now.arena.now c.args.layout.now.view.now toks row c.args.line.now (length c.args.plan.now) c.requires.ready.within c.requires.ready.tell c.requires.places c.requires.whole c.requires.row in
    omega (arith, all 0 no_token some, c.id-id.ensures no_token)

pub returns-then-lines-le1-clause-plan : goal.returns-then-lines-le1-clause-plan
returns-then-lines-le1-clause-plan c =
    let style = c.args.layout.now.style.now in
    let arena = c.args.layout.now.arena.now in
    let ids = c.args.layout.now.view.now in
    let toks = c.args.layout.now.tokens.now in
    let row = c.args.row.now in
    let line = c.args.line.now in
    let column = c.args.column in
    let plan = c.args.plan.now in
    let token = get_or row 0 no_token in
    let some : 0 < length row = length_some toks row line c.requires.row c.requires.some (omega (arith, c.requires.places, c.requires.ready.tell.as_many)) in
    let at : slice_get row 0 ≡ Some token = slice_get-get_or row 0 no_token some in
    let number : get_or ids line.first 0 ≡ token.id.0 = first_number arena ids toks row line token c.requires.ready.tell c.requires.some c.requires.row at in
    let later : 0 < get_or ids line.first 0 = omega (arith, number, c.id-id.ensures no_token, c.if-id-gt0.true) in
    let lines : token.gap.lines ≡ (item_at arena (get_or ids line.first 0)).gap.lines = first_lines arena ids toks row line c.requires.ready.tell c.requires.some c.requires.places c.requires.row in
    let near : (item_at arena (get_or ids line.first 0)).gap.lines ≤ 1 = omega (arith, lines, c.lines.ensures no_token, c.if-lines-le1.true) in
    let slot : Slot = record { decision = Lines 1 column line.level; end = column } in
    c.decide.ensures.plan ∙ (ap (λ n. decided plan n slot) (c.id-id.ensures no_token) ∙ ap (λ (s : Slot). decided plan token.id.0 s) (row_slot style arena ids line column later near c.requires.column))

pub decide_first-requires-clause-id : goal.decide_first-requires-clause-id
decide_first-requires-clause-id c =
    let row = c.args.row.now in
    let toks = c.args.layout.now.tokens.now in
    let token = get_or row 0 no_token in
    let some = length_some toks row c.args.line.now c.requires.row c.requires.some (omega (arith, c.requires.places, c.requires.ready.tell.as_many)) in
    let at : slice_get row 0 ≡ Some token = slice_get-get_or row 0 no_token some in
    first_number c.args.layout.now.arena.now c.args.layout.now.view.now toks row c.args.line.now token c.requires.ready.tell c.requires.some c.requires.row at ∙ sym (c.id-id.ensures no_token)
