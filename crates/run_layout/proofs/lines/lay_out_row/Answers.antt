use Rattle.std.proofs.Common.{◌∙◌, ◌<◌, length, get_or, refl, arith}
use Rattle.std.proofs.lemmas.Option.{slice_get_within}
use Rattle.run_layout.proofs.LineOutcomes.{above_zero, length_some}
use Rattle.run_layout.proofs.RowLines.{tokens_within, first_number, row_here, row_plan}
use Rattle.run_layout.proofs.lines.lay_out_row.Goals as goal

pub returns-then-style-eq0 : goal.returns-then-style-eq0
returns-then-style-eq0 c = record { row = tt; limit = tt; plan = tt; same = refl; len = refl }

pub token_at-token-requires : goal.token_at-token-requires
token_at-token-requires c = length_some c.args.layout.now.tokens.now c.args.tokens.now c.args.line.now c.requires.tokens c.requires.some (omega (arith, c.requires.places, c.requires.ready.tell.as_many))

pub prove-unreachable-requires : goal.prove-unreachable-requires
prove-unreachable-requires c =
    let number = first_number c.args.layout.now.arena.now c.args.layout.now.view.now c.args.layout.now.tokens.now c.args.tokens.now c.args.line.now c.token_at-token.result.now c.requires.ready.tell c.requires.some c.requires.tokens c.token_at-token.ensures in
    let small : get_or c.args.layout.now.view.now c.args.line.now.first 0 < length c.args.layout.now.arena.now.tokens = c.requires.ready.within c.args.line.now.first 0 (omega (arith, c.requires.some, c.requires.places)) in
    omega (arith, number, small, c.if-prove.true, c.len-items.ensures.count)

pub fixed_of-first-requires-clause-whole : goal.fixed_of-first-requires-clause-whole
fixed_of-first-requires-clause-whole c = c.requires.whole

pub fixed_of-first-requires-clause-within : goal.fixed_of-first-requires-clause-within
fixed_of-first-requires-clause-within c = omega (arith, c.if-prove.false, c.requires.whole, c.len-items.ensures.count)

pub is_open_row-requires : goal.is_open_row-requires
is_open_row-requires c = record {
  range = c.requires.ready.range;
  tell = c.requires.tell;
  some = length_some c.args.layout.now.tokens.now c.args.tokens.now c.args.line.now c.requires.tokens c.requires.some (omega (arith, c.requires.places, c.requires.ready.tell.as_many));
  budget = c.requires.ready.budget;
  within = tokens_within c.args.layout.now.arena.now c.args.layout.now.view.now c.args.layout.now.tokens.now c.args.tokens.now c.args.line.now (length c.args.plan.now) c.requires.ready.within c.requires.ready.tell c.requires.places c.requires.whole c.requires.tokens;
}

pub returns-then-not-is_open_row : goal.returns-then-not-is_open_row
returns-then-not-is_open_row c = record { row = tt; limit = tt; plan = tt; same = refl; len = refl }

pub decide_first-requires : goal.decide_first-requires
decide_first-requires c = record {
  classes = c.requires.ready.classes;
  place = omega (arith, c.requires.some, c.requires.places);
  items = c.requires.ready.within;
  id = first_number c.args.layout.now.arena.now c.args.layout.now.view.now c.args.layout.now.tokens.now c.args.tokens.now c.args.line.now c.token_at-token.result.now c.requires.ready.tell c.requires.some c.requires.tokens c.token_at-token.ensures;
  whole = c.requires.whole;
}

pub write_row-requires : goal.write_row-requires
write_row-requires c = record {
  range = c.requires.ready.range;
  tell = c.requires.tell;
  some = length_some c.args.layout.now.tokens.now c.args.tokens.now c.args.line.now c.requires.tokens c.requires.some (omega (arith, c.requires.places, c.requires.ready.tell.as_many));
  within = tokens_within c.args.layout.now.arena.now c.args.layout.now.view.now c.args.layout.now.tokens.now c.args.tokens.now c.args.line.now (length c.decide_first.new.plan) c.requires.ready.within c.requires.ready.tell c.requires.places (c.decide_first.ensures.len ∙ c.requires.whole) c.requires.tokens;
}

pub returns-clause-row : goal.returns-clause-row
returns-clause-row c =
    row_here c.args.layout.now.style.now c.args.layout.now.arena.now c.args.layout.now.view.now c.args.layout.now.tokens.now c.args.plan.now c.args.line.now c.args.layout.now.budget c.start_column-column.result c.args.tokens.now c.fixed_of-first.result c.token_at-token.result.now
    c.requires.ready.tell c.requires.tokens c.token_at-token.ensures (c.is_open_row.ensures.inside c.if-not-is_open_row.false) c.start_column-column.ensures c.fixed_of-first.ensures (c.is_open_row.ensures.row c.if-not-is_open_row.false)

pub returns-clause-limit : goal.returns-clause-limit
returns-clause-limit c = above_zero c.args.layout.now.style.now.column_limit c.if-style-eq0.false

pub returns-clause-plan : goal.returns-clause-plan
returns-clause-plan c =
    let style = c.args.layout.now.style.now in
    let arena = c.args.layout.now.arena.now in
    let ids = c.args.layout.now.view.now in
    let toks = c.args.layout.now.tokens.now in
    let plan = c.args.plan.now in
    let line = c.args.line.now in
    let tokens = c.args.tokens.now in
    let token = c.token_at-token.result.now in
    let inside = c.is_open_row.ensures.inside c.if-not-is_open_row.false in
    let number = first_number arena ids toks tokens line token c.requires.ready.tell c.requires.some c.requires.tokens c.token_at-token.ensures in
    let row =
    row_here style arena ids toks plan line c.args.layout.now.budget c.start_column-column.result tokens c.fixed_of-first.result token
    c.requires.ready.tell c.requires.tokens c.token_at-token.ensures inside c.start_column-column.ensures c.fixed_of-first.ensures (c.is_open_row.ensures.row c.if-not-is_open_row.false) in
    row_plan style arena ids toks plan line c.args.layout.now.budget c.start_column-column.result tokens c.fixed_of-first.result token
    c.requires.ready.tell c.requires.tokens c.token_at-token.ensures inside c.start_column-column.ensures c.fixed_of-first.ensures
    c.stored_or.result c.end_of-behind.result c.decide_first.new.plan c.write_row.new.plan (slice_get_within tokens 0 token c.token_at-token.ensures) number row c.stored_or.ensures c.end_of-behind.ensures c.decide_first.ensures.plan c.write_row.ensures.plan

pub returns-clause-same : goal.returns-clause-same
returns-clause-same c = tt

pub returns-clause-len : goal.returns-clause-len
returns-clause-len c = c.write_row.ensures.len ∙ c.decide_first.ensures.len
