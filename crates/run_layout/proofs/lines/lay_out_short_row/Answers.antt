use Rattle.std.proofs.Common.{◌≡◌, ◌∙◌, ◌<◌, Some, None, length, get_or, slice_get, refl, sym, ap, arith}
use Rattle.std.proofs.lemmas.Option.{slice_get-get_or}
use Rattle.line_tokens.specs.Columns.{end_of}
use Rattle.line_tokens.specs.Tokens.{no_token}
use Rattle.replacements.specs.Breaks.{fixed_by}
use Rattle.replacements.specs.Decisions.{slot_of}
use Rattle.line_gaps.specs.Fixed.{fixed_of_token}
use Rattle.line_gaps.proofs.Inside.{open_told}
use Rattle.run_layout.specs.Broken.{of_line}
use Rattle.run_layout.proofs.LineOutcomes.{length_some}
use Rattle.run_layout.proofs.RowLines.{tokens_within, first_number, row_here, row_plan}
use Rattle.run_layout.proofs.lines.lay_out_short_row.Goals as goal

pub row-requires : goal.row-requires
row-requires c = record { some = omega (arith, c.requires.some); within = omega (arith, c.requires.places, c.requires.ready.tell.as_many) }

pub returns-in_default : goal.returns-in_default
returns-in_default c = record { row = tt; opens = tt; limit = tt; plan = tt; same = refl; len = refl }

pub id-id-requires : goal.id-id-requires
id-id-requires c =
    let toks = c.args.layout.now.tokens.now in
    let tokens = c.in-Some.row in
    let are : tokens ≡ of_line c.args.line.now toks = c.in-Some.ensures.tokens in
    let some : 0 < length tokens = length_some toks tokens c.args.line.now are c.requires.some (omega (arith, c.requires.places, c.requires.ready.tell.as_many)) in
    some

pub prove-unreachable-requires : goal.prove-unreachable-requires
prove-unreachable-requires c =
    let toks = c.args.layout.now.tokens.now in
    let tokens = c.in-Some.row in
    let are : tokens ≡ of_line c.args.line.now toks = c.in-Some.ensures.tokens in
    let some : 0 < length tokens = length_some toks tokens c.args.line.now are c.requires.some (omega (arith, c.requires.places, c.requires.ready.tell.as_many)) in
    let token = get_or tokens 0 no_token in
    let at : slice_get tokens 0 ≡ Some token = slice_get-get_or tokens 0 no_token some in
    let number : get_or c.args.layout.now.view.now c.args.line.now.first 0 ≡ token.id.0 = first_number c.args.layout.now.arena.now c.args.layout.now.view.now toks tokens c.args.line.now token c.requires.ready.tell c.requires.some are at in
    let small : get_or c.args.layout.now.view.now c.args.line.now.first 0 < length c.args.layout.now.arena.now.tokens = c.requires.ready.within c.args.line.now.first 0 (omega (arith, c.requires.some, c.requires.places)) in
    omega (arith, number, small, c.id-id.ensures no_token, c.if-prove.true, c.len-items.ensures.count)

pub is_decided-requires : goal.is_decided-requires
is_decided-requires c = omega (arith, c.if-prove.false, c.requires.whole, c.len-items.ensures.count)

pub returns-then-is_decided : goal.returns-then-is_decided
returns-then-is_decided c = record { row = tt; opens = tt; limit = tt; plan = tt; same = refl; len = refl }

pub returns-then-len-few : goal.returns-then-len-few
returns-then-len-few c = record { row = tt; opens = tt; limit = tt; plan = tt; same = refl; len = refl }

pub short_row-requires : goal.short_row-requires
short_row-requires c =
    let toks = c.args.layout.now.tokens.now in
    let tokens = c.in-Some.row in
    let are : tokens ≡ of_line c.args.line.now toks = c.in-Some.ensures.tokens in
    let some : 0 < length tokens = length_some toks tokens c.args.line.now are c.requires.some (omega (arith, c.requires.places, c.requires.ready.tell.as_many)) in
    record {
      range = c.requires.ready.range;
      limit = c.requires.few.limit (omega (arith, some, c.len.ensures, c.if-len-few.false));
      some = some;
      few = omega (arith, c.len.ensures, c.if-len-few.false, c.requires.few.most);
      together = c.in-Some.ensures.together;
      within = tokens_within c.args.layout.now.arena.now c.args.layout.now.view.now toks tokens c.args.line.now (length c.args.plan.now) c.requires.ready.within c.requires.ready.tell c.requires.places c.requires.whole are;
    }

pub returns-in_default-short_row : goal.returns-in_default-short_row
returns-in_default-short_row c = record { row = tt; opens = tt; limit = tt; plan = tt; same = refl; len = refl }

pub begin_row-requires : goal.begin_row-requires
begin_row-requires c = record {
  ready = c.requires.ready;
  row = c.in-Some.ensures.tokens;
  column = c.start_column-column.ensures;
  some = c.requires.some;
  places = c.requires.places;
  whole = c.requires.whole;
}

pub write_short_row-requires : goal.write_short_row-requires
write_short_row-requires c =
    let toks = c.args.layout.now.tokens.now in
    let tokens = c.in-Some.row in
    let are : tokens ≡ of_line c.args.line.now toks = c.in-Some.ensures.tokens in
    record {
      range = c.requires.ready.range;
      tell = c.requires.tell;
      short = c.in-Some-short_row.ensures.short;
      within = tokens_within c.args.layout.now.arena.now c.args.layout.now.view.now toks tokens c.args.line.now (length c.begin_row.new.plan) c.requires.ready.within c.requires.ready.tell c.requires.places
          (c.begin_row.ensures.len ∙ c.requires.whole) are;
    }

pub returns-clause-row : goal.returns-clause-row
returns-clause-row c =
    let toks = c.args.layout.now.tokens.now in
    let tokens = c.in-Some.row in
    let are : tokens ≡ of_line c.args.line.now toks = c.in-Some.ensures.tokens in
    let some : 0 < length tokens = length_some toks tokens c.args.line.now are c.requires.some (omega (arith, c.requires.places, c.requires.ready.tell.as_many)) in
    let token = get_or tokens 0 no_token in
    let at : slice_get tokens 0 ≡ Some token = slice_get-get_or tokens 0 no_token some in
    let arena = c.args.layout.now.arena.now in
    let plan = c.args.plan.now in
    let none : slot_of plan token.id.0 ≡ None = ap (slot_of plan) (sym (c.id-id.ensures no_token)) ∙ open_told (slot_of plan c.id-id.result) c.is_decided.result c.is_decided.ensures c.if-is_decided.false in
    let first : None ≡ fixed_of_token arena plan token = sym (ap (fixed_by arena token.id.0) none) in
    row_here c.args.layout.now.style.now arena c.args.layout.now.view.now toks plan c.args.line.now c.args.layout.now.budget c.start_column-column.result tokens None token
    c.requires.ready.tell are at c.in-Some-short_row.ensures.inside c.start_column-column.ensures first (λ l is. c.in-Some-short_row.ensures.row l c.args.layout.now.budget (c.requires.few.rich (omega (arith, some, c.len.ensures, c.if-len-few.false))) is)

pub returns-clause-opens : goal.returns-clause-opens
returns-clause-opens c =
    let toks = c.args.layout.now.tokens.now in
    let tokens = c.in-Some.row in
    let are : tokens ≡ of_line c.args.line.now toks = c.in-Some.ensures.tokens in
    let some : 0 < length tokens = length_some toks tokens c.args.line.now are c.requires.some (omega (arith, c.requires.places, c.requires.ready.tell.as_many)) in
    let token = get_or tokens 0 no_token in
    let at : slice_get tokens 0 ≡ Some token = slice_get-get_or tokens 0 no_token some in
    let number : get_or c.args.layout.now.view.now c.args.line.now.first 0 ≡ token.id.0 = first_number c.args.layout.now.arena.now c.args.layout.now.view.now toks tokens c.args.line.now token c.requires.ready.tell c.requires.some are at in
    let none : slot_of c.args.plan.now c.id-id.result ≡ None = open_told (slot_of c.args.plan.now c.id-id.result) c.is_decided.result c.is_decided.ensures c.if-is_decided.false in
    record {
      place = c.args.line.now.first;
      from = omega arith;
      within = omega (arith, c.requires.some);
      open_gap = ap (slot_of c.args.plan.now) (number ∙ sym (c.id-id.ensures no_token)) ∙ none;
    }

pub returns-clause-limit : goal.returns-clause-limit
returns-clause-limit c =
    let toks = c.args.layout.now.tokens.now in
    let tokens = c.in-Some.row in
    let are : tokens ≡ of_line c.args.line.now toks = c.in-Some.ensures.tokens in
    let some : 0 < length tokens = length_some toks tokens c.args.line.now are c.requires.some (omega (arith, c.requires.places, c.requires.ready.tell.as_many)) in
    c.requires.few.limit (omega (arith, some, c.len.ensures, c.if-len-few.false))

pub returns-clause-plan : goal.returns-clause-plan
returns-clause-plan c =
    let toks = c.args.layout.now.tokens.now in
    let tokens = c.in-Some.row in
    let are : tokens ≡ of_line c.args.line.now toks = c.in-Some.ensures.tokens in
    let some : 0 < length tokens = length_some toks tokens c.args.line.now are c.requires.some (omega (arith, c.requires.places, c.requires.ready.tell.as_many)) in
    let token = get_or tokens 0 no_token in
    let at : slice_get tokens 0 ≡ Some token = slice_get-get_or tokens 0 no_token some in
    let number : get_or c.args.layout.now.view.now c.args.line.now.first 0 ≡ token.id.0 = first_number c.args.layout.now.arena.now c.args.layout.now.view.now toks tokens c.args.line.now token c.requires.ready.tell c.requires.some are at in
    let style = c.args.layout.now.style.now in
    let arena = c.args.layout.now.arena.now in
    let ids = c.args.layout.now.view.now in
    let plan = c.args.plan.now in
    let line = c.args.line.now in
    let inside = c.in-Some-short_row.ensures.inside in
    let none : slot_of plan token.id.0 ≡ None = ap (slot_of plan) (sym (c.id-id.ensures no_token)) ∙ open_told (slot_of plan c.id-id.result) c.is_decided.result c.is_decided.ensures c.if-is_decided.false in
    let first : None ≡ fixed_of_token arena plan token = sym (ap (fixed_by arena token.id.0) none) in
    let row =
    row_here style arena ids toks plan line c.args.layout.now.budget c.start_column-column.result tokens None token
    c.requires.ready.tell are at inside c.start_column-column.ensures first (λ l is. c.in-Some-short_row.ensures.row l c.args.layout.now.budget (c.requires.few.rich (omega (arith, some, c.len.ensures, c.if-len-few.false))) is) in
    row_plan style arena ids toks plan line c.args.layout.now.budget c.start_column-column.result tokens None token
    c.requires.ready.tell are at inside c.start_column-column.ensures first
    c.start_column-column.result (end_of token c.start_column-column.result) c.begin_row.new.plan c.write_short_row.new.plan some number row refl refl c.begin_row.ensures.plan c.write_short_row.ensures.plan

pub returns-clause-same : goal.returns-clause-same
returns-clause-same c = tt

pub returns-clause-len : goal.returns-clause-len
returns-clause-len c = c.write_short_row.ensures.len ∙ c.begin_row.ensures.len
