use Rattle.std.proofs.Common.{◌≡◌, ◌∙◌, length, map, arith, refl, sym, subst}
use Rattle.line_state.specs.Line.{first_layout}
use Rattle.searched_line.specs.Searched.{line_of}
use Rattle.line_walk.specs.Starts.{IsAdmissible}
use Rattle.replacements.specs.Decisions.{decided_all}
use Rattle.layout_tables.specs.Indents.{start_column}
use Rattle.run_layout.specs.Broken.{inside_made, number}
use Rattle.run_layout.proofs.LineOutcomes.{first_then, made_same, open_searched, open_within}
use Rattle.run_layout.proofs.RowLines.{first_number}
use Rattle.run_layout.proofs.broken.write_broken.Goals as goal

pub token_at-requires : goal.token_at-requires
token_at-requires c = (open_searched c.args.layout.now c.args.plan.now c.args.open_line.now c.requires.ready c.requires.line).some

pub decide_first-requires : goal.decide_first-requires
decide_first-requires c =
    let layout = c.args.layout.now in
    let open_line = c.args.open_line.now in
    let o = c.requires.line in
    record {
      classes = c.requires.ready.classes;
      place = omega (arith, o.some, o.places);
      items = c.requires.ready.within;
      id = first_number layout.arena.now layout.view.now layout.tokens.now open_line.tokens.now open_line.line.now c.token_at.result.now c.requires.ready.tell o.some o.tokens_are c.token_at.ensures;
      whole = o.whole;
    }

pub write_breaks-requires : goal.write_breaks-requires
write_breaks-requires c =
    let open_line = c.args.open_line.now in
    let told = open_searched c.args.layout.now c.args.plan.now open_line c.requires.ready c.requires.line in
    record {
      tell = c.requires.tell;
      line = record { some = told.some; short = told.short; even = told.even; range = c.requires.ready.range };
      admissible = subst (λ x. IsAdmissible (line_of c.args.layout.now.style.now x open_line.tokens.now open_line.fixed.now) c.args.breaks.now) (sym c.start_column-column.ensures) c.requires.admissible;
      within = open_within c.args.layout.now c.args.plan.now open_line (length c.decide_first.new.plan) c.requires.ready c.requires.line c.decide_first.ensures.len;
    }

pub returns : goal.returns
returns c =
    let layout = c.args.layout.now in
    let open_line = c.args.open_line.now in
    let o = c.requires.line in
    let l = line_of layout.style.now (start_column layout.style.now open_line.line.now) open_line.tokens.now open_line.fixed.now in
    let id = first_number layout.arena.now layout.view.now layout.tokens.now open_line.tokens.now open_line.line.now c.token_at.result.now c.requires.ready.tell o.some o.tokens_are c.token_at.ensures in
    let written = subst (λ x. c.write_breaks.new.plan ≡ decided_all c.decide_first.new.plan (inside_made open_line.line.now (map number open_line.tokens.now) (line_of layout.style.now x open_line.tokens.now open_line.fixed.now) (first_layout (line_of layout.style.now x open_line.tokens.now open_line.fixed.now)) c.args.breaks.now)) c.start_column-column.ensures c.in_ok-write_breaks.ensures.plan in
    record {
      plan = made_same layout.style.now layout.budget layout.arena.now layout.view.now layout.tokens.now c.args.plan.now open_line.line.now (start_column layout.style.now open_line.line.now) open_line.tokens.now open_line.fixed.now c.requires.ready.tell o.tokens_are refl o.fixed_are o.opens c.args.breaks.now c.write_breaks.new.plan
          (first_then layout.style.now layout.arena.now layout.view.now open_line.line.now c.args.plan.now c.decide_first.new.plan c.write_breaks.new.plan c.token_at.result.now.id.0 (inside_made open_line.line.now (map number open_line.tokens.now) l (first_layout l) c.args.breaks.now) id c.decide_first.ensures.plan written);
      len = c.in_ok-write_breaks.ensures.len ∙ c.decide_first.ensures.len;
    }
