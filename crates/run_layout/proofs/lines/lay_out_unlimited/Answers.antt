use Rattle.std.proofs.Common.{subst}
use Rattle.searched_line.specs.Searched.{line_of}
use Rattle.line_walk.specs.Starts.{IsAdmissible}
use Rattle.run_layout.proofs.LineOutcomes.{only_laid, open_searched}
use Rattle.run_layout.proofs.Failed.{no_value, not_done}
use Rattle.run_layout.proofs.lines.lay_out_unlimited.Goals as goal

pub least_breaks-requires : goal.least_breaks-requires
least_breaks-requires c =
    let told = open_searched c.args.layout.now c.args.plan.now c.args.open_line.now c.requires.ready c.requires.line in
    record { some = told.some; short = told.short; even = told.even; range = c.requires.ready.range }

pub write_broken-requires : goal.write_broken-requires
write_broken-requires c = record {
  ready = c.requires.ready;
  tell = c.requires.tell;
  line = c.requires.line;
  admissible = subst (λ x. IsAdmissible (line_of c.args.layout.now.style.now x c.args.open_line.now.tokens.now c.args.open_line.now.fixed.now) c.in_ok-breaks.breaks.now) c.start_column-column.ensures c.in_ok-breaks.ensures;
}

pub returns : goal.returns
returns c =
    let layout = c.args.layout.now in
    let open_line = c.args.open_line.now in
    let o = c.requires.line in
    record {
      laid = only_laid layout.style.now layout.budget layout.arena.now layout.view.now layout.tokens.now c.args.plan.now open_line.line.now c.start_column-column.result open_line.tokens.now open_line.fixed.now c.requires.ready.tell o.tokens_are c.start_column-column.ensures o.fixed_are o.opens
          c.in_ok-breaks.breaks.now c.write_broken.new.plan c.requires.limit c.in_ok-breaks.ensures c.in_ok-write_broken.ensures.plan;
      len = c.in_ok-write_broken.ensures.len;
    }

pub returns-in_err-breaks : goal.returns-in_err-breaks
returns-in_err-breaks c =
    let result = c.from_residual.result in
    let err = c.from_residual.ensures.0 in
    record { laid = no_value result _ err; len = not_done result _ err }

pub returns-in_err-write_broken : goal.returns-in_err-write_broken
returns-in_err-write_broken c =
    let result = c.from_residual-in_err-write_broken.result in
    let err = c.from_residual-in_err-write_broken.ensures.0 in
    record { laid = no_value result _ err; len = not_done result _ err }
